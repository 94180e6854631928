-- Numbers that are written to an array, each for an element of another.
use Rattle.std.proofs.Common.{◌≡◌, ◌∙◌, ℕ, ◌+◌, ◌<◌, List, [], ◌∷◌, zero, suc, length, set, get_or, inl, inr, refl, sym, subst, arith}
use Rattle.std.proofs.lemmas.Bool.{cases_lt}

-- what holds of an element with any default holds of it with another
same_element : {X : Type 0} (xs : List X) (i : ℕ) (d e : X) → i < length xs → get_or xs i d ≡ get_or xs i e
same_element [] i d e l = absurd (omega (arith, l))
same_element (x ∷ xs) zero d e l = refl
same_element (x ∷ xs) (suc i) d e l = same_element xs i d e (omega (arith, l))

-- the number that was written is there
there : (ys : List ℕ) (i v : ℕ) → i < length ys → get_or (set ys i v) i 0 ≡ v
there [] i v l = absurd (omega (arith, l))
there (y ∷ ys) zero v l = refl
there (y ∷ ys) (suc i) v l = there ys i v (omega (arith, l))

-- and the numbers before it are unchanged
earlier : (ys : List ℕ) (k i v : ℕ) → k < i → get_or (set ys i v) k 0 ≡ get_or ys k 0
earlier [] k i v l = refl
earlier (y ∷ ys) k zero v l = absurd (omega (arith, l))
earlier (y ∷ ys) zero (suc i) v l = refl
earlier (y ∷ ys) (suc k) (suc i) v l = earlier ys k i v (omega (arith, l))

-- if the first numbers were written, and one more is, so many are
pub one_more : {X : Type 0} (P : X → ℕ → Type 0) (xs : List X) (ys : List ℕ) (i v : ℕ) (x : X) → i < length xs
    → length ys ≡ length xs → ((k : ℕ) (d : X) → k < i → P (get_or xs k d) (get_or ys k 0)) → x ≡ get_or xs i x → P x v
    → (k : ℕ) (d : X) → k < i + 1 → P (get_or xs k d) (get_or (set ys i v) k 0)
one_more {X} P xs ys i v x l m h e p k d n = elim (cases_lt k i) [
  | inl b ↦ subst (P (get_or xs k d)) (sym (earlier ys k i v b)) (h k d b)
  | inr b ↦
      let at : k ≡ i = omega (arith, b, n) in
      subst (λ (j : ℕ). P (get_or xs j d) (get_or (set ys i v) j 0)) (sym at)
      (subst (P (get_or xs i d)) (sym (there ys i v (omega (arith, l, m))))
      (subst (λ (z : X). P z v) (e ∙ same_element xs i x d l) p))
]
