-- The first field of a line.
use Rattle.std.proofs.Common.{◌≡◌, ◌<◌, ℕ, zero, suc, List, [], ◌∷◌, length, get_or, take, drop, false, refl, arith}
use Rattle.std.specs.Prelude.{◌==◌}
use Rattle.std.specs.List.{slice_split}
use Rattle.std.proofs.lemmas.Bool.{ne_eqb}

-- the fields of a text
abbrev pub cut : List ℕ → List (List ℕ)
cut text = slice_split (λ b. b == 32) text

-- If the first space is after some bytes, these are the first field.
pub cut_at : (text : List ℕ) (i : ℕ) → i < length text → get_or text i 0 ≡ 32
    → ((k : ℕ) → k < i → get_or text k 0 ≡ 32 → ⊥) → cut text ≡ take i text ∷ cut (drop 1 (drop i text))
cut_at [] i lt here before = absurd (omega arith)
cut_at (b ∷ bs) zero lt here before = rw here refl
cut_at (b ∷ bs) (suc i) lt here before =
    let ne : (b == 32) ≡ false = ne_eqb b 32 (before 0 (omega arith)) in
    rw (ne, cut_at bs i (omega arith) here (λ k h. before (suc k) (omega arith))) refl

-- If no space is left, the rest is the last field.
pub cut_none : (text : List ℕ) → ((k : ℕ) → k < length text → get_or text k 0 ≡ 32 → ⊥) → cut text ≡ text ∷ []
cut_none [] none = refl
cut_none (b ∷ bs) none =
    let ne : (b == 32) ≡ false = ne_eqb b 32 (none 0 (omega arith)) in
    rw (ne, cut_none bs (λ k h. none (suc k) (omega arith))) refl

-- A byte that is no space precedes the first field of what follows it.
pub cut_cons : (b : ℕ) (bs f : List ℕ) (fs : List (List ℕ)) → (b == 32) ≡ false → cut bs ≡ f ∷ fs
    → cut (b ∷ bs) ≡ (b ∷ f) ∷ fs
cut_cons b bs f fs ne e = rw (ne, e) refl

-- A minus precedes the first field of what follows it.
pub cut_minus : (bs f : List ℕ) (fs : List (List ℕ)) → cut bs ≡ f ∷ fs → cut (45 ∷ bs) ≡ (45 ∷ f) ∷ fs
cut_minus bs f fs e = cut_cons 45 bs f fs refl e
