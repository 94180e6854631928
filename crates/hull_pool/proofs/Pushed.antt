-- One seat more, and its ledger, after those that are there.
use Rattle.std.proofs.Common.{◌≡◌, ◌+◌, ℕ, zero, suc, List, [], ◌∷◌, ◌++◌, length, sym, ap, subst, ◌∙◌, arith, Some}
use Rattle.std.proofs.Common.{slice_get}
use Rattle.std.specs.Prelude.{Option, None}
use Rattle.std.specs.List.{AllZip}
use Rattle.std.proofs.lemmas.Slice.Zip.{all_zipped_more}

-- two lists with one more each, side by side
pub zipped_push : {A B : Type 0} (R : A → B → Type 0) (xs more : List A) (ys longer : List B) (x : A) (y : B)
    → more ≡ xs ++ x ∷ [] → longer ≡ ys ++ y ∷ []
    → AllZip R xs ys → R x y → AllZip R more longer
zipped_push R xs more ys longer x y left right h r = let P : List _ × List _ → Type 0 = λ z. AllZip R z.0 z.1 in
    subst P (λ i. (sym left i, sym right i)) (all_zipped_more R xs ys x y h r)

-- the value, or d
abbrev value_or : {A : Type 0} → A → Option A → A
value_or d (Some a) = a
value_or d None = d

-- members that are numbered from j on, and one more with the next number
numbered_from : {A : Type 0} (f : A → ℕ) (j : ℕ) (xs : List A) (x : A)
    → ((i : ℕ) (a : A) → slice_get xs i ≡ Some a → f a ≡ i + j) → f x ≡ length xs + j
    → (i : ℕ) (a : A) → slice_get (xs ++ x ∷ []) i ≡ Some a → f a ≡ i + j
numbered_from f j [] x all is zero a at = ap f (ap (value_or a) (sym at)) ∙ is
numbered_from f j [] x all is (suc i) a at = cc
numbered_from f j (y ∷ ys) x all is zero a at = all 0 a at
numbered_from f j (y ∷ ys) x all is (suc i) a at =
    numbered_from f (suc j) ys x (λ k b e. all (suc k) b e ∙ omega arith) (is ∙ omega arith) i a at ∙ omega arith

-- members that have the numbers of their places, and one more that has its own
pub numbered_push : {A : Type 0} (f : A → ℕ) (xs more : List A) (x : A) → more ≡ xs ++ x ∷ []
    → ((i : ℕ) (a : A) → slice_get xs i ≡ Some a → f a ≡ i) → f x ≡ length xs
    → (i : ℕ) (a : A) → slice_get more i ≡ Some a → f a ≡ i
numbered_push f xs more x longer all is i a at =
    numbered_from f 0 xs x (λ k b e. all k b e ∙ omega arith) (is ∙ omega arith) i a
    (ap (λ (z : List _). slice_get z i) (sym longer) ∙ at) ∙ omega arith
