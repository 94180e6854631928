-- Lists, index by index: one member more at the end, and another member at an index.
use Rattle.std.proofs.Common.{◌≡◌, ◌⊎◌, inl, inr, ◌<◌, ◌≤◌, ◌+◌, ℕ, zero, suc, List, [], ◌∷◌, ◌++◌, length, refl}
use Rattle.std.proofs.lemmas.Grind.{common_steps}
use Rattle.std.proofs.Common.{ap, arith, Some, slice_get}
use Rattle.std.specs.Prelude.{slice_set}

-- at least, and then equal or more
pub same_or_more : (m j : ℕ) → m ≤ j → (j ≡ m) ⊎ (m + 1 ≤ j)
same_or_more zero zero h = inl refl
same_or_more zero (suc j) h = inr (omega arith)
same_or_more (suc m) zero h = absurd (omega arith)
same_or_more (suc m) (suc j) h = grind (arith, common_steps)

module _ {A : Type 0} where
  -- one member more leaves the members at their indices
  pub get_front : (xs : List A) (x : A) (i : ℕ) (a : A) → slice_get xs i ≡ Some a → slice_get (xs ++ x ∷ []) i ≡ Some a
  get_front [] x i a at = cc
  get_front (y ∷ xs) x zero a at = at
  get_front (y ∷ xs) x (suc i) a at = get_front xs x i a at

  -- the new member comes after the others
  pub get_last : (xs : List A) (x : A) → slice_get (xs ++ x ∷ []) (length xs) ≡ Some x
  get_last [] x = refl
  get_last (y ∷ xs) x = get_last xs x

  -- with one member more, each index has its old member, or the last one has the new member
  pub get_pushed : (xs : List A) (x : A) (i : ℕ) (a : A) → slice_get (xs ++ x ∷ []) i ≡ Some a
      → (slice_get xs i ≡ Some a) ⊎ ((i ≡ length xs) × (a ≡ x))
  get_pushed [] x zero a at = inr (refl, cc)
  get_pushed [] x (suc i) a at = cc
  get_pushed (y ∷ xs) x zero a at = inl at
  get_pushed (y ∷ xs) x (suc i) a at =
      elim (get_pushed xs x i a at) as (λ _. (slice_get xs i ≡ Some a) ⊎ ((suc i ≡ suc (length xs)) × (a ≡ x)))
      [ inl old ↦ inl old | inr new ↦ inr (ap suc new.0, new.1) ]

  -- indices before the new member have their old members
  pub get_before : (xs : List A) (x : A) (i : ℕ) (a : A) → slice_get (xs ++ x ∷ []) i ≡ Some a → i < length xs
      → slice_get xs i ≡ Some a
  get_before xs x i a at lt = grind (arith, common_steps, get_pushed)

  -- with another member at one index, each index has its old member, or that one has the new member
  pub get_set : (xs : List A) (j : ℕ) (v : A) (i : ℕ) (a : A) → slice_get (slice_set xs j v) i ≡ Some a
      → ((i ≡ j) × (a ≡ v)) ⊎ (slice_get xs i ≡ Some a)
  get_set [] j v i a at = inr at
  get_set (x ∷ xs) zero v zero a at = inl (refl, cc)
  get_set (x ∷ xs) zero v (suc i) a at = inr at
  get_set (x ∷ xs) (suc j) v zero a at = inr at
  get_set (x ∷ xs) (suc j) v (suc i) a at =
      elim (get_set xs j v i a at) as (λ _. ((suc i ≡ suc j) × (a ≡ v)) ⊎ (slice_get xs i ≡ Some a))
      [ inl new ↦ inl (ap suc new.0, new.1) | inr old ↦ inr old ]
