-- Seats that are at home stay at home when a seat is acquired or released.
use Rattle.std.proofs.Common.{◌≡◌, inl, inr, ℕ, List, [], ◌∷◌, ◌++◌, length, sym, subst, Some}
use Rattle.std.specs.Prelude.{Option, None, slice_set}
use Rattle.hull_shared.specs.Locks.{HullLock}
use Rattle.hull_shared.specs.Places.{AreAtHome, HasAt, IsAtHome}
use Rattle.hull_shared.specs.declared.place.SeatPlace.{SeatPlace}
use Rattle.hull_shared.proofs.Lists.{get_front, get_pushed, get_set}

module _ (lock : HullLock) (n : ℕ) where
  -- the seats before the last slot are at home
  pub home_front : (all list : List (Option SeatPlace)) (x : Option SeatPlace) → all ≡ list ++ x ∷ [] → AreAtHome lock n all
      → AreAtHome lock n list
  home_front all list x e home =
      λ j p at. home j p (subst (λ (z : List (Option SeatPlace)). HasAt z j p) (sym e) (get_front list x j (Some p) at))

  -- with one more at home in the next slot, all are at home
  pub home_more : (list more : List (Option SeatPlace)) (p : SeatPlace) → more ≡ list ++ Some p ∷ [] → AreAtHome lock n list
      → IsAtHome lock n (length list) p → AreAtHome lock n more
  home_more list more p e home is =
      λ j q at. elim (get_pushed list (Some p) j (Some q) (subst (λ (z : List (Option SeatPlace)). HasAt z j q) e at)) as
      (λ _. IsAtHome lock n j q) [
        | inl old ↦ home j q old
        | inr new ↦ let same : p ≡ q = (let s : Some q ≡ Some p = new.1 in cc) in
            subst (λ (x : SeatPlace). IsAtHome lock n j x) same (subst (λ (i : ℕ). IsAtHome lock n i p) (sym new.0) is)
      ]

  -- without the one in a slot, the others are at home
  pub home_without : (list : List (Option SeatPlace)) (j : ℕ) (v : Option SeatPlace) → v ≡ None → AreAtHome lock n list
      → AreAtHome lock n (slice_set list j v)
  home_without list j v e home = λ i q at. elim (get_set list j v i (Some q) at) as (λ _. IsAtHome lock n i q) [
    | inl new ↦ absurd (let s : Some q ≡ v = new.1 in cc)
    | inr old ↦ home i q old
  ]

  -- with one that is at home in its slot, all are at home
  pub home_with : (list : List (Option SeatPlace)) (j : ℕ) (v : Option SeatPlace) (p : SeatPlace) → v ≡ Some p → IsAtHome lock n j p
      → AreAtHome lock n list → AreAtHome lock n (slice_set list j v)
  home_with list j v p e is home = λ i q at. elim (get_set list j v i (Some q) at) as (λ _. IsAtHome lock n i q) [
    | inl new ↦ let same : p ≡ q = (let s : Some q ≡ v = new.1 in cc) in
        subst (λ (x : SeatPlace). IsAtHome lock n i x) same (subst (λ (k : ℕ). IsAtHome lock n k p) (sym new.0) is)
    | inr old ↦ home i q old
  ]
