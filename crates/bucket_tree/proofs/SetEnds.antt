-- The first and the last point of a set.
use Rattle.std.proofs.Common.{◌≡◌, ◌⊎◌, zero, suc, ◌<◌, ◌-◌, sym, ap, ◌∙◌, subst, inl, inr, List, length, arith}
use Rattle.std.specs.List.{Contains}
use Rattle.std.proofs.lemmas.Bool.{cases_lt}
use Rattle.lattice.specs.Covers.{IsPointSet}
use Rattle.lattice.specs.Plane.{Pair, IsBefore}
use Rattle.hull_geometry.specs.Positions.{origin, point_at, first_of, last_of}
use Rattle.hull_geometry.proofs.PointLists.{get_or_free}

-- a point of a set is its last, or is before it
pub by_last : (S : List Pair) (t : Pair) → IsPointSet S → Contains S t → (t ≡ last_of S) ⊎ IsBefore t (last_of S)
by_last S t s (i, l, e) = elim (cases_lt i (length S - 1)) [
  | inl k ↦ inr (subst (λ z. IsBefore z (last_of S)) (get_or_free S i origin t l ∙ e)
      (s i (length S - 1) origin k (omega (arith, l))))
  | inr k ↦ let j : i ≡ length S - 1 = omega (arith, k, l) in
      inl (sym e ∙ get_or_free S i t origin l ∙ ap (point_at S) j)
]

-- or its first, or is after it
pub by_first : (S : List Pair) (t : Pair) → IsPointSet S → Contains S t → (t ≡ first_of S) ⊎ IsBefore (first_of S) t
by_first S t s (zero, l, e) = inl (sym e ∙ get_or_free S 0 t origin l)
by_first S t s (suc i, l, e) = inr (subst (IsBefore (first_of S)) (get_or_free S (suc i) origin t l ∙ e)
    (s 0 (suc i) origin (omega arith) l))

-- the last point of a set is one of it
pub last_among : (S : List Pair) → 0 < length S → Contains S (last_of S)
last_among S l = (length S - 1, omega (arith, l), get_or_free S (length S - 1) (last_of S) origin (omega (arith, l)))

-- and so is its first
pub first_among : (S : List Pair) → 0 < length S → Contains S (first_of S)
first_among S l = (0, l, get_or_free S 0 (first_of S) origin l)
