-- The first of the farthest points, by the edges beside it on a chain that the direction faces.
use Rattle.std.proofs.Common.{◌≤ℤ◌, ◌<ℤ◌, ◌⊎◌, inl, inr, sym, subst, List, arith}
use Rattle.std.specs.List.{Contains}
use Rattle.std.specs.Prelude.{◌≢◌}
use Rattle.std.proofs.lemmas.Int.{ints}
use Rattle.lattice.specs.Plane.{Pair, product, IsBefore}
use Rattle.lattice.specs.Signs.{le_or_lt}
use Rattle.lattice.specs.declared.side.Side.{Side}
use Rattle.lattice.proofs.Numbers.{le_itself, le_less}
use Rattle.lattice.proofs.Order.{before_total}
use Rattle.hull_geometry.specs.Edges.{IsFirst, IsLast}
use Rattle.hull_geometry.specs.Tangents.{IsFirstFarthest, Faces}
use Rattle.hull_geometry.proofs.PointLists.{all_of}
use Rattle.hull_geometry.proofs.Slopes.{stays, goes}
use Rattle.hull_geometry.proofs.Supports.{IsSupport}

-- the point to which the chain rises, and from which it does not, is the first of the farthest
pub farthest_touched : (side : Side) (S : List Pair) (d p : Pair) → Faces side d → Contains S p
    → IsFirst S p ⊎ ((a : Pair) × IsSupport side S a p × (product d a <ℤ product d p))
    → IsLast S p ⊎ ((b : Pair) × IsSupport side S p b × ¬ (product d p <ℤ product d b)) → IsFirstFarthest S d p
farthest_touched side S d p faces m low high = (
  m,
  all_of (λ t. product d t ≤ℤ product d p) S (λ t i. elim (before_total t p) [
    | inl b ↦ le_less _ _ (rise t i b)
    | inr (inl e) ↦ subst (λ (z : Pair). product d z ≤ℤ product d p) (sym e) (le_itself (product d p))
    | inr (inr b) ↦ fall t i b
  ]),
  all_of (λ t. IsBefore t p → product d t ≢ product d p) S (λ t i b e. (omega (arith, ints, rise t i b))),
)
  where
    rise : (t : Pair) → Contains S t → IsBefore t p → product d t <ℤ product d p
    rise t i b = elim low [
      | inl f ↦ absurd (f t i b)
      | inr k ↦ goes side d k.0 p t faces k.1.forward b (k.1.inner t i) k.2
    ]

    fall : (t : Pair) → Contains S t → IsBefore p t → product d t ≤ℤ product d p
    fall t i b = elim high [
      | inl l ↦ absurd (l t i b)
      | inr k ↦ stays side d p k.0 t faces k.1.forward b (k.1.inner t i) (elim (le_or_lt (product d k.0) (product d p))
          [ inl h ↦ h | inr h ↦ absurd (k.2 h) ])
    ]
