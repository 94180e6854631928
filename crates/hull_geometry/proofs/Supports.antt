-- Lines through two points of S that have no point of S outwards on a side: the lines of edges.
use Rattle.std.proofs.Common.{pos, ◌≤ℤ◌, List}
use Rattle.std.specs.List.{Contains}
use Rattle.std.proofs.lemmas.List.Elements.{All-contains}
use Rattle.lattice.specs.Plane.{Pair, orient, IsBefore}
use Rattle.lattice.specs.Orientations.{orient_on}
use Rattle.lattice.specs.declared.side.Side.{Side}
use Rattle.lattice.specs.declared.side.Side.TheVariants.{Lower, Upper}
use Rattle.hull_geometry.specs.Edges.{IsEdgeOn}

-- two points of S, the one before the other, and no point of S outwards of the line from the one to the other
pub record IsSupport (side : Side) (S : List Pair) (a b : Pair) : Type 0 where
  pub from : Contains S a
  pub to : Contains S b
  pub forward : IsBefore a b
  pub inner : (t : Pair) → Contains S t → pos 0 ≤ℤ orient_on side a b t

-- a lower edge is such a support
pub lower_support : {S : List Pair} {u v : Pair} → IsEdgeOn Lower S u v → IsSupport Lower S u v
lower_support {S} {u} {v} e = record {
  from = e.from;
  to = e.to;
  forward = e.along;
  inner = λ t m. All-contains (λ z. pos 0 ≤ℤ orient u v z) S t e.left m;
}

-- an upper edge, read forward, is such a support
pub upper_support : {S : List Pair} {u v : Pair} → IsEdgeOn Upper S u v → IsSupport Upper S v u
upper_support {S} {u} {v} e = record {
  from = e.to;
  to = e.from;
  forward = e.along;
  inner = λ t m. All-contains (λ z. pos 0 ≤ℤ orient u v z) S t e.left m;
}
