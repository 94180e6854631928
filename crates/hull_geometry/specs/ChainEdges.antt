-- The edges of one chain of a hull.
use Rattle.std.specs.Prelude.{pos, ◌≤ℤ◌, ◌<ℤ◌, List}
use Rattle.std.specs.List.{Contains}
use Rattle.lattice.specs.Plane.{Pair, IsBefore}
use Rattle.lattice.specs.Orientations.{orient_on}
use Rattle.lattice.specs.declared.side.Side.{Side}

-- t is not outwards of the line from a forward to b, and strictly inwards of it if it is before a or after b
pub record IsBeside (side : Side) (t a b : Pair) : Type 0 where
  pub inwards : pos 0 ≤ℤ orient_on side a b t
  pub before : IsBefore t a → pos 0 <ℤ orient_on side a b t
  pub after : IsBefore b t → pos 0 <ℤ orient_on side a b t

-- an edge of the hull of S on a side, from a forward to b: each point of S is beside it
pub record IsEdge (side : Side) (S : List Pair) (a b : Pair) : Type 0 where
  pub from : Contains S a
  pub to : Contains S b
  pub forward : IsBefore a b
  pub beside : (t : Pair) → Contains S t → IsBeside side t a b

-- q is strictly between the ends of an edge
pub record IsEdgeAt (side : Side) (S : List Pair) (q a b : Pair) : Type 0 where
  pub edge : IsEdge side S a b
  pub after : IsBefore a q
  pub before : IsBefore q b

-- the edge from a forward to b ends before q, which lies inwards of it
abbrev pub IsPassedBy : Side → Pair → Pair → Pair → Type 0
IsPassedBy side q a b = IsBefore b q × (pos 0 <ℤ orient_on side a b q)

-- the edge from a forward to b begins after q, which lies inwards of it
abbrev pub IsToCome : Side → Pair → Pair → Pair → Type 0
IsToCome side q a b = IsBefore q a × (pos 0 <ℤ orient_on side a b q)
