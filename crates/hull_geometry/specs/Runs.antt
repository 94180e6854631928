-- Slices of the vertices of a set, of both chains together, in order: what a bucket of points is to a search of
-- bridges.
use Rattle.std.specs.Prelude.{◌⊎◌, List}
use Rattle.std.specs.List.{Contains}
use Rattle.lattice.specs.Bridges.{IsAllBefore, IsBridge}
use Rattle.lattice.specs.Plane.{Pair, IsBefore}
use Rattle.lattice.specs.declared.side.Side.{Side}
use Rattle.lattice.specs.declared.side.Side.TheVariants.{Lower, Upper}
use Rattle.hull_geometry.specs.Monotone.{IsChainOf}

-- the other side of a hull
abbrev pub opposite : Side → Side
opposite Lower = Upper
opposite Upper = Lower

-- l and r are vertices of one chain or of the other, all of l before all of r. a is the last point of l on the one
-- chain, or the first of l if it has none there; b is the first point of r on that chain, or the last of r
pub record AreSeparatedAt (chain other : List Pair) (l r : Pair → Type 0) (a b : Pair) : Type 0 where
  pub separated : IsAllBefore l r
  pub left_vertices : (t : Pair) → l t → Contains chain t ⊎ Contains other t
  pub right_vertices : (t : Pair) → r t → Contains chain t ⊎ Contains other t
  pub from_left : l a
  pub to_right : r b
  pub none_after : (t : Pair) → l t → IsBefore a t → ¬ Contains chain t
  pub none_ahead : (t : Pair) → r t → IsBefore t b → ¬ Contains chain t
  pub left_end : Contains chain a ⊎ ((t : Pair) → l t → ¬ IsBefore t a)
  pub right_end : Contains chain b ⊎ ((t : Pair) → r t → ¬ IsBefore b t)

-- the edge between these two points is the bridge of l and r on the one chain's side
abbrev pub RunsHaveTheirBridge : Side → (Pair → Type 0) → (Pair → Type 0) → Type 0
RunsHaveTheirBridge side l r =
    (S chain other : List Pair) (a b : Pair) → IsChainOf side S chain → IsChainOf (opposite side) S other
    → AreSeparatedAt chain other l r a b → IsBridge side l r a b
