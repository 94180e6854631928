-- A walk along the lower chain of a half, and its results.
use Rattle.std.specs.Prelude.{◌≡◌, ℕ, ◌<◌, ◌≤◌, ℤ, Bool, true, false, List, [], ◌∷◌, ◌++◌, length, map}
use Rattle.lattice.specs.Plane.{Pair, turned_point}
use Rattle.lattice.specs.Vertices.{fan, IsVertexList}
use Rattle.bridge_search.specs.Trees.{Tree}
use Rattle.bridge_search.specs.Leaves.{points_of}
use Rattle.hull_geometry.specs.Edges.{IsLowerEdge, IsChain, end_of}
use Rattle.lattice.specs.declared.side.Side.{Side}
use Rattle.lattice.specs.declared.side.Side.TheVariants.{Lower, Upper}

-- a walk along the lower chain from one point to another, over the points of `passed`
pub record IsWalk (t : Tree) (from : Pair) (passed : List Pair) (to : Pair) : Type 0 where
  pub chain : IsChain (IsLowerEdge (points_of t)) from passed
  pub ends : end_of from passed ≡ to

-- the vertex of the hull for a vertex of the half; the hull's upper chain is the lower one of the half rotated by 180
-- degrees
abbrev pub upright : Side → Pair → Pair
upright Lower v = v
upright Upper v = turned_point v

-- the points of a walk from one point to another, without the last of them, were appended to the list
abbrev pub IsListed : Tree → Pair → Pair → Side → List Pair → List Pair → Type 0
IsListed t from to side before after = (passed : List Pair) × IsWalk t from passed to
    × (after ++ upright side to ∷ [] ≡ before ++ map (upright side) (from ∷ passed))

-- z is the sum of the doubled areas between an apex and the edges of a walk from one point to another
abbrev pub IsFan : Tree → Pair → Pair → Pair → ℤ → Type 0
IsFan t apex from to z = (passed : List Pair) × IsWalk t from passed to × (z ≡ fan apex from passed)

-- a vertex was appended to the list, which has at most `most` points; or the list is full
abbrev pub IsPushedUpTo : Pair → ℕ → List Pair → List Pair → Bool → Type 0
IsPushedUpTo vertex most before after true = (after ≡ before ++ vertex ∷ []) × (length after ≤ most)
IsPushedUpTo vertex most before after false = most ≤ length before

-- the points of a walk without the last were appended to the list; or they are too many for it
abbrev pub IsListedUpTo : Tree → Pair → Pair → Side → ℕ → List Pair → List Pair → Bool → Type 0
IsListedUpTo t from to side most before after true = IsListed t from to side before after × (length after ≤ most)
IsListedUpTo t from to side most before after false =
    (all : List Pair) × IsListed t from to side before all × (most < length all)

-- S has more vertices than `most`
abbrev pub IsLongerThan : ℕ → List Pair → Type 0
IsLongerThan most S = (all : List Pair) × IsVertexList S all × (most < length all)
