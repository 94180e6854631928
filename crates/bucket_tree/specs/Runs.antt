-- Runs of the vertices of a chain.
use Rattle.std.specs.Prelude.{◌≡◌, ◌⊎◌, List, [], ◌∷◌, ◌++◌}
use Rattle.std.specs.List.{Contains}
use Rattle.lattice.specs.Plane.{Pair}
use Rattle.lattice.specs.declared.side.Side.{Side}
use Rattle.lattice.specs.declared.side.Side.TheVariants.{Lower, Upper}
use Rattle.bridge_search.specs.Trees.{Tree}
use Rattle.bridge_search.specs.TurnedTrees.{turned_tree}
use Rattle.hull_geometry.specs.Edges.{end_of}
use Rattle.hull_questions.specs.ChainRanges.{IsChainRange}
use Rattle.hull_questions.specs.Walks.{IsListed, upright}

-- the half whose lower chain is the chain on a side: itself, or the half rotated by 180 degrees
abbrev pub tree_on : Side → Tree → Tree
tree_on Lower t = t
tree_on Upper t = turned_tree t

-- both are vertices of a half's chain on a side, and a walk along it does not come to the second one before the first
abbrev pub IsRangeOn : Side → Tree → Pair → Pair → Type 0
IsRangeOn side t from to = IsChainRange (tree_on side t) (upright side from) (upright side to)

-- the points of a walk along a half's chain on a side from one point to another, without the last of them, were appended to the list
abbrev pub IsListedOn : Side → Tree → Pair → Pair → List Pair → List Pair → Type 0
IsListedOn side t from to before after = IsListed (tree_on side t) (upright side from) (upright side to) side before after

-- `to` is `from`, or comes later
abbrev pub IsAhead : List Pair → Pair → Pair → Type 0
IsAhead rest from to = (from ≡ to) ⊎ Contains rest to

-- `from` is a point of the walk, and `to` is the same or comes later
abbrev pub IsInOrder : List Pair → Pair → Pair → Type 0
IsInOrder walk from to = (passed rest : List Pair) × (walk ≡ passed ++ from ∷ rest) × IsAhead rest from to

-- `from` and the points after it that the walk passes up to `to`, without `to`, were appended to a list
abbrev pub IsRunTo : List Pair → Pair → Pair → List Pair → List Pair → Type 0
IsRunTo walk from to before after = (passed rest : List Pair) × (walk ≡ passed ++ rest) × (end_of from passed ≡ to)
    × (after ++ to ∷ [] ≡ before ++ from ∷ passed)

-- the points of the walk from `from` up to `to`, without `to`, were appended to a list
abbrev pub IsRunOf : List Pair → Pair → Pair → List Pair → List Pair → Type 0
IsRunOf walk from to before after = (passed rest : List Pair) × (walk ≡ passed ++ from ∷ rest) × IsRunTo rest from to before after
