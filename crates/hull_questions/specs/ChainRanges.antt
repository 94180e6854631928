-- The ranges of a half's lower chain between two of its vertices.
use Rattle.std.specs.Prelude.{◌≡◌, List, ◌∷◌, ◌++◌}
use Rattle.lattice.specs.Plane.{Pair, IsBefore}
use Rattle.bridge_search.specs.Trees.{Tree, IsFork, left_of, right_of}
use Rattle.bridge_search.specs.Leaves.{points_of}
use Rattle.hull_questions.specs.Chains.{IsLowerVertex}
use Rattle.hull_questions.specs.Walks.{IsWalk}
use Rattle.hull_questions.specs.declared.chain_ranges.RangeShape.{RangeShape}
use Rattle.hull_questions.specs.declared.chain_ranges.RangeShape.TheVariants.{Nowhere, Left, Right, Across}

-- both are vertices of the lower chain, the second one not before the first
pub record IsChainRange (t : Tree) (from to : Pair) : Type 0 where
  pub starts : IsLowerVertex (points_of t) from
  pub ends : IsLowerVertex (points_of t) to
  pub onward : ¬ IsBefore to from

-- the range is one of the subtree, and a walk along it there is a walk along the whole
pub record IsChainRangeOf (part whole : Tree) (from to : Pair) : Type 0 where
  pub chain_range : IsChainRange part from to
  pub walks : (passed : List Pair) → IsWalk part from passed to → IsWalk whole from passed to

-- the range is one of the left half, an edge to the right half, and a range of that
pub record IsChainRangeAcross (t : Tree) (from start end to : Pair) : Type 0 where
  pub left : IsChainRange (left_of t) from start
  pub right : IsChainRange (right_of t) end to
  pub walks : (xs ys : List Pair) → IsWalk (left_of t) from xs start → IsWalk (right_of t) end ys to
      → IsWalk t from (xs ++ end ∷ ys) to

-- the halves that the edges of the range are in
abbrev pub IsRangeShape : Tree → Pair → Pair → RangeShape → Type 0
IsRangeShape t from to Nowhere = from ≡ to
IsRangeShape t from to Left = IsFork t × IsChainRangeOf (left_of t) t from to
IsRangeShape t from to Right = IsFork t × IsChainRangeOf (right_of t) t from to
IsRangeShape t from to (Across e) = IsFork t × IsChainRangeAcross t from e.0 e.1 to
