-- A walk along a chain: the order in which it passes a fork, and the range that it lists.
use Rattle.std.specs.Prelude.{◌≡◌}
use Rattle.lattice.specs.Plane.{Pair}
use Rattle.lattice.specs.declared.side.Side.{Side}
use Rattle.lattice.specs.declared.side.Side.TheVariants.{Lower, Upper}
use Rattle.bridge_search.specs.Trees.{IsBridged}
use Rattle.bucket_tree.specs.Nodes.{IsWhole, tree_of}
use Rattle.bucket_tree.specs.Runs.{IsRangeOn}
use Rattle.bucket_tree.specs.declared.chains.Passage.{Passage}
use Rattle.bucket_tree.specs.declared.node.Fork.{Fork}
use Rattle.bucket_tree.specs.declared.node.Node.{Node}

-- the halves and the ends of the bridge on a side: from left to right on the lower side, back on the upper one
abbrev pub IsPassage : Side → Fork → Passage → Type 0
IsPassage Lower f passage = (passage.first.now ≡ f.left) × (passage.start.now ≡ f.lower.0) × (passage.end.now ≡ f.lower.1)
    × (passage.last.now ≡ f.right)
IsPassage Upper f passage = (passage.first.now ≡ f.right) × (passage.start.now ≡ f.upper.1) × (passage.end.now ≡ f.upper.0)
    × (passage.last.now ≡ f.left)

-- the vertices below a node and its bridges are there, and both points are vertices of its chain on a side, in the order of a walk
pub record HasRange (side : Side) (n : Node) (from to : Pair) : Type 0 where
  pub whole : IsWhole n
  pub bridged : IsBridged (tree_of n)
  pub between : IsRangeOn side (tree_of n) from to
