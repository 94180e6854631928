-- The half of a fork that a point belongs to: the left one, or else the right one.
use Rattle.std.specs.Prelude.{Bool, cond}
use Rattle.std.specs.Borrow.{Fml, Lends, MutBor}
use Rattle.bucket_tree.specs.declared.node.Ends.{Ends}
use Rattle.bucket_tree.specs.declared.node.Fork.{Fork}
use Rattle.bucket_tree.specs.declared.node.Node.{Node}
use Rattle.bucket_tree.specs.contracts.node.Fork.{the_row as fork_row}
use Rattle.bucket_tree.specs.contracts.node.Node.{the_row as node_row}

-- the half
abbrev pub half_of : Bool → Fork → Node
half_of left f = cond left f.left f.right

-- its ends, as the fork stores them
abbrev pub ends_of_half : Bool → Fork → Ends
ends_of_half left f = cond left f.left_ends f.right_ends

-- the fork with another one in its place
abbrev pub with_half : Bool → Fork → Node → Fork
with_half left f half = record {
  left_ends = f.left_ends;
  left = cond left half f.left;
  right_ends = f.right_ends;
  right = cond left f.right half;
  upper = f.upper;
  lower = f.lower;
}

-- a fork ends with the last value of a reference to its half in place of that half
abbrev pub LendsHalf : MutBor Fork → Bool → MutBor Node → Fml
LendsHalf f left half = Lends fork_row node_row f half (with_half left f.now)
