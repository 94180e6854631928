-- A point that was added to one half of a fork, the left one or else the right one, before the forks of that half are renewed.
use Rattle.std.specs.Prelude.{◌≡◌, ◌≤◌, ◌++◌, Bool, true, cond, not, List, length}
use Rattle.lattice.specs.Plane.{Pair, IsBefore}
use Rattle.hull_geometry.specs.Positions.{first_of, last_of}
use Rattle.hull_set.specs.declared.TheConstants.{POINT_LIMIT}
use Rattle.lattice.specs.declared.side.Side.{Side}
use Rattle.bucket_tree.specs.Changes.{HasEdgesAfter, IsEndUnlessClear, change_of, edge_on}
use Rattle.bucket_tree.specs.Halves.{ends_of_half, half_of}
use Rattle.bucket_tree.specs.Nodes.{points_below, ends_in, AreInRow}
use Rattle.bucket_tree.specs.declared.node.Ends.{Ends}
use Rattle.bucket_tree.specs.declared.node.Fork.{Fork}
use Rattle.bucket_tree.specs.declared.node.Node.{Node}
use Rattle.bucket_tree.specs.declared.renewal.Changed.{Changed}

-- the ends of a list before p was added to it: each still is one if p is on the inner side of it, and otherwise p is
pub record WereEnds (p : Pair) (e : Ends) (S : List Pair) : Type 0 where
  pub first_kept : IsBefore e.first p → e.first ≡ first_of S
  pub first_new : ¬ IsBefore e.first p → p ≡ first_of S
  pub last_kept : IsBefore p e.last → e.last ≡ last_of S
  pub last_new : ¬ IsBefore p e.last → p ≡ last_of S

-- a substitute for the half: a well-built node with its points, in a row with the other half, of which the fork stores the ends
pub record IsSubstitute (left : Bool) (f : Fork) (m : Node) : Type 0 where
  pub points : points_below m ≡ points_below (half_of left f)
  pub row : AreInRow (cond left m f.left) (cond left f.right m)
  pub few : length (points_below f.left ++ points_below f.right) ≤ POINT_LIMIT
  pub ends : ends_of_half (not left) f ≡ ends_in (points_below (half_of (not left) f))

-- the half has one
abbrev pub HasSubstitute : Bool → Fork → Type 0
HasSubstitute left f = (m : Node) × IsSubstitute left f m

-- the fork has to be renewed: its edges are bridges unless p may have altered them, and the ends of the half are those before p was added
pub record IsToRenewOver (left : Bool) (p : Pair) (change : Changed) (f : Fork) : Type 0 where
  pub half : HasSubstitute left f
  pub edges : HasEdgesAfter p change.sides f
  pub end : (side : Side) → IsEndUnlessClear (change_of left true) side p f.left f.right (edge_on side f)
  pub ends : WereEnds p (ends_of_half left f) (points_below (half_of left f))
  pub between : change.is_between ≡ true → ends_of_half left f ≡ ends_in (points_below (half_of left f))
