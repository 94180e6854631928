-- A change in place: no subtree moves.
use Rattle.std.specs.Prelude.{◌≡◌, ◌≤◌, ◌<◌, ◌+◌, ◌*◌, ◌++◌, ◌⊎◌, ℕ, Some, Bool, true, false, not, List, length, max}
use Rattle.std.specs.List.{Contains}
use Rattle.lattice.specs.Covers.{with_point, without_point}
use Rattle.lattice.specs.Plane.{Pair, IsBefore}
use Rattle.hull_buckets.specs.Buckets.{BucketValue, IsBucket}
use Rattle.hull_set.specs.Held.{once}
use Rattle.hull_set.specs.declared.TheConstants.{POINT_LIMIT}
use Rattle.lattice.specs.declared.side.Side.{Side}
use Rattle.bucket_tree.specs.declared.renewal.Change.{Change}
use Rattle.bucket_tree.specs.declared.renewal.Changed.{Changed}
use Rattle.bucket_tree.specs.declared.node.Node.{Node, Leaf, Fork'}
use Rattle.bucket_tree.specs.declared.node.Ends.{Ends}
use Rattle.bucket_tree.specs.declared.node.Fork.{Fork}
use Rattle.bucket_tree.specs.declared.renewal.Affected.{Affected}
use Rattle.bucket_tree.specs.Changes.{AreKept, ClosesBy, HasEdgesAfter, IsEndUnlessClear, IsUnaffectedOver, IsRenewed, edge_on}
use Rattle.bucket_tree.specs.Counts.{counted, multiplicity_at, HasGained, HasLost}
use Rattle.bucket_tree.specs.Halves.{ends_of_half, half_of, with_half}
use Rattle.bucket_tree.specs.Nodes.{points_below, ends_in, node_height, AreInRow, IsWellBuilt}
use Rattle.bucket_tree.specs.Turns.{most_turns}

-- p is between two points of a list
abbrev pub IsBetween : Pair → List Pair → Type 0
IsBetween p S = (a : Pair) × (b : Pair) × Contains S a × Contains S b × IsBefore a p × IsBefore p b

-- and the ends of the list are those stored
abbrev pub IsBetweenKept : Pair → Ends → List Pair → Type 0
IsBetweenKept p e S = IsBetween p S × (e ≡ ends_in S)

-- a well-built node became one of the same height, in no more turns than a change takes; if a chain is unaffected, p is under an edge of the points
-- that are there now
pub record IsInPlace (p : Pair) (n m : Node) (change : Changed) : Type 0 where
  pub built : IsWellBuilt m
  pub height : node_height m ≡ node_height n
  pub turns : change.turns ≤ most_turns (node_height n)
  pub unaffected : IsUnaffectedOver p change.sides (points_below m)
  pub between : change.is_between ≡ true → IsBetween p (points_below m)

-- p, which was not there, was added to the points below a node
pub record HasPutIn (p : Pair) (n m : Node) (change : Changed) : Type 0 where
  pub absent : multiplicity_at n p ≡ 0
  pub in_place : IsInPlace p n m change
  pub gained : HasGained false p n m

-- p, of multiplicity one, was removed from them, and others stay
pub record HasTakenOut (p : Pair) (n m : Node) (change : Changed) : Type 0 where
  pub once : multiplicity_at n p ≡ 1
  pub in_place : IsInPlace p n m change
  pub lost : HasLost p n (Some m)

-- p was added to the points, or removed from them
abbrev pub HasChanged : Bool → Pair → Node → Node → Changed → Type 0
HasChanged true = HasPutIn
HasChanged false = HasTakenOut

-- a number of points that is small enough for the change
abbrev pub AreFewFor : Bool → ℕ → Type 0
AreFewFor true n = n < POINT_LIMIT
AreFewFor false n = n ≤ POINT_LIMIT

-- a bucket changed without a search; if a chain is unaffected, p is under an edge of the points that are there now
pub record IsUnsearched (p : Pair) (new : BucketValue) (change : Changed) : Type 0 where
  pub unaffected : IsUnaffectedOver p change.sides new.points
  pub turns : change.turns ≡ 0
  pub between : change.is_between ≡ true → IsBetween p new.points

-- p, which was not there, was added to a bucket
pub record HasPutInto (p : Pair) (old new : BucketValue) (change : Changed) : Type 0 where
  pub absent : counted old.points old.multiplicities p ≡ 0
  pub points : new.points ≡ with_point p old.points
  pub multiplicities : (q : Pair) → counted new.points new.multiplicities q ≡ counted old.points old.multiplicities q + once p q
  pub unsearched : IsUnsearched p new change

-- p, of multiplicity one, was removed from a bucket
pub record HasTakenFrom (p : Pair) (old new : BucketValue) (change : Changed) : Type 0 where
  pub held : counted old.points old.multiplicities p ≡ 1
  pub points : new.points ≡ without_point p old.points
  pub multiplicities : (q : Pair) → counted old.points old.multiplicities q ≡ counted new.points new.multiplicities q + once p q
  pub unsearched : IsUnsearched p new change

-- one of the two
abbrev pub HasChangedIn : Bool → Pair → BucketValue → BucketValue → Changed → Type 0
HasChangedIn true = HasPutInto
HasChangedIn false = HasTakenFrom

-- The bucket below a node to which p belongs was changed, and nothing else: of each fork on the way only the half that contains it is another one, so
-- the edges and ends there are those of before.
abbrev pub HasChangedBelow : Bool → Pair → Node → Node → Changed → Type 0
HasChangedBelow put p (Leaf b) (Leaf c) change = IsBucket c.value × HasChangedIn put p b.value c.value change
HasChangedBelow put p (Fork' h i old_left old_right old_right_ends old_upper old_left_ends old_lower)
    (Fork' k j left right right_ends upper left_ends lower) change =
    let old : Fork = record {
      left_ends = old_left_ends;
      left = old_left;
      right_ends = old_right_ends;
      right = old_right;
      upper = old_upper;
      lower = old_lower;
    } in
    let new : Fork = record {
      left_ends = left_ends;
      left = left;
      right_ends = right_ends;
      right = right;
      upper = upper;
      lower = lower;
    } in
    (k ≡ h)
    × ((IsBefore p old_right_ends.first × (new ≡ with_half true old left) × HasChangedBelow put p old_left left change)
    ⊎ ((¬ IsBefore p old_right_ends.first) × (new ≡ with_half false old right) × HasChangedBelow put p old_right right change))
HasChangedBelow put p n m change = ⊥

-- a change alters nothing above it: the point is between two others there, and on neither chain
pub record IsContained (change : Changed) : Type 0 where
  pub between : change.is_between ≡ true
  pub lower : change.sides.lower ≡ false
  pub upper : change.sides.upper ≡ false

-- a point can be added below a node, or removed
pub record IsChangeable (put : Bool) (n : Node) : Type 0 where
  pub built : IsWellBuilt n
  pub few : AreFewFor put (length (points_below n))
  pub low : node_height n ≤ 28

-- a fork of which one half, the left one or else the right one, changed at p since its edges and the ends there were stored
pub record IsAfterHalf (left : Bool) (p : Pair) (sides : Affected) (f : Fork) : Type 0 where
  pub row : AreInRow f.left f.right
  pub edges : HasEdgesAfter p sides f
  pub other : ends_of_half (not left) f ≡ ends_in (points_below (half_of (not left) f))
  pub kept : AreKept p (ends_of_half left f) (points_below (half_of left f))

-- the fork has to be renewed, and can be
pub record IsToRenew (left : Bool) (change : Change) (p : Pair) (below : Changed) (f : Fork) : Type 0 where
  pub after : IsAfterHalf left p below.sides f
  pub end : (side : Side) → IsEndUnlessClear change side p f.left f.right (edge_on side f)
  pub few : length (points_below f.left ++ points_below f.right) ≤ POINT_LIMIT
  pub low : max (node_height f.left) (node_height f.right) ≤ 28
  pub turns : below.turns ≤ 9208
  pub between : below.is_between ≡ true → IsBetweenKept p (ends_of_half left f) (points_below (half_of left f))

-- the fork has to be renewed and balanced
pub record IsToBalance (left : Bool) (change : Change) (p : Pair) (sides : Affected) (f : Fork) : Type 0 where
  pub after : IsAfterHalf left p sides f
  pub end : (side : Side) → IsEndUnlessClear change side p f.left f.right (edge_on side f)
  pub few : length (points_below f.left ++ points_below f.right) ≤ POINT_LIMIT
  pub near_left : node_height f.left ≤ node_height f.right + 2
  pub near_right : node_height f.right ≤ node_height f.left + 2
  pub low : max (node_height f.left) (node_height f.right) ≤ 28

-- it became g, with its subtrees in their places; its searches are added to those below
pub record IsRenewedAfter (p : Pair) (below : Changed) (f g : Fork) (above : Changed) : Type 0 where
  pub renewed : IsRenewed g
  pub left : g.left ≡ f.left
  pub right : g.right ≡ f.right
  pub turns : above.turns ≤ below.turns + 8 * max (node_height f.left) (node_height f.right) + 48
  pub closes : ClosesBy p below.sides above.sides (points_below f.left ++ points_below f.right)
  pub between : above.is_between ≡ true → IsBetween p (points_below f.left ++ points_below f.right)
