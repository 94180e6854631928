-- The effect of a change at one point on the bridges above it.
use Rattle.std.specs.Prelude.{◌≡◌, ◌⊎◌, Bool, true, false, List}
use Rattle.std.specs.List.{Contains}
use Rattle.lattice.specs.Bridges.{IsBridge}
use Rattle.lattice.specs.Plane.{Pair, IsBefore}
use Rattle.lattice.specs.Standing.{IsInnerToEdge}
use Rattle.lattice.specs.declared.side.Side.{Side}
use Rattle.lattice.specs.declared.side.Side.TheVariants.{Lower, Upper}
use Rattle.bridge_search.specs.Trees.{On}
use Rattle.hull_buckets.specs.Buckets.{IsCovered}
use Rattle.hull_geometry.specs.Monotone.{IsInwards}
use Rattle.hull_geometry.specs.Positions.{first_of, last_of}
use Rattle.bucket_tree.specs.declared.node.Ends.{Ends}
use Rattle.bucket_tree.specs.declared.node.Fork.{Fork}
use Rattle.bucket_tree.specs.declared.node.Node.{Node}
use Rattle.bucket_tree.specs.declared.renewal.Affected.{Affected}
use Rattle.bucket_tree.specs.declared.renewal.Change.{Change}
use Rattle.bucket_tree.specs.declared.renewal.Change.TheVariants.{AddedLeft, AddedRight, OtherLeft, OtherRight}
use Rattle.bucket_tree.specs.declared.renewal.EdgePosition.{EdgePosition}
use Rattle.bucket_tree.specs.declared.renewal.EdgePosition.TheVariants.{Covered, Clear, Touching}
use Rattle.bucket_tree.specs.Nodes.{tree_of, points_below, ends_in, AreInRow}

-- whether a chain is affected: whether the change may matter on that side to the forks above
abbrev pub is_affected : Side → Affected → Bool
is_affected Lower sides = sides.lower
is_affected Upper sides = sides.upper

-- if a chain is unaffected, the point is under an edge of the others
abbrev pub IsUnaffectedOver : Pair → Affected → List Pair → Type 0
IsUnaffectedOver p sides S = (side : Side) → is_affected side sides ≡ false → IsCovered side p S

-- the edge that a fork stores on a side
abbrev pub edge_on : Side → Fork → Pair × Pair
edge_on Lower f = f.lower
edge_on Upper f = f.upper

-- an edge is the bridge, on a side, of all points below two nodes
abbrev pub IsBridgeBetween : Side → Node → Node → Pair × Pair → Type 0
IsBridgeBetween side l r e = IsBridge side (Contains (points_below l)) (Contains (points_below r)) e.0 e.1

-- a point is no end of an edge, and inner to it
abbrev pub IsClearOf : Side → Pair × Pair → Pair → Type 0
IsClearOf side e p = ¬ (e.0 ≡ p) × ¬ (e.1 ≡ p) × IsInnerToEdge side e.0 e.1 p

-- the meaning of each position of a point relative to an edge
abbrev pub ReturnsOf : Side → Pair × Pair → Pair → EdgePosition → Type 0
ReturnsOf side e p Covered = IsInwards side e.0 e.1 p
ReturnsOf side e p Clear = IsClearOf side e p
ReturnsOf side e p Touching = ¬ IsClearOf side e p

-- the change of a fork of which one half changed at a point: the left one if the first word is true, otherwise the right one; the point was added
-- to it if the second word is true
abbrev pub change_of : Bool → Bool → Change
change_of true true = AddedLeft
change_of false true = AddedRight
change_of true false = OtherLeft
change_of false false = OtherRight

-- each point below two nodes is inner to an edge
pub record AreInnerTo (side : Side) (l r : Node) (e : Pair × Pair) : Type 0 where
  pub ordered : IsBefore e.0 e.1
  pub left : (t : Pair) → Contains (points_below l) t → IsInnerToEdge side e.0 e.1 t
  pub right : (t : Pair) → Contains (points_below r) t → IsInnerToEdge side e.0 e.1 t

-- a point that was added is one of its half; each bridge of the two halves, as they are now, ends at it, and its other end is not nearer to the
-- split than that of the edge that was the bridge before the change; if none was added, all points are inner to this edge, and one of its ends is
-- still there
abbrev pub IsEndOf : Change → Side → Pair → Node → Node → Pair × Pair → Type 0
IsEndOf AddedLeft side p l r old = Contains (points_below l) p
    × ((e : Pair × Pair) → IsBridgeBetween side l r e → (e.0 ≡ p) × ¬ IsBefore e.1 old.1)
IsEndOf AddedRight side p l r old = Contains (points_below r) p
    × ((e : Pair × Pair) → IsBridgeBetween side l r e → (e.1 ≡ p) × ¬ IsBefore old.0 e.0)
IsEndOf OtherLeft side p l r old = Contains (points_below r) old.1 × AreInnerTo side l r old
IsEndOf OtherRight side p l r old = Contains (points_below l) old.0 × AreInnerTo side l r old

-- that is so if the point is not clear of this edge
abbrev pub IsEndUnlessClear : Change → Side → Pair → Node → Node → Pair × Pair → Type 0
IsEndUnlessClear change side p l r old = ¬ IsClearOf side old p → IsEndOf change side p l r old

-- a fork stores the ends of two subtrees
pub record HasEnds (l r : Node) (f : Fork) : Type 0 where
  pub left : f.left_ends ≡ ends_in (points_below l)
  pub right : f.right_ends ≡ ends_in (points_below r)

-- ends that were those of a list before it changed at p: each is still an end if p is on the inner side of it
abbrev pub AreKept : Pair → Ends → List Pair → Type 0
AreKept p e S = (IsBefore e.first p → e.first ≡ first_of S) × (IsBefore p e.last → e.last ≡ last_of S)

-- a stale fork: a fork over two subtrees, of which one changed at p since its edges were stored. It stores their ends;
-- an edge is still the bridge if its chain is unaffected or if p is clear of it
pub record IsAfter (p : Pair) (sides : Affected) (l r : Node) (f : Fork) : Type 0 where
  pub ends : HasEnds l r f
  pub unaffected : (side : Side) → is_affected side sides ≡ false → IsBridgeBetween side l r (edge_on side f)
  pub clear : (side : Side) → IsClearOf side (edge_on side f) p → IsBridgeBetween side l r (edge_on side f)

-- the chains that are unaffected after a fork was compared are those that were, or those on which its points cover p
abbrev pub ClosesBy : Pair → Affected → Affected → List Pair → Type 0
ClosesBy p before after S =
    (side : Side) → is_affected side after ≡ false → (is_affected side before ≡ false) ⊎ IsCovered side p S

-- the edges that a fork stores are bridges unless a change at p may have altered them (as `IsAfter` says)
pub record HasEdgesAfter (p : Pair) (sides : Affected) (f : Fork) : Type 0 where
  pub unaffected : (side : Side) → is_affected side sides ≡ false → IsBridgeBetween side f.left f.right (edge_on side f)
  pub clear : (side : Side) → IsClearOf side (edge_on side f) p → IsBridgeBetween side f.left f.right (edge_on side f)

-- a fork whose edges are the bridges of the vertices of its two subtrees, and which stores their ends
pub record IsRenewed (f : Fork) : Type 0 where
  pub row : AreInRow f.left f.right
  pub upper : IsBridge Upper (On (tree_of f.left)) (On (tree_of f.right)) f.upper.0 f.upper.1
  pub lower : IsBridge Lower (On (tree_of f.left)) (On (tree_of f.right)) f.lower.0 f.lower.1
  pub ends : HasEnds f.left f.right f

-- the other side
abbrev pub opposite : Side → Side
opposite Lower = Upper
opposite Upper = Lower

-- two forks that are equal except for their edges on a side
pub record IsSameBut (side : Side) (f g : Fork) : Type 0 where
  pub left : g.left ≡ f.left
  pub right : g.right ≡ f.right
  pub left_ends : g.left_ends ≡ f.left_ends
  pub right_ends : g.right_ends ≡ f.right_ends
  pub other : edge_on (opposite side) g ≡ edge_on (opposite side) f
