-- The square of the plane that a picture shows.
use Rattle.std.specs.Prelude.{◌≡◌, ◌⊎◌, ◌≤◌, ◌+◌, ◌-◌, ◌/◌, max, ℕ, ◌-ℤ◌, ◌≤ℤ◌, unsigned_abs, List, [], Option, Some}
use Rattle.std.specs.Prelude.{None}
use Rattle.std.specs.List.{All, Contains}
use Rattle.lattice.specs.Plane.{Pair}
use Rattle.hull_draw.specs.declared.marks.Mark.{Mark}
use Rattle.hull_draw.specs.declared.frame.Frame.{Frame}
use Rattle.hull_draw.specs.declared.frame.TheConstants.{PICTURE_UNITS}

-- the horizontal distance of its leftmost and its rightmost point
abbrev pub width_of : Frame → ℕ
width_of frame = unsigned_abs (frame.right.x -ℤ frame.left.x)

-- the vertical distance of its lowest and its uppermost point
abbrev pub height_of : Frame → ℕ
height_of frame = unsigned_abs (frame.top.y -ℤ frame.bottom.y)

-- the side of the square: the least that contains the points, but at least 2, so that one point is in the middle
unfoldable pub extent_of : Frame → ℕ
extent_of frame = max (max (width_of frame) (height_of frame)) 2

-- how many units of the plane one of the picture is: 1 if the square's sides are short enough for a browser
unfoldable pub unit_of : Frame → ℕ
unit_of frame = extent_of frame / PICTURE_UNITS + 1

-- the side of the square, in units of the picture
unfoldable pub side_of : Frame → ℕ
side_of frame = extent_of frame / unit_of frame

-- the distance of p from the left edge of the square, whose middle is that of the points
unfoldable pub from_left : Frame → Pair → ℕ
from_left frame p = unsigned_abs (p.x -ℤ frame.left.x) + (extent_of frame - width_of frame) / 2

-- the distance of p from its upper edge
unfoldable pub from_top : Frame → Pair → ℕ
from_top frame p = unsigned_abs (frame.top.y -ℤ p.y) + (extent_of frame - height_of frame) / 2

-- how far p is drawn from the left edge, in units of the picture
unfoldable pub across : Frame → Pair → ℕ
across frame p = from_left frame p / unit_of frame

-- how far p is drawn from the upper edge, in the same units
unfoldable pub down : Frame → Pair → ℕ
down frame p = from_top frame p / unit_of frame

-- p is between the points at the edges
pub record IsWithin (frame : Frame) (p : Pair) : Type 0 where
  pub right_of : frame.left.x ≤ℤ p.x
  pub left_of : p.x ≤ℤ frame.right.x
  pub above : frame.bottom.y ≤ℤ p.y
  pub below : p.y ≤ℤ frame.top.y

-- p is drawn in the square
pub record IsInSquare (frame : Frame) (p : Pair) : Type 0 where
  pub wide : across frame p ≤ side_of frame
  pub high : down frame p ≤ side_of frame

-- p is the point of a mark
abbrev pub IsMarked : List Mark → Pair → Type 0
IsMarked marks p = (m : Mark) × Contains marks m × (m.point ≡ p)

-- the points at the edges are points of marks, and all marks are between them
pub record IsFrame (marks : List Mark) (frame : Frame) : Type 0 where
  pub left : IsMarked marks frame.left
  pub right : IsMarked marks frame.right
  pub top : IsMarked marks frame.top
  pub bottom : IsMarked marks frame.bottom
  pub holds : All (λ m. IsWithin frame m.point) marks

-- there is a square exactly if there are marks
abbrev pub IsFrameOf : List Mark → Option Frame → Type 0
IsFrameOf marks None = marks ≡ []
IsFrameOf marks (Some frame) = IsFrame marks frame

-- one of two points
abbrev pub IsEither : Pair → Pair → Pair → Type 0
IsEither a b p = (p ≡ a) ⊎ (p ≡ b)

-- all that was between the edges still is, and p too; an edge has moved to p or not at all
pub record Widens (before : Frame) (p : Pair) (after : Frame) : Type 0 where
  pub holds : (q : Pair) → IsWithin before q → IsWithin after q
  pub own : IsWithin after p
  pub left : IsEither before.left p after.left
  pub right : IsEither before.right p after.right
  pub top : IsEither before.top p after.top
  pub bottom : IsEither before.bottom p after.bottom
