-- The bounding box of a set of points, and one hull inside another.
use Rattle.std.specs.Prelude.{◌≡◌, ◌≤ℤ◌, List}
use Rattle.std.specs.List.{All, Contains}
use Rattle.lattice.specs.Plane.{Pair}
use Rattle.lattice.specs.Covers.{Covers}

-- each point of S lies in the box between two points, and each side of the box has one
pub record IsBox (S : List Pair) (least greatest : Pair) : Type 0 where
  pub from_left : All (λ t. least.x ≤ℤ t.x) S
  pub from_below : All (λ t. least.y ≤ℤ t.y) S
  pub to_right : All (λ t. t.x ≤ℤ greatest.x) S
  pub to_above : All (λ t. t.y ≤ℤ greatest.y) S
  pub left : (t : Pair) × Contains S t × (t.x ≡ least.x)
  pub bottom : (t : Pair) × Contains S t × (t.y ≡ least.y)
  pub right : (t : Pair) × Contains S t × (t.x ≡ greatest.x)
  pub top : (t : Pair) × Contains S t × (t.y ≡ greatest.y)

-- S covers each point that T covers
abbrev pub Holds : List Pair → List Pair → Type 0
Holds S T = (q : Pair) → Covers T q → Covers S q
