-- One step down a half: into a subtree that has the answer to a question.
use Rattle.std.specs.Prelude.{◌≡◌, ◌⊎◌, ℕ, ◌+◌, ◌<◌, pos, ◌<ℤ◌, ◌≤ℤ◌, List, Option}
use Rattle.lattice.specs.Plane.{Pair}
use Rattle.bridge_search.specs.Trees.{Tree, edge_of, lower_of, height_of, IsAtDepth}
use Rattle.bridge_search.specs.Leaves.{points_of}
use Rattle.hull_geometry.specs.Hands.{IsOnHand}
use Rattle.hull_geometry.specs.Tangents.{IsFirstFarthest, IsTangent}
use Rattle.hull_questions.specs.Hands.{outermost}
use Rattle.hull_geometry.specs.Locations.{IsBelow}
use Rattle.hull_geometry.specs.declared.hand.Hand.{Hand}

-- an answer for the subtree is one for the whole, and the height of the subtree is less
pub record IsPartFor (A : Type 0) (IsAnswer : List Pair → A → Type 0) (whole part : Tree) : Type 0 where
  pub lifts : (a : A) → IsAnswer (points_of part) a → IsAnswer (points_of whole) a
  pub lower : height_of part < height_of whole

-- the depth of a point of the subtree is one more in the whole
abbrev pub IsOneDown : Tree → Tree → Type 0
IsOneDown whole part = (p : Pair) (n : ℕ) → IsAtDepth part p n → IsAtDepth whole p (n + 1)

-- the stored edge on the side that d faces: the upper one if d goes up, else the lower one
abbrev pub IsFacing : Pair → Tree → Option (Pair × Pair) → Type 0
IsFacing d t e = ((pos 0 <ℤ d.y) × (e ≡ edge_of t)) ⊎ ((d.y ≤ℤ pos 0) × (e ≡ lower_of t))

-- the subtree has the first of the farthest points of the whole
abbrev pub IsFartherPart : Pair → Tree → Tree → Type 0
IsFartherPart d whole part = IsPartFor Pair (λ S p. IsFirstFarthest S d p) whole part

-- the subtree has the tangent point of the whole on this hand, as seen from q, which lies below it and inwards of its
-- outermost point there
pub record IsTangentPart (hand : Hand) (q : Pair) (whole part : Tree) : Type 0 where
  pub part_for : IsPartFor Pair (λ S p. IsTangent hand S q p) whole part
  pub below : IsBelow (points_of part) q
  pub inwards : IsOnHand hand (outermost hand part) q
