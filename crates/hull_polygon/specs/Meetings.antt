-- The hulls of two finite sets of points intersect, or a direction separates them: each is the opposite of the other. A
-- segment is the set of its two ends, which may be one point.
use Rattle.std.specs.Prelude.{pos, ◌+ℤ◌, ◌<ℤ◌, List, [], ◌∷◌, Bool, true, false}
use Rattle.std.specs.List.{Contains}
use Rattle.lattice.specs.Plane.{Pair, orient, product}
use Rattle.lattice.specs.Covers.{Covers}

-- in the direction d each point of S lies less far than each point of T
abbrev pub Parts : Pair → List Pair → List Pair → Type 0
Parts d S T = (s t : Pair) → Contains S s → Contains T t → product d s <ℤ product d t

-- some direction, of whole numbers of any size, separates S from T
abbrev pub AreDisjoint : List Pair → List Pair → Type 0
AreDisjoint S T = (d : Pair) × Parts d S T

-- some direction separates S from T, and S after a step along m too
abbrev pub StayApart : List Pair → List Pair → Pair → Type 0
StayApart S T m =
    (d : Pair) × ((s t : Pair) → Contains S s → Contains T t
    → (product d s <ℤ product d t) × ((product d s +ℤ product d m) <ℤ product d t))

-- the segments ab and cd cross between their ends: c lies right of ab and d left of it, a left of cd and b right of it
abbrev pub IsCrossing : Pair → Pair → Pair → Pair → Type 0
IsCrossing a b c d =
    (orient a b c <ℤ pos 0) × (pos 0 <ℤ orient a b d) × (pos 0 <ℤ orient c d a) × (orient c d b <ℤ pos 0)

-- the hulls of S and T share a point: one of them covers a point of the other, or a segment between two points of the
-- one crosses a segment between two points of the other
pub data Intersects (S T : List Pair) : Type 0 where
  Reaches : (t : Pair) → Contains T t → Covers S t → Intersects S T
  IsReached : (s : Pair) → Contains S s → Covers T s → Intersects S T
  Crosses : (a b c d : Pair) → Contains S a → Contains S b → Contains T c → Contains T d → IsCrossing a b c d
      → Intersects S T

-- the result decides which of the two holds
abbrev pub ReturnsMeeting : Bool → List Pair → List Pair → Type 0
ReturnsMeeting true S T = Intersects S T
ReturnsMeeting false S T = AreDisjoint S T

-- the ends of a segment
abbrev pub segment : Pair → Pair → List Pair
segment a b = a ∷ b ∷ []

-- no two sets both intersect and are disjoint
abbrev pub NeverBoth : Type 0
NeverBoth = (S T : List Pair) → Intersects S T → ¬ AreDisjoint S T
