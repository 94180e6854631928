-- The relation of a set S to the segment from a to b.
use Rattle.std.specs.Prelude.{◌⊎◌, pos, ◌<ℤ◌, List, [], ◌∷◌}
use Rattle.std.specs.List.{Contains}
use Rattle.lattice.specs.Plane.{Pair, orient, IsBefore}
use Rattle.lattice.specs.Covers.{Covers}
use Rattle.lattice.specs.Places.{IsFarthest}
use Rattle.hull_polygon.specs.Meetings.{Parts, segment}
use Rattle.hull_polygon.specs.Steps.{left_of}
use Rattle.hull_polygon.specs.Witnesses.{IsMeeting}
use Rattle.hull_polygon.specs.declared.encounters.Encounter.{Encounter}
use Rattle.hull_polygon.specs.declared.encounters.Encounter.TheVariants.{Met, OnRight, OnLeft, Behind, Beyond}

-- q is between p and r in the order of points, or is one of them
abbrev pub IsAmong : Pair → Pair → Pair → Type 0
IsAmong p q r = (¬ IsBefore q p × ¬ IsBefore r q) ⊎ (¬ IsBefore q r × ¬ IsBefore p q)

-- p is a point of S, and no point of S lies farther to the left of the line from a to b
abbrev pub IsLeftmost : List Pair → Pair → Pair → Pair → Type 0
IsLeftmost S a b p = Contains S p × IsFarthest S (left_of a b) p

-- S does not cover a, and each direction that separates it from a separates it from the segment to b
abbrev pub IsShielded : List Pair → Pair → Pair → Type 0
IsShielded S a b = ¬ Covers S a × ((d : Pair) → Parts d S (a ∷ []) → Parts d S (segment a b))

-- they share this point; or S lies right of the line from a to b, or left of it, and p is nearest to it; or S lies
-- behind a, or beyond b
abbrev pub IsEncounter : List Pair → Pair → Pair → Encounter → Type 0
IsEncounter S a b (Met m) = IsMeeting S (segment a b) m
IsEncounter S a b (OnRight p) = IsLeftmost S a b p × (orient a b p <ℤ pos 0)
IsEncounter S a b (OnLeft p) = IsLeftmost S b a p × (orient b a p <ℤ pos 0)
IsEncounter S a b Behind = IsShielded S a b
IsEncounter S a b Beyond = IsShielded S b a

-- S covers neither end of the segment, and these are its points farthest to the left and to the right of it
pub record IsFlanked (S : List Pair) (a b left right : Pair) : Type 0 where
  pub leftmost : IsLeftmost S a b left
  pub rightmost : IsLeftmost S b a right
  pub start : ¬ Covers S a
  pub end : ¬ Covers S b
