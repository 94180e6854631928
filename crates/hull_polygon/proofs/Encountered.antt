-- A segment that the hull meets nowhere is disjoint from it.
use Rattle.std.proofs.Common.{◌<ℤ◌, List, pos}
use Rattle.lattice.specs.Plane.{Pair, orient}
use Rattle.hull_polygon.specs.Encounters.{IsLeftmost}
use Rattle.hull_polygon.specs.Meetings.{AreDisjoint, segment}
use Rattle.hull_polygon.specs.Steps.{left_of}
use Rattle.hull_polygon.proofs.Shields.{separated_right, parts_turned}

-- a hull that lies right of the segment's line is disjoint from it
pub apart_on_right : (S : List Pair) (a b p : Pair) → IsLeftmost S a b p × (orient a b p <ℤ pos 0) → AreDisjoint S (segment a b)
apart_on_right S a b p h = (left_of a b, separated_right S a b p h.0 h.1)

-- a hull that lies left of the line is
pub apart_on_left : (S : List Pair) (a b p : Pair) → IsLeftmost S b a p × (orient b a p <ℤ pos 0) → AreDisjoint S (segment a b)
apart_on_left S a b p h = (left_of b a, parts_turned S (left_of b a) a b (separated_right S b a p h.0 h.1))
