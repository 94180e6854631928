-- The first part of a straight motion of the hull of a set S after which it intersects the hull of another set T.
use Rattle.std.specs.Prelude.{◌≡◌, ℕ, ◌*◌, ◌<◌, ◌≤◌, pos, ◌+ℤ◌, ◌*ℤ◌, ◌≤ℤ◌, List, map, Bool, true, false, Option, Some, None}
use Rattle.std.specs.List.{All}
use Rattle.lattice.specs.Plane.{Pair, orient}
use Rattle.lattice.specs.Covers.{IsExtreme}
use Rattle.hull_polygon.specs.Closest.{magnified}
use Rattle.hull_polygon.specs.Meetings.{AreDisjoint, Intersects}
use Rattle.hull_polygon.specs.Raycasts.{IsHit, moved}
use Rattle.hull_polygon.specs.Steps.{backward}
use Rattle.hull_polygon.specs.declared.raycasts.Entry.TheVariants.{Edge}
use Rattle.first_meeting.specs.declared.arrivals.Arrival.{Arrival}
use Rattle.first_meeting.specs.declared.meeting.FirstMeeting.{FirstMeeting}
use Rattle.first_meeting.specs.declared.meeting.FirstMeeting.TheVariants.{AtStart, Later}

-- S after n / k of its motion along d, magnified by k so that the coordinates are whole
abbrev pub carried : ℕ → ℕ → Pair → List Pair → List Pair
carried k n d S = map (λ p. record { x = pos k *ℤ p.x +ℤ pos n *ℤ d.x; y = pos k *ℤ p.y +ℤ pos n *ℤ d.y }) S

-- after n / k of the motion, the two intersect
abbrev pub MeetAfter : List Pair → List Pair → Pair → ℕ → ℕ → Type 0
MeetAfter S T d n k = Intersects (carried k n d S) (magnified k T)

-- after no part of the motion do they intersect
abbrev pub NeverMeet : List Pair → List Pair → Pair → Type 0
NeverMeet S T d = (n k : ℕ) → 0 < k → n ≤ k → ¬ MeetAfter S T d n k

-- a vertex of S, which moves, enters T there; or one of T, as seen from S, enters S
abbrev pub IsArrival : List Pair → List Pair → Pair → Bool → Arrival → Type 0
IsArrival S T d true r = IsExtreme S r.vertex × IsHit T r.vertex (moved r.vertex d) r.hit
IsArrival S T d false r = IsExtreme T r.vertex × IsHit S r.vertex (moved r.vertex (backward d)) r.hit

-- they meet as this vertex arrives, after the part of the motion that the hit is at, and not before
pub record IsFirstMeeting (S T : List Pair) (d : Pair) (r : Arrival) : Type 0 where
  pub arrival : IsArrival S T d r.moves r
  pub whole : 0 < r.hit.denominator
  pub within : r.hit.numerator ≤ r.hit.denominator
  pub meet : MeetAfter S T d r.hit.numerator r.hit.denominator
  pub first : (n k : ℕ) → 0 < k → MeetAfter S T d n k → r.hit.numerator * k ≤ n * r.hit.denominator

-- the vertex enters across an edge, and no point of S lies farther to the left of the edge's line than the vertex
abbrev pub Leads : List Pair → Arrival → Type 0
Leads S r = (p q : Pair) × (r.hit.place ≡ Edge p q) × All (λ s. orient p q s ≤ℤ orient p q r.vertex) S

-- the first meeting of two that are disjoint at the start, or they never meet
abbrev pub ReturnsArrival : List Pair → List Pair → Pair → Option Arrival → Type 0
ReturnsArrival S T d None = NeverMeet S T d
ReturnsArrival S T d (Some r) = IsFirstMeeting S T d r

-- they intersect at the start, or are disjoint there and meet later for the first time, or never
abbrev pub ReturnsFirstMeeting : List Pair → List Pair → Pair → Option FirstMeeting → Type 0
ReturnsFirstMeeting S T d (Some AtStart) = Intersects S T
ReturnsFirstMeeting S T d (Some (Later r)) = AreDisjoint S T × IsFirstMeeting S T d r
ReturnsFirstMeeting S T d None = AreDisjoint S T × NeverMeet S T d
