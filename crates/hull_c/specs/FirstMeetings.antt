-- The first meeting of two convex polygons, of which the second moves straight, in numbers.
use Rattle.std.specs.Prelude.{◌≡◌, ◌⊎◌, ℤ, List, [], cond, Option, Some, None, Result, MatchResult}
use Rattle.lattice.specs.Plane.{Pair}
use Rattle.hull_geometry.specs.Positions.{origin}
use Rattle.hull_polygon.specs.Polygons.{HoldsOfBoth}
use Rattle.first_meeting.specs.FirstMeetings.{ReturnsFirstMeeting}
use Rattle.first_meeting.specs.declared.meeting.FirstMeeting.{FirstMeeting}
use Rattle.first_meeting.specs.declared.meeting.FirstMeeting.TheVariants as meeting
use Rattle.hull_reply.specs.Coordinates.{IsPointOf}
use Rattle.hull_reply.specs.declared.code.Code.{Code}
use Rattle.hull_reply.specs.declared.code.Code.TheVariants as code
use Rattle.hull_c.specs.Raycasts.{IsHitAt, IsHitEncoded, IsNoHit, IsPart}
use Rattle.hull_c.specs.declared.first_meetings.HullMotion.{HullMotion}

-- there is no vertex
abbrev pub HasNoVertex : HullMotion → Type 0
HasNoVertex encoded = (encoded.vertex ≡ origin) × (encoded.moves ≡ 0)

-- a code and no other number
abbrev pub IsNoMeeting : Code → HullMotion → Type 0
IsNoMeeting c encoded = IsNoHit c encoded.hit × HasNoVertex encoded

-- they intersect at the start, or meet as this vertex arrives, or never meet
abbrev pub IsMeetingEncoded : Option FirstMeeting → HullMotion → Type 0
IsMeetingEncoded None encoded = IsNoMeeting code.Disjoint encoded
IsMeetingEncoded (Some meeting.AtStart) encoded =
    IsHitAt code.Covered origin origin encoded.hit × IsPart 0 1 encoded.hit × HasNoVertex encoded
IsMeetingEncoded (Some (meeting.Later r)) encoded =
    IsHitEncoded (Some r.hit) encoded.hit × (encoded.vertex ≡ r.vertex) × (encoded.moves ≡ cond r.moves 1 0)

-- this holds of each two sets with these vertices, of which the second moves by d; or one of them has none
abbrev pub EncodesFirstMeeting : List Pair → List Pair → Pair → HullMotion → Type 0
EncodesFirstMeeting vertices others d encoded =
    (((vertices ≡ []) ⊎ (others ≡ [])) × IsNoMeeting code.Empty encoded)
    ⊎ ((found : Option FirstMeeting) × IsMeetingEncoded found encoded
    × HoldsOfBoth others vertices (λ S T. ReturnsFirstMeeting S T d found))

-- the two numbers are a vector in range and it was answered, or the reply has the reason why they are none
abbrev pub IsMotionOf : ℤ → ℤ → (Pair → HullMotion → Type 0) → HullMotion → Type 0
IsMotionOf x y P encoded =
    (asked : Result Pair Code) × IsPointOf x y asked
    × MatchResult asked (λ d. P d encoded) (λ fault. IsNoMeeting fault encoded)
