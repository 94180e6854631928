-- The results of asking a convex polygon for its box, its extents, its nearest point or about a segment, in numbers.
use Rattle.std.specs.Prelude.{◌≡◌, ◌⊎◌, ℕ, ℤ, pos, List, [], Bool, cond, Option, Some, None, MatchOption, Result}
use Rattle.std.specs.Prelude.{MatchResult}
use Rattle.lattice.specs.Plane.{Pair}
use Rattle.hull_polygon.specs.Boxes.{IsBox}
use Rattle.hull_polygon.specs.Extents.{IsDiameter, IsExtent}
use Rattle.hull_polygon.specs.Meetings.{Intersects, ReturnsMeeting, segment}
use Rattle.hull_polygon.specs.Nearest.{IsNearest}
use Rattle.hull_polygon.specs.Polygons.{HoldsOfSetsOf}
use Rattle.hull_polygon.specs.Separations.{IsSeparation}
use Rattle.hull_polygon.specs.declared.nearest.Nearest.{Nearest}
use Rattle.hull_polygon.specs.declared.nearest.Nearest.TheVariants as nearest
use Rattle.hull_polygon.specs.declared.separations.Separation.{Separation}
use Rattle.hull_reply.specs.Coordinates.{IsDirectionOf, IsPointOf}
use Rattle.hull_reply.specs.Encoded.{ArePoints, IsBare, IsNumber, IsPoint, IsWide}
use Rattle.hull_reply.specs.declared.code.Code.{Code}
use Rattle.hull_reply.specs.declared.code.Code.TheVariants as code
use Rattle.hull_reply.specs.declared.reply.HullReply.{HullReply}

-- the two numbers are a point and it was answered, or the reply has the reason why they are none
abbrev pub IsEncodedOf : ℤ → ℤ → (Pair → HullReply → Type 0) → HullReply → Type 0
IsEncodedOf x y P encoded =
    (asked : Result Pair Code) × IsPointOf x y asked × MatchResult asked (λ p. P p encoded) (λ fault. IsBare fault encoded)

-- the two numbers are a direction and it was answered, or the reply has the reason why they are none
abbrev pub IsEncodedAlong : ℤ → ℤ → (Pair → HullReply → Type 0) → HullReply → Type 0
IsEncodedAlong x y P encoded =
    (asked : Result Pair Code) × IsDirectionOf x y asked
    × MatchResult asked (λ d. P d encoded) (λ fault. IsBare fault encoded)

-- whether they intersect: 1 or 0
abbrev pub EncodesWhether : List Pair → Pair → Pair → HullReply → Type 0
EncodesWhether vertices a b encoded =
    (intersects : Bool) × IsNumber code.Number (cond intersects 1 0) encoded
    × HoldsOfSetsOf vertices (λ S. ReturnsMeeting intersects S (segment a b))

-- no vertices; or they intersect; or they are separated in a direction, in which this is the farthest point
abbrev pub EncodesSplit : List Pair → Pair → Pair → HullReply → Type 0
EncodesSplit vertices a b encoded =
    ((vertices ≡ []) × IsBare code.Empty encoded)
    ⊎ ((IsBare code.Intersecting encoded × HoldsOfSetsOf vertices (λ S. Intersects S (segment a b)))
    ⊎ ((w : Separation) × ArePoints code.Disjoint w.farthest w.direction encoded
    × HoldsOfSetsOf vertices (λ S. IsSeparation S (segment a b) w)))

-- the location of the nearest point
abbrev pub IsNearestEncoded : Option Nearest → HullReply → Type 0
IsNearestEncoded None encoded = IsBare code.Empty encoded
IsNearestEncoded (Some nearest.Covered) encoded = IsBare code.Covered encoded
IsNearestEncoded (Some (nearest.Vertex c)) encoded = IsPoint code.Vertex c encoded
IsNearestEncoded (Some (nearest.Edge a b)) encoded = ArePoints code.Edge a b encoded

-- this holds of each set with these vertices
abbrev pub EncodesNearest : List Pair → Pair → HullReply → Type 0
EncodesNearest vertices q encoded =
    (place : Option Nearest) × IsNearestEncoded place encoded
    × HoldsOfSetsOf vertices (λ S. MatchOption place (S ≡ []) (λ found. IsNearest S q found))

-- two points, if there are any
abbrev pub AreEndsEncoded : Code → Option (Pair × Pair) → HullReply → Type 0
AreEndsEncoded c None encoded = IsBare code.Empty encoded
AreEndsEncoded c (Some ends) encoded = ArePoints c ends.0 ends.1 encoded

-- the least and the greatest point of the box of each set with these vertices
abbrev pub EncodesBox : List Pair → HullReply → Type 0
EncodesBox vertices encoded =
    (ends : Option (Pair × Pair)) × AreEndsEncoded code.Box ends encoded
    × HoldsOfSetsOf vertices (λ S. MatchOption ends (S ≡ []) (λ found. IsBox S found.0 found.1))

-- the two points of each set that are farthest from one another
abbrev pub EncodesDiameter : List Pair → HullReply → Type 0
EncodesDiameter vertices encoded =
    (ends : Option (Pair × Pair)) × AreEndsEncoded code.Points ends encoded
    × HoldsOfSetsOf vertices (λ S. MatchOption ends (S ≡ []) (λ found. IsDiameter S found.0 found.1))

-- a number of 128 bits, if there is one
abbrev pub IsWidthEncoded : Option ℕ → HullReply → Type 0
IsWidthEncoded None encoded = IsBare code.Empty encoded
IsWidthEncoded (Some n) encoded = IsWide n encoded

-- the extent of each set in the direction
abbrev pub EncodesWidth : List Pair → Pair → HullReply → Type 0
EncodesWidth vertices d encoded =
    (width : Option ℕ) × IsWidthEncoded width encoded
    × HoldsOfSetsOf vertices (λ S. MatchOption width (S ≡ []) (λ n. IsExtent S d (pos n)))
