-- The results of asking a convex polygon about another one, or for its least width, in numbers.
use Rattle.std.specs.Prelude.{◌≡◌, ◌⊎◌, ◌↔◌, ℕ, List, [], Bool, cond, IsTrue, Option, Some, None, MatchOption}
use Rattle.lattice.specs.Plane.{Pair}
use Rattle.hull_geometry.specs.Positions.{origin}
use Rattle.hull_polygon.specs.Boxes.{Holds}
use Rattle.hull_polygon.specs.Closest.{IsDistance}
use Rattle.hull_polygon.specs.Extents.{IsLeastWidth, IsOnePoint}
use Rattle.hull_polygon.specs.Meetings.{ReturnsMeeting}
use Rattle.hull_polygon.specs.Polygons.{HoldsOfBoth, HoldsOfSetsOf}
use Rattle.hull_polygon.specs.Ranges.{ReturnsWithin}
use Rattle.hull_polygon.specs.Relations.{HoldsInside, IsRelation}
use Rattle.hull_polygon.specs.Witnesses.{IsWitness}
use Rattle.hull_polygon.specs.declared.ranges.Length.{Length}
use Rattle.hull_polygon.specs.declared.relations.Relation.{Relation}
use Rattle.hull_polygon.specs.declared.relations.Relation.TheVariants as relation
use Rattle.hull_polygon.specs.declared.distance.Distance.{Distance}
use Rattle.hull_polygon.specs.declared.distance.Distance.TheVariants as distance
use Rattle.hull_polygon.specs.declared.meetings.Meeting.TheVariants as meeting
use Rattle.hull_polygon.specs.declared.strips.Strip.{Strip}
use Rattle.hull_polygon.specs.declared.witnesses.Witness.{Witness}
use Rattle.hull_polygon.specs.declared.witnesses.Witness.TheVariants as witness
use Rattle.hull_reply.specs.Encoded.{code_number, IsNumber}
use Rattle.hull_reply.specs.declared.code.Code.{Code}
use Rattle.hull_reply.specs.declared.code.Code.TheVariants as code
use Rattle.hull_reply.specs.declared.reply.HullReply.{HullReply}
use Rattle.hull_c.specs.declared.pairs.HullWitness.{HullWitness}

-- whether they intersect: 1 or 0
abbrev pub EncodesIntersects : List Pair → List Pair → HullReply → Type 0
EncodesIntersects vertices others encoded =
    (intersects : Bool) × IsNumber code.Number (cond intersects 1 0) encoded
    × HoldsOfBoth vertices others (λ S T. ReturnsMeeting intersects S T)

-- whether the first covers all that the second covers: 1 or 0
abbrev pub EncodesContains : List Pair → List Pair → HullReply → Type 0
EncodesContains vertices others encoded =
    (holds : Bool) × IsNumber code.Number (cond holds 1 0) encoded
    × HoldsOfBoth vertices others (λ S T. IsTrue holds ↔ Holds S T)

-- the number of a relation
abbrev pub relation_number : Relation → ℕ
-- written by tools/table.py: relations
relation_number relation.Disjoint = 0
relation_number relation.Touching = 1
relation_number relation.Overlapping = 2
relation_number relation.Within = 3
relation_number relation.Covers = 4
relation_number relation.Equal = 5

-- end of what tools/table.py writes

-- the relation of the first to the second, by its number
abbrev pub EncodesRelation : List Pair → List Pair → HullReply → Type 0
EncodesRelation vertices others encoded =
    (found : Relation) × IsNumber code.Number (relation_number found) encoded
    × HoldsOfBoth vertices others (λ S T. IsRelation S T found)

-- whether all that the second covers is inside the first: 1 or 0
abbrev pub EncodesContainsInside : List Pair → List Pair → HullReply → Type 0
EncodesContainsInside vertices others encoded =
    (holds : Bool) × IsNumber code.Number (cond holds 1 0) encoded
    × HoldsOfBoth vertices others (λ S T. IsTrue holds ↔ HoldsInside S T)

-- whether their distance is at most a length: 1 or 0
abbrev pub EncodesWhetherWithin : List Pair → List Pair → Length → HullReply → Type 0
EncodesWhetherWithin vertices others length encoded =
    (is_within_distance : Bool) × IsNumber code.Number (cond is_within_distance 1 0) encoded
    × HoldsOfBoth vertices others (λ S T. ReturnsWithin is_within_distance length S T)

-- a code, with four points
abbrev pub IsShown : Code → Pair → Pair → Pair → Pair → HullWitness → Type 0
IsShown e a b c d w = w ≡ record { code = code_number e; a = a; b = b; c = c; d = d }

-- a witness of their relation
abbrev pub IsWitnessEncoded : Option Witness → HullWitness → Type 0
IsWitnessEncoded None encoded = IsShown code.Empty origin origin origin origin encoded
IsWitnessEncoded (Some (witness.Intersects (meeting.OfOther t))) encoded =
    IsShown code.Covered t origin origin origin encoded
IsWitnessEncoded (Some (witness.Intersects (meeting.OfThis s))) encoded =
    IsShown code.Within s origin origin origin encoded
IsWitnessEncoded (Some (witness.Intersects (meeting.Crossing a b c d))) encoded =
    IsShown code.Crossing a b c d encoded
IsWitnessEncoded (Some (witness.Disjoint w)) encoded =
    IsShown code.Disjoint w.farthest w.direction origin origin encoded

-- this holds of each two sets with these vertices
abbrev pub EncodesWitness : List Pair → List Pair → HullWitness → Type 0
EncodesWitness vertices others encoded =
    (found : Option Witness) × IsWitnessEncoded found encoded
    × HoldsOfBoth vertices others (λ S T. MatchOption found ((S ≡ []) ⊎ (T ≡ [])) (λ w. IsWitness S T w))

-- an edge and the point farthest from it, if there is an edge
abbrev pub IsStripEncoded : Option Strip → HullWitness → Type 0
IsStripEncoded None encoded = IsShown code.Empty origin origin origin origin encoded
IsStripEncoded (Some w) encoded = IsShown code.Edge w.from w.to w.farthest origin encoded

-- this is the least width of each set with these vertices
abbrev pub EncodesLeastWidth : List Pair → HullWitness → Type 0
EncodesLeastWidth vertices encoded =
    (found : Option Strip) × IsStripEncoded found encoded
    × HoldsOfSetsOf vertices (λ S. MatchOption found (IsOnePoint S) (λ w. IsLeastWidth S w))

-- the nearest features: they intersect, or a vertex of each, or a vertex of the one and an edge of the other
abbrev pub IsDistanceEncoded : Option Distance → HullWitness → Type 0
IsDistanceEncoded None encoded = IsShown code.Empty origin origin origin origin encoded
IsDistanceEncoded (Some distance.Zero) encoded =
    IsShown code.Intersecting origin origin origin origin encoded
IsDistanceEncoded (Some (distance.Vertices c d)) encoded = IsShown code.Points c d origin origin encoded
IsDistanceEncoded (Some (distance.VertexAndEdge c a b)) encoded = IsShown code.Vertex c a b origin encoded
IsDistanceEncoded (Some (distance.EdgeAndVertex a b d)) encoded = IsShown code.Edge a b d origin encoded

-- this holds of each two sets with these vertices
abbrev pub EncodesDistance : List Pair → List Pair → HullWitness → Type 0
EncodesDistance vertices others encoded =
    (found : Option Distance) × IsDistanceEncoded found encoded
    × HoldsOfBoth vertices others (λ S T. MatchOption found ((S ≡ []) ⊎ (T ≡ [])) (λ x. IsDistance S T x))
