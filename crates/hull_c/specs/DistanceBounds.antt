-- The distance of two convex polygons, or of a convex polygon and a segment, in numbers that a caller compares; and
-- the relation of a convex polygon to a segment.
use Rattle.std.specs.Prelude.{◌≡◌, ◌⊎◌, ◌*◌, ℤ, pos, neg_ℤ, List, [], Bool, cond, Option, Some, None, MatchOption, Result, MatchResult}
use Rattle.std.specs.declared.cmp.Ordering.{Ordering}
use Rattle.std.specs.declared.cmp.Ordering.TheVariants.{Less, Equal, Greater}
use Rattle.lattice.specs.Plane.{Pair}
use Rattle.hull_polygon.specs.Closest.{IsDistance}
use Rattle.hull_polygon.specs.Polygons.{HoldsOfBoth, HoldsOfSetsOf}
use Rattle.hull_polygon.specs.Ranges.{ReturnsWithin}
use Rattle.hull_polygon.specs.Relations.{IsRelation}
use Rattle.hull_polygon.specs.Roundings.{IsRounded}
use Rattle.hull_polygon.specs.Segments.{ends}
use Rattle.hull_polygon.specs.Squares.{IsSquareOf, ReturnsOrder, denominator_of, numerator_of}
use Rattle.hull_polygon.specs.declared.distance.Distance.{Distance}
use Rattle.hull_polygon.specs.declared.ranges.Length.{Length}
use Rattle.hull_polygon.specs.declared.relations.Relation.{Relation}
use Rattle.hull_polygon.specs.declared.roundings.Rounded.{Rounded}
use Rattle.hull_polygon.specs.declared.squares.SquaredDistance.{SquaredDistance}
use Rattle.hull_reply.specs.Coordinates.{IsPointOf}
use Rattle.hull_reply.specs.Encoded.{code_number, IsNumber}
use Rattle.hull_reply.specs.declared.code.Code.{Code}
use Rattle.hull_reply.specs.declared.code.Code.TheVariants as code
use Rattle.hull_reply.specs.declared.reply.HullReply.{HullReply}
use Rattle.hull_c.specs.Pairs.{relation_number}
use Rattle.hull_c.specs.declared.distance_bounds.HullDistanceBounds.{HullDistanceBounds}

-- a code and no other number
abbrev pub IsNoDistanceBounds : Code → HullDistanceBounds → Type 0
IsNoDistanceBounds fault encoded = encoded ≡ record {
  code = code_number fault;
  shift = 0;
  lower = 0;
  upper = 0;
  high = 0;
  middle = 0;
  low = 0;
  divisor_high = 0;
  divisor_low = 0;
}

-- its fraction
abbrev pub square_of : HullDistanceBounds → SquaredDistance
square_of encoded = record {
  high = encoded.high;
  middle = encoded.middle;
  low = encoded.low;
  divisor_high = encoded.divisor_high;
  divisor_low = encoded.divisor_low;
}

-- its two doubles
abbrev pub rounded_of : HullDistanceBounds → Rounded
rounded_of encoded = record { lower = encoded.lower; upper = encoded.upper; shift = encoded.shift }

-- the distance, if there is one: its square as a fraction, and the doubles next to it
abbrev pub IsDistanceBoundsEncoded : Option Distance → HullDistanceBounds → Type 0
IsDistanceBoundsEncoded None encoded = IsNoDistanceBounds code.Empty encoded
IsDistanceBoundsEncoded (Some found) encoded =
    (encoded.code ≡ code_number code.Number) × IsSquareOf found (square_of encoded) × IsRounded found (rounded_of encoded)

-- this holds of each two sets with these vertices
abbrev pub EncodesDistanceBounds : List Pair → List Pair → HullDistanceBounds → Type 0
EncodesDistanceBounds vertices others encoded =
    (found : Option Distance) × IsDistanceBoundsEncoded found encoded
    × HoldsOfBoth vertices others (λ S T. MatchOption found ((S ≡ []) ⊎ (T ≡ [])) (λ x. IsDistance S T x))

-- this holds of each set with these vertices, and the segment from a to b
abbrev pub EncodesDistanceBoundsTo : List Pair → Pair → Pair → HullDistanceBounds → Type 0
EncodesDistanceBoundsTo vertices a b encoded =
    (found : Option Distance) × IsDistanceBoundsEncoded found encoded
    × HoldsOfSetsOf vertices (λ S. MatchOption found (S ≡ []) (λ x. IsDistance S (ends a b) x))

-- the two numbers are a point and it was answered, or the reply has the reason why they are none
abbrev pub IsDistanceBoundsOf : ℤ → ℤ → (Pair → HullDistanceBounds → Type 0) → HullDistanceBounds → Type 0
IsDistanceBoundsOf x y P encoded =
    (asked : Result Pair Code) × IsPointOf x y asked
    × MatchResult asked (λ p. P p encoded) (λ fault. IsNoDistanceBounds fault encoded)

-- the relation of each set to the segment, by its number
abbrev pub EncodesRelationTo : List Pair → Pair → Pair → HullReply → Type 0
EncodesRelationTo vertices a b encoded =
    (found : Relation) × IsNumber code.Number (relation_number found) encoded
    × HoldsOfSetsOf vertices (λ S. IsRelation S (ends a b) found)

-- whether the distance of the segment to each set is at most a length: 1 or 0
abbrev pub EncodesWithinOf : Length → List Pair → Pair → Pair → HullReply → Type 0
EncodesWithinOf length vertices a b encoded =
    (is_within_distance : Bool) × IsNumber code.Number (cond is_within_distance 1 0) encoded
    × HoldsOfSetsOf vertices (λ S. ReturnsWithin is_within_distance length S (ends a b))

-- the number of an order: below 0, 0, or above it
abbrev pub order_number : Ordering → ℤ
order_number Less = neg_ℤ (pos 1)
order_number Equal = pos 0
order_number Greater = pos 1

-- the order of two fractions, by that number
abbrev pub ComparesAs : SquaredDistance → SquaredDistance → ℤ → Type 0
ComparesAs this that encoded =
    (order : Ordering) × (encoded ≡ order_number order)
    × ReturnsOrder (numerator_of this * denominator_of that) (numerator_of that * denominator_of this) order
