-- the distance is that of the segment's ends, of which there is at least one
use Rattle.std.proofs.Common.{◌≡◌, List, [], Option, None, Some, inl}
use Rattle.std.specs.Prelude.{◌⊎◌, MatchOption}
use Rattle.lattice.specs.Plane.{Pair}
use Rattle.hull_polygon.specs.Closest.{IsDistance}
use Rattle.hull_polygon.specs.Segments.{ends}
use Rattle.hull_polygon.specs.declared.distance.Distance.{Distance}
use Rattle.hull_polygon.proofs.polygon.Polygon.is_within_distance_of_segment.Goals as goal

-- if there is no distance, one of the two sets is empty
of_either : (r : Option Distance) (S T : List Pair) → MatchOption r (S ≡ []) (λ found. IsDistance S T found)
    → MatchOption r ((S ≡ []) ⊎ (T ≡ [])) (λ found. IsDistance S T found)
of_either None S T h = inl h
of_either (Some found) S T h = h

pub returns : goal.returns
returns c = λ S o.
    let T = ends c.args.a c.args.b in
    c.has_distance_within.ensures S T (of_either c.distance_to_segment.result S T (c.distance_to_segment.ensures S o))
