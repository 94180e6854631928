-- the ends are the polygon of their set, which is not empty
use Rattle.std.proofs.Common.{◌≡◌, List, [], Option, None, Some, inl, inr, sym, ◌∙◌, subst}
use Rattle.std.specs.Prelude.{◌⊎◌, MatchOption}
use Rattle.lattice.specs.Plane.{Pair}
use Rattle.hull_polygon.specs.Closest.{IsDistance}
use Rattle.hull_polygon.specs.Polygons.{IsPolygonOf}
use Rattle.hull_polygon.specs.Segments.{ends}
use Rattle.hull_polygon.specs.declared.distance.Distance.{Distance}
use Rattle.hull_polygon.proofs.TwoPoints.{ends_polygon, ends_some}
use Rattle.hull_set.proofs.HeldMultiplicities.{returned_same}
use Rattle.hull_polygon.proofs.polygon.Polygon.distance_to_segment.Goals as goal

-- if the second of two sets is not empty, they have no nearest points only if the first is empty
of_first : (r : Option Distance) (S T : List Pair) → ¬ (T ≡ [])
    → MatchOption r ((S ≡ []) ⊎ (T ≡ [])) (λ found. IsDistance S T found)
    → MatchOption r (S ≡ []) (λ found. IsDistance S T found)
of_first None S T n (inl e) = e
of_first None S T n (inr e) = absurd (n e)
of_first (Some found) S T n h = h

pub returns-then-eq : goal.returns-then-eq
returns-then-eq c = λ S o.
    subst (λ (z : Pair). MatchOption c.distance_to_point.result (S ≡ []) (λ found. IsDistance S (ends c.args.a z) found))
    (returned_same _ _ (sym c.eq.ensures ∙ c.if-eq.true)) (c.distance_to_point.ensures S o)

pub returns : goal.returns
returns c = λ S o.
    let T = ends c.args.a c.args.b in
    of_first c.distance.result S T (ends_some c.args.a c.args.b)
    (c.distance.ensures S o T
    (subst (IsPolygonOf T) (sym (c.segment_of.ensures ∙ c.in_order-points.ensures.same)) (ends_polygon c.args.a c.args.b)))
