-- a segment that ends before the path enters is disjoint
use Rattle.std.proofs.Common.{arith, subst}
use Rattle.lattice.specs.Plane.{Pair}
use Rattle.hull_polygon.specs.Raycasts.{IsHit, MissesRay}
use Rattle.hull_polygon.specs.Meetings.{segment}
use Rattle.hull_polygon.proofs.Casting.{apart_missed}
use Rattle.hull_polygon.proofs.Ends.{no_vertices}
use Rattle.hull_polygon.proofs.Hits.{apart_beyond, to_end}
use Rattle.hull_polygon.proofs.Shields.{apart_empty}
use Rattle.hull_polygon.proofs.polygon.Polygon.raycast_segment.Goals as goal

pub returns-then-is_empty : goal.returns-then-is_empty
returns-then-is_empty c = λ S o.
    apart_empty S (segment c.args.a c.args.b)
    (no_vertices S c.args.self.now.vertices.now o (grind (arith, c.is_empty.ensures, c.if-is_empty.true)))

pub returns-then-found : goal.returns-then-found
returns-then-found c = λ S o. (
  subst (λ (z : Pair). IsHit S c.args.a z c.in-Some.found) (to_end c.args.a c.args.b _ c.step.ensures) (c.in-Some.ensures S o),
  grind (arith, c.if-found.true),
)

pub returns-else-found : goal.returns-else-found
returns-else-found c = λ S o.
    apart_beyond S c.args.a c.args.b c.in-Some.found
    (subst (λ (z : Pair). IsHit S c.args.a z c.in-Some.found) (to_end c.args.a c.args.b _ c.step.ensures) (c.in-Some.ensures S o))
    (grind (arith, c.if-found.false))

pub returns-in-None : goal.returns-in-None
returns-in-None c = λ S o.
    apart_missed S c.args.a c.args.b
    (subst (λ (z : Pair). MissesRay S c.args.a z) (to_end c.args.a c.args.b _ c.step.ensures) (c.in-None.ensures S o))
