-- a point that does not lie inside is on the boundary or outside
use Rattle.std.proofs.Common.{arith}
use Rattle.hull_polygon.proofs.polygon.Polygon.lies_inside.Goals as goal

pub returns-in-On : goal.returns-in-On
returns-in-On c = λ S o. (λ t. absurd (grind (arith, t)), λ k. absurd (k.1 (c.in-On.ensures S o).1))

pub returns-in-Outside : goal.returns-in-Outside
returns-in-Outside c = λ S o. (λ t. absurd (grind (arith, t)), λ k. absurd (c.in-Outside.ensures S o k.0))
