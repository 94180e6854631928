-- a covered point is inside or on the boundary
use Rattle.std.proofs.Common.{arith, refl}
use Rattle.hull_polygon.proofs.polygon.Polygon.covers.Goals as goal

pub returns-in-Inside : goal.returns-in-Inside
returns-in-Inside c = λ S o. (λ t. (c.in-Inside.ensures S o).0, λ k. refl)

pub returns-in-On : goal.returns-in-On
returns-in-On c = λ S o. (λ t. (c.in-On.ensures S o).0, λ k. refl)

pub returns-in-Outside : goal.returns-in-Outside
returns-in-Outside c = λ S o. (λ t. absurd (grind (arith, t)), λ k. absurd (c.in-Outside.ensures S o k))
