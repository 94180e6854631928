-- the vector has the components of the point
use Rattle.std.proofs.Common.{◌∙◌, subst}
use Rattle.lattice.proofs.Casts.{cast_returned}
use Rattle.lattice.proofs.Order.{same_pair}
use Rattle.hull_polygon.specs.Meetings.{StayApart}
use Rattle.hull_polygon.proofs.polygon.Polygon.is_found_apart_during.Goals as goal

pub returns-in-Some : goal.returns-in-Some
returns-in-Some c = λ S o T q t.
    subst (StayApart S T) (c.in-Some.ensures ∙ same_pair _ _ (cast_returned _ _ c.x.ensures.range c.x.ensures.value)
    (cast_returned _ _ c.y.ensures.range c.y.ensures.value))
    (c.is_parted_while.ensures S o T q t)
