-- the first arrival of the vertices of the one if it leads, or the first arrivals of both
use Rattle.std.proofs.Common.{subst, List}
use Rattle.lattice.specs.Plane.{Pair}
use Rattle.hull_polygon.specs.Lent.{vertices_of}
use Rattle.hull_polygon.specs.Steps.{backward}
use Rattle.first_meeting.specs.Arrivals.{ReturnsFirst}
use Rattle.first_meeting.proofs.FirstOfBoth.{first_of_both}
use Rattle.first_meeting.proofs.Leading.{first_if_leading}
use Rattle.first_meeting.proofs.meeting.first_along.Goals as goal

pub returns-then-is_led : goal.returns-then-is_led
returns-then-is_led c = λ S o T q a.
    first_if_leading S T (vertices_of c.args.moving.now) c.args.forward c.first_arrival-ahead.result o
    (subst (λ (z : List Pair). ReturnsFirst T c.args.forward z c.first_arrival-ahead.result) c.vertices.ensures.vertices
    (c.first_arrival-ahead.ensures.first T q))
    c.first_arrival-ahead.ensures.moves (c.is_led.ensures S o c.if-is_led.true)

pub returns : goal.returns
returns c = λ S o T q a.
    first_of_both S T (vertices_of c.args.moving.now) (vertices_of c.args.other.now) c.last-last.result c.last-other_last.result
    c.args.forward c.first_arrival-ahead.result c.first_arrival-against.result c.sooner.result o c.last-last.ensures q
    c.last-other_last.ensures a
    (subst (λ (z : List Pair). ReturnsFirst T c.args.forward z c.first_arrival-ahead.result) c.vertices.ensures.vertices
    (c.first_arrival-ahead.ensures.first T q))
    c.first_arrival-ahead.ensures.moves
    (subst (λ (z : List Pair). ReturnsFirst S (backward c.args.forward) z c.first_arrival-against.result) c.vertices-2.ensures.vertices
    (subst (λ (z : Pair). ReturnsFirst S z c.vertices-2.result.now c.first_arrival-against.result) c.requires (c.first_arrival-against.ensures.first S o)))
    c.first_arrival-against.ensures.moves c.sooner.ensures
