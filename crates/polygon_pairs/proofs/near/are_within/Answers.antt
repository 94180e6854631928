-- the answer decides it for each set of the one and each of the other
use Rattle.std.proofs.Common.{List, subst}
use Rattle.lattice.specs.Plane.{Pair}
use Rattle.hull_polygon.specs.Meetings.{ReturnsMeeting}
use Rattle.hull_polygon.specs.Polygons.{HoldsOfBoth}
use Rattle.hull_polygon.specs.Ranges.{ReturnsWithin}
use Rattle.polygon_pairs.proofs.WithinLength.{distance_decides, meeting_decides}
use Rattle.polygon_pairs.proofs.near.are_within.Goals as goal

pub returns-then-reach-gt0 : goal.returns-then-reach-gt0
returns-then-reach-gt0 c =
    meeting_decides c.intersects.result c.args.reach c.args.vertices.now c.args.others.now c.if-reach-eq0.true c.if-reach-gt0.true
    c.requires.this c.requires.that c.requires.some c.requires.others
    (subst (λ (z : List Pair). HoldsOfBoth z c.args.others.now (λ S T. ReturnsMeeting c.intersects.result S T))
    c.of_vertices-this.ensures
    (subst (λ (z : List Pair). HoldsOfBoth c.of_vertices-this.result.vertices.now z (λ S T. ReturnsMeeting c.intersects.result S T))
    c.of_vertices-that.ensures c.intersects.ensures))

pub returns-else-reach-eq0 : goal.returns-else-reach-eq0
returns-else-reach-eq0 c =
    distance_decides c.is_within_distance.result c.args.reach c.args.vertices.now c.args.others.now
    c.requires.this c.requires.that c.requires.some c.requires.others
    (subst (λ (z : List Pair). HoldsOfBoth z c.args.others.now (λ S T. ReturnsWithin c.is_within_distance.result c.args.reach S T))
    c.of_vertices-this.ensures
    (subst (λ (z : List Pair). HoldsOfBoth c.of_vertices-this.result.vertices.now z
    (λ S T. ReturnsWithin c.is_within_distance.result c.args.reach S T))
    c.of_vertices-that.ensures c.is_within_distance.ensures))
