-- of the two ends and the point, one lies between the others
use Rattle.std.proofs.Common.{◌≡◌, pos, sym, ◌∙◌}
use Rattle.lattice.specs.Covers.{OnSegment}
use Rattle.lattice.specs.Plane.{Pair, orient}
use Rattle.hull_geometry.proofs.Orientation.{orient_swap_zero, orient-cycle}
use Rattle.hull_polygon.proofs.Shields.{among_on_segment, shielded_in_line, third_among, start_there, end_there}
use Rattle.lattice.proofs.Tests.{passed, failed}
use Rattle.hull_polygon.proofs.encounters.encounter_in_line.Goals as goal

-- the three points are in line, seen from the point
from_point : (a b u : Pair) → orient a b u ≡ pos 0 → orient u a b ≡ pos 0
from_point a b u z = sym (orient-cycle a b u) ∙ z

pub returns-then-is_among : goal.returns-then-is_among
returns-then-is_among c = λ S m na nb z.
    let a = c.args.a in
    let b = c.args.b in (
      m,
      OnSegment a b (start_there a b) (end_there a b)
          (among_on_segment a c.args.u b z (passed _ _ c.if-is_among.true c.is_among.ensures)),
    )

pub returns-then-is_among-2 : goal.returns-then-is_among-2
returns-then-is_among-2 c = λ S m na nb z.
    let u = c.args.u in
    shielded_in_line S u c.args.a c.args.b m na
    (among_on_segment u c.args.a c.args.b (orient_swap_zero u c.args.a c.args.b (from_point c.args.a c.args.b u z))
    (passed _ _ c.if-is_among-2.true c.is_among-else-is_among.ensures))

pub returns-else-is_among-2 : goal.returns-else-is_among-2
returns-else-is_among-2 c = λ S m na nb z.
    let u = c.args.u in
    shielded_in_line S u c.args.b c.args.a m nb
    (among_on_segment u c.args.b c.args.a (from_point c.args.a c.args.b u z)
    (third_among c.args.a c.args.b u (failed _ _ c.if-is_among.false c.is_among.ensures)
    (failed _ _ c.if-is_among-2.false c.is_among-else-is_among.ensures)))
