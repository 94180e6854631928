-- the weighted sum of x decides unless it is 0, and then that of y does
use Rattle.std.proofs.Common.{rules}
use Rattle.lattice.proofs.Casts.{cast64, cast_returned, coordinate_within}
use Rattle.lattice.proofs.Weights.{weight_returned, before_in_x, after_in_x, by_y}
use Rattle.lattice.proofs.crossing.weighted_at_or_before.Goals as goal

pub weighted-requires-clause-third : goal.weighted-requires-clause-third
weighted-requires-clause-third c =
    rw (cast64 _ (coordinate_within _ c.y.ensures.range)) (coordinate_within _ c.y.ensures.range)

pub weighted-requires-clause-fourth : goal.weighted-requires-clause-fourth
weighted-requires-clause-fourth c =
    rw (cast64 _ (coordinate_within _ c.y-2.ensures.range)) (coordinate_within _ c.y-2.ensures.range)

pub weighted-requires-clause-fifth : goal.weighted-requires-clause-fifth
weighted-requires-clause-fifth c =
    rw (cast64 _ (coordinate_within _ c.y-3.ensures.range)) (coordinate_within _ c.y-3.ensures.range)

pub returns-then-x-lt0 : goal.returns-then-x-lt0
returns-then-x-lt0 c =
    before_in_x _ _ _ _ _
    (weight_returned c.weighted-x.result c.args.u c.args.v c.x.result c.x-2.result c.x-3.result c.args.d.x c.args.c.x
    c.args.m.x (search rules) c.ranges.u c.ranges.v
    (cast_returned c.x.result c.args.d.x c.x.ensures.range c.x.ensures.value)
    (cast_returned c.x-2.result c.args.c.x c.x-2.ensures.range c.x-2.ensures.value)
    (cast_returned c.x-3.result c.args.m.x c.x-3.ensures.range c.x-3.ensures.value)
    c.weighted-x.ensures) c.if-x-lt0.true

pub returns-then-x-gt0 : goal.returns-then-x-gt0
returns-then-x-gt0 c =
    after_in_x _ _ _ _ _
    (weight_returned c.weighted-x.result c.args.u c.args.v c.x.result c.x-2.result c.x-3.result c.args.d.x c.args.c.x
    c.args.m.x (search rules) c.ranges.u c.ranges.v
    (cast_returned c.x.result c.args.d.x c.x.ensures.range c.x.ensures.value)
    (cast_returned c.x-2.result c.args.c.x c.x-2.ensures.range c.x-2.ensures.value)
    (cast_returned c.x-3.result c.args.m.x c.x-3.ensures.range c.x-3.ensures.value)
    c.weighted-x.ensures) c.if-x-gt0.true

pub returns : goal.returns
returns c =
    by_y _ _ _ _ _ _ (weight_returned c.weighted-x.result c.args.u c.args.v c.x.result c.x-2.result c.x-3.result c.args.d.x
    c.args.c.x c.args.m.x (search rules) c.ranges.u c.ranges.v
    (cast_returned c.x.result c.args.d.x c.x.ensures.range c.x.ensures.value)
    (cast_returned c.x-2.result c.args.c.x c.x-2.ensures.range c.x-2.ensures.value)
    (cast_returned c.x-3.result c.args.m.x c.x-3.ensures.range c.x-3.ensures.value) c.weighted-x.ensures)
    (weight_returned c.weighted.result c.args.u c.args.v c.y.result c.y-2.result c.y-3.result c.args.d.y c.args.c.y
    c.args.m.y (search rules) c.ranges.u c.ranges.v
    (cast_returned c.y.result c.args.d.y c.y.ensures.range c.y.ensures.value)
    (cast_returned c.y-2.result c.args.c.y c.y-2.ensures.range c.y-2.ensures.value)
    (cast_returned c.y-3.result c.args.m.y c.y-3.ensures.range c.y-3.ensures.value) c.weighted.ensures)
    c.if-x-lt0.false c.if-x-gt0.false
