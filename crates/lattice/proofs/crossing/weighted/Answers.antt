-- a weight below 2^84 times a difference below 2^42 fits 128 bits, and so does the sum of two
use Rattle.std.proofs.Common.{◌∙◌, arith}
use borrow.Author.Differences.{ints}
use Rattle.lattice.proofs.Casts.{cast128, cast_difference, cast_add, weight_within, sum_fits}
use Rattle.lattice.proofs.crossing.weighted.Goals as goal

pub overflow_sub-q : goal.overflow_sub-q
overflow_sub-q c =
    let h = c.requires.fourth in
    let k = c.requires.fifth in
    omega (arith, ints)

pub multiplied-requires : goal.multiplied-requires
multiplied-requires c =
    rw (cast128 c.args.u c.ranges.u, cast_difference c.args.p c.args.r c.requires.third c.requires.fifth)
    (weight_within c.args.u c.args.p c.args.r c.requires.first c.requires.third c.requires.fifth)

pub multiplied-requires-2 : goal.multiplied-requires-2
multiplied-requires-2 c =
    rw (cast128 c.args.v c.ranges.v, cast_difference c.args.q c.args.r c.requires.fourth c.requires.fifth)
    (weight_within c.args.v c.args.q c.args.r c.requires.second c.requires.fourth c.requires.fifth)

pub overflow_add-result : goal.overflow_add-result
overflow_add-result c =
    sum_fits c.multiplied.result c.multiplied-2.result c.multiplied.ensures.size c.multiplied-2.ensures.size

pub returns : goal.returns
returns c =
    cast_add c.multiplied.result c.multiplied-2.result c.multiplied.ensures.size c.multiplied-2.ensures.size
    ∙ (rw (
      c.multiplied.ensures.value,
      c.multiplied-2.ensures.value,
      cast128 c.args.u c.ranges.u,
      cast128 c.args.v c.ranges.v,
      cast_difference c.args.p c.args.r c.requires.third c.requires.fifth,
      cast_difference c.args.q c.args.r c.requires.fourth c.requires.fifth,
    ))
