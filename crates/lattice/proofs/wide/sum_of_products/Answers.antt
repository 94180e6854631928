-- products of differences of coordinates fit 128 bits, and so does the sum of two
use Rattle.std.proofs.Common.{◌∙◌, ◌*◌, arith, lit≤}
use lib.IntN.{◌*ℤ◌}
use borrow.Author.Differences.{ints}
use Rattle.lattice.specs.Plane.{widest, widest_side}
use Rattle.lattice.specs.Integers.{within_add, within_mul, within_more}
use Rattle.lattice.proofs.Casts.{cast_wide, cast_add, pair_small}
use Rattle.lattice.proofs.wide.sum_of_products.Goals as goal

pub multiplied-requires : goal.multiplied-requires
multiplied-requires c =
    rw (cast_wide c.args.u c.requires.first, cast_wide c.args.p c.requires.second)
    (pair_small c.args.u c.args.p c.requires.first c.requires.second)

pub multiplied-requires-2 : goal.multiplied-requires-2
multiplied-requires-2 c =
    rw (cast_wide c.args.v c.requires.third, cast_wide c.args.q c.requires.fourth)
    (pair_small c.args.v c.args.q c.requires.third c.requires.fourth)

pub overflow_add-result : goal.overflow_add-result
overflow_add-result c =
    let h = c.multiplied.ensures.size in
    let k = c.multiplied-2.ensures.size in
    omega (arith, ints)

pub returns-clause-value : goal.returns-clause-value
returns-clause-value c =
    cast_add c.multiplied.result c.multiplied-2.result c.multiplied.ensures.size c.multiplied-2.ensures.size
    ∙ (rw (
      c.multiplied.ensures.value,
      c.multiplied-2.ensures.value,
      cast_wide c.args.u c.requires.first,
      cast_wide c.args.p c.requires.second,
      cast_wide c.args.v c.requires.third,
      cast_wide c.args.q c.requires.fourth,
    ))

pub returns-clause-size : goal.returns-clause-size
returns-clause-size c =
    rw (returns-clause-value c)
    (within_more _ widest_side _ (lit≤ tt)
    (within_add (2 * widest * (2 * widest)) (2 * widest * (2 * widest)) (c.args.u *ℤ c.args.p) (c.args.v *ℤ c.args.q)
    (within_mul (2 * widest) (2 * widest) c.args.u c.args.p c.requires.first c.requires.second)
    (within_mul (2 * widest) (2 * widest) c.args.v c.args.q c.requires.third c.requires.fourth)))
