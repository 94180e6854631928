-- both products of differences are below 2^84, so the casts and the difference lose nothing
use Rattle.std.proofs.Common.{◌∙◌, ◌*◌, arith}
use borrow.Author.Differences.{ints}
use Rattle.lattice.specs.Plane.{widest, orient}
use Rattle.lattice.specs.Integers.{within_sub}
use Rattle.lattice.proofs.Casts.{cast_sub, minor_small, cast_returned}
use Rattle.lattice.proofs.compare.orient.Goals as goal

pub overflow_sub-result : goal.overflow_sub-result
overflow_sub-result c =
    let h = c.product_of_differences.ensures.size in
    let k = c.product_of_differences-2.ensures.size in
    omega (arith, ints)

pub returns-clause-size : goal.returns-clause-size
returns-clause-size c =
    rw (cast_sub c.product_of_differences.result c.product_of_differences-2.result
    (minor_small _ c.product_of_differences.ensures.size) (minor_small _ c.product_of_differences-2.ensures.size))
    (within_sub (4 * (widest * widest))
    (4 * (widest * widest)) c.product_of_differences.result c.product_of_differences-2.result
    c.product_of_differences.ensures.size c.product_of_differences-2.ensures.size)

pub returns-clause-value : goal.returns-clause-value
unfolding orient
returns-clause-value c =
    cast_sub c.product_of_differences.result c.product_of_differences-2.result
    (minor_small _ c.product_of_differences.ensures.size) (minor_small _ c.product_of_differences-2.ensures.size)
    ∙ (rw (
      c.product_of_differences.ensures.value,
      c.product_of_differences-2.ensures.value,
      cast_returned c.x.result c.args.b.x c.x.ensures.range c.x.ensures.value,
      cast_returned c.x-2.result c.args.a.x c.x-2.ensures.range c.x-2.ensures.value,
      cast_returned c.y.result c.args.c.y c.y.ensures.range c.y.ensures.value,
      cast_returned c.y-2.result c.args.a.y c.y-2.ensures.range c.y-2.ensures.value,
      cast_returned c.y-3.result c.args.b.y c.y-3.ensures.range c.y-3.ensures.value,
      cast_returned c.y-4.result c.args.a.y c.y-4.ensures.range c.y-4.ensures.value,
      cast_returned c.x-3.result c.args.c.x c.x-3.ensures.range c.x-3.ensures.value,
      cast_returned c.x-4.result c.args.a.x c.x-4.ensures.range c.x-4.ensures.value,
    ))
