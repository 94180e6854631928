-- products of near coordinates fit 64 bits, so the casts and the difference lose nothing
use Rattle.std.proofs.Common.{◌∙◌, arith}
use borrow.Author.Differences.{ints}
use Rattle.lattice.specs.Plane.{orient}
use Rattle.lattice.proofs.Casts.{cast_near_side, near_side_within, cast_returned}
use Rattle.lattice.proofs.near.orient_near.Goals as goal

pub overflow_sub-side : goal.overflow_sub-side
overflow_sub-side c =
    let h = c.product_of_differences.ensures.size in
    let k = c.product_of_differences-2.ensures.size in
    omega (arith, ints)

pub returns-clause-value : goal.returns-clause-value
unfolding orient
returns-clause-value c =
    cast_near_side c.product_of_differences.result c.product_of_differences-2.result
    c.product_of_differences.ensures.size c.product_of_differences-2.ensures.size
    ∙ (rw (
      c.product_of_differences.ensures.value,
      c.product_of_differences-2.ensures.value,
      cast_returned c.x.result c.args.b.x c.x.ensures.range c.x.ensures.value,
      cast_returned c.x-2.result c.args.a.x c.x-2.ensures.range c.x-2.ensures.value,
      cast_returned c.y.result c.args.c.y c.y.ensures.range c.y.ensures.value,
      cast_returned c.y-2.result c.args.a.y c.y-2.ensures.range c.y-2.ensures.value,
      cast_returned c.y-3.result c.args.b.y c.y-3.ensures.range c.y-3.ensures.value,
      cast_returned c.y-4.result c.args.a.y c.y-4.ensures.range c.y-4.ensures.value,
      cast_returned c.x-3.result c.args.c.x c.x-3.ensures.range c.x-3.ensures.value,
      cast_returned c.x-4.result c.args.a.x c.x-4.ensures.range c.x-4.ensures.value,
    ))

pub returns-clause-size : goal.returns-clause-size
returns-clause-size c =
    let h = c.product_of_differences.ensures.size in
    let k = c.product_of_differences-2.ensures.size in
    rw (cast_near_side c.product_of_differences.result c.product_of_differences-2.result h k)
    (near_side_within c.product_of_differences.result c.product_of_differences-2.result h k)
