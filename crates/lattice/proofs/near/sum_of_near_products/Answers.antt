-- two products that fit 64 bits have a sum that fits
use Rattle.std.proofs.Common.{◌∙◌}
use Rattle.lattice.proofs.Casts.{cast_long, cast_near_sum, near_sum_within}
use Rattle.lattice.proofs.near.sum_of_near_products.Goals as goal

pub returns-clause-value : goal.returns-clause-value
returns-clause-value c =
    cast_near_sum c.multiplied.result c.multiplied-2.result c.multiplied.ensures.size c.multiplied-2.ensures.size
    ∙ (rw (
      c.multiplied.ensures.value,
      c.multiplied-2.ensures.value,
      cast_long c.args.u c.ranges.u,
      cast_long c.args.p c.ranges.p,
      cast_long c.args.v c.ranges.v,
      cast_long c.args.q c.ranges.q,
    ))

pub returns-clause-size : goal.returns-clause-size
returns-clause-size c =
    let h = c.multiplied.ensures.size in
    let k = c.multiplied-2.ensures.size in
    rw (cast_near_sum c.multiplied.result c.multiplied-2.result h k)
    (near_sum_within c.multiplied.result c.multiplied-2.result h k)
