-- differences of near coordinates are below 2^31, so their product fits 64 bits
use Rattle.std.proofs.Common.{◌∙◌}
use Rattle.lattice.proofs.Casts.{cast_near_difference, cast_near_product, near_within}
use Rattle.lattice.proofs.near.product_of_differences.Goals as goal

pub multiplied-requires : goal.multiplied-requires
multiplied-requires c =
    rw (
      cast_near_difference c.args.u c.args.v c.requires.first c.requires.second,
      cast_near_difference c.args.p c.args.q c.requires.third c.requires.fourth,
    )
    (near_within c.args.u c.args.v c.args.p c.args.q c.requires.first c.requires.second c.requires.third
    c.requires.fourth)

pub returns-clause-value : goal.returns-clause-value
returns-clause-value c =
    cast_near_product c.multiplied.result c.multiplied.ensures.size
    ∙ (rw (
      cast_near_difference c.args.u c.args.v c.requires.first c.requires.second,
      cast_near_difference c.args.p c.args.q c.requires.third c.requires.fourth,
    ) at c.multiplied.ensures.value)
