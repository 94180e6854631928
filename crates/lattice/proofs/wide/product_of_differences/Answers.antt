-- differences of coordinates are below 2^42, so their product fits 128 bits
use Rattle.std.proofs.Common.{◌∙◌, rules}
use Rattle.lattice.proofs.Casts.{cast128, cast_difference, minor_within, minor_small}
use Rattle.lattice.proofs.wide.product_of_differences.Goals as goal

pub multiplied-requires : goal.multiplied-requires
multiplied-requires c =
    rw (
      cast_difference c.args.u c.args.v c.requires.first c.requires.second,
      cast_difference c.args.p c.args.q c.requires.third c.requires.fourth,
    )
    (minor_small _ (minor_within c.args.u c.args.v c.args.p c.args.q c.requires.first c.requires.second c.requires.third
    c.requires.fourth))

pub returns-clause-value : goal.returns-clause-value
returns-clause-value c =
    cast128 c.multiplied.result (search rules)
    ∙ (rw (
      cast_difference c.args.u c.args.v c.requires.first c.requires.second,
      cast_difference c.args.p c.args.q c.requires.third c.requires.fourth,
    ) at c.multiplied.ensures.value)

pub returns-clause-size : goal.returns-clause-size
returns-clause-size c =
    rw (returns-clause-value c)
    (minor_within c.args.u c.args.v c.args.p c.args.q c.requires.first c.requires.second c.requires.third
    c.requires.fourth)
