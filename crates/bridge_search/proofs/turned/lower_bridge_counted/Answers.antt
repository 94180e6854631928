-- the upper bridge of the two halves rotated by 180 degrees is their lower bridge, and a rotation keeps the heights
use Rattle.std.proofs.Common.{arith}
use Rattle.bridge_search.specs.TurnedTrees.{halves_turned, lower_from_turned, height_turned}
use Rattle.bridge_search.proofs.Depths.{sum_turned}
use Rattle.bridge_search.proofs.turned.lower_bridge_counted.Goals as goal

pub upper_bridge_counted-first-requires : goal.upper_bridge_counted-first-requires
upper_bridge_counted-first-requires g c =
    rw (c.new.ensures, c.new-2.ensures) (halves_turned (g.H.Half.tree c.args.u) (g.H.Half.tree c.args.w) c.requires)

pub returns-clause-bridge : goal.returns-clause-bridge
returns-clause-bridge g c =
    rw (c.turned.ensures, c.turned-2.ensures)
    (lower_from_turned (g.H.Half.tree c.args.u)
    (g.H.Half.tree c.args.w) c.upper_bridge_counted-first.result.0.0 c.upper_bridge_counted-first.result.0.1
    (rw (c.new.ensures, c.new-2.ensures) at c.upper_bridge_counted-first.ensures.bridge))

pub returns-clause-depths : goal.returns-clause-depths
returns-clause-depths g c =
    rw (c.turned.ensures, c.turned-2.ensures)
    (sum_turned (g.H.Half.tree c.args.u)
    (g.H.Half.tree c.args.w) c.upper_bridge_counted-first.result.0.0 c.upper_bridge_counted-first.result.0.1 _
    (rw (c.new.ensures, c.new-2.ensures) at c.upper_bridge_counted-first.ensures.depths))

pub returns-clause-few : goal.returns-clause-few
returns-clause-few g c =
    omega (
      arith,
      height_turned (g.H.Half.tree c.args.u),
      height_turned (g.H.Half.tree c.args.w),
      (rw (c.new.ensures, c.new-2.ensures) at c.upper_bridge_counted-first.ensures.few),
    )
