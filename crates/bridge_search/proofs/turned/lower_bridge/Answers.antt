-- the upper bridge of the two halves rotated by 180 degrees is their lower bridge
use Rattle.bridge_search.specs.TurnedTrees.{halves_turned, lower_from_turned}
use Rattle.bridge_search.proofs.turned.lower_bridge.Goals as goal

pub upper_bridge-first-requires : goal.upper_bridge-first-requires
upper_bridge-first-requires g c =
    rw (c.new.ensures, c.new-2.ensures) (halves_turned (g.H.Half.tree c.args.u) (g.H.Half.tree c.args.w) c.requires)

pub returns : goal.returns
returns g c =
    rw (c.turned.ensures, c.turned-2.ensures)
    (lower_from_turned (g.H.Half.tree c.args.u)
    (g.H.Half.tree c.args.w) c.upper_bridge-first.result.0 c.upper_bridge-first.result.1
    (rw (c.new.ensures, c.new-2.ensures) at c.upper_bridge-first.ensures))
