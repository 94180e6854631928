-- a rotation by 180 degrees keeps each point at its depth
use Rattle.std.proofs.Common.{sym, ◌∙◌}
use Rattle.bridge_search.specs.TurnedTrees.{height_turned}
use Rattle.bridge_search.proofs.turned.TurnedHalf.height.Goals as goal

pub returns : goal.returns
returns g c = c.height.ensures ∙ sym (height_turned (g.H.Half.tree c.args.self.half))
