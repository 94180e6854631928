-- the last point of a rotated half is the first one, rotated
use Rattle.std.proofs.Common.{sym, ap, ◌∙◌}
use Rattle.lattice.specs.Plane.{turned_point}
use Rattle.bridge_search.specs.TurnedTrees.{last_turned}
use Rattle.bridge_search.proofs.turned.TurnedHalf.last.Goals as goal

pub returns : goal.returns
returns g c = c.turned.ensures ∙ ap turned_point c.first.ensures ∙ sym (last_turned (g.H.Half.tree c.args.self.half))
