-- the first point of a rotated half is the last one, rotated
use Rattle.std.proofs.Common.{sym, ap, ◌∙◌}
use Rattle.lattice.specs.Plane.{turned_point}
use Rattle.bridge_search.specs.TurnedTrees.{first_turned}
use Rattle.bridge_search.proofs.turned.TurnedHalf.first.Goals as goal

pub returns : goal.returns
returns g c = c.turned.ensures ∙ ap turned_point c.last.ensures ∙ sym (first_turned (g.H.Half.tree c.args.self.half))
