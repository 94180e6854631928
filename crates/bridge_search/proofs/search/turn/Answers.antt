-- two halves without edges are one point each, and then the search is done
use Rattle.std.proofs.Common.{sym, ◌∙◌}
use Rattle.bridge_search.proofs.Turns as turns
use Rattle.bridge_search.proofs.search.turn.Goals as goal

pub returns-in-None-None : goal.returns-in-None-None
returns-in-None-None g c =
    turns.done (g.H.Half.tree c.args.u) (g.H.Half.tree c.args.w) c.args.m c.requires
    (sym c.edge.ensures ∙ c.in-None-None.is-0) (sym c.edge-2.ensures ∙ c.in-None-None.is-1)
