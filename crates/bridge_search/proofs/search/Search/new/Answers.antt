-- before the first turn the halves reached are the two themselves
use Rattle.bridge_search.proofs.Turns as turns
use Rattle.bridge_search.proofs.search.Search.new.Goals as goal

pub returns : goal.returns
returns g c =
    turns.reached_none (g.H.Half.tree c.args.u) (g.H.Half.tree c.args.w) (g.met.H.Half.bridged c.args.u)
    (g.met.H.Half.bridged c.args.w) c.requires.in_order c.args.split c.requires.split
