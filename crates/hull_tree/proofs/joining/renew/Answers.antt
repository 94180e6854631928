-- the two bridges, the height and the nearness that are stored are those that were searched or computed
use Rattle.std.proofs.Common.{◌≡◌, refl, Some}
use Rattle.hull_tree.specs.Nodes.{below_of}
use Rattle.hull_tree.proofs.Renewed.{renewed_well, dearer_on_both}
use Rattle.hull_tree.proofs.joining.renew.Goals as goal

pub returns-clause-built : goal.returns-clause-built
returns-clause-built c =
    let b : below_of c.args.node.now ≡ Some c.deref.result.now = rw (c.in-Some.is, c.deref.ensures) refl in
    rw c.keep.ensures
    (renewed_well _ _ _ _ _ _ c.requires.separated b c.requires.balanced c.search_both-found.ensures.upper
    c.search_both-found.ensures.lower c.search_both-found.ensures.height c.search_both-found.ensures.near)

pub returns-clause-cost_left : goal.returns-clause-cost_left
returns-clause-cost_left c =
    let b : below_of c.args.node.now ≡ Some c.deref.result.now = rw (c.in-Some.is, c.deref.ensures) refl in
    rw c.keep.ensures (dearer_on_both _ _ _ _ _ _ _ c.requires.separated b c.search_both-found.ensures.cost).0

pub returns-clause-cost_right : goal.returns-clause-cost_right
returns-clause-cost_right c =
    let b : below_of c.args.node.now ≡ Some c.deref.result.now = rw (c.in-Some.is, c.deref.ensures) refl in
    rw c.keep.ensures (dearer_on_both _ _ _ _ _ _ _ c.requires.separated b c.search_both-found.ensures.cost).1
