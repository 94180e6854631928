-- two leaves in order make a fork, whose two searches take no turn
use Rattle.std.proofs.Common.{refl, arith, ◌≡◌}
use Rattle.bridge_search.specs.Trees.{Leaf}
use Rattle.hull_tree.specs.Changes.{height_at}
use Rattle.hull_tree.proofs.Costs.{costs_more}
use Rattle.hull_tree.proofs.change.separated.Goals as goal

pub returns-clause-cost_first : goal.returns-clause-cost_first
returns-clause-cost_first c =
    let y : height_at c.leaf.result ≡ 0 = rw c.leaf.ensures.tree refl in
    let z : height_at c.leaf-2.result ≡ 0 = rw c.leaf-2.ensures.tree refl in
    costs_more (Leaf c.args.first.0) _ c.args.first.0 0 _ _ (0, (refl, refl), omega arith)
    (rw c.leaf.ensures.tree at c.join.ensures.cost_left) (omega (arith, c.join.ensures.within))

pub returns-clause-cost_last : goal.returns-clause-cost_last
returns-clause-cost_last c =
    let y : height_at c.leaf.result ≡ 0 = rw c.leaf.ensures.tree refl in
    let z : height_at c.leaf-2.result ≡ 0 = rw c.leaf-2.ensures.tree refl in
    costs_more (Leaf c.args.last.0) _ c.args.last.0 0 _ _ (0, (refl, refl), omega arith)
    (rw c.leaf-2.ensures.tree at c.join.ensures.cost_right) (omega (arith, c.join.ensures.within))
