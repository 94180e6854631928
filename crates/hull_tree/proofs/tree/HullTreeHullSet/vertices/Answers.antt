-- a set with a root is not empty, so it may be refused memory
use Rattle.std.proofs.Common.{rules, sym, ◌∙◌, []}
use Rattle.std.specs.Prelude.{◌≢◌}
use Rattle.bridge_search.proofs.Leaves.{points_not_none}
use Rattle.hull_tree.specs.Nodes.{tree_of}
use Rattle.hull_tree.specs.Roots.{points_of_root}
use Rattle.hull_tree.proofs.tree.HullTreeHullSet.vertices.Goals as goal

pub returns-in_err-vertices-in-Some-clause-reply : goal.returns-in_err-vertices-in-Some-clause-reply
returns-in_err-vertices-in-Some-clause-reply c =
    let n : points_of_root c.args.self.now.root ≢ [] =
    λ e. points_not_none (tree_of c.in-Some.half.node.now) (sym c.in-Some.ensures.points ∙ e) in
    search rules
