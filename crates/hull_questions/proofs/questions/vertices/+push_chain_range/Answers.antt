-- the vertices of the left half's range, the start of the bridge, and those of the right half's range
use Rattle.std.proofs.Common.{ap, ◌∙◌, [], ◌∷◌, ◌++◌}
use Rattle.std.proofs.lemmas.Result.{IfOk-weaker}
use Rattle.lattice.specs.Plane.{Pair}
use Rattle.bridge_search.specs.Trees.{Tree, left_of, right_of}
use Rattle.hull_questions.proofs.Walked.{listed_over}
use Rattle.hull_questions.proofs.questions.vertices.+push_chain_range.Goals as goal

pub returns-in_ok-push-in-Across : goal.returns-in_ok-push-in-Across
returns-in_ok-push-in-Across g t c =
    let u : Tree = g.H.Half.tree c.args.half in
    IfOk-weaker c.push_chain_range-in-Across-2.result _ _
    (λ x k. listed_over u (left_of u)
    (right_of u) c.args.from c.in-Across.bridge.0 c.in-Across.bridge.1 c.args.to c.args.side
    _ _ _ _ c.in-Across.ensures.1.walks
    (rw c.left-in-Across.ensures at c.in_ok-push_chain_range-in-Across.ensures)
    (c.in_ok-push-in-Across.ensures.items
    ∙ ap (λ (z : Pair). c.push_chain_range-in-Across.new.out.items ++ z ∷ []) c.seen_from.ensures)
    (rw c.right-in-Across.ensures at k))
    c.push_chain_range-in-Across-2.ensures
