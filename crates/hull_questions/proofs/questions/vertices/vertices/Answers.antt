-- the lower chain and then the upper chain, each without its last vertex, are the vertex list
use Rattle.std.proofs.Common.{arith}
use Rattle.bridge_search.specs.Trees.{Tree}
use Rattle.bridge_search.specs.Leaves.{points_of}
use Rattle.bridge_search.proofs.Leaves.{size_is_length}
use Rattle.hull_geometry.proofs.FewVertices.{vertices_few}
use Rattle.hull_questions.proofs.Walked.{both_listed, vertices_alone}
use Rattle.lattice.proofs.Tests.{passed, failed}
use Rattle.hull_questions.proofs.questions.vertices.vertices.Goals as goal
use Rattle.hull_questions.proofs.questions.vertices.vertices.Goals.{then-before+in_ok-push_chain+in_ok-push_chain-2}
use Rattle.hull_questions.proofs.questions.vertices.vertices.Goals.{else-before+in_ok-push}

pub returns-clause-vertices : goal.returns-clause-vertices
returns-clause-vertices g c =
    let t : Tree = g.H.Half.tree c.args.half in
    elim c.if-before.branch [
      | then-before+in_ok-push_chain+in_ok-push_chain-2 w ↦
          both_listed t _ _ (g.met.H.Half.bridged c.args.half)
          (rw (c.first.ensures, c.last.ensures) at (passed c.before-2.result _ w.if-before.true c.before-2.ensures))
          (rw c.new-out.ensures.items at w.in_ok-push_chain.ensures)
          (rw (w.new.ensures, ← w.out-is) at w.in_ok-push_chain-2.ensures)
      | else-before+in_ok-push w ↦
          rw (w.out-is, w.in_ok-push.ensures.items, c.new-out.ensures.items, w.first-else-before.ensures)
          (vertices_alone t (g.met.H.Half.bridged c.args.half)
          (rw (c.first.ensures, c.last.ensures) at
          (failed c.before-2.result _ w.if-before.false c.before-2.ensures)))
    ]

pub returns-clause-few : goal.returns-clause-few
returns-clause-few g c =
    let t : Tree = g.H.Half.tree c.args.half in
    omega (arith, vertices_few (points_of t) c.if-before.out.items (returns-clause-vertices g c), size_is_length t)
