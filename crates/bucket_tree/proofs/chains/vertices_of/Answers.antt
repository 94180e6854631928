-- the lower chain and then the upper chain, each without its last vertex, are the vertex list
use Rattle.std.proofs.Common.{arith}
use Rattle.lattice.proofs.Tests.{passed, failed}
use Rattle.bridge_search.specs.Trees.{Tree}
use Rattle.bridge_search.specs.Leaves.{points_of}
use Rattle.bridge_search.proofs.Leaves.{size_is_length}
use Rattle.hull_geometry.proofs.FewVertices.{vertices_few}
use Rattle.hull_questions.proofs.Walked.{vertices_alone}
use Rattle.bucket_tree.specs.Nodes.{tree_of}
use Rattle.bucket_tree.proofs.ChainWalks.{both_chains, lower_range, upper_range}
use Rattle.bucket_tree.proofs.chains.vertices_of.Goals as goal
use Rattle.bucket_tree.proofs.chains.vertices_of.Goals.{then-before+in_ok-push_range+in_ok-push_range-2, else-before+in_ok-push}

pub push_range-requires : goal.push_range-requires
push_range-requires c = record {
  whole = c.requires.whole;
  bridged = c.requires.bridged;
  between = lower_range (tree_of c.args.node.now) _ _ c.requires.bridged c.first_vertex-first.ensures c.last_vertex-last.ensures;
}

pub push_range-requires-then-before : goal.push_range-requires-then-before
push_range-requires-then-before c = record {
  whole = c.requires.whole;
  bridged = c.requires.bridged;
  between = upper_range (tree_of c.args.node.now) _ _ c.requires.bridged c.first_vertex-first.ensures c.last_vertex-last.ensures;
}

pub returns-clause-vertices : goal.returns-clause-vertices
returns-clause-vertices c =
    let t : Tree = tree_of c.args.node.now in
    elim c.if-before.branch [
      | then-before+in_ok-push_range+in_ok-push_range-2 w ↦
          both_chains t c.first_vertex-first.result c.last_vertex-last.result _ _ c.requires.bridged c.first_vertex-first.ensures
          c.last_vertex-last.ensures (passed c.before-2.result _ w.if-before.true c.before-2.ensures)
          (rw c.in_ok-out.ensures.items at w.in_ok-push_range.ensures)
          (rw (← w.out-is) at w.in_ok-push_range-2.ensures)
      | else-before+in_ok-push w ↦
          rw (w.out-is, w.in_ok-push.ensures.items, c.in_ok-out.ensures.items, c.first_vertex-first.ensures)
          (vertices_alone t c.requires.bridged
          (rw (c.first_vertex-first.ensures, c.last_vertex-last.ensures) at
          (failed c.before-2.result _ w.if-before.false c.before-2.ensures)))
    ]

pub returns-clause-few : goal.returns-clause-few
returns-clause-few c =
    let t : Tree = tree_of c.args.node.now in
    omega (arith, vertices_few (points_of t) c.if-before.out.items (returns-clause-vertices c), size_is_length t)
