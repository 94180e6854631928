-- the vertices cover what the points cover
use Rattle.std.proofs.Common.{subst}
use Rattle.bridge_search.specs.Leaves.{points_of}
use Rattle.hull_set.specs.Replies.{LiesAt}
use Rattle.bucket_tree.specs.Nodes.{tree_of, points_below}
use Rattle.bucket_tree.proofs.NodeAnswers.{lies_for}
use Rattle.bucket_tree.proofs.questions.place.Goals as goal

pub returns : goal.returns
returns c = lies_for (points_of (tree_of c.args.node.now)) (points_below c.args.node.now) c.args.q c.place.result
    c.vertices_answer.ensures (subst (λ z. LiesAt (points_of z) c.args.q c.place.result) c.new.ensures c.place.ensures)
