-- the tangents touch the vertices at the points where they touch the points
use Rattle.std.proofs.Common.{subst}
use Rattle.bridge_search.specs.Leaves.{points_of}
use Rattle.hull_set.specs.Replies.{AnswersTangents, reply_to_tangents}
use Rattle.bucket_tree.specs.Nodes.{tree_of, points_below}
use Rattle.bucket_tree.proofs.NodeAnswers.{tangents_for}
use Rattle.bucket_tree.proofs.questions.tangents.Goals as goal

pub returns : goal.returns
returns c = tangents_for (tree_of c.args.node.now) (points_below c.args.node.now) c.args.q c.tangents.result
    c.vertices_answer.ensures
    (subst (λ z. AnswersTangents (points_of z) c.args.q (reply_to_tangents c.tangents.result)) c.new.ensures
    c.tangents.ensures)
