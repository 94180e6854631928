-- the vertices are a candidate list on both sides
use Rattle.bucket_tree.proofs.NodeCandidateLists.{node_answers}
use Rattle.bucket_tree.proofs.questions.vertices_answer.Goals as goal

pub returns : goal.returns
returns c = node_answers c.args.node.now c.requires
