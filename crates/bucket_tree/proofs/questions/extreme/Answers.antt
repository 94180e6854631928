-- the first of the farthest vertices is the first of the farthest points
use Rattle.std.proofs.Common.{subst}
use Rattle.bridge_search.specs.Leaves.{points_of}
use Rattle.hull_geometry.specs.Tangents.{IsFirstFarthest}
use Rattle.bucket_tree.proofs.questions.extreme.Goals as goal

pub returns : goal.returns
returns c = c.vertices_answer.ensures.farthest c.args.d c.extreme.result
    (subst (λ z. IsFirstFarthest (points_of z) c.args.d c.extreme.result) c.new.ensures c.extreme.ensures)
