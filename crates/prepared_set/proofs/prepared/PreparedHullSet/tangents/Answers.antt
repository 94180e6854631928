-- the vertices are those of the set
use Rattle.std.proofs.Common.{subst}
use Rattle.hull_set.specs.Replies.{AnswersTangents, reply_to_tangents}
use Rattle.prepared_set.proofs.Knowing.{by_vertices}
use Rattle.prepared_set.proofs.prepared.PreparedHullSet.tangents.Goals as goal

pub returns-in-Known : goal.returns-in-Known
returns-in-Known g c =
    subst (λ w. AnswersTangents (g.S.HullSet.held w.set).points c.args.q (reply_to_tangents c.tangents.result)) c.self.view_is
    (by_vertices _ _ _ _ _ (λ S. AnswersTangents S c.args.q (reply_to_tangents c.tangents.result)) c.self.invariant
    c.in-Known.is c.polygon.ensures.vertices c.tangents.ensures)
