-- the vertices are those of the set
use Rattle.std.proofs.Common.{subst}
use Rattle.hull_set.specs.Replies.{AnswersExtreme, reply_to_extreme}
use Rattle.prepared_set.proofs.Knowing.{by_vertices}
use Rattle.prepared_set.proofs.prepared.PreparedHullSet.extreme.Goals as goal

pub returns-in-Known : goal.returns-in-Known
returns-in-Known g c =
    subst (λ w. AnswersExtreme (g.S.HullSet.held w.set).points c.args.d (reply_to_extreme c.extreme.result)) c.self.view_is
    (by_vertices _ _ _ _ _ (λ S. AnswersExtreme S c.args.d (reply_to_extreme c.extreme.result)) c.self.invariant
    c.in-Known.is c.polygon.ensures.vertices c.extreme.ensures)
