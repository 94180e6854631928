-- the point was removed from the points whose vertices are known
use Rattle.std.proofs.Common.{ap, ◌∙◌}
use Rattle.hull_set.specs.Replies.{after, reply_to_remove}
use Rattle.hull_set.specs.declared.call.Call.TheVariants.{Remove}
use Rattle.prepared_set.proofs.prepared.PreparedHullSet.remove.Goals as goal

pub invariant_of-self : goal.invariant_of-self
invariant_of-self g c =
    let held = g.S.HullSet.held c.self.inside.set in
    let e = c.remove-reply.ensures.effect ∙ ap (λ r. after held (Remove c.args.p) (reply_to_remove r)) c.in-Removed.is in
    c.point_goes.ensures.without held.points c.self.invariant (ap (λ h. h.points) e)
