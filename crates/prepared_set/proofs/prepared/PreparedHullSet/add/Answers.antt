-- the new point was added to the points whose vertices are known
use Rattle.std.proofs.Common.{List, ap, ◌∙◌, sym, subst}
use Rattle.lattice.specs.Plane.{Pair}
use Rattle.hull_set.specs.Replies.{after, reply_to_add}
use Rattle.hull_set.specs.declared.call.Call.TheVariants.{Add}
use Rattle.prepared_set.specs.Known.{AreVerticesOf}
use Rattle.prepared_set.proofs.prepared.PreparedHullSet.add.Goals as goal

pub invariant_of-self : goal.invariant_of-self
invariant_of-self g c =
    let held = g.S.HullSet.held c.self.inside.set in
    let e = c.add-reply.ensures.effect ∙ ap (λ r. after held (Add c.args.p) (reply_to_add r)) c.in-Added.is in
    subst (λ (S : List Pair). AreVerticesOf S c.point_comes.new.self) (sym (ap (λ h. h.points) e))
    (c.point_comes.ensures.with_it held.points c.self.invariant)
