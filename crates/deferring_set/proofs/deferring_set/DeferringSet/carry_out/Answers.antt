-- each point that waits has multiplicity one, so it leaves the set
use Rattle.std.proofs.Common.{◌∙◌}
use Rattle.deferring_set.proofs.Changes.{leaves_last}
use Rattle.deferring_set.proofs.deferring_set.DeferringSet.carry_out.Goals as goal

pub loop-removed-preserved : goal.loop-removed-preserved
loop-removed-preserved g c =
    let r = leaves_last _ _ _ _ (g.S.HullSet.bound c.loop-removed.self-inside.set) _ _
    (rw (← c.removed.view_is) at c.in-Some.ensures.items) c.loop-removed.invariant.deferred c.remove.ensures.reply
    c.remove.ensures.effect in
    record {
      deferred = r.0;
      held = r.1 ∙ c.loop-removed.invariant.held;
      limit = c.remove.ensures.same_limit ∙ c.loop-removed.invariant.limit;
    }
