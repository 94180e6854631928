-- a point that waits stays in the set; another is added, and the points that wait go on doing so
use Rattle.std.proofs.Common.{◌∙◌, ap, subst, ℕ, arith}
use Rattle.hull_set.specs.Held.{Held}
use Rattle.hull_set.specs.Replies.{Answers, after, reply_to_add}
use Rattle.hull_set.specs.declared.call.Call.TheVariants.{Add}
use Rattle.hull_set.specs.declared.rules.Rules.TheVariants.{Counted}
use Rattle.std.specs.List.{Contains}
use Rattle.deferring_set.specs.Removals.{without_all}
use Rattle.deferring_set.proofs.Changes.{Carries, adds}
use Rattle.deferring_set.proofs.Removals.{count_all, deferred_remove, members_all, without_remove}
use Rattle.deferring_set.proofs.deferring_set.DeferringSet.add.Given.{Over}
use Rattle.deferring_set.proofs.deferring_set.DeferringSet.add.Goals as goal

pub invariant_of-self : goal.invariant_of-self
invariant_of-self g c =
    rw c.remove.ensures.items
    (deferred_remove _ c.in-Some.i c.args.p _ (rw c.as_slice.ensures.value at c.in-Some.ensures.inside)
    (rw c.as_slice.ensures.value at c.in-Some.ensures.found) c.self.invariant)

pub returns-in-Some-clause-reply : goal.returns-in-Some-clause-reply
returns-in-Some-clause-reply g c =
    let inside = rw c.as_slice.ensures.value at c.in-Some.ensures.inside in
    let waits : Contains c.self.inside.removed.items c.args.p = (c.in-Some.i, inside, rw c.as_slice.ensures.value at c.in-Some.ensures.found) in
    let all = count_all c.self.inside.removed.items _ c.self.invariant in
    rw (← c.self.view_is) (
      λ m. ((members_all c.self.inside.removed.items _ c.args.p c.self.invariant.in_order).0 m).1 waits,
      omega (arith, all, inside, c.count-count.ensures.reply, c.count-count.ensures.room),
    )

pub returns-in-Some-clause-effect : goal.returns-in-Some-clause-effect
returns-in-Some-clause-effect g c =
    rw (← c.self.view_is, c.remove.ensures.items)
    (without_remove _ c.in-Some.i c.args.p _ (rw c.as_slice.ensures.value at c.in-Some.ensures.inside)
    (rw c.as_slice.ensures.value at c.in-Some.ensures.found) c.self.invariant)

-- the call on the set with the points that wait
carried : (g : Over) (c : goal.After-add g) → Carries c.self-in-None.inside.removed.items
    (g.S.HullSet.held c.self-in-None.inside.set) (g.S.HullSet.bound c.self-in-None.inside.set) (Add c.args.p) (reply_to_add c.add.result)
carried g c =
    let absent = rw c.as_slice.ensures.value at c.in-None.ensures.absent in
    let fewer = rw (← c.self.view_is, ← c.self-in-None.view_is) at c.carry_out_at_limit.ensures.fewer in
    adds _ _ _ c.args.p c.add.result c.self-in-None.invariant (fewer c.args.p absent)
    (rw (← c.self-in-None.view_is) at c.carry_out_at_limit.ensures.space) c.add.ensures.reply

pub invariant_of-self-in-None : goal.invariant_of-self-in-None
invariant_of-self-in-None g c = rw c.add.ensures.effect (carried g c).deferred

pub returns-in-None-clause-reply : goal.returns-in-None-clause-reply
returns-in-None-clause-reply g c =
    let held = rw (← c.self-in-None.view_is) at c.carry_out_at_limit.ensures.held in
    let limit = rw (← c.self-in-None.view_is) at c.carry_out_at_limit.ensures.same_limit in
    subst (λ (z : Held × ℕ). Answers Counted z.0 z.1 (Add c.args.p) (reply_to_add c.add.result)) (λ i. (held i, limit i))
    (carried g c).answers

pub returns-in-None-clause-effect : goal.returns-in-None-clause-effect
returns-in-None-clause-effect g c =
    let held = rw (← c.self-in-None.view_is) at c.carry_out_at_limit.ensures.held in
    ap (without_all c.self-in-None.inside.removed.items) c.add.ensures.effect
    ∙ ((carried g c).effect ∙ ap (λ (z : Held). after z (Add c.args.p) (reply_to_add c.add.result)) held)
