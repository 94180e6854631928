-- a point that waits is absent; one of multiplicity one begins to wait
use Rattle.std.proofs.Common.{◌≡◌, ◌∙◌, ap, subst, ℕ}
use Rattle.std.specs.List.{Contains}
use Rattle.hull_set.specs.Held.{Held, with_none}
use Rattle.hull_set.specs.Replies.{Answers, after, reply_to_remove}
use Rattle.hull_set.specs.declared.call.Call.TheVariants.{Remove}
use Rattle.hull_set.specs.declared.rules.Rules.TheVariants.{Counted}
use Rattle.deferring_set.specs.Removals.{without_all}
use Rattle.deferring_set.proofs.Changes.{Carries, removes}
use Rattle.deferring_set.proofs.Removals.{deferred_push, members_all, other_all, without_push}
use Rattle.deferring_set.proofs.deferring_set.DeferringSet.remove.Given.{Over}
use Rattle.deferring_set.proofs.deferring_set.DeferringSet.remove.Goals as goal

pub returns-in-Some-clause-reply : goal.returns-in-Some-clause-reply
returns-in-Some-clause-reply g c =
    let held = rw (← c.self.view_is) at c.carry_out_when_full.ensures.held in
    let waits : Contains c.self.inside.removed.items c.args.p = (
      c.in-Some.field-0,
      rw c.as_slice.ensures.value at c.in-Some.ensures.inside,
      rw c.as_slice.ensures.value at c.in-Some.ensures.found,
    ) in
    subst (λ (z : Held). ¬ Contains z.points c.args.p) held
    (λ m. ((members_all c.self.inside.removed.items _ c.args.p c.self.invariant.in_order).0 m).1 waits)

pub invariant_of-self-then-is_deferrable : goal.invariant_of-self-then-is_deferrable
invariant_of-self-then-is_deferrable g c =
    let absent = rw c.as_slice.ensures.value at c.in-None.ensures.absent in
    rw c.push.ensures.items
    (deferred_push c.args.p _ _ c.self.invariant absent
    (c.is_deferrable.ensures.live c.if-is_deferrable.true)
    (c.is_deferrable.ensures.once c.if-is_deferrable.true))

pub returns-then-is_deferrable-clause-reply : goal.returns-then-is_deferrable-clause-reply
returns-then-is_deferrable-clause-reply g c =
    let absent = rw c.as_slice.ensures.value at c.in-None.ensures.absent in
    let held = rw (← c.self.view_is) at c.carry_out_when_full.ensures.held in
    let all = members_all c.self.inside.removed.items _ c.args.p c.self.invariant.in_order in
    subst (λ (z : Held). Contains z.points c.args.p × (Counted ≡ Counted → z.multiplicities c.args.p ≡ 1)) held (
      all.1 (c.is_deferrable.ensures.live c.if-is_deferrable.true, absent),
      λ e. other_all c.self.inside.removed.items _ c.args.p absent
          ∙ (c.is_deferrable.ensures.once c.if-is_deferrable.true),
    )

pub returns-then-is_deferrable-clause-effect : goal.returns-then-is_deferrable-clause-effect
returns-then-is_deferrable-clause-effect g c =
    let held = rw (← c.self.view_is) at c.carry_out_when_full.ensures.held in
    rw c.push.ensures.items (without_push c.args.p c.self.inside.removed.items _ ∙ ap (with_none c.args.p) held)

-- the call on the set with the points that wait
carried : (g : Over) (c : goal.After-remove g) → Carries c.self.inside.removed.items (g.S.HullSet.held c.self.inside.set)
    (g.S.HullSet.bound c.self.inside.set) (Remove c.args.p) (reply_to_remove c.remove.result)
carried g c =
    let absent = rw c.as_slice.ensures.value at c.in-None.ensures.absent in
    removes _ _ _ c.args.p c.remove.result c.self.invariant absent c.remove.ensures.reply

pub invariant_of-self-else-is_deferrable : goal.invariant_of-self-else-is_deferrable
invariant_of-self-else-is_deferrable g c = rw c.remove.ensures.effect (carried g c).deferred

pub returns-else-is_deferrable-clause-reply : goal.returns-else-is_deferrable-clause-reply
returns-else-is_deferrable-clause-reply g c =
    let held = rw (← c.self.view_is) at c.carry_out_when_full.ensures.held in
    let limit = rw (← c.self.view_is) at c.carry_out_when_full.ensures.same_limit in
    subst (λ (z : Held × ℕ). Answers Counted z.0 z.1 (Remove c.args.p) (reply_to_remove c.remove.result))
    (λ i. (held i, limit i)) (carried g c).answers

pub returns-else-is_deferrable-clause-effect : goal.returns-else-is_deferrable-clause-effect
returns-else-is_deferrable-clause-effect g c =
    let held = rw (← c.self.view_is) at c.carry_out_when_full.ensures.held in
    ap (without_all c.self.inside.removed.items) c.remove.ensures.effect
    ∙ ((carried g c).effect ∙ ap (λ (z : Held). after z (Remove c.args.p) (reply_to_remove c.remove.result)) held)
