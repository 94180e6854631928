-- no point waits when the set is asked
use Rattle.std.proofs.Common.{◌∙◌, sym, ap, subst, ℕ}
use Rattle.hull_set.specs.Held.{Held}
use Rattle.hull_set.specs.Replies.{Answers, after}
use Rattle.hull_set.specs.declared.rules.Rules.TheVariants.{Counted}
use Rattle.deferring_set.proofs.Changes.{ordered_after}
use Rattle.deferring_set.proofs.Removals.{deferred_none, settled}
use Rattle.deferring_set.proofs.deferring_set.DeferringSet.ask.Goals as goal

pub invariant_of-self : goal.invariant_of-self
invariant_of-self g c =
    let none = rw (← c.self.view_is) at c.carry_out.ensures.none in
    rw (none, c.apply.ensures.effect) (deferred_none _ (ordered_after _ c.args.call.now c.apply.result c.self.invariant.in_order))

pub returns-clause-allowed : goal.returns-clause-allowed
returns-clause-allowed g c =
    let none = rw (← c.self.view_is) at c.carry_out.ensures.none in
    let held = rw (← c.self.view_is) at c.carry_out.ensures.held in
    let limit = rw (← c.self.view_is) at c.carry_out.ensures.same_limit in
    let same = sym (settled _ _ none) ∙ held in
    subst (λ (z : Held × ℕ). Answers Counted z.0 z.1 c.args.call.now c.apply.result) (λ i. (same i, limit i))
    c.apply.ensures.allowed

pub returns-clause-effect : goal.returns-clause-effect
returns-clause-effect g c =
    let none = rw (← c.self.view_is) at c.carry_out.ensures.none in
    let held = rw (← c.self.view_is) at c.carry_out.ensures.held in
    settled _ _ none ∙ (c.apply.ensures.effect ∙ ap (λ (z : Held). after z c.args.call.now c.apply.result)
    (sym (settled _ _ none) ∙ held))
