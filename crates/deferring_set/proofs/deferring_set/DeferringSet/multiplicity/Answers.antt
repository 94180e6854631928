-- a point that waits has multiplicity 0, and any other that of the set
use Rattle.std.proofs.Common.{◌∙◌, sym, arith}
use Rattle.std.specs.List.{Contains}
use Rattle.deferring_set.proofs.Removals.{gone_all, members_all, other_all}
use Rattle.deferring_set.proofs.deferring_set.DeferringSet.multiplicity.Goals as goal

pub returns-in-Some-clause-multiplicities : goal.returns-in-Some-clause-multiplicities
returns-in-Some-clause-multiplicities g c =
    let waits : Contains c.self.inside.removed.items c.args.p = (
      c.in-Some.field-0,
      rw c.as_slice.ensures.value at c.in-Some.ensures.inside,
      rw c.as_slice.ensures.value at c.in-Some.ensures.found,
    ) in
    rw (← c.self.view_is) (sym (gone_all c.self.inside.removed.items _ c.args.p waits (c.self.invariant.once _ waits).1))

pub returns-in-Some-clause-live : goal.returns-in-Some-clause-live
returns-in-Some-clause-live g c =
    let waits : Contains c.self.inside.removed.items c.args.p = (
      c.in-Some.field-0,
      rw c.as_slice.ensures.value at c.in-Some.ensures.inside,
      rw c.as_slice.ensures.value at c.in-Some.ensures.found,
    ) in
    rw (← c.self.view_is)
    (λ m. absurd (((members_all c.self.inside.removed.items _ c.args.p c.self.invariant.in_order).0 m).1 waits), λ l. absurd (omega (arith, l)))

pub returns-in-None-clause-multiplicities : goal.returns-in-None-clause-multiplicities
returns-in-None-clause-multiplicities g c =
    let other = rw (c.as_slice.ensures.value) at c.in-None.ensures.absent in
    rw (← c.self.view_is) (c.multiplicity.ensures.multiplicities ∙ sym (other_all c.self.inside.removed.items _ c.args.p other))

pub returns-in-None-clause-live : goal.returns-in-None-clause-live
returns-in-None-clause-live g c =
    let other = rw (c.as_slice.ensures.value) at c.in-None.ensures.absent in
    let all = members_all c.self.inside.removed.items _ c.args.p c.self.invariant.in_order in
    rw (← c.self.view_is)
    (λ m. c.multiplicity.ensures.live.0 (all.0 m).0, λ l. all.1 (c.multiplicity.ensures.live.1 l, other))
