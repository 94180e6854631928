-- the multiplicity of a point is the number in the map, at least 1, and the point is in the set if and only if the map
-- has it
use Rattle.std.proofs.Common.{◌≡◌, sym, ap, ◌∙◌, subst, arith, ◌≤◌}
use Rattle.std.specs.List.{Contains}
use Rattle.std.specs.Map.{keys_of}
use Rattle.hull_plain.specs.Sets.{LimitedSet, multiplicity_in}
use Rattle.hull_plain.proofs.Multiplicities.{multiplicity_found, multiplicity_none, live, not_live, held_found}
use Rattle.hull_plain.proofs.plain_set.PlainSetHullSet.multiplicity.Goals as goal

pub returns-in-Some-clause-multiplicities : goal.returns-in-Some-clause-multiplicities
returns-in-Some-clause-multiplicities c =
    let v : multiplicity_in c.self.inside.points.entries c.args.p ≡ multiplicity_in c.args.self.now.entries c.args.p =
    ap (λ (z : LimitedSet). multiplicity_in z.entries c.args.p) c.self.view_is in
    c.from.ensures ∙ sym (multiplicity_found _ c.args.p _ c.in-Some.ensures.value) ∙ v

pub returns-in-Some-clause-live : goal.returns-in-Some-clause-live
returns-in-Some-clause-live c =
    let above : 1 ≤ c.in-Some.multiplicity.now =
    held_found _ c.args.p _ c.self.invariant.each_held c.in-Some.ensures.value in (
      λ m. omega (arith, above, c.from.ensures),
      λ l. subst (λ (z : LimitedSet). Contains (keys_of z.entries) c.args.p) c.self.view_is
          (live _ c.args.p _ c.in-Some.ensures.value),
    )

pub returns-in-None-clause-multiplicities : goal.returns-in-None-clause-multiplicities
returns-in-None-clause-multiplicities c =
    let v : multiplicity_in c.self.inside.points.entries c.args.p ≡ multiplicity_in c.args.self.now.entries c.args.p =
    ap (λ (z : LimitedSet). multiplicity_in z.entries c.args.p) c.self.view_is in
    sym (multiplicity_none c.self.inside.points.entries c.args.p c.in-None.ensures.value) ∙ v

pub returns-in-None-clause-live : goal.returns-in-None-clause-live
returns-in-None-clause-live c =
    let away : ¬ Contains (keys_of c.args.self.now.entries) c.args.p =
    subst (λ (z : LimitedSet). ¬ Contains (keys_of z.entries) c.args.p) c.self.view_is
    (not_live c.self.inside.points.entries c.args.p c.in-None.ensures.value) in
    (λ m. absurd (away m), λ l. absurd (omega arith))
