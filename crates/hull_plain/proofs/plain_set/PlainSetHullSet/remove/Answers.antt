-- a multiplicity of more than 1 is lowered in the map; else the key is removed, and the hull chains are repaired
use Rattle.std.proofs.Common.{◌≡◌, ℕ, sym, ap, ◌∙◌, subst, refl, List, arith, ◌-◌, ◌+◌, ◌≤◌, Some, None}
use Rattle.std.specs.Prelude.{IsSome}
use Rattle.std.specs.List.{Contains}
use Rattle.std.specs.BTreeMap.{is_at}
use Rattle.std.specs.Map.{keys_of, remove_entry}
use Rattle.std.proofs.lemmas.Map.Steps.{set_value_same}
use Rattle.lattice.specs.Covers.{IsPointSet}
use Rattle.lattice.specs.Plane.{Pair}
use Rattle.hull_set.specs.Held.{with_none, with_one_less}
use Rattle.hull_plain.specs.Sets.{LimitedSet, held_in, multiplicity_in}
use Rattle.hull_set.specs.declared.rules.Rules.TheVariants.{Counted}
use Rattle.hull_plain.proofs.Multiplicities.{multiplicity_found, live, not_live, held_found, PutsAt, lowered_is}
use Rattle.hull_set.proofs.HeldMultiplicities.{same_held}
use Rattle.hull_set.proofs.OrderedMaps.{point_cmp, remove_is}
use Rattle.hull_plain.proofs.PlainSets.{written, taken_out, left_entries, left_space}
use Rattle.hull_geometry.proofs.SetLaws.{ordered_without}
use Rattle.hull_plain.proofs.plain_set.PlainSetHullSet.remove.Goals as goal

pub returns-in_default-clause-reply : goal.returns-in_default-clause-reply
returns-in_default-clause-reply c = subst (λ (z : LimitedSet). ¬ Contains (keys_of z.entries) c.args.p) c.self.view_is
    (not_live _ c.args.p c.in_default.ensures.value)

pub invariant_of-self-then-multiplicity-gt1 : goal.invariant_of-self-then-multiplicity-gt1
invariant_of-self-then-multiplicity-gt1 c = written c.self.invariant c.args.p (c.in-Some.multiplicity.now - 1) _
    (c.get_mut.follows.holds (c.in-Some.multiplicity.now - 1)).0 (omega (arith, c.if-multiplicity-gt1.true))

pub returns-then-multiplicity-gt1-clause-reply : goal.returns-then-multiplicity-gt1-clause-reply
returns-then-multiplicity-gt1-clause-reply c =
    let multiplicity : multiplicity_in c.self.inside.points.entries c.args.p ≡ c.in-Some.multiplicity.now =
    multiplicity_found _ c.args.p _ c.in-Some.ensures.value in (
      refl,
      subst (λ (z : LimitedSet). Contains (keys_of z.entries) c.args.p) c.self.view_is
          (live _ c.args.p _ c.in-Some.ensures.value),
      subst (λ (z : LimitedSet). multiplicity_in z.entries c.args.p ≡ c.from.result + 1) c.self.view_is
          (omega (arith, multiplicity, c.from.ensures, c.if-multiplicity-gt1.true)),
      omega (arith, c.from.ensures, c.if-multiplicity-gt1.true),
    )

pub returns-then-multiplicity-gt1-clause-effect : goal.returns-then-multiplicity-gt1-clause-effect
returns-then-multiplicity-gt1-clause-effect c =
    let writes = c.get_mut.follows.holds (c.in-Some.multiplicity.now - 1) in
    let multiplicity : multiplicity_in c.self.inside.points.entries c.args.p ≡ c.in-Some.multiplicity.now =
    multiplicity_found _ c.args.p _ c.in-Some.ensures.value in
    same_held _ _ _ _ writes.1
    (lowered_is c.args.p (Some (c.in-Some.multiplicity.now - 1)) _ _
    (writes.3 (subst IsSome c.in-Some.ensures.value refl)).0 (omega (arith, multiplicity, c.if-multiplicity-gt1.true)))
    ∙ ap (λ (z : LimitedSet). with_one_less c.args.p (held_in z.entries)) c.self.view_is

pub remove-requires-2-clause-left : goal.remove-requires-2-clause-left
remove-requires-2-clause-left c =
    let entries : c.remove.new.self.entries ≡ remove_entry (is_at (point_cmp c.args.p)) c.self.inside.points.entries =
    left_entries _ _ _ c.args.p c.in-Some.multiplicity.now c.in-Some.ensures.value
    (c.get_mut.follows.holds c.in-Some.multiplicity.now).0 c.remove.ensures.entries in
    subst IsPointSet (sym (ap keys_of entries ∙ remove_is _ c.args.p c.self.invariant.in_order))
    (ordered_without c.args.p _ c.self.invariant.in_order)

pub remove-requires-2-clause-hull_chains : goal.remove-requires-2-clause-hull_chains
remove-requires-2-clause-hull_chains c =
    let entries : c.remove.new.self.entries ≡ remove_entry (is_at (point_cmp c.args.p)) c.self.inside.points.entries =
    left_entries _ _ _ c.args.p c.in-Some.multiplicity.now c.in-Some.ensures.value
    (c.get_mut.follows.holds c.in-Some.multiplicity.now).0 c.remove.ensures.entries in (
      keys_of c.self.inside.points.entries,
      c.self.invariant.in_order,
      c.self.invariant.hull_chains,
      ap keys_of entries ∙ remove_is _ c.args.p c.self.invariant.in_order,
    )

pub remove-requires-2-clause-space : goal.remove-requires-2-clause-space
remove-requires-2-clause-space c =
    let entries : c.remove.new.self.entries ≡ remove_entry (is_at (point_cmp c.args.p)) c.self.inside.points.entries =
    left_entries _ _ _ c.args.p c.in-Some.multiplicity.now c.in-Some.ensures.value
    (c.get_mut.follows.holds c.in-Some.multiplicity.now).0 c.remove.ensures.entries in
    left_space c.self.invariant c.args.p _ entries

pub invariant_of-self-2 : goal.invariant_of-self-2
invariant_of-self-2 c =
    let entries : c.remove.new.self.entries ≡ remove_entry (is_at (point_cmp c.args.p)) c.self.inside.points.entries =
    left_entries _ _ _ c.args.p c.in-Some.multiplicity.now c.in-Some.ensures.value
    (c.get_mut.follows.holds c.in-Some.multiplicity.now).0 c.remove.ensures.entries in
    taken_out c.self.invariant c.args.p _ _ entries
    c.remove-2.ensures.hull_chains c.remove-2.ensures.kept

pub returns-clause-reply : goal.returns-clause-reply
returns-clause-reply c =
    let above : 1 ≤ c.in-Some.multiplicity.now =
    held_found _ c.args.p _ c.self.invariant.each_held c.in-Some.ensures.value in
    let once : multiplicity_in c.self.inside.points.entries c.args.p ≡ 1 =
    multiplicity_found _ c.args.p _ c.in-Some.ensures.value ∙ omega (arith, above, c.if-multiplicity-gt1.false) in
    subst (λ (z : LimitedSet). Contains (keys_of z.entries) c.args.p ×
    (Counted ≡ Counted → multiplicity_in z.entries c.args.p ≡ 1)) c.self.view_is
    (live _ c.args.p _ c.in-Some.ensures.value, λ _. once)

pub returns-clause-effect : goal.returns-clause-effect
returns-clause-effect c =
    let entries : c.remove.new.self.entries ≡ remove_entry (is_at (point_cmp c.args.p)) c.self.inside.points.entries =
    left_entries _ _ _ c.args.p c.in-Some.multiplicity.now c.in-Some.ensures.value
    (c.get_mut.follows.holds c.in-Some.multiplicity.now).0 c.remove.ensures.entries in
    let above : 1 ≤ c.in-Some.multiplicity.now =
    held_found _ c.args.p _ c.self.invariant.each_held c.in-Some.ensures.value in
    let once : multiplicity_in c.self.inside.points.entries c.args.p ≡ 1 =
    multiplicity_found _ c.args.p _ c.in-Some.ensures.value ∙ omega (arith, above, c.if-multiplicity-gt1.false) in
    let unwritten : (c.get_mut.follows.lender c.in-Some.multiplicity.now).entries ≡ c.self.inside.points.entries =
    (c.get_mut.follows.holds c.in-Some.multiplicity.now).0
    ∙ set_value_same _ c.self.inside.points.entries c.in-Some.multiplicity.now (sym c.in-Some.ensures.value) in
    let puts : PutsAt c.args.p None c.self.inside.points.entries c.remove.new.self.entries =
    subst (λ (z : List (Pair × ℕ)). PutsAt c.args.p None z c.remove.new.self.entries)
    unwritten c.remove.ensures.updates.0 in
    same_held _ _ _ _ (ap keys_of entries ∙ remove_is _ c.args.p c.self.invariant.in_order)
    (lowered_is c.args.p None _ _ puts once)
    ∙ ap (λ (z : LimitedSet). with_none c.args.p (held_in z.entries)) c.self.view_is

-- the other points stay as they were
pub returns-clause-sound : goal.returns-clause-sound
returns-clause-sound c =
    let entries : c.remove.new.self.entries ≡ remove_entry (is_at (point_cmp c.args.p)) c.self.inside.points.entries =
    left_entries _ _ _ c.args.p c.in-Some.multiplicity.now c.in-Some.ensures.value
    (c.get_mut.follows.holds c.in-Some.multiplicity.now).0 c.remove.ensures.entries in
    subst IsPointSet (sym (ap keys_of entries ∙ remove_is _ c.args.p c.self.invariant.in_order))
    (ordered_without c.args.p _ c.self.invariant.in_order)
