-- the multiplicity of a point of the set is raised in the map, or the point is refused at the greatest one; a new point
-- is a new key, and the hull chains are those of the points with it
use Rattle.std.proofs.Common.{◌≡◌, ℕ, sym, ap, ◌∙◌, subst, refl, List, arith, rules, ◌+◌, ◌≤◌, ◌<◌, ◌⊎◌, inl, inr}
use Rattle.std.proofs.Common.{length, Some, BTreeMap}
use Rattle.std.specs.Prelude.{IsSome}
use Rattle.std.specs.List.{Contains}
use Rattle.std.specs.BTreeMap.{insert_entry}
use Rattle.std.specs.Map.{keys_of}
use Rattle.std.proofs.lemmas.Map.Steps.{set_value_same}
use Rattle.lattice.specs.Covers.{IsPointSet}
use Rattle.lattice.specs.Plane.{Pair}
use Rattle.hull_set.specs.Held.{with_new, with_again}
use Rattle.hull_plain.specs.ChainPairs.{HasSpace, IsHullChainsOf, IsPlainSet}
use Rattle.hull_plain.specs.Sets.{LimitedSet, held_in, multiplicity_in}
use Rattle.hull_set.specs.declared.TheConstants.{MULTIPLICITY_LIMIT}
use Rattle.hull_set.specs.declared.rules.Rules.TheVariants.{Counted}
use Rattle.hull_plain.proofs.Multiplicities.{multiplicity_found, multiplicity_none, live, not_live, held_found, PutsAt, raised_is}
use Rattle.hull_set.proofs.HeldMultiplicities.{same_held}
use Rattle.hull_set.proofs.OrderedMaps.{point_cmp, insert_is}
use Rattle.hull_plain.proofs.PlainSets.{written, reserved, put_in, count_is, same_hull_chains}
use Rattle.hull_geometry.proofs.SetLaws.{ordered_with}
use Rattle.hull_plain.proofs.plain_set.PlainSetHullSet.add.Goals as goal

pub invariant_of-self : goal.invariant_of-self
invariant_of-self c = written c.self.invariant c.args.p c.in-Some.multiplicity.now _
    (c.get_mut.follows.holds c.in-Some.multiplicity.now).0
    (held_found _ c.args.p _ c.self.invariant.each_held c.in-Some.ensures.value)

pub returns-then-from-eq-MULTIPLICITY_LIMIT-clause-reply : goal.returns-then-from-eq-MULTIPLICITY_LIMIT-clause-reply
returns-then-from-eq-MULTIPLICITY_LIMIT-clause-reply c =
    let most : c.in-Some.multiplicity.now ≡ MULTIPLICITY_LIMIT =
    omega (arith, c.from.ensures, c.if-from-eq-MULTIPLICITY_LIMIT.true) in
    subst (λ (z : LimitedSet). (¬ Contains (keys_of z.entries) c.args.p × (length (keys_of z.entries) ≡ z.limit)) ⊎
    ((Counted ≡ Counted) × Contains (keys_of z.entries) c.args.p ×
    (multiplicity_in z.entries c.args.p ≡ MULTIPLICITY_LIMIT))) c.self.view_is
    (inr (refl, live _ c.args.p _ c.in-Some.ensures.value, multiplicity_found _ c.args.p _ c.in-Some.ensures.value ∙ most))

pub returns-then-from-eq-MULTIPLICITY_LIMIT-clause-effect : goal.returns-then-from-eq-MULTIPLICITY_LIMIT-clause-effect
returns-then-from-eq-MULTIPLICITY_LIMIT-clause-effect c =
    ap held_in ((c.get_mut.follows.holds c.in-Some.multiplicity.now).0
    ∙ set_value_same _ c.self.inside.points.entries c.in-Some.multiplicity.now (sym c.in-Some.ensures.value))
    ∙ ap (λ (z : LimitedSet). held_in z.entries) c.self.view_is

pub invariant_of-self-in-Some : goal.invariant_of-self-in-Some
invariant_of-self-in-Some c = written c.self.invariant c.args.p (c.in-Some.multiplicity.now + 1) _
    (c.get_mut.follows.holds (c.in-Some.multiplicity.now + 1)).0 (omega arith)

pub returns-in-Some-clause-reply : goal.returns-in-Some-clause-reply
returns-in-Some-clause-reply c =
    let n : c.from-in-Some.result ≡ c.in-Some.multiplicity.now + 1 = c.from-in-Some.ensures in
    let above : 1 ≤ c.in-Some.multiplicity.now =
    held_found _ c.args.p _ c.self.invariant.each_held c.in-Some.ensures.value in
    let multiplicity : multiplicity_in c.self.inside.points.entries c.args.p ≡ c.in-Some.multiplicity.now =
    multiplicity_found _ c.args.p _ c.in-Some.ensures.value in (
      refl,
      subst (λ (z : LimitedSet). Contains (keys_of z.entries) c.args.p) c.self.view_is
          (live _ c.args.p _ c.in-Some.ensures.value),
      subst (λ (z : LimitedSet). c.from-in-Some.result ≡ multiplicity_in z.entries c.args.p + 1) c.self.view_is
          (omega (arith, n, multiplicity)),
      omega (arith, n, above),
      omega (arith, n, c.from.ensures, c.if-from-eq-MULTIPLICITY_LIMIT.false),
    )

pub returns-in-Some-clause-effect : goal.returns-in-Some-clause-effect
returns-in-Some-clause-effect c =
    let writes = c.get_mut.follows.holds (c.in-Some.multiplicity.now + 1) in
    let multiplicity : multiplicity_in c.self.inside.points.entries c.args.p ≡ c.in-Some.multiplicity.now =
    multiplicity_found _ c.args.p _ c.in-Some.ensures.value in
    same_held _ _ _ _ writes.1
    (raised_is c.args.p (Some (c.in-Some.multiplicity.now + 1)) _ _
    (writes.3 (subst IsSome c.in-Some.ensures.value refl)).0 (omega (arith, multiplicity)))
    ∙ ap (λ (z : LimitedSet). with_again c.args.p (held_in z.entries)) c.self.view_is

pub returns-then-count-self-clause-reply : goal.returns-then-count-self-clause-reply
returns-then-count-self-clause-reply c =
    let count : c.len-count.result ≡ length (keys_of c.self.inside.points.entries) =
    count_is c.get_mut.follows.holds-at-none c.len-count.ensures.len in
    inl (subst (λ (z : LimitedSet). ¬ Contains (keys_of z.entries) c.args.p × (length (keys_of z.entries) ≡ z.limit))
    c.self.view_is
    (not_live _ c.args.p c.in_default.ensures.value, omega (arith, count, c.if-count-self.true, c.self.invariant.few)))

pub invariant_of-self-then-is_err : goal.invariant_of-self-then-is_err
invariant_of-self-then-is_err c =
    subst (λ (z : BTreeMap Pair ℕ). IsPlainSet c.self.inside.limit z.entries c.reserve.new.self)
    (sym c.get_mut.follows.holds-at-none)
    (reserved c.self.invariant _ c.reserve.ensures.alike c.reserve.ensures.kept)

pub returns-then-is_err-clause-reply : goal.returns-then-is_err-clause-reply
returns-then-is_err-clause-reply c =
    let count : c.len-count.result ≡ length (keys_of c.self.inside.points.entries) =
    count_is c.get_mut.follows.holds-at-none c.len-count.ensures.len in
    subst (λ (z : LimitedSet). ¬ Contains (keys_of z.entries) c.args.p × (length (keys_of z.entries) < z.limit))
    c.self.view_is
    (not_live _ c.args.p c.in_default.ensures.value, omega (arith, count, c.if-count-self.false))

pub returns-then-is_err-2-clause-reply : goal.returns-then-is_err-2-clause-reply
returns-then-is_err-2-clause-reply c =
    let count : c.len-count.result ≡ length (keys_of c.self.inside.points.entries) =
    count_is c.get_mut.follows.holds-at-none c.len-count.ensures.len in
    subst (λ (z : LimitedSet). ¬ Contains (keys_of z.entries) c.args.p × (length (keys_of z.entries) < z.limit))
    c.self.view_is
    (not_live _ c.args.p c.in_default.ensures.value, omega (arith, count, c.if-count-self.false))

pub add-requires-clause-in_order : goal.add-requires-clause-in_order
add-requires-clause-in_order c =
    let made : c.insert.new.self.entries ≡ insert_entry point_cmp c.get_mut.follows.lender-at-none.entries c.args.p 1 =
    search (rules, c.insert.ensures.entries, c.is_err-2.ensures, c.if-is_err-2.false) in
    let entries : c.insert.new.self.entries ≡ insert_entry point_cmp c.self.inside.points.entries c.args.p 1 =
    made
    ∙ ap (λ (z : BTreeMap Pair ℕ). insert_entry point_cmp z.entries c.args.p 1) c.get_mut.follows.holds-at-none in
    subst IsPointSet (sym (ap keys_of entries ∙ insert_is _ c.args.p 1))
    (ordered_with c.args.p _ c.self.invariant.in_order)

pub add-requires-clause-hull_chains : goal.add-requires-clause-hull_chains
add-requires-clause-hull_chains c =
    let made : c.insert.new.self.entries ≡ insert_entry point_cmp c.get_mut.follows.lender-at-none.entries c.args.p 1 =
    search (rules, c.insert.ensures.entries, c.is_err-2.ensures, c.if-is_err-2.false) in
    let entries : c.insert.new.self.entries ≡ insert_entry point_cmp c.self.inside.points.entries c.args.p 1 =
    made
    ∙ ap (λ (z : BTreeMap Pair ℕ). insert_entry point_cmp z.entries c.args.p 1) c.get_mut.follows.holds-at-none in
    let space : HasSpace c.reserve.new.self (c.len-count.result + 1) =
    search (rules, c.reserve.ensures.space, c.is_err.ensures, c.if-is_err.false) in
    let count : c.len-count.result ≡ length (keys_of c.self.inside.points.entries) =
    count_is c.get_mut.follows.holds-at-none c.len-count.ensures.len in (
      keys_of c.self.inside.points.entries,
      same_hull_chains (keys_of c.self.inside.points.entries) c.self.inside.hull_chains c.reserve.new.self
          c.reserve.ensures.alike c.self.invariant.hull_chains,
      ap keys_of entries ∙ insert_is _ c.args.p 1,
      not_live _ c.args.p c.in_default.ensures.value,
      subst (HasSpace c.reserve.new.self) (ap (λ n. n + 1) count) space,
    )

pub invariant_of-self-2 : goal.invariant_of-self-2
invariant_of-self-2 c =
    let made : c.insert.new.self.entries ≡ insert_entry point_cmp c.get_mut.follows.lender-at-none.entries c.args.p 1 =
    search (rules, c.insert.ensures.entries, c.is_err-2.ensures, c.if-is_err-2.false) in
    let entries : c.insert.new.self.entries ≡ insert_entry point_cmp c.self.inside.points.entries c.args.p 1 =
    made
    ∙ ap (λ (z : BTreeMap Pair ℕ). insert_entry point_cmp z.entries c.args.p 1) c.get_mut.follows.holds-at-none in
    let space : HasSpace c.reserve.new.self (c.len-count.result + 1) =
    search (rules, c.reserve.ensures.space, c.is_err.ensures, c.if-is_err.false) in
    let count : c.len-count.result ≡ length (keys_of c.self.inside.points.entries) =
    count_is c.get_mut.follows.holds-at-none c.len-count.ensures.len in
    subst (λ (z : List (Pair × ℕ)). IsPlainSet c.self.inside.limit z c.add.new.self) (sym entries)
    (put_in c.self.invariant c.args.p c.add.new.self (omega (arith, count, c.if-count-self.false))
    (subst (λ (z : List Pair). IsHullChainsOf z c.add.new.self) (ap keys_of entries ∙ insert_is _ c.args.p 1)
    c.add.ensures.hull_chains)
    (c.add.ensures.kept _ (subst (HasSpace c.reserve.new.self) (ap (λ n. n + 1) count) space)))

pub returns-clause-reply : goal.returns-clause-reply
returns-clause-reply c =
    let count : c.len-count.result ≡ length (keys_of c.self.inside.points.entries) =
    count_is c.get_mut.follows.holds-at-none c.len-count.ensures.len in
    subst (λ (z : LimitedSet). ¬ Contains (keys_of z.entries) c.args.p × (length (keys_of z.entries) < z.limit))
    c.self.view_is
    (not_live _ c.args.p c.in_default.ensures.value, omega (arith, count, c.if-count-self.false))

pub returns-clause-effect : goal.returns-clause-effect
returns-clause-effect c =
    let made : c.insert.new.self.entries ≡ insert_entry point_cmp c.get_mut.follows.lender-at-none.entries c.args.p 1 =
    search (rules, c.insert.ensures.entries, c.is_err-2.ensures, c.if-is_err-2.false) in
    let entries : c.insert.new.self.entries ≡ insert_entry point_cmp c.self.inside.points.entries c.args.p 1 =
    made
    ∙ ap (λ (z : BTreeMap Pair ℕ). insert_entry point_cmp z.entries c.args.p 1) c.get_mut.follows.holds-at-none in
    let puts : PutsAt c.args.p (Some 1) c.get_mut.follows.lender-at-none.entries c.insert.new.self.entries =
    search (rules, c.insert.ensures.updates, c.is_err-2.ensures, c.if-is_err-2.false) in
    let puts_here : PutsAt c.args.p (Some 1) c.self.inside.points.entries c.insert.new.self.entries =
    subst (λ (z : BTreeMap Pair ℕ). PutsAt c.args.p (Some 1) z.entries c.insert.new.self.entries)
    c.get_mut.follows.holds-at-none puts in
    let none : multiplicity_in c.self.inside.points.entries c.args.p ≡ 0 = multiplicity_none _ c.args.p c.in_default.ensures.value in
    same_held _ _ _ _ (ap keys_of entries ∙ insert_is _ c.args.p 1)
    (raised_is c.args.p (Some 1) _ _ puts_here (omega (arith, none)))
    ∙ ap (λ (z : LimitedSet). with_new c.args.p (held_in z.entries)) c.self.view_is

-- the point was inserted at its position
pub returns-clause-sound : goal.returns-clause-sound
returns-clause-sound c =
    let made : c.insert.new.self.entries ≡ insert_entry point_cmp c.get_mut.follows.lender-at-none.entries c.args.p 1 =
    search (rules, c.insert.ensures.entries, c.is_err-2.ensures, c.if-is_err-2.false) in
    let entries : c.insert.new.self.entries ≡ insert_entry point_cmp c.self.inside.points.entries c.args.p 1 =
    made
    ∙ ap (λ (z : BTreeMap Pair ℕ). insert_entry point_cmp z.entries c.args.p 1) c.get_mut.follows.holds-at-none in
    subst IsPointSet (sym (ap keys_of entries ∙ insert_is _ c.args.p 1))
    (ordered_with c.args.p _ c.self.invariant.in_order)
