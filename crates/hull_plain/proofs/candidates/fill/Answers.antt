-- the points of the range of the map are visited one after another
use Rattle.std.proofs.Common.{◌≡◌, ◌≤◌, ◌+◌, ◌++◌, [], sym, ap, ◌∙◌, subst, List, arith, rules, refl, ℕ, length, take, drop}
use Rattle.std.specs.Map.{keys_of}
use Rattle.lattice.specs.Plane.{Pair}
use Rattle.hull_plain.specs.Drafts.{drafted}
use Rattle.hull_geometry.specs.Monotone.{IsThinned}
use Rattle.hull_plain.proofs.KeysBetween.{runs_forward, keys_between}
use Rattle.hull_geometry.proofs.Between.{next_set, next_room, next_seen}
use Rattle.hull_plain.proofs.Drafts.{started, as_roomy}
use Rattle.hull_geometry.proofs.Passes.{thinned_itself}
use Rattle.hull_geometry.proofs.PointSets.{set_left}
use Rattle.hull_geometry.proofs.PointLists.{append_none}
use Rattle.hull_plain.proofs.candidates.fill.Goals as goal

pub range-point-items-requires : goal.range-point-items-requires
range-point-items-requires c =
    runs_forward (take c.args.at c.args.candidates.now.items) (drop c.args.to c.args.candidates.now.items) c.behind-start.result
    c.ahead-end.result c.requires.set c.behind-start.ensures c.ahead-end.ensures

pub loop-point-init : goal.loop-point-init
loop-point-init c = record {
  can_next = search rules;
  is_finite = search rules;
  range = keys_between c.args.points.now.entries c.into_iter-point-iterator.result
      (take c.args.at c.args.candidates.now.items) (drop c.args.to c.args.candidates.now.items) c.behind-start.result
      c.ahead-end.result (c.into_iter-point-iterator.ensures.into_iter_gives ∙ c.range-point-items.ensures.between tt)
      c.requires.ordered c.requires.set c.behind-start.ensures c.ahead-end.ensures;
  thinned = (
    [],
    refl,
    subst (λ (z : List Pair). IsThinned c.args.side z (drafted c.args.candidates.now.items c.start.new.self))
        (append_none (take c.args.at c.args.candidates.now.items))
        (subst (IsThinned c.args.side (take c.args.at c.args.candidates.now.items))
        (sym (started c.args.candidates.now.items c.start.new.self c.args.at c.start.ensures.kept c.start.ensures.none))
        (thinned_itself c.args.side (take c.args.at c.args.candidates.now.items)
        (set_left (take c.args.at c.args.candidates.now.items) (drop c.args.to c.args.candidates.now.items) c.requires.set))),
  );
  within = omega (arith, c.start.ensures.kept);
  space = record { fresh = refl; rest = refl };
}

pub extend_behind-stays-requires-clause-within : goal.extend_behind-stays-requires-clause-within
extend_behind-stays-requires-clause-within c =
    omega (arith, c.loop-point.invariant.within, c.requires.order, c.requires.inside)

pub extend_behind-stays-requires-clause-set : goal.extend_behind-stays-requires-clause-set
extend_behind-stays-requires-clause-set c =
    let seen = c.loop-point.invariant.thinned in
    next_set c.args.side (keys_of c.args.points.now.entries) (take c.args.at c.args.candidates.now.items)
    (drop c.args.to c.args.candidates.now.items) (drafted c.args.candidates.now.items c.loop-point.scratch_chain) seen.0
    (keys_of c.next.new.self) (keys_of c.into_iter-point-iterator.result) c.in-Some.point.now
    (ap (λ (z : List (Pair × ℕ)). seen.0 ++ keys_of z) (sym c.in-Some.ensures.steps) ∙ seen.1)
    c.loop-point.invariant.range seen.2

pub extend_behind-stays-requires-clause-space : goal.extend_behind-stays-requires-clause-space
extend_behind-stays-requires-clause-space c =
    let seen = c.loop-point.invariant.thinned in
    let few : length (drafted c.args.candidates.now.items c.loop-point.scratch_chain) + 1 ≤ length (keys_of c.args.points.now.entries) =
    next_room c.args.side (keys_of c.args.points.now.entries) (take c.args.at c.args.candidates.now.items)
    (drop c.args.to c.args.candidates.now.items) (drafted c.args.candidates.now.items c.loop-point.scratch_chain) seen.0
    (keys_of c.next.new.self) (keys_of c.into_iter-point-iterator.result) c.in-Some.point.now
    (ap (λ (z : List (Pair × ℕ)). seen.0 ++ keys_of z) (sym c.in-Some.ensures.steps) ∙ seen.1)
    c.loop-point.invariant.range seen.2 c.requires.among in
    omega (arith, few, c.requires.space.fresh, c.start.ensures.space.fresh, c.loop-point.invariant.space.fresh)

pub loop-point-preserved : goal.loop-point-preserved
loop-point-preserved c = record {
  can_next = search rules;
  is_finite = search rules;
  range = c.loop-point.invariant.range;
  thinned =
      let seen = c.loop-point.invariant.thinned in
      next_seen c.args.side (keys_of c.args.points.now.entries) (take c.args.at c.args.candidates.now.items)
      (drop c.args.to c.args.candidates.now.items) (drafted c.args.candidates.now.items c.loop-point.scratch_chain) seen.0
      (keys_of c.next.new.self) (keys_of c.into_iter-point-iterator.result) c.in-Some.point.now
      (ap (λ (z : List (Pair × ℕ)). seen.0 ++ keys_of z) (sym c.in-Some.ensures.steps) ∙ seen.1)
      c.loop-point.invariant.range seen.2 (drafted c.args.candidates.now.items c.extend_behind-stays.new.scratch_chain)
      c.extend_behind-stays.ensures.thinned;
  within = omega (arith, c.extend_behind-stays.ensures.within, c.loop-point.invariant.within);
  space = as_roomy c.start.new.self c.loop-point.scratch_chain c.extend_behind-stays.new.scratch_chain c.loop-point.invariant.space
      c.extend_behind-stays.ensures.space;
}

pub returns-clause-thinned : goal.returns-clause-thinned
returns-clause-thinned c =
    let seen = c.loop-point.invariant.thinned in
    let whole : seen.0 ≡ keys_of c.into_iter-point-iterator.result =
    append_none seen.0
    ∙ ap (λ (z : List (Pair × ℕ)). seen.0 ++ keys_of z) (sym c.in-None.ensures.steps.0) ∙ seen.1 in (
      keys_of c.into_iter-point-iterator.result,
      c.loop-point.invariant.range,
      subst (λ (z : List Pair). IsThinned c.args.side (take c.args.at c.args.candidates.now.items ++ z)
          (drafted c.args.candidates.now.items c.loop-point.scratch_chain)) whole seen.2,
    )

pub returns-clause-space : goal.returns-clause-space
returns-clause-space c = as_roomy c.args.scratch_chain.now c.start.new.self c.loop-point.scratch_chain c.start.ensures.space
    c.loop-point.invariant.space
