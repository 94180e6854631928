-- each point is passed in turn, until one stays after the one before it
use Rattle.std.proofs.Common.{◌≡◌, ◌+◌, ◌++◌, ◌∙◌, ℕ, sym, ap, subst, List, refl, arith, take, drop, length-append}
use Rattle.std.proofs.Common.{length-drop}
use Rattle.lattice.specs.Plane.{Pair}
use Rattle.hull_plain.specs.Drafts.{drafted}
use Rattle.hull_geometry.specs.Monotone.{IsPassed}
use Rattle.hull_plain.proofs.Drafts.{as_roomy}
use Rattle.hull_geometry.proofs.Passes.{passed_itself, take_up_set, take_up_step, take_up_stop}
use Rattle.hull_geometry.proofs.PointSets.{set_left}
use Rattle.hull_geometry.proofs.PointLists.{append_none, in_rest, take_few, all_taken, none_from, drop_rest}
use Rattle.hull_plain.proofs.monotone.take_up.Goals as goal

pub loop-i-init : goal.loop-i-init
loop-i-init c =
    let start : List Pair = drafted c.args.list.now.items c.args.scratch_chain.now in
    record {
      within = omega arith;
      passed = subst (λ (z : List Pair). IsPassed c.args.side z start) (append_none start)
          (passed_itself c.args.side start (record {
            ordered = set_left start (drop c.args.from c.args.list.now.items) c.requires.set;
            convex = c.requires.convex;
          }));
      space = record { fresh = refl; rest = refl };
    }

pub extend-requires-clause-set : goal.extend-requires-clause-set
extend-requires-clause-set c =
    let at = in_rest c.args.list.now.items c.args.from c.loop-i.i c.get.result
    (omega (arith, c.loop-i-test.true, c.len.ensures)) c.get.ensures in
    take_up_set c.args.side (drafted c.args.list.now.items c.args.scratch_chain.now) (drop c.args.from c.args.list.now.items)
    (drafted c.args.list.now.items c.loop-i.scratch_chain) c.loop-i.i c.get.result at.within at.point c.requires.set
    c.loop-i.invariant.passed

pub extend-requires-clause-convex : goal.extend-requires-clause-convex
extend-requires-clause-convex c = c.loop-i.invariant.passed.strict.convex

pub extend-requires-clause-space : goal.extend-requires-clause-space
extend-requires-clause-space c =
    let start : List Pair = drafted c.args.list.now.items c.args.scratch_chain.now in
    let rest : List Pair = drop c.args.from c.args.list.now.items in
    let n = length-append start (take c.loop-i.i rest) in
    let few = take_few c.loop-i.i rest in
    let d = length-drop c.args.from c.args.list.now.items in
    omega (
      arith,
      n,
      few,
      d,
      c.loop-i.invariant.passed.short,
      c.loop-i.invariant.space.fresh,
      c.requires.space,
      c.loop-i-test.true,
      c.len.ensures,
    )

pub loop-i-preserved : goal.loop-i-preserved
loop-i-preserved c =
    let at = in_rest c.args.list.now.items c.args.from c.loop-i.i c.get.result
    (omega (arith, c.loop-i-test.true, c.len.ensures)) c.get.ensures in
    record {
      within = omega (arith, c.extend.ensures.within, c.loop-i.invariant.within);
      passed = take_up_step c.args.side (drafted c.args.list.now.items c.args.scratch_chain.now)
          (drop c.args.from c.args.list.now.items) (drafted c.args.list.now.items c.loop-i.scratch_chain)
          (drafted c.args.list.now.items c.extend.new.scratch_chain) c.loop-i.i c.get.result at.within at.point
          c.loop-i.invariant.passed c.extend.ensures.passed;
      space = as_roomy c.args.scratch_chain.now c.loop-i.scratch_chain c.extend.new.scratch_chain c.loop-i.invariant.space c.extend.ensures.space;
    }

pub returns-then-i-gt0-clause-passed : goal.returns-then-i-gt0-clause-passed
returns-then-i-gt0-clause-passed c =
    let at = in_rest c.args.list.now.items c.args.from c.loop-i.i c.get.result
    (omega (arith, c.loop-i-test.true, c.len.ensures)) c.get.ensures in
    let start : List Pair = drafted c.args.list.now.items c.args.scratch_chain.now in
    let new : List Pair = drafted c.args.list.now.items c.extend.new.scratch_chain in
    let behind : c.args.from + (c.loop-i.i + 1) ≡ c.args.from + c.loop-i.i + 1 = omega arith in
    subst (λ (z : List Pair). IsPassed c.args.side (start ++ drop c.args.from c.args.list.now.items) (new ++ z))
    (drop_rest c.args.from (c.loop-i.i + 1) c.args.list.now.items
    ∙ ap (λ (n : ℕ). drop n c.args.list.now.items) behind)
    (take_up_stop c.args.side start (drop c.args.from c.args.list.now.items)
    (drafted c.args.list.now.items c.loop-i.scratch_chain) new c.loop-i.i c.get.result c.if-i-gt0.true at.within at.point
    c.requires.set c.requires.rest_convex c.loop-i.invariant.passed c.extend.ensures.passed
    (c.extend.ensures.stays c.if-extend.true))

pub returns-clause-passed : goal.returns-clause-passed
returns-clause-passed c =
    let rest : List Pair = drop c.args.from c.args.list.now.items in
    let start : List Pair = drafted c.args.list.now.items c.args.scratch_chain.now in
    let new : List Pair = drafted c.args.list.now.items c.loop-i.scratch_chain in
    let d = length-drop c.args.from c.args.list.now.items in
    let passed : IsPassed c.args.side (start ++ rest) new =
    subst (λ (z : List Pair). IsPassed c.args.side (start ++ z) new)
    (all_taken c.loop-i.i rest (omega (arith, d, c.loop-i-test.false, c.len.ensures))) c.loop-i.invariant.passed in
    let none = none_from c.len-2.result c.args.list.now.items (omega (arith, c.len-2.ensures)) in
    subst (IsPassed c.args.side (start ++ rest)) (append_none new ∙ ap (λ (z : List Pair). new ++ z) (sym none)) passed
