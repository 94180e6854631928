-- each point is passed in turn
use Rattle.std.proofs.Common.{◌++◌, subst, List, refl, arith, take, length-append}
use Rattle.std.specs.Prelude.{slice_range}
use Rattle.lattice.specs.Plane.{Pair}
use Rattle.hull_plain.specs.Drafts.{drafted}
use Rattle.hull_geometry.specs.Monotone.{IsPassed}
use Rattle.hull_plain.proofs.Drafts.{as_roomy}
use Rattle.hull_geometry.proofs.Passes.{passed_itself, take_up_set, take_up_step}
use Rattle.hull_geometry.proofs.PointSets.{set_left}
use Rattle.hull_geometry.proofs.PointLists.{append_none, in_range, range_long, take_few, all_taken}
use Rattle.hull_plain.proofs.monotone.pass_over.Goals as goal

pub loop-i-init : goal.loop-i-init
loop-i-init c =
    let start : List Pair = drafted c.args.list.now.items c.args.scratch_chain.now in
    let points : List Pair = slice_range c.args.points.now.items c.args.from c.args.to in
    record {
      within = omega arith;
      passed = subst (λ (z : List Pair). IsPassed c.args.side z start) (append_none start)
          (passed_itself c.args.side start (record {
            ordered = set_left start points c.requires.set;
            convex = c.requires.convex;
          }));
      space = record { fresh = refl; rest = refl };
    }

pub extend-stays-requires-clause-set : goal.extend-stays-requires-clause-set
extend-stays-requires-clause-set c =
    let at = in_range c.args.points.now.items c.args.from c.args.to c.loop-i.i c.get.result c.requires.inside
    (omega (arith, c.loop-i-test.true)) c.get.ensures in
    take_up_set c.args.side (drafted c.args.list.now.items c.args.scratch_chain.now)
    (slice_range c.args.points.now.items c.args.from c.args.to) (drafted c.args.list.now.items c.loop-i.scratch_chain) c.loop-i.i
    c.get.result at.within at.point c.requires.set c.loop-i.invariant.passed

pub extend-stays-requires-clause-convex : goal.extend-stays-requires-clause-convex
extend-stays-requires-clause-convex c = c.loop-i.invariant.passed.strict.convex

pub extend-stays-requires-clause-space : goal.extend-stays-requires-clause-space
extend-stays-requires-clause-space c =
    let start : List Pair = drafted c.args.list.now.items c.args.scratch_chain.now in
    let points : List Pair = slice_range c.args.points.now.items c.args.from c.args.to in
    let n = length-append start (take c.loop-i.i points) in
    let few = take_few c.loop-i.i points in
    omega (
      arith,
      n,
      few,
      c.loop-i.invariant.passed.short,
      c.loop-i.invariant.space.fresh,
      c.requires.space,
      c.loop-i-test.true,
    )

pub loop-i-preserved : goal.loop-i-preserved
loop-i-preserved c =
    let at = in_range c.args.points.now.items c.args.from c.args.to c.loop-i.i c.get.result c.requires.inside
    (omega (arith, c.loop-i-test.true)) c.get.ensures in
    record {
      within = omega (arith, c.extend-stays.ensures.within, c.loop-i.invariant.within);
      passed = take_up_step c.args.side (drafted c.args.list.now.items c.args.scratch_chain.now)
          (slice_range c.args.points.now.items c.args.from c.args.to) (drafted c.args.list.now.items c.loop-i.scratch_chain)
          (drafted c.args.list.now.items c.extend-stays.new.scratch_chain) c.loop-i.i c.get.result at.within at.point
          c.loop-i.invariant.passed c.extend-stays.ensures.passed;
      space = as_roomy c.args.scratch_chain.now c.loop-i.scratch_chain c.extend-stays.new.scratch_chain c.loop-i.invariant.space c.extend-stays.ensures.space;
    }

pub returns-clause-passed : goal.returns-clause-passed
returns-clause-passed c =
    let points : List Pair = slice_range c.args.points.now.items c.args.from c.args.to in
    let n = range_long c.args.points.now.items c.args.from c.args.to c.requires.inside in
    subst (λ (z : List Pair). IsPassed c.args.side (drafted c.args.list.now.items c.args.scratch_chain.now ++ z)
    (drafted c.args.list.now.items c.loop-i.scratch_chain))
    (all_taken c.loop-i.i points (omega (arith, n, c.loop-i-test.false))) c.loop-i.invariant.passed
