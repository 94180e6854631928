-- each step takes the lowest index that is left
use Rattle.std.proofs.Common.{length, arith}
use Rattle.hull_buckets.specs.Masks.{at_places}
use Rattle.hull_buckets.proofs.Steps.{step, place_within, kept_before, rest_apart, next_within, none_left, passed_on}
use Rattle.hull_buckets.proofs.chain.passed_over.Goals as goal

pub pushed-kept-requires-clause-within : goal.pushed-kept-requires-clause-within
pushed-kept-requires-clause-within c =
    let s = step c.args.points.now c.loop-left.kept c.loop-left.left c.lowest-place.result c.loop-left.invariant.apart
    c.lowest-place.ensures.least c.lowest-place.ensures.there
    (c.loop-left.invariant.within (length c.args.points.now) c.requires.chain_within c.requires.rest_within).1 in
    place_within s

pub pushed-kept-requires-clause-before : goal.pushed-kept-requires-clause-before
pushed-kept-requires-clause-before c =
    let s = step c.args.points.now c.loop-left.kept c.loop-left.left c.lowest-place.result c.loop-left.invariant.apart
    c.lowest-place.ensures.least c.lowest-place.ensures.there
    (c.loop-left.invariant.within (length c.args.points.now) c.requires.chain_within c.requires.rest_within).1 in
    kept_before s

pub loop-left-preserved : goal.loop-left-preserved
loop-left-preserved c =
    let s = step c.args.points.now c.loop-left.kept c.loop-left.left c.lowest-place.result c.loop-left.invariant.apart
    c.lowest-place.ensures.least c.lowest-place.ensures.there
    (c.loop-left.invariant.within (length c.args.points.now) c.requires.chain_within c.requires.rest_within).1 in
    record {
      apart = rest_apart s c.pushed-kept.result c.bit-left.result c.pushed-kept.ensures.within c.bit-left.ensures;
      within = λ k l m. let w = c.loop-left.invariant.within k l m in (
        next_within s c.pushed-kept.result k c.pushed-kept.ensures.within w.0 w.1,
        (let n = w.1 in omega (arith, n)),
      );
      convex = c.pushed-kept.ensures.passed.strict.convex;
      passed = λ new h. c.loop-left.invariant.passed new
          (passed_on s c.args.side c.pushed-kept.result c.bit-left.result new c.bit-left.ensures
          c.pushed-kept.ensures.passed h);
    }

pub returns-clause-passed : goal.returns-clause-passed
returns-clause-passed c = c.loop-left.invariant.passed (at_places c.loop-left.kept c.args.points.now)
    (none_left c.args.side c.args.points.now c.loop-left.kept c.loop-left.left c.requires.ordered c.loop-left-test.false
    c.loop-left.invariant.convex)
