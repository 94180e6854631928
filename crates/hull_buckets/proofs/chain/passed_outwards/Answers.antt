-- each step takes the lowest index that is left
use Rattle.std.proofs.Common.{length, arith}
use Rattle.hull_buckets.proofs.Outwards.{under_way, one_more, done, still_convex}
use Rattle.hull_buckets.proofs.Steps.{step, place_within, kept_before, rest_apart, next_within}
use Rattle.hull_buckets.proofs.chain.passed_outwards.Goals as goal

pub loop-left-init : goal.loop-left-init
loop-left-init c = record {
  apart = c.requires.apart;
  within = λ k l m. (l, m);
  convex = c.requires.convex;
  under_way = under_way c.args.side c.args.points.now c.args.chain c.args.rest c.args.a c.args.b c.requires.ordered
      c.requires.convex;
}

pub pushed_outwards-kept-requires-clause-within : goal.pushed_outwards-kept-requires-clause-within
pushed_outwards-kept-requires-clause-within c =
    let s = step c.args.points.now c.loop-left.kept c.loop-left.left c.lowest-place.result c.loop-left.invariant.apart
    c.lowest-place.ensures.least c.lowest-place.ensures.there
    (c.loop-left.invariant.within (length c.args.points.now) c.requires.chain_within c.requires.rest_within).1 in
    place_within s

pub pushed_outwards-kept-requires-clause-before : goal.pushed_outwards-kept-requires-clause-before
pushed_outwards-kept-requires-clause-before c =
    let s = step c.args.points.now c.loop-left.kept c.loop-left.left c.lowest-place.result c.loop-left.invariant.apart
    c.lowest-place.ensures.least c.lowest-place.ensures.there
    (c.loop-left.invariant.within (length c.args.points.now) c.requires.chain_within c.requires.rest_within).1 in
    kept_before s

pub loop-left-preserved : goal.loop-left-preserved
loop-left-preserved c =
    let s = step c.args.points.now c.loop-left.kept c.loop-left.left c.lowest-place.result c.loop-left.invariant.apart
    c.lowest-place.ensures.least c.lowest-place.ensures.there
    (c.loop-left.invariant.within (length c.args.points.now) c.requires.chain_within c.requires.rest_within).1 in
    record {
      apart = rest_apart s c.pushed_outwards-kept.result c.bit-left.result c.pushed_outwards-kept.ensures.within
          c.bit-left.ensures;
      within = λ k l m. let w = c.loop-left.invariant.within k l m in (
        next_within s c.pushed_outwards-kept.result k c.pushed_outwards-kept.ensures.within w.0 w.1,
        (let n = w.1 in omega (arith, n)),
      );
      convex = still_convex c.args.side c.args.points.now c.loop-left.kept c.lowest-place.result c.args.a c.args.b
          c.pushed_outwards-kept.result c.loop-left.invariant.convex c.pushed_outwards-kept.ensures.pushed;
      under_way = one_more c.args.side c.args.points.now c.args.chain c.args.rest c.args.a c.args.b c.loop-left.kept
          c.loop-left.left c.lowest-place.result c.pushed_outwards-kept.result c.bit-left.result s c.bit-left.ensures
          c.loop-left.invariant.under_way c.pushed_outwards-kept.ensures.pushed;
    }

pub returns-clause-passed : goal.returns-clause-passed
returns-clause-passed c = done c.args.side c.args.points.now c.args.chain c.args.rest c.args.a c.args.b c.loop-left.kept
    c.loop-left.left c.loop-left-test.false c.loop-left.invariant.under_way
