-- each step takes the lowest index that is left; if its vertex stays after the one before it, the others bend on there
use Rattle.std.proofs.Common.{◌≡◌, ℕ, ◌+◌, ◌-◌, ◌*◌, ◌^◌, ◌<◌, ◌≤◌, ◌++◌, ◌∷◌, [], List, length, arith, sym, ap}
use Rattle.std.proofs.Common.{subst, ◌∙◌}
use Rattle.std.proofs.Common.{suc}
use Rattle.lattice.specs.Plane.{Pair}
use Rattle.hull_geometry.specs.Monotone.{IsPassed, IsConvex}
use Rattle.hull_geometry.specs.Positions.{point_at}
use Rattle.hull_geometry.proofs.Passes.{convex_right}
use Rattle.hull_buckets.specs.Masks.{at_places}
use Rattle.hull_buckets.proofs.Steps.{step, place_within, kept_before, first_left, rest_apart, next_within, none_left}
use Rattle.hull_buckets.proofs.Steps.{ends_there, passed_on, stopped}
use Rattle.hull_buckets.proofs.Words.{power_le, sum_within, twice}
use Rattle.hull_buckets.proofs.chain.taken_up.Goals as goal

pub pushed-next-requires-clause-within : goal.pushed-next-requires-clause-within
pushed-next-requires-clause-within c =
    let s = step c.args.points.now c.loop-left.kept c.loop-left.left c.lowest-place.result c.loop-left.invariant.apart
    c.lowest-place.ensures.least c.lowest-place.ensures.there
    (c.loop-left.invariant.within (length c.args.points.now) c.requires.chain_within c.requires.rest_within).1 in
    place_within s

pub pushed-next-requires-clause-before : goal.pushed-next-requires-clause-before
pushed-next-requires-clause-before c =
    let s = step c.args.points.now c.loop-left.kept c.loop-left.left c.lowest-place.result c.loop-left.invariant.apart
    c.lowest-place.ensures.least c.lowest-place.ensures.there
    (c.loop-left.invariant.within (length c.args.points.now) c.requires.chain_within c.requires.rest_within).1 in
    kept_before s

pub overflow_add-kept : goal.overflow_add-kept
overflow_add-kept c =
    let s = step c.args.points.now c.loop-left.kept c.loop-left.left c.lowest-place.result c.loop-left.invariant.apart
    c.lowest-place.ensures.least c.lowest-place.ensures.there
    (c.loop-left.invariant.within (length c.args.points.now) c.requires.chain_within c.requires.rest_within).1 in
    let before = kept_before s in
    let p : 2 ^ (c.lowest-place.result + 1) ≤ 2 ^ 64 =
    power_le (c.lowest-place.result + 1) 64 (omega (arith, c.lowest-place.ensures.within)) in
    let t = next_power c.lowest-place.result in
    omega (arith, before, p, t, c.bit.ensures)
  where
    next_power : (k : ℕ) → 2 ^ (k + 1) ≡ 2 ^ k * 2
    next_power k = let a : k + 1 ≡ suc k = omega arith in ap (λ (z : ℕ). 2 ^ z) a ∙ twice k

pub overflow_add-result : goal.overflow_add-result
overflow_add-result c =
    let s = step c.args.points.now c.loop-left.kept c.loop-left.left c.lowest-place.result c.loop-left.invariant.apart
    c.lowest-place.ensures.least c.lowest-place.ensures.there
    (c.loop-left.invariant.within (length c.args.points.now) c.requires.chain_within c.requires.rest_within).1 in
    let l = sum_within c.pushed-next.result (c.loop-left.left - c.bit-left.result) 64
    (rest_apart s c.pushed-next.result c.bit-left.result c.pushed-next.ensures.within c.bit-left.ensures)
    c.pushed-next.type_inv (omega (arith, c.loop-left.auto.left-fits)) in
    omega (arith, l)

pub returns-then-next-kept-clause-within : goal.returns-then-next-kept-clause-within
returns-then-next-kept-clause-within c = λ k l m.
    let w = c.loop-left.invariant.within k l m in
    let n = w.1 in
    let s = step c.args.points.now c.loop-left.kept c.loop-left.left c.lowest-place.result c.loop-left.invariant.apart
    c.lowest-place.ensures.least c.lowest-place.ensures.there
    (c.loop-left.invariant.within (length c.args.points.now) c.requires.chain_within c.requires.rest_within).1 in
    sum_within c.pushed-next.result (c.loop-left.left - c.bit-left.result) k
    (rest_apart s c.pushed-next.result c.bit-left.result c.pushed-next.ensures.within c.bit-left.ensures)
    (next_within s c.pushed-next.result k c.pushed-next.ensures.within w.0 w.1) (omega (arith, n))

pub returns-then-next-kept-clause-passed : goal.returns-then-next-kept-clause-passed
returns-then-next-kept-clause-passed c =
    let S : List Pair = c.args.points.now in
    let kept : c.loop-left.kept < 2 ^ length S =
    (c.loop-left.invariant.within (length S) c.requires.chain_within c.requires.rest_within).0 in
    let s = step c.args.points.now c.loop-left.kept c.loop-left.left c.lowest-place.result c.loop-left.invariant.apart
    c.lowest-place.ensures.least c.lowest-place.ensures.there
    (c.loop-left.invariant.within (length c.args.points.now) c.requires.chain_within c.requires.rest_within).1 in
    let b = c.loop-left.invariant.bends c.if-not-is_first.true in
    let next : c.pushed-next.result ≡ c.loop-left.kept + 2 ^ c.lowest-place.result =
    c.if-next-kept.true ∙ ap (λ (b : ℕ). c.loop-left.kept + b) c.bit.ensures in
    c.loop-left.invariant.passed (at_places (c.pushed-next.result + (c.loop-left.left - c.bit-left.result)) S)
    (subst (λ (m : ℕ). IsPassed c.args.side (at_places c.loop-left.kept S ++ at_places c.loop-left.left S)
    (at_places (c.pushed-next.result + (c.loop-left.left - m)) S)) (sym c.bit-left.ensures)
    (stopped s c.args.side c.pushed-next.result b.0 b.1 c.requires.ordered
    (next_within s c.pushed-next.result (length S) c.pushed-next.ensures.within kept s.within) next b.2 b.3
    c.pushed-next.ensures.passed.strict.convex))

pub loop-left-preserved : goal.loop-left-preserved
loop-left-preserved c =
    let S : List Pair = c.args.points.now in
    let s = step c.args.points.now c.loop-left.kept c.loop-left.left c.lowest-place.result c.loop-left.invariant.apart
    c.lowest-place.ensures.least c.lowest-place.ensures.there
    (c.loop-left.invariant.within (length c.args.points.now) c.requires.chain_within c.requires.rest_within).1 in
    let convex : IsConvex c.args.side (point_at S c.lowest-place.result
    ∷ at_places (c.loop-left.left - c.bit-left.result) S) =
    subst (λ (b : ℕ). IsConvex c.args.side (point_at S c.lowest-place.result ∷ at_places (c.loop-left.left - b) S))
    (sym c.bit-left.ensures)
    (subst (IsConvex c.args.side) (first_left s) c.loop-left.invariant.rest_convex) in
    let ends = ends_there s c.args.side c.pushed-next.result c.pushed-next.ensures.passed in
    record {
      apart = rest_apart s c.pushed-next.result c.bit-left.result c.pushed-next.ensures.within c.bit-left.ensures;
      within = λ k l m. let w = c.loop-left.invariant.within k l m in (
        next_within s c.pushed-next.result k c.pushed-next.ensures.within w.0 w.1,
        (let n = w.1 in omega (arith, n)),
      );
      convex = c.pushed-next.ensures.passed.strict.convex;
      rest_convex = convex_right c.args.side (point_at S c.lowest-place.result ∷ [])
          (at_places (c.loop-left.left - c.bit-left.result) S) convex;
      bends = λ e. (ends.0, point_at S c.lowest-place.result, ends.1, convex);
      passed = λ new h. c.loop-left.invariant.passed new
          (passed_on s c.args.side c.pushed-next.result c.bit-left.result new c.bit-left.ensures
          c.pushed-next.ensures.passed h);
    }

pub returns-clause-passed : goal.returns-clause-passed
returns-clause-passed c = c.loop-left.invariant.passed (at_places c.loop-left.kept c.args.points.now)
    (none_left c.args.side c.args.points.now c.loop-left.kept c.loop-left.left c.requires.ordered c.loop-left-test.false
    c.loop-left.invariant.convex)
