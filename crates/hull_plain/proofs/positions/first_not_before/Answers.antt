-- if a point is before p, all earlier ones are; if one is not, no later one is
use Rattle.std.proofs.Common.{◌≡◌, ◌+◌, ◌-◌, ◌/◌, ◌<◌, ℕ, List, length, get_or, take, drop, refl, sym, subst, arith}
use Rattle.std.proofs.lemmas.Bool.{false≢true}
use Rattle.std.specs.List.{All}
use Rattle.lattice.specs.Plane.{Pair, IsBefore}
use Rattle.hull_geometry.proofs.FoundPositions.{below_up_to, rest_from, ordered_from}
use Rattle.hull_geometry.proofs.PointLists.{in_rest, none_from}
use Rattle.hull_plain.proofs.positions.first_not_before.Goals as goal

pub loop-low-init : goal.loop-low-init
loop-low-init c =
    let none : c.args.from - c.args.from ≡ 0 = omega arith in
    record {
      from = omega arith;
      ordered = omega (arith, c.requires.inside, c.len-high.ensures);
      inside = omega (arith, c.len-high.ensures);
      below = subst (λ (n : ℕ). All (λ t. IsBefore t c.args.p) (take n (drop c.args.from c.args.points.now.items)))
          (sym none) (λ k d l. absurd (omega (arith, l)));
      rest = subst (λ (z : List Pair). All (λ t. ¬ (IsBefore t c.args.p)) z)
          (sym (none_from c.len-high.result c.args.points.now.items (omega (arith, c.len-high.ensures))))
          (λ k d l. absurd (omega (arith, l)));
    }

pub loop-low-preserved-then-before : goal.loop-low-preserved-then-before
loop-low-preserved-then-before c =
    let m : ℕ = c.loop-low.low + (c.loop-low.high - c.loop-low.low) / 2 in
    let l : m < length c.args.points.now.items =
    omega (arith, c.loop-low-test.true, c.loop-low.invariant.inside) in
    let at = in_rest c.args.points.now.items c.args.from (m - c.args.from) c.get.result
    (omega (arith, l, c.loop-low.invariant.from))
    (subst (λ (n : ℕ). c.get.result ≡ get_or c.args.points.now.items n c.get.result)
    (omega (arith, c.loop-low.invariant.from)) c.get.ensures) in
    let next : m - c.args.from + 1 ≡ m + 1 - c.args.from = omega (arith, c.loop-low.invariant.from) in
    record {
      from = omega (arith, c.loop-low.invariant.from);
      ordered = omega (arith, c.loop-low-test.true);
      inside = c.loop-low.invariant.inside;
      below = subst (λ (n : ℕ). All (λ t. IsBefore t c.args.p) (take n (drop c.args.from c.args.points.now.items))) next
          (below_up_to (drop c.args.from c.args.points.now.items) c.args.p c.get.result (m - c.args.from)
          (ordered_from c.args.from c.args.points.now.items c.requires.ordered c.requires.inside) at.within at.point
          (c.if-before.ensures.0 refl));
      rest = c.loop-low.invariant.rest;
    }

pub loop-low-preserved : goal.loop-low-preserved
loop-low-preserved c =
    let m : ℕ = c.loop-low.low + (c.loop-low.high - c.loop-low.low) / 2 in
    let l : m < length c.args.points.now.items =
    omega (arith, c.loop-low-test.true, c.loop-low.invariant.inside) in
    record {
      from = c.loop-low.invariant.from;
      ordered = omega arith;
      inside = omega (arith, l);
      below = c.loop-low.invariant.below;
      rest = rest_from c.args.points.now.items c.args.p c.get.result m c.requires.ordered l c.get.ensures
          (λ k. false≢true (c.if-before.ensures.1 k));
    }

pub returns-clause-rest : goal.returns-clause-rest
returns-clause-rest c =
    subst (λ (n : ℕ). All (λ t. ¬ (IsBefore t c.args.p)) (drop n c.args.points.now.items))
    (omega (arith, c.loop-low-test.false, c.loop-low.invariant.ordered)) c.loop-low.invariant.rest
