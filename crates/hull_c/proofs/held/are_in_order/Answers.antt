-- a point that is not before the next one shows that the order is wrong, and one that is continues it
use Rattle.std.proofs.Common.{◌∙◌, sym, arith, ◌-◌, ◌≤◌}
use Rattle.std.proofs.lemmas.Bool.{false≢true}
use Rattle.std.proofs.lemmas.Map.Entries.{length-keys_of}
use Rattle.lattice.specs.Plane.{Pair}
use Rattle.hull_c.proofs.InOrder.{in_order_to_next, points_at}
use Rattle.hull_c.proofs.held.are_in_order.Goals as goal

pub returns-then-not-stands_before : goal.returns-then-not-stands_before
returns-then-not-stands_before c = (
  λ t. absurd (false≢true t),
  λ s.
      let d : Pair = c.index-array-i.result.0 in
      let some : 1 ≤ c.loop-i.i = c.loop-i.invariant.some in
      let e = points_at c.args.array.now (c.loop-i.i - 1) c.loop-i.i c.index-array-i.result c.index-array-i-in-loop-i.result d
      c.index-array-i.is c.index-array-i-in-loop-i.is (omega (arith, c.loop-i-test.true)) c.loop-i-test.true in
      let b = s (c.loop-i.i - 1) c.loop-i.i d (omega (arith, some)) (omega (arith, length-keys_of c.args.array.now, c.loop-i-test.true)) in
      sym c.if-not-stands_before.true ∙ c.stands_before.ensures.1 (rw (← e.0, ← e.1) b),
)

pub loop-i-preserved : goal.loop-i-preserved
loop-i-preserved c = record {
  some = omega (arith, c.loop-i.invariant.some);
  in_order = in_order_to_next c.loop-i.i _ c.loop-i.invariant.some c.loop-i.invariant.in_order (λ d.
      let e = points_at c.args.array.now (c.loop-i.i - 1) c.loop-i.i c.index-array-i.result c.index-array-i-in-loop-i.result d
      c.index-array-i.is c.index-array-i-in-loop-i.is (omega (arith, c.loop-i-test.true)) c.loop-i-test.true in
      rw (e.0, e.1) (c.stands_before.ensures.0 c.if-not-stands_before.false));
}
