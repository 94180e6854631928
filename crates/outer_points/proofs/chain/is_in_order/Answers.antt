-- a point that is not before the one before it continues the order
use Rattle.std.proofs.Common.{get_or, ◌≡◌, ◌∙◌, ◌-◌, sym, subst, arith, List, length}
use Rattle.lattice.specs.Plane.{Pair, IsBefore}
use Rattle.lattice.proofs.Tests.{failed}
use Rattle.hull_geometry.specs.Positions.{origin, point_at}
use Rattle.hull_geometry.proofs.PointLists.{get_or_free}
use Rattle.outer_points.proofs.InOrder.{in_order_to_next}
use Rattle.outer_points.proofs.chain.is_in_order.Goals as goal

pub loop-i-preserved : goal.loop-i-preserved
loop-i-preserved c =
    let C : List Pair = c.args.chain.now in
    let five : length C ≡ 5 = c.type_inv.chain in
    let next : c.index-chain-i.result ≡ point_at C c.loop-i.i = c.index-chain-i.is
    ∙ get_or_free C c.loop-i.i c.index-chain-i.result origin (omega (arith, five, c.loop-i-test.true)) in
    let one : c.index-chain-i-in-loop-i.result ≡ point_at C (c.loop-i.i - 1) = c.index-chain-i-in-loop-i.is
    ∙ get_or_free C (c.loop-i.i - 1) c.index-chain-i-in-loop-i.result origin (omega (arith, five, c.loop-i-test.true)) in
    record {
      some = omega (arith, c.loop-i.invariant.some);
      in_order = in_order_to_next c.loop-i.i C c.loop-i.invariant.some c.loop-i.invariant.in_order
          (λ b. failed _ _ c.if-before.false c.before-in-loop-i.ensures
          (subst (λ (z : Pair). IsBefore z (get_or C (c.loop-i.i - 1) c.index-chain-i-in-loop-i.result)) (sym next ∙ c.index-chain-i.is)
          (subst (IsBefore (point_at C c.loop-i.i)) (sym one ∙ c.index-chain-i-in-loop-i.is) b)));
    }
