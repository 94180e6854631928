-- the vertices up to the one in the middle come before the point
use Rattle.std.proofs.Common.{ℕ, ◌+◌, ◌-◌, ◌/◌, ◌<◌, ◌∙◌, length, inl, inr, subst, arith}
use Rattle.std.proofs.lemmas.Bool.{cases_lt}
use Rattle.lattice.specs.Plane.{Pair}
use Rattle.hull_geometry.specs.Edges.{IsAlong}
use Rattle.hull_geometry.specs.Positions.{origin, point_at}
use Rattle.hull_geometry.proofs.PointLists.{get_or_free}
use Rattle.polygon_arrays.proofs.Chains.{along_trans}
use Rattle.polygon_arrays.proofs.indices.first_not_before.Goals as goal

pub loop-low-preserved-then-is_along : goal.loop-low-preserved-then-is_along
loop-low-preserved-then-is_along c =
    let m : ℕ = c.loop-low.low + (c.loop-low.high - c.loop-low.low) / 2 in
    let ahead : m < c.loop-low.high = omega (arith, c.loop-low-test.true) in
    let within : m < length c.args.vertices.now = omega (arith, ahead, c.loop-low.invariant.to, c.requires.within) in
    let at : IsAlong c.args.side (point_at c.args.vertices.now m) c.args.p =
    subst (λ (z : Pair). IsAlong c.args.side z c.args.p)
    (c.of.ensures ∙ c.index-vertices-middle.is
    ∙ get_or_free c.args.vertices.now m c.index-vertices-middle.result origin within)
    (c.is_along.ensures.0 c.if-is_along.true) in
    record {
      from = omega (arith, c.loop-low.invariant.from);
      order = omega (arith, ahead);
      to = c.loop-low.invariant.to;
      before = λ i a b. elim (cases_lt i m) [
        | inl l ↦ along_trans c.args.side (point_at c.args.vertices.now i) (point_at c.args.vertices.now m) c.args.p
            (c.requires.chain i m a l (omega (arith, ahead, c.loop-low.invariant.to))) at
        | inr l ↦ subst (λ (n : ℕ). IsAlong c.args.side (point_at c.args.vertices.now n) c.args.p) (omega (arith, b, l)) at
      ];
      rest = c.loop-low.invariant.rest;
    }
