-- no points have empty chains, and the octagon of no points is inside
use Rattle.std.proofs.Common.{◌≡◌, [], sym, ap, subst, arith, length, List}
use Rattle.lattice.specs.Plane.{Pair}
use Rattle.lattice.specs.declared.side.Side.{Side}
use Rattle.lattice.specs.declared.side.Side.TheVariants.{Lower, Upper}
use Rattle.hull_geometry.specs.Monotone.{IsChainOf, IsStrict}
use Rattle.hull_geometry.proofs.PointLists.{AllPairs-none}
use Rattle.hull_plain.proofs.Growth.{own_chain}
use Rattle.hull_plain.proofs.growing_hull.GrowingHull.new.Goals as goal

-- the empty list is strict
none_strict : (side : Side) → IsStrict side []
none_strict side = record { ordered = λ i j d less few. absurd (omega (arith, few)); convex = tt }

-- an empty list is the chain of no points
empty_chain : (side : Side) (chain : List Pair) → chain ≡ [] → IsChainOf side [] chain
empty_chain side chain none = subst (IsChainOf side []) (sym none) (own_chain side [] (none_strict side))

pub invariant_of-result : goal.invariant_of-result
invariant_of-result c = record {
  some = (
    [],
    record {
      below = empty_chain Lower c.new.result.items c.new.ensures.items;
      above = empty_chain Upper c.new-2.result.items c.new-2.ensures.items;
    },
  );
  in_order = AllPairs-none;
  few_below = omega (arith, ap length c.new.ensures.items);
  few_above = omega (arith, ap length c.new-2.ensures.items);
  inside = c.new-4.ensures _ _;
}
