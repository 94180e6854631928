-- a covered point changes nothing; by one outside both chains grow, whatever the set
use Rattle.std.proofs.Common.{sym, ap, subst, arith, length, List}
use Rattle.lattice.specs.Covers.{with_point}
use Rattle.lattice.specs.Plane.{Pair}
use Rattle.lattice.specs.declared.side.Side.TheVariants.{Lower, Upper}
use Rattle.hull_geometry.specs.Monotone.{AreChainsOf, IsChainOf}
use Rattle.hull_geometry.proofs.SetLaws.{ordered_with}
use Rattle.hull_set.specs.Replies.{LiesAt}
use Rattle.hull_plain.specs.Growth.{Chains, HasGrownBy, IsHullOf}
use Rattle.hull_plain.proofs.Covered.{keeps, covered}
use Rattle.hull_plain.proofs.Octagons.{octagon_stays}
use Rattle.hull_plain.specs.Octagons.{IsOctagonInside}
use Rattle.hull_plain.specs.declared.octagon.Octagon.{Octagon}
use Rattle.hull_plain.proofs.growing_hull.GrowingHull.add.Goals as goal

-- the chains of a set become those of the set with the point
grown : (c : goal.After-grow-2) (S : List Pair) → AreChainsOf S c.self.inside.lower.items c.self.inside.upper.items
    → AreChainsOf (with_point c.args.p S) c.grow.new.chain.items c.grow-2.new.chain.items
grown c S k = record {
  below = c.grow.ensures.chain S (subst (IsChainOf Lower S) (sym c.reserve.ensures.items) k.below);
  above = c.grow-2.ensures.chain S (subst (IsChainOf Upper S) (sym c.reserve-else-is_err.ensures.items) k.above);
}

-- what contracts see are these chains
seen : (c : goal.After-grow-2) (S : List Pair) → IsHullOf S c.args.self.now
    → AreChainsOf S c.self.inside.lower.items c.self.inside.upper.items
seen c S k = subst (λ (h : Chains). AreChainsOf S h.lower h.upper) (sym c.self.view_is) k.1

pub invariant_of-self-2 : goal.invariant_of-self-2
invariant_of-self-2 c = record {
  some = (with_point c.args.p c.self.invariant.some.0, grown c c.self.invariant.some.0 c.self.invariant.some.1);
  in_order = ordered_with c.args.p c.self.invariant.some.0 c.self.invariant.in_order;
  few_below = omega (arith, c.grow.ensures.few, ap length c.reserve.ensures.items, c.len.ensures, c.if-len.false);
  few_above = omega (arith, c.grow-2.ensures.few, ap length c.reserve-else-is_err.ensures.items, c.len-else-len.ensures, c.if-len-2.false);
  inside = subst (λ (o : Octagon). IsOctagonInside c.grow.new.chain.items c.grow-2.new.chain.items o) (sym c.note_growth.ensures)
      (octagon_stays c.self.invariant.some.0 c.args.p _ _ _ _ _ c.self.invariant.in_order c.self.invariant.some.1
      (grown c c.self.invariant.some.0 c.self.invariant.some.1) c.self.invariant.inside);
}

pub returns-clause-grown : goal.returns-clause-grown
returns-clause-grown c = λ S k. (ordered_with c.args.p S k.0, grown c S (seen c S k))

pub returns-clause-place : goal.returns-clause-place
returns-clause-place c = λ S k. c.in-Outside.ensures S (seen c S k)

pub returns-then-len-clause-outside : goal.returns-then-len-clause-outside
returns-then-len-clause-outside c = λ S k.
    c.in-Outside.ensures S (subst (λ (h : Chains). AreChainsOf S h.lower h.upper) (sym c.self.view_is) k.1)

pub returns-then-is_err-clause-outside : goal.returns-then-is_err-clause-outside
returns-then-is_err-clause-outside c = λ S k.
    c.in-Outside.ensures S (subst (λ (h : Chains). AreChainsOf S h.lower h.upper) (sym c.self.view_is) k.1)

-- where a point that is not outside lies
lies : (c : goal.After-count_search) (S : List Pair) → IsHullOf S c.args.self.now → LiesAt S c.args.p c.place_by.result
lies c S k = c.place_by.ensures S (subst (λ (h : Chains). AreChainsOf S h.lower h.upper) (sym c.self.view_is) k.1)

pub returns-in_default-clause-grown : goal.returns-in_default-clause-grown
returns-in_default-clause-grown c = subst (HasGrownBy c.args.p c.args.self.now) (sym c.self.view_is)
    (keeps c.args.p c.args.self.now (λ S k. covered S c.args.p c.place_by.result c.in_default.not-Outside (lies c S k)))

pub returns-in_default-clause-place : goal.returns-in_default-clause-place
returns-in_default-clause-place c = lies c

pub invariant_of-self : goal.invariant_of-self
invariant_of-self c = record {
  some = c.self.invariant.some;
  in_order = c.self.invariant.in_order;
  few_below = c.self.invariant.few_below;
  few_above = c.self.invariant.few_above;
  inside = c.count_search.ensures c.self.invariant.inside;
}

-- a point in the octagon is inside
pub returns-then-has_point-clause-place : goal.returns-then-has_point-clause-place
returns-then-has_point-clause-place c = λ S k.
    c.self.invariant.inside S k.0 (subst (λ (h : Chains). AreChainsOf S h.lower h.upper) (sym c.self.view_is) k.1) c.args.p
    (c.has_point.ensures.0 c.if-has_point.true)

pub returns-then-has_point-clause-grown : goal.returns-then-has_point-clause-grown
returns-then-has_point-clause-grown c = keeps c.args.p c.args.self.now (λ S k. (c.self.invariant.inside S k.0
    (subst (λ (h : Chains). AreChainsOf S h.lower h.upper) (sym c.self.view_is) k.1) c.args.p
    (c.has_point.ensures.0 c.if-has_point.true)).0)
