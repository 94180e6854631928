-- The hull of a set is that of the set with a point that it covers.
use Rattle.std.proofs.Common.{◌≢◌, pos, ◌≤ℤ◌, ◌<ℤ◌, inl, inr, refl, sym, ap, length, List, [], ◌∷◌}
use Rattle.lattice.specs.Covers.{Covers}
use Rattle.lattice.specs.Orientations.{orient_on}
use Rattle.lattice.specs.Places.{IsOutside}
use Rattle.lattice.specs.Plane.{Pair, IsBefore}
use Rattle.lattice.specs.Signs.{le_or_lt}
use Rattle.lattice.specs.declared.side.Side.{Side}
use Rattle.lattice.specs.declared.side.Side.TheVariants.{Lower, Upper}
use Rattle.lattice.proofs.Order.{before_total, before_not, equal_by}
use Rattle.hull_geometry.specs.ChainEdges.{IsEdge}
use Rattle.hull_geometry.specs.Edges.{IsChain, end_of}
use Rattle.hull_geometry.specs.Monotone.{IsChainOf, IsInner}
use Rattle.hull_geometry.proofs.ChainEdges.{chain_edges, chain_first, chain_last, lower_edge, upper_edge}
use Rattle.hull_geometry.proofs.EdgePlaces.{right_outside}
use Rattle.hull_geometry.proofs.EdgesAt.{outside_after, outside_before, outside_nothing}
use Rattle.hull_geometry.proofs.ChainPlaces.{none_of}
use Rattle.hull_geometry.proofs.SetLaws.{ordered_with}
use Rattle.hull_set.specs.Replies.{LiesAt}
use Rattle.hull_set.specs.declared.set.Place.{Place}
use Rattle.hull_set.specs.declared.set.Place.TheVariants.{Inside, On, Outside}
use Rattle.hull_plain.specs.Growth.{Chains, HasGrownBy, IsHullOf}
use Rattle.hull_plain.proofs.Growth.{chain_with_inner}

-- a point outwards of an edge is outside
outwards : (side : Side) (S : List Pair) (a b u : Pair) → IsEdge side S a b → orient_on side a b u <ℤ pos 0 → IsOutside S u
outwards Lower S a b u e h = right_outside S a b u (lower_edge e).left h
outwards Upper S a b u e h = right_outside S b a u (upper_edge e).left h

-- a covered point between the ends of a chain of edges is inner to it
along : (side : Side) (S : List Pair) (x : Pair) (rest : List Pair) (u : Pair) → IsChain (IsEdge side S) x rest
    → Covers S u → ¬ IsBefore u x → ¬ IsBefore (end_of x rest) u → IsInner side (x ∷ rest) u
along side S x [] u e covered h k = inl (equal_by u x h k)
along side S x (y ∷ ys) u e covered h k =
    elim (before_total u y) [
      | inl uy ↦ elim (before_total x u) [
        | inl xu ↦ inr (inr (inl (xu, uy, inwards)))
        | inr (inl q) ↦ inl (sym q)
        | inr (inr ux) ↦ absurd (h ux)
      ]
      | inr (inl q) ↦ inr (inl q)
      | inr (inr yu) ↦ further (along side S y ys u e.1 covered (before_not y u yu) k)
    ]
  where
    inwards : pos 0 ≤ℤ orient_on side x y u
    inwards = elim (le_or_lt (pos 0) (orient_on side x y u)) [
      | inl n ↦ n
      | inr n ↦ absurd (outwards side S x y u e.0 n covered)
    ]

    further : IsInner side (y ∷ ys) u → IsInner side (x ∷ y ∷ ys) u
    further (inl q) = inr (inl q)
    further (inr m) = inr (inr (inr m))

-- a covered point is inner to each chain
pub covered_inner : (side : Side) (S chain : List Pair) (u : Pair) → IsChainOf side S chain → Covers S u → IsInner side chain u
covered_inner side S [] u c covered = absurd (outside_nothing S u (ap (λ (z : List Pair). length z) (none_of side S [] c refl)) covered)
covered_inner side S (x ∷ rest) u c covered =
    along side S x rest u (chain_edges side S x rest c) covered
    (λ b. outside_before S x u (chain_first side S x rest c) b covered)
    (λ b. outside_after S (end_of x rest) u (chain_last side S x rest c) b covered)

-- so the hull of the set is that of the set with the point
pub keeps : (p : Pair) (h : Chains) → ((S : List Pair) → IsHullOf S h → Covers S p) → HasGrownBy p h h
keeps p h covers S k = (
  ordered_with p S k.0,
  record {
    below = chain_with_inner Lower S h.lower p (covered_inner Lower S h.lower p k.1.below (covers S k)) k.1.below;
    above = chain_with_inner Upper S h.upper p (covered_inner Upper S h.upper p k.1.above (covers S k)) k.1.above;
  },
)

-- a point that is not outside is covered
pub covered : (S : List Pair) (p : Pair) (place : Place) → place ≢ Outside → LiesAt S p place → Covers S p
covered S p Inside n h = h.0
covered S p On n h = h.0
covered S p Outside n h = absurd (n refl)
