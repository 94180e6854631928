-- The points of a chain that the tangents from a point touch, by the edges at them.
use Rattle.std.proofs.Common.{◌≡◌, ℤ, pos, neg_ℤ, ◌≤ℤ◌, ◌<ℤ◌, ◌⊎◌, inl, inr, sym, ap, ◌∙◌, subst, List, arith}
use Rattle.std.proofs.lemmas.Int.{ints}
use Rattle.std.specs.List.{Contains}
use Rattle.lattice.specs.Plane.{Pair, orient, distance_squared, IsBefore}
use Rattle.lattice.specs.Signs.{le_or_lt}
use Rattle.lattice.specs.Orientations.{orient_on}
use Rattle.lattice.specs.declared.side.Side.{Side}
use Rattle.lattice.specs.declared.side.Side.TheVariants.{Lower, Upper}
use Rattle.lattice.proofs.Numbers.{nn_above, nn_zero, np_opposite, zero_opposite, le_itself, le_less, np_below}
use Rattle.lattice.proofs.Order.{before_total}
use Rattle.hull_geometry.specs.Edges.{IsAlong, IsEdgeOn, IsFirst, IsLast}
use Rattle.hull_geometry.specs.Hands.{hand_behind, other_hand}
use Rattle.hull_geometry.specs.Locations.{IsClear}
use Rattle.hull_geometry.specs.Tangents.{IsNoMore, IsTangent, IsLeftTangent, IsRightTangent}
use Rattle.hull_geometry.specs.declared.hand.Hand.TheVariants.{Left}
use Rattle.hull_geometry.proofs.EdgeSteps.{past_farther, past_farther_back}
use Rattle.hull_geometry.proofs.Orientation.{orient_swap_zero, above}
use Rattle.hull_geometry.proofs.PointLists.{all_of}
use Rattle.hull_geometry.proofs.Supports.{IsSupport, lower_support, upper_support}
use Rattle.hull_geometry.proofs.Orientations.{orient_on_cycle, orient_on_swap, orient_on_start, orient_on_end, strict_on, strict_back}
use Rattle.hull_geometry.proofs.Orientations.{fans_from, fans_to}
use Rattle.lattice.proofs.LineCrossings.{orient_other}

-- t is not outwards of the line from a to b, and if it lies on it, it is no farther from q than p
abbrev IsNoFarther : Side → Pair → Pair → Pair → Pair → Pair → Type 0
IsNoFarther side a b t q p =
    (pos 0 ≤ℤ orient_on side a b t) × (orient_on side a b t ≡ pos 0 → distance_squared q t ≤ℤ distance_squared q p)

-- a bend that is not straight is no tie
no_tie : (side : Side) (a b t q p : Pair) → pos 0 <ℤ orient_on side a b t → IsNoFarther side a b t q p
no_tie side a b t q p h = (nn_above _ h, λ e. absurd (omega (arith, ints)))

-- a bend that is straight is straight to either side
pub straight : (side : Side) (a b t : Pair) → orient_on side a b t ≡ pos 0 → orient a b t ≡ pos 0
straight Lower a b t e = e
straight Upper a b t e = zero_opposite _ _ (orient_other b a t) e

-- a bend whose negation is below 0 is not 0
not_straight : (x y : ℤ) → y ≡ neg_ℤ x → y <ℤ pos 0 → x ≡ pos 0 → ⊥
not_straight x y e h z = omega (arith, ints)

-- no point of S is in the way of q
module _ (side : Side) (S : List Pair) (q p : Pair) (clear : IsClear side S q) where
  -- q is not inwards of a line over it
  over : (a b : Pair) → Contains S a → Contains S b → IsBefore a q → IsBefore q b → orient_on side a b q ≤ℤ pos 0
  over a b ma mb aq qb = np_below _ (clear.outwards a b ma mb aq qb)

  -- if an edge begins before q and does not end before it with q inwards, q is not inwards of it
  not_passed : (n : Pair) → IsSupport side S p n → IsBefore p q → ¬ (IsBefore n q × (pos 0 <ℤ orient_on side p n q))
      → orient_on side p n q ≤ℤ pos 0
  not_passed n e pq h = elim (le_or_lt (orient_on side p n q) (pos 0)) [
    | inl k ↦ k
    | inr k ↦ elim (before_total n q) [
      | inl b ↦ absurd (h (b, k))
      | inr (inl z) ↦ absurd (clear.absent (subst (Contains S) z e.to))
      | inr (inr b) ↦ over p n e.from e.to pq b
    ]
  ]

  -- if an edge ends after q and does not begin after it with q inwards, q is not inwards of it
  not_to_come : (a : Pair) → IsSupport side S a p → IsBefore q p → ¬ (IsBefore q a × (pos 0 <ℤ orient_on side a p q))
      → orient_on side a p q ≤ℤ pos 0
  not_to_come a e qp h = elim (le_or_lt (orient_on side a p q) (pos 0)) [
    | inl k ↦ k
    | inr k ↦ elim (before_total q a) [
      | inl b ↦ absurd (h (b, k))
      | inr (inl z) ↦ absurd (clear.absent (subst (Contains S) (sym z) e.from))
      | inr (inr b) ↦ over a p e.from e.to b qp
    ]
  ]

  -- a point after p is no farther, if an edge from p does not have q inwards of it
  after_touch : (n t : Pair) → IsSupport side S p n → IsBefore p q → orient_on side p n q ≤ℤ pos 0 → Contains S t
      → IsBefore p t → IsNoFarther side p q t q p
  after_touch n t e pq h m pt = (
    fans_from side p n q t e.forward pq pt h (e.inner t m),
    λ z. elim (before_total t q) [
      | inl b ↦ le_less _ _ (past_farther_back q t p b pt
          (orient_swap_zero q p t (zero_opposite _ _ (orient_other p q t) (straight side p q t z))))
      | inr (inl f) ↦ absurd (clear.absent (subst (Contains S) f m))
      | inr (inr b) ↦ absurd (not_straight _ _ (orient_on_swap side p q t) (clear.outwards p t e.from m pq b) z)
    ],
  )

  -- a point before p is no farther, if an edge to p does not have q inwards of it
  before_touch : (a t : Pair) → IsSupport side S a p → IsBefore q p → orient_on side a p q ≤ℤ pos 0 → Contains S t
      → IsBefore t p → IsNoFarther side q p t q p
  before_touch a t e qp h m tp = (
    fans_to side a p q t e.forward qp tp h (e.inner t m),
    λ z. elim (before_total q t) [
      | inl b ↦ le_less _ _ (past_farther q t p b tp (orient_swap_zero q p t (straight side q p t z)))
      | inr (inl f) ↦ absurd (clear.absent (subst (Contains S) (sym f) m))
      | inr (inr b) ↦ absurd (not_straight _ _ (orient_on_swap side t q p ∙ ap neg_ℤ (orient_on_cycle side t q p))
          (clear.outwards t p m e.to b qp) z)
    ],
  )

-- ---- in the terms of tangents

-- the same as seen from the other end of the line
flipped : (q p t : Pair) → (pos 0 ≤ℤ orient p q t) × (orient p q t ≡ pos 0 → distance_squared q t ≤ℤ distance_squared q p)
    → IsNoMore Left q p t
flipped q p t h = (np_opposite _ _ (orient_other p q t) h.0, λ e. h.1 (zero_opposite _ _ (orient_other q p t) e))

-- if t is no farther along the line from p to q, it is no farther on the hand of p before q
no_more_behind : (side : Side) (q p t : Pair) → IsNoFarther side p q t q p → IsNoMore (hand_behind side) q p t
no_more_behind Lower q p t h = flipped q p t h
no_more_behind Upper q p t h = h

-- if t is no farther along the line from q to p, it is no farther on the hand of p after q
no_more_ahead : (side : Side) (q p t : Pair) → IsNoFarther side q p t q p → IsNoMore (other_hand (hand_behind side)) q p t
no_more_ahead Lower q p t h = h
no_more_ahead Upper q p t h = flipped q p t h

-- the point before q up to which edges end before q with q inwards of them is the tangent point there
pub behind_touched : (side : Side) (S : List Pair) (q p : Pair) → IsClear side S q → Contains S p → IsBefore p q
    → IsFirst S p ⊎ ((a : Pair) × IsSupport side S a p × (pos 0 <ℤ orient_on side a p q))
    → IsLast S p ⊎ ((n : Pair) × IsSupport side S p n × ¬ (IsBefore n q × (pos 0 <ℤ orient_on side p n q)))
    → IsTangent (hand_behind side) S q p
behind_touched side S q p clear m pq low high =
    (m, all_of (IsNoMore (hand_behind side) q p) S (λ t i. no_more_behind side q p t (returned t i)))
  where
    returned : (t : Pair) → Contains S t → IsNoFarther side p q t q p
    returned t i = elim (before_total t p) [
      | inr (inl e) ↦ subst (λ (z : Pair). IsNoFarther side p q z q p) (sym e)
          (nn_zero _ (orient_on_start side p q), λ z. le_itself _)
      | inl b ↦ elim low [
        | inl f ↦ absurd (f t i b)
        | inr k ↦ no_tie side p q t q p
            (strict_back side k.0 p q t k.1.forward pq b (k.1.inner t i) k.2)
      ]
      | inr (inr b) ↦ elim high [
        | inl l ↦ absurd (l t i b)
        | inr k ↦ after_touch side S q p clear k.0 t k.1 pq (not_passed side S q p clear k.0 k.1 pq k.2) i b
      ]
    ]

-- the point after q from which edges begin after q with q inwards of them is the tangent point there
pub ahead_touched : (side : Side) (S : List Pair) (q p : Pair) → IsClear side S q → Contains S p → IsBefore q p
    → IsFirst S p ⊎ ((a : Pair) × IsSupport side S a p × ¬ (IsBefore q a × (pos 0 <ℤ orient_on side a p q)))
    → IsLast S p ⊎ ((n : Pair) × IsSupport side S p n × (pos 0 <ℤ orient_on side p n q))
    → IsTangent (other_hand (hand_behind side)) S q p
ahead_touched side S q p clear m qp low high =
    (m, all_of (IsNoMore (other_hand (hand_behind side)) q p) S (λ t i. no_more_ahead side q p t (returned t i)))
  where
    returned : (t : Pair) → Contains S t → IsNoFarther side q p t q p
    returned t i = elim (before_total t p) [
      | inr (inl e) ↦ subst (λ (z : Pair). IsNoFarther side q p z q p) (sym e)
          (nn_zero _ (orient_on_end side q p), λ z. le_itself _)
      | inl b ↦ elim low [
        | inl f ↦ absurd (f t i b)
        | inr k ↦ before_touch side S q p clear k.0 t k.1 qp (not_to_come side S q p clear k.0 k.1 qp k.2) i b
      ]
      | inr (inr b) ↦ elim high [
        | inl l ↦ absurd (l t i b)
        | inr k ↦ no_tie side q p t q p
            (strict_on side q p k.0 t qp k.1.forward b (above _ _ (sym (orient_on_cycle side q p k.0)) k.2) (k.1.inner t i))
      ]
    ]

-- ---- along the chain

-- the left tangent touches p if the edge to p along the chain, if there is one, has q on its left, and the edge from p
-- does not end before q with q on its left
pub left_touched : (side : Side) (S : List Pair) (q p : Pair) → IsClear side S q → Contains S p → IsAlong side p q
    → ((t : Pair) → Contains S t → ¬ (IsAlong side t p)) ⊎ ((a : Pair) × IsEdgeOn side S a p × (pos 0 <ℤ orient a p q))
    → ((t : Pair) → Contains S t → ¬ (IsAlong side p t))
    ⊎ ((n : Pair) × IsEdgeOn side S p n × ¬ (IsAlong side n q × (pos 0 <ℤ orient p n q))) → IsLeftTangent S q p
left_touched Lower S q p clear m pq low high =
    behind_touched Lower S q p clear m pq
    (elim low [ inl f ↦ inl f | inr k ↦ inr (k.0, lower_support k.1, k.2) ])
    (elim high [ inl l ↦ inl l | inr k ↦ inr (k.0, lower_support k.1, k.2) ])
left_touched Upper S q p clear m pq low high =
    ahead_touched Upper S q p clear m pq
    (elim high [ inl l ↦ inl l | inr k ↦ inr (k.0, upper_support k.1, k.2) ])
    (elim low [ inl f ↦ inl f | inr k ↦ inr (k.0, upper_support k.1, k.2) ])

-- the right tangent touches p if the edge to p does not begin after q with q on its left, and the edge from p, if there
-- is one, has q on its left
pub right_touched : (side : Side) (S : List Pair) (q p : Pair) → IsClear side S q → Contains S p → IsAlong side q p
    → ((t : Pair) → Contains S t → ¬ (IsAlong side t p))
    ⊎ ((a : Pair) × IsEdgeOn side S a p × ¬ (IsAlong side q a × (pos 0 <ℤ orient a p q)))
    → ((t : Pair) → Contains S t → ¬ (IsAlong side p t)) ⊎ ((n : Pair) × IsEdgeOn side S p n × (pos 0 <ℤ orient p n q))
    → IsRightTangent S q p
right_touched Lower S q p clear m qp low high =
    ahead_touched Lower S q p clear m qp
    (elim low [ inl f ↦ inl f | inr k ↦ inr (k.0, lower_support k.1, k.2) ])
    (elim high [ inl l ↦ inl l | inr k ↦ inr (k.0, lower_support k.1, k.2) ])
right_touched Upper S q p clear m qp low high =
    behind_touched Upper S q p clear m qp
    (elim high [ inl l ↦ inl l | inr k ↦ inr (k.0, upper_support k.1, k.2) ])
    (elim low [ inl f ↦ inl f | inr k ↦ inr (k.0, upper_support k.1, k.2) ])
