-- The two chains of a round of vertices, and that each vertex lies left of each edge or is one of its ends.
use Rattle.std.proofs.Common.{◌≡◌, ℕ, ◌+◌, ◌-◌, ◌≤◌, ◌<◌, ℤ, pos, ◌<ℤ◌, List, length}
use Rattle.std.proofs.Common.{inl, inr, sym, ap, ◌∙◌, subst, arith}
use Rattle.std.proofs.lemmas.Bool.{cases_lt}
use Rattle.lattice.specs.Plane.{Pair, orient, IsBefore, turned_point}
use Rattle.lattice.proofs.TurnedBridges.{turned_twice, turned_order}
use Rattle.hull_polygon.specs.Rounds.{vertex, IsRound}
use Rattle.hull_polygon.proofs.Convex.{IsConvex, IsLeftOrEnd, left_or_end}
use Rattle.hull_polygon.proofs.Vertices.{vertex_back}
use Rattle.lattice.proofs.Sides.{side_turned}
use Rattle.hull_polygon.proofs.TwoChains.{IsCounterpart, edge_left}

-- ---- the two chains of a round

-- the round from `top` on, after a rotation by 180 degrees
abbrev pub behind : List Pair → ℕ → ℕ → Pair
behind V top i = turned_point (vertex V (top + i))

-- a property of a vertex holds under another number
pub renumbered : (V : List Pair) (P : Pair → Type 0) (i j : ℕ) → i ≡ j → P (vertex V i) → P (vertex V j)
renumbered V P i j e p = subst (λ (n : ℕ). P (vertex V n)) e p

-- the vertices up to `top` are convex
pub front_convex : (V : List Pair) (top : ℕ) → IsRound V top → IsConvex (vertex V) top
front_convex V top r = record {
  ascends = λ i j e l. renumbered V (IsBefore (vertex V i)) (i + 1) j (sym e)
      ((r.steps i (omega (arith, e, l, r.within))).0 (omega (arith, e, l)));
  bends = λ i j k e f l. renumbered V (λ z. pos 0 <ℤ orient (vertex V i) z (vertex V k)) (i + 1) j (sym e)
      (renumbered V (λ z. pos 0 <ℤ orient (vertex V i) (vertex V (i + 1)) z) (i + 2) k (omega (arith, e, f))
      (r.bends i (omega (arith, e, f, l, r.within)) (λ q. absurd (omega (arith, e, f, l, q)))
      (omega (arith, e, f, l, r.within))));
}

-- the vertices from `top` on, rotated, are convex
pub behind_convex : (V : List Pair) (top : ℕ) → IsRound V top → IsConvex (behind V top) (length V - top)
behind_convex V top r = record {
  ascends = λ i j e l. turned_order (vertex V (top + j)) (vertex V (top + i))
      (renumbered V (λ z. IsBefore z (vertex V (top + i))) (top + i + 1) (top + j) (omega (arith, e))
      ((r.steps (top + i) (omega (arith, e, l, r.within))).1 (omega arith)));
  bends = λ i j k e f l.
      subst (λ (n : ℤ). pos 0 <ℤ n) (sym (side_turned (vertex V (top + i)) (vertex V (top + j)) (vertex V (top + k))))
      (renumbered V (λ z. pos 0 <ℤ orient (vertex V (top + i)) z (vertex V (top + k))) (top + i + 1) (top + j)
      (omega (arith, e))
      (renumbered V (λ z. pos 0 <ℤ orient (vertex V (top + i)) (vertex V (top + i + 1)) z) (top + i + 2) (top + k)
      (omega (arith, e, f))
      (r.bends (top + i) (omega (arith, e, f, l, r.within)) (λ q. absurd (omega (arith, q)))
      (omega (arith, e, f, l, r.within)))));
}

-- the first vertex, rotated, is the end of the second chain
back_at_first : (V : List Pair) (top : ℕ) → IsRound V top → behind V top (length V - top) ≡ turned_point (vertex V 0)
back_at_first V top r =
    ap turned_point (vertex_back V (top + (length V - top)) (omega (arith, r.within)) (omega (arith, r.within)))

-- the second chain is the counterpart of the first
pub behind_front : (V : List Pair) (top : ℕ) → IsRound V top
    → IsCounterpart (vertex V) top (behind V top) (length V - top)
behind_front V top r = record {
  convex = behind_convex V top r;
  starts = ap (λ (n : ℕ). turned_point (vertex V n)) (omega arith);
  ends = back_at_first V top r;
}

-- the first chain is the counterpart of the second
front_behind : (V : List Pair) (top : ℕ) → IsRound V top
    → IsCounterpart (behind V top) (length V - top) (vertex V) top
front_behind V top r = record {
  convex = front_convex V top r;
  starts = sym (turned_twice (vertex V 0)) ∙ ap turned_point (sym (back_at_first V top r));
  ends = sym (turned_twice (vertex V top))
      ∙ ap (λ (n : ℕ). turned_point (turned_point (vertex V n))) (omega arith);
}

-- ---- each vertex lies left of each edge, or is one of its ends

-- each vertex lies left of an edge forward, or is one of its ends
pub left_ahead : (V : List Pair) (top i j k : ℕ) → IsRound V top → j ≡ i + 1 → i < top → k < length V
    → IsLeftOrEnd (vertex V i) (vertex V j) (vertex V k)
left_ahead V top i j k r e l n = elim (cases_lt top k) [
  | inr h ↦ left_or_end (vertex V) top i j k (front_convex V top r) e (omega (arith, e, l)) h
  | inl h ↦ inl (subst (λ (z : Pair). pos 0 <ℤ orient (vertex V i) (vertex V j) z)
      (turned_twice (vertex V (top + (k - top))) ∙ ap (vertex V) (omega (arith, h)))
      (edge_left (vertex V) top (behind V top) (length V - top) i j (k - top) (front_convex V top r)
      (behind_front V top r) e (omega (arith, e, l)) (omega (arith, h)) (omega (arith, h, n))))
]

-- a point left of a rotated edge or at one of its ends is so before the rotation
turned_left : (u v t : Pair) → IsLeftOrEnd (turned_point u) (turned_point v) (turned_point t) → IsLeftOrEnd u v t
turned_left u v t (inl h) = inl (subst (λ (n : ℤ). pos 0 <ℤ n) (side_turned u v t) h)
turned_left u v t (inr (inl e)) = inr (inl (sym (turned_twice t) ∙ ap turned_point e ∙ turned_twice u))
turned_left u v t (inr (inr e)) = inr (inr (sym (turned_twice t) ∙ ap turned_point e ∙ turned_twice v))

-- each vertex lies left of an edge back, or is one of its ends, by the numbers from `top` on
left_back_from : (V : List Pair) (top a b k : ℕ) → IsRound V top → b ≡ a + 1 → b ≤ length V - top → k < length V
    → IsLeftOrEnd (vertex V (top + a)) (vertex V (top + b)) (vertex V k)
left_back_from V top a b k r e l n =
    let c : IsConvex (behind V top) (length V - top) = behind_convex V top r in
    turned_left (vertex V (top + a)) (vertex V (top + b)) (vertex V k)
    (elim (cases_lt k top) [
      | inr h ↦ renumbered V (λ z. IsLeftOrEnd (behind V top a) (behind V top b) (turned_point z)) (top + (k - top)) k
          (omega (arith, h))
          (left_or_end (behind V top) (length V - top) a b (k - top) c e l (omega (arith, h, n)))
      | inl h ↦ elim (cases_lt 0 k) [
        | inl p ↦ inl (edge_left (behind V top) (length V - top) (vertex V) top a b k c (front_behind V top r) e l p h)
        | inr p ↦ renumbered V (λ z. IsLeftOrEnd (behind V top a) (behind V top b) (turned_point z)) 0 k
            (omega (arith, p))
            (subst (IsLeftOrEnd (behind V top a) (behind V top b)) (back_at_first V top r)
            (left_or_end (behind V top) (length V - top) a b (length V - top) c e l (omega arith)))
      ]
    ])

-- each vertex lies left of an edge back, or is one of its ends
pub left_back : (V : List Pair) (top i j k : ℕ) → IsRound V top → j ≡ i + 1 → top ≤ i → i < length V → k < length V
    → IsLeftOrEnd (vertex V i) (vertex V j) (vertex V k)
left_back V top i j k r e f l n =
    renumbered V (λ z. IsLeftOrEnd z (vertex V j) (vertex V k)) (top + (i - top)) i (omega (arith, f))
    (renumbered V (λ z. IsLeftOrEnd (vertex V (top + (i - top))) z (vertex V k)) (top + (j - top)) j
    (omega (arith, e, f))
    (left_back_from V top (i - top) (j - top) k r (omega (arith, e, f)) (omega (arith, e, f, l)) n))
