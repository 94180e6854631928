-- A point between the ends of an edge below it and of an edge above it is covered.
use Rattle.std.proofs.Common.{◌≡◌, pos, ◌-ℤ◌, ◌≤ℤ◌, neg_ℤ, ◌⊎◌, inl, inr, sym, ap, ◌∙◌, List, arith}
use Rattle.std.specs.List.{Contains}
use Rattle.std.proofs.lemmas.Int.{ints}
use Rattle.lattice.specs.Covers.{IsBetween, IsOnSegment, Covers, OnSegment, InTriangle}
use Rattle.lattice.specs.Plane.{Pair, orient, IsBefore}
use Rattle.lattice.specs.Signs.{le_or_lt}
use Rattle.lattice.proofs.Vectors.{minus, opp, cross, Ahead, cross-opp_left, cross-opp_right, cross-opp, cross_trans}
use Rattle.hull_geometry.proofs.Orientation.{orient_swap, orient-sum, at_least, ahead_of, behind_of, turned, orient-cycle}
use Rattle.hull_geometry.proofs.Orientation.{along}

-- a point q between a and b in the order is between them in x
between_x : (a b q : Pair) → IsBefore a q → IsBefore q b → IsBetween a.x b.x q.x
between_x a b q (inl h) (inl k) = inl (omega (arith, ints), omega (arith, ints))
between_x a b q (inl h) (inr k) = inl (omega (arith, ints), omega (arith, ints, k.0))
between_x a b q (inr h) (inl k) = inl (omega (arith, ints, h.0), omega (arith, ints))
between_x a b q (inr h) (inr k) = inl (omega (arith, ints, h.0), omega (arith, ints, k.0))

-- a point q between a and b in the order and on their line is between them in y
between_y : (a b q : Pair)
    → ((pos 0 ≤ℤ neg_ℤ (a.y -ℤ q.y)) × (pos 0 ≤ℤ (b.y -ℤ q.y)))
    ⊎ ((neg_ℤ (a.y -ℤ q.y) ≤ℤ pos 0) × ((b.y -ℤ q.y) ≤ℤ pos 0)) → IsBetween a.y b.y q.y
between_y a b q (inl h) = inl (omega (arith, ints, h.0), omega (arith, ints, h.1))
between_y a b q (inr h) = inr (omega (arith, ints, h.1), omega (arith, ints, h.0))

-- q between a and b in the order and on their line is on their segment
pub on_segment : (a b q : Pair) → IsBefore a q → IsBefore q b → orient q a b ≡ pos 0 → IsOnSegment a b q
unfolding orient
on_segment a b q ha hb z = (
  orient-cycle a b q ∙ z,
  between_x a b q ha hb,
  between_y a b q (along (opp (minus a q)) (minus b q) (behind_of a q ha) (ahead_of q b hb)
      (cross-opp_left (minus a q) (minus b q) ∙ orient_swap q b a ∙ ap neg_ℤ z)),
)

-- if a, b, c go round q to the left, and q is between a and b in the order, S covers q
covered_by_sides : (S : List Pair) (q a b c : Pair) → Contains S a → Contains S b → Contains S c → IsBefore a q
    → IsBefore q b
    → pos 0 ≤ℤ orient q a b → pos 0 ≤ℤ orient q b c → pos 0 ≤ℤ orient q c a → Covers S q
unfolding orient
covered_by_sides S q a b c ma mb mc ha hb ab bc ca =
    elim (le_or_lt (orient a b c) (pos 0)) [
      | inl h ↦ let z : orient q a b ≡ pos 0 = let e = orient-sum a b c q in omega (arith, ints) in
          OnSegment a b ma mb (
            orient-cycle a b q ∙ z,
            between_x a b q ha hb,
            between_y a b q (along (opp (minus a q)) (minus b q) (behind_of a q ha) (ahead_of q b hb)
                (cross-opp_left (minus a q) (minus b q) ∙ orient_swap q b a ∙ ap neg_ℤ z)),
          )
      | inr h ↦ InTriangle a b c ma mb mc (
        h,
        at_least _ _ (sym (orient-cycle a b q)) ab,
        at_least _ _ (sym (orient-cycle b c q)) bc,
        at_least _ _ (sym (orient-cycle c a q)) ca,
      )
    ]

-- if q is on or left of an edge from a before it to b after it, and of one from c after it to d before it, S covers q
pub covered_by_edges : (S : List Pair) (q a b c d : Pair) → Contains S a → Contains S b → Contains S c → Contains S d
    → IsBefore a q → IsBefore q b → IsBefore q c → IsBefore d q → pos 0 ≤ℤ orient q a b → pos 0 ≤ℤ orient q c d
    → Covers S q
unfolding orient
covered_by_edges S q a b c d ma mb mc md ha hb hc hd ab cd =
    let A : Pair = minus a q in
    let B : Pair = minus b q in
    let C : Pair = minus c q in
    let D : Pair = minus d q in
    let oA : Ahead (opp A) = behind_of a q ha in
    let pB : Ahead B = ahead_of q b hb in
    let pC : Ahead C = ahead_of q c hc in
    let oD : Ahead (opp D) = behind_of d q hd in
    let DC : pos 0 ≤ℤ cross (opp D) C = at_least _ _ (sym (cross-opp_left D C)) cd in
    elim (le_or_lt (pos 0) (orient q b c)) [
      | inl bc ↦ elim (le_or_lt (pos 0) (orient q c a)) [
        | inl ca ↦ covered_by_sides S q a b c ma mb mc ha hb ab bc ca
        | inr ca ↦ elim (le_or_lt (pos 0) (orient q d a)) [
          | inl da ↦ covered_by_sides S q a c d ma mc md ha hc (turned q c a ca) cd da
          | inr da ↦ covered_by_sides S q a b c ma mb mc ha hb ab bc
              (at_least _ _ (cross-opp_left A C)
              (cross_trans (opp A) (opp D) C oA oD pC (at_least _ _ (sym (cross-opp A D)) (turned q d a da)) DC))
        ]
      ]
      | inr bc ↦
          let CA : pos 0 ≤ℤ cross C (opp A) =
          cross_trans C B (opp A) pC pB oA (turned q b c bc) (at_least _ _ (sym (cross-opp_right B A)) ab) in
          covered_by_sides S q a c d ma mc md ha hc (at_least _ _ (cross-opp_right C A) CA) cd
          (at_least _ _ (cross-opp D A) (cross_trans (opp D) C (opp A) oD pC oA DC CA))
    ]
