-- Points on one side of q are in order by the angle at which they are seen from q.
use Rattle.std.proofs.Common.{◌≡◌, ℤ, pos, ◌≤ℤ◌, ◌<ℤ◌, neg_ℤ, ◌⊎◌, inl, inr, sym, arith}
use Rattle.std.proofs.lemmas.Int.{ints}
use Rattle.lattice.specs.Plane.{Pair, orient, IsBefore}
use Rattle.lattice.specs.Signs.{le_or_lt}
use Rattle.lattice.proofs.Vectors.{minus, opp, cross-opp, cross_trans}
use Rattle.lattice.proofs.Numbers.{nn_zero, zero_opposite}
use Rattle.hull_geometry.specs.Hands.{orient_by, IsMore}
use Rattle.hull_geometry.specs.declared.hand.Hand.{Hand}
use Rattle.hull_geometry.specs.declared.hand.Hand.TheVariants.{Left, Right}
use Rattle.hull_geometry.proofs.Orientation.{at_least, ahead_of, behind_of}
use Rattle.hull_geometry.proofs.Sightings.{orient_by_back}

-- three points are after q, or all of them before
abbrev pub OneSide : Pair → Pair → Pair → Pair → Type 0
OneSide q u v w = (IsBefore q u × IsBefore q v × IsBefore q w) ⊎ (IsBefore u q × IsBefore v q × IsBefore w q)

-- bends to the left compose
pub side_trans : (q u v w : Pair) → OneSide q u v w → pos 0 ≤ℤ orient q u v → pos 0 ≤ℤ orient q v w
    → pos 0 ≤ℤ orient q u w
unfolding orient
side_trans q u v w (inl h) a b =
    cross_trans (minus u q) (minus v q) (minus w q) (ahead_of q u h.0) (ahead_of q v h.1) (ahead_of q w h.2) a b
side_trans q u v w (inr h) a b =
    at_least _ _ (cross-opp (minus u q) (minus w q))
    (cross_trans (opp (minus u q)) (opp (minus v q)) (opp (minus w q)) (behind_of u q h.0) (behind_of v q h.1)
    (behind_of w q h.2)
    (at_least _ _ (sym (cross-opp (minus u q) (minus v q))) a)
    (at_least _ _ (sym (cross-opp (minus v q) (minus w q))) b))

-- three points on one side, in reverse, are on one side
side_reverse : (q u v w : Pair) → OneSide q u v w → OneSide q w v u
side_reverse q u v w (inl h) = inl (h.2, h.1, h.0)
side_reverse q u v w (inr h) = inr (h.2, h.1, h.0)

-- three points on one side, rotated, are on one side
side_rotate : (q u v w : Pair) → OneSide q u v w → OneSide q v w u
side_rotate q u v w (inl h) = inl (h.1, h.2, h.0)
side_rotate q u v w (inr h) = inr (h.1, h.2, h.0)

-- bends on a hand compose
orient_by_trans : (hand : Hand) (q u v w : Pair) → OneSide q u v w → pos 0 ≤ℤ orient_by hand q u v
    → pos 0 ≤ℤ orient_by hand q v w → pos 0 ≤ℤ orient_by hand q u w
orient_by_trans Left q u v w o a b = side_trans q w v u (side_reverse q u v w o) b a
orient_by_trans Right q u v w o a b = side_trans q u v w o a b

-- if there is no bend back and not straight on, there is a bend on the hand
strict : (hand : Hand) (q u v : Pair) → ¬ (pos 0 ≤ℤ orient_by hand q v u) → pos 0 <ℤ orient_by hand q u v
strict hand q u v n = elim (le_or_lt (pos 0) (orient_by hand q v u))
    [ inl h ↦ absurd (n h) | inr h ↦ let e = orient_by_back hand q v u in omega (arith, ints) ]

-- if a point is farther on a hand, there is no bend back
nn : (hand : Hand) (q u v : Pair) → IsMore hand q u v → pos 0 ≤ℤ orient_by hand q u v
nn hand q u v (inl h) = omega (arith, ints)
nn hand q u v (inr h) = omega (arith, ints, h.0)

-- a number not below 0 whose negative is not below 0 either is 0
squeeze_zero : (x : ℤ) → pos 0 ≤ℤ x → pos 0 ≤ℤ neg_ℤ x → x ≡ pos 0
squeeze_zero x h k = omega (arith, ints)

-- a straight bend is straight in reverse
back_zero : (hand : Hand) (q u v : Pair) → orient_by hand q u v ≡ pos 0 → pos 0 ≤ℤ orient_by hand q v u
back_zero hand q u v e = nn_zero _ (zero_opposite _ _ (orient_by_back hand q u v) e)

-- farther on a hand is transitive
pub more_beside : (hand : Hand) (q u v w : Pair) → OneSide q u v w → IsMore hand q u v → IsMore hand q v w
    → IsMore hand q u w
more_beside hand q u v w o (inr h) (inr k) =
    let a : pos 0 ≤ℤ orient_by hand q u w = orient_by_trans hand q u v w o (nn_zero _ h.0) (nn_zero _ k.0) in
    let b : pos 0 ≤ℤ orient_by hand q w u =
    orient_by_trans hand q w v u (side_reverse q u v w o) (back_zero hand q v w k.0) (back_zero hand q u v h.0) in
    inr (squeeze_zero _ a (at_least _ _ (orient_by_back hand q u w) b), omega (arith, ints, h.1, k.1))
more_beside hand q u v w o (inl h) k =
    -- otherwise u is no farther than w, and v no nearer than u, by way of w
    inl (strict hand q u w (λ m. let z : pos 0 ≤ℤ orient_by hand q v u =
    orient_by_trans hand q v w u (side_rotate q u v w o) (nn hand q v w k) m in
    let e = orient_by_back hand q u v in omega (arith, ints)))
more_beside hand q u v w o (inr h) (inl k) =
    inl (strict hand q u w (λ m. let z : pos 0 ≤ℤ orient_by hand q w v =
    orient_by_trans hand q w u v (side_rotate q v w u (side_rotate q u v w o)) m (nn_zero _ h.0) in
    let e = orient_by_back hand q v w in omega (arith, ints)))
