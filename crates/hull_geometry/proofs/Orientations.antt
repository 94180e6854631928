-- How bends to one side compose, on a chain of either side.
use Rattle.std.proofs.Common.{◌≡◌, ℤ, pos, ◌-ℤ◌, ◌≤ℤ◌, ◌<ℤ◌, neg_ℤ, sym, ap, ◌∙◌, arith}
use Rattle.std.proofs.lemmas.Int.{ints}
use Rattle.lattice.specs.Plane.{Pair, IsBefore}
use Rattle.lattice.proofs.Numbers.{nn_above, nn_opposite, np_by, below_opposite}
use Rattle.lattice.proofs.Sides.{side_after, side_to_end, side_more, side_less}
use Rattle.lattice.proofs.LineCrossings.{orient_start, orient_end, orient_other}
use Rattle.lattice.proofs.Vectors.{minus, cross, cross_swap, Ahead, cross_trans, cross_trans_strict}
use Rattle.lattice.proofs.Vectors.{cross_trans_strict_right}
use Rattle.lattice.specs.Orientations.{orient_on}
use Rattle.lattice.specs.declared.side.Side.{Side}
use Rattle.lattice.specs.declared.side.Side.TheVariants.{Lower, Upper}
use Rattle.hull_geometry.proofs.Orientation.{orient-cross, orient_swap, ahead_of, orient-cycle}
use Rattle.hull_geometry.proofs.Orientation.{at_least, above}

-- the cross product of two steps, of which the first comes first on a lower chain and last on an upper one
abbrev pub wedge : Side → Pair → Pair → ℤ
wedge Lower u v = cross u v
wedge Upper u v = cross v u

-- exchanging the steps negates the cross product
wedge_swap : (side : Side) (u v : Pair) → wedge side u v ≡ neg_ℤ (wedge side v u)
wedge_swap Lower u v = cross_swap u v
wedge_swap Upper u v = cross_swap v u

-- bends to one side compose
wedge_trans : (side : Side) (u v w : Pair) → Ahead u → Ahead v → Ahead w → pos 0 ≤ℤ wedge side u v
    → pos 0 ≤ℤ wedge side v w → pos 0 ≤ℤ wedge side u w
wedge_trans Lower u v w hu hv hw a b = cross_trans u v w hu hv hw a b
wedge_trans Upper u v w hu hv hw a b = cross_trans w v u hw hv hu b a

-- bends compose strictly if the first is strict
wedge_trans_first : (side : Side) (u v w : Pair) → Ahead u → Ahead v → Ahead w → pos 0 <ℤ wedge side u v
    → pos 0 ≤ℤ wedge side v w → pos 0 <ℤ wedge side u w
wedge_trans_first Lower u v w hu hv hw a b = cross_trans_strict u v w hu hv hw a b
wedge_trans_first Upper u v w hu hv hw a b = cross_trans_strict_right w v u hw hv hu b a

-- bends compose strictly if the second is strict
wedge_trans_second : (side : Side) (u v w : Pair) → Ahead u → Ahead v → Ahead w → pos 0 ≤ℤ wedge side u v
    → pos 0 <ℤ wedge side v w → pos 0 <ℤ wedge side u w
wedge_trans_second Lower u v w hu hv hw a b = cross_trans_strict_right u v w hu hv hw a b
wedge_trans_second Upper u v w hu hv hw a b = cross_trans_strict w v u hw hv hu b a

-- an orientation by the steps from its first point
pub orient_on_by_start : (side : Side) (a b c : Pair) → orient_on side a b c ≡ wedge side (minus b a) (minus c a)
orient_on_by_start Lower a b c = orient-cross a b c
orient_on_by_start Upper a b c =
    orient_other a b c ∙ ap neg_ℤ (orient-cross a b c) ∙ sym (cross_swap (minus c a) (minus b a))

-- an orientation by the steps to and from its middle point
orient_on_by_middle : (side : Side) (a b c : Pair) → orient_on side a b c ≡ wedge side (minus b a) (minus c b)
orient_on_by_middle Lower a b c = side_after a b c
orient_on_by_middle Upper a b c =
    orient_other a b c ∙ ap neg_ℤ (side_after a b c) ∙ sym (cross_swap (minus c b) (minus b a))

-- an orientation by the steps to its middle point
pub orient_on_by_last : (side : Side) (a b t : Pair) → orient_on side a b t ≡ wedge side (minus b t) (minus b a)
orient_on_by_last Lower a b t = side_to_end a b t
orient_on_by_last Upper a b t =
    orient_other a b t ∙ ap neg_ℤ (side_to_end a b t) ∙ sym (cross_swap (minus b a) (minus b t))

-- rotating the three points keeps the orientation
pub orient_on_cycle : (side : Side) (a b c : Pair) → orient_on side a b c ≡ orient_on side b c a
orient_on_cycle Lower a b c = sym (orient-cycle b c a)
orient_on_cycle Upper a b c = sym (orient-cycle c b a ∙ orient-cycle a c b)

-- exchanging two of the points negates the orientation
pub orient_on_swap : (side : Side) (a b c : Pair) → orient_on side a c b ≡ neg_ℤ (orient_on side a b c)
orient_on_swap Lower a b c = orient_swap a c b
orient_on_swap Upper a b c = sym (orient-cycle a b c) ∙ orient_other b a c

-- the start of a line is on it
pub orient_on_start : (side : Side) (a b : Pair) → orient_on side a b a ≡ pos 0
orient_on_start Lower a b = orient_start a b
orient_on_start Upper a b = orient_end b a

-- the end of a line is on it
pub orient_on_end : (side : Side) (a b : Pair) → orient_on side a b b ≡ pos 0
orient_on_end Lower a b = orient_end a b
orient_on_end Upper a b = orient_start b a

-- if the chain bends at b, a point that is not outwards of the next edge is inwards of the edge to b
pub strict_on : (side : Side) (a b c u : Pair) → IsBefore a b → IsBefore b c → IsBefore b u → pos 0 <ℤ orient_on side a b c
    → pos 0 ≤ℤ orient_on side b c u → pos 0 <ℤ orient_on side a b u
strict_on side a b c u ab bc bu h k =
    above _ _ (sym (orient_on_by_middle side a b u))
    (wedge_trans_first side (minus b a) (minus c b) (minus u b) (ahead_of a b ab) (ahead_of b c bc) (ahead_of b u bu)
    (above _ _ (orient_on_by_middle side a b c) h) (at_least _ _ (orient_on_by_start side b c u) k))

-- if the chain bends at b, a point before b that is not outwards of the edge to b is inwards of the next edge
pub strict_back : (side : Side) (a b c t : Pair) → IsBefore a b → IsBefore b c → IsBefore t b → pos 0 ≤ℤ orient_on side a b t
    → pos 0 <ℤ orient_on side a b c → pos 0 <ℤ orient_on side b c t
strict_back side a b c t ab bc tb h k =
    above _ _ (sym (orient_on_by_middle side t b c) ∙ orient_on_cycle side t b c)
    (wedge_trans_second side (minus b t) (minus b a) (minus c b) (ahead_of t b tb) (ahead_of a b ab) (ahead_of b c bc)
    (at_least _ _ (orient_on_by_last side a b t) h) (above _ _ (orient_on_by_middle side a b c) k))

-- if p is outwards of the segment from a to c, a point after a and inwards of it is inwards of the line from a to p
pub inwards_from : (side : Side) (a p c u : Pair) → IsBefore a p → IsBefore a c → IsBefore a u
    → pos 0 <ℤ orient_on side a p c → pos 0 ≤ℤ orient_on side a c u → pos 0 <ℤ orient_on side a p u
inwards_from side a p c u ap ac au h k =
    above _ _ (sym (orient_on_by_start side a p u))
    (wedge_trans_first side (minus p a) (minus c a) (minus u a) (ahead_of a p ap) (ahead_of a c ac) (ahead_of a u au)
    (above _ _ (orient_on_by_start side a p c) h) (at_least _ _ (orient_on_by_start side a c u) k))

-- and a point before c is inwards of the line from p to c
pub inwards_to : (side : Side) (a p c u : Pair) → IsBefore p c → IsBefore a c → IsBefore u c
    → pos 0 <ℤ orient_on side a p c → pos 0 ≤ℤ orient_on side a c u → pos 0 <ℤ orient_on side p c u
inwards_to side a p c u pc ac uc h k =
    above _ _ (sym (orient_on_by_last side p c u))
    (wedge_trans_second side (minus c u) (minus c a) (minus c p) (ahead_of u c uc) (ahead_of a c ac) (ahead_of p c pc)
    (at_least _ _ (orient_on_by_last side a c u) k)
    (above _ _ (orient_on_cycle side a p c ∙ orient_on_by_last side p c a) h))

-- if c is not outwards of the line from a to q, and t not outwards of that from a to c, t is not outwards of that from
-- a to q
pub fans_from : (side : Side) (a c q t : Pair) → IsBefore a c → IsBefore a q → IsBefore a t → orient_on side a c q ≤ℤ pos 0
    → pos 0 ≤ℤ orient_on side a c t → pos 0 ≤ℤ orient_on side a q t
fans_from side a c q t ac aq at h k =
    at_least _ _ (sym (orient_on_by_start side a q t))
    (wedge_trans side (minus q a) (minus c a) (minus t a) (ahead_of a q aq) (ahead_of a c ac) (ahead_of a t at)
    (nn_opposite _ _ (wedge_swap side (minus q a) (minus c a)) (np_by _ _ (sym (orient_on_by_start side a c q)) h))
    (at_least _ _ (orient_on_by_start side a c t) k))

-- if p is not outwards of the line from q to c, and t not outwards of that from p to c, t is not outwards of that from
-- q to c
pub fans_to : (side : Side) (p c q t : Pair) → IsBefore p c → IsBefore q c → IsBefore t c → orient_on side p c q ≤ℤ pos 0
    → pos 0 ≤ℤ orient_on side p c t → pos 0 ≤ℤ orient_on side q c t
fans_to side p c q t pc qc tc h k =
    at_least _ _ (sym (orient_on_by_last side q c t))
    (wedge_trans side (minus c t) (minus c p) (minus c q) (ahead_of t c tc) (ahead_of p c pc) (ahead_of q c qc)
    (at_least _ _ (orient_on_by_last side p c t) k)
    (nn_opposite _ _ (wedge_swap side (minus c p) (minus c q)) (np_by _ _ (sym (orient_on_by_last side p c q)) h)))

-- a difference of negations is the negated difference
negated : (x y u v z : ℤ) → x ≡ neg_ℤ u → y ≡ neg_ℤ v → u -ℤ v ≡ z → x -ℤ y ≡ neg_ℤ z
negated x y u v z e f h = omega (arith, ints)

-- how much more inwards of a line s is than q, by the step from s to q
more_before : (side : Side) (a b q s : Pair) → orient_on side a b s -ℤ orient_on side a b q ≡ wedge side (minus q s) (minus b a)
more_before Lower a b q s = side_less a b q s
more_before Upper a b q s = negated _ _ _ _ _ (orient_other a b s) (orient_other a b q) (side_less a b q s)
    ∙ sym (cross_swap (minus b a) (minus q s))

-- how much more inwards of a line t is than q, by the step from q to t
more_after : (side : Side) (a b q t : Pair) → orient_on side a b t -ℤ orient_on side a b q ≡ wedge side (minus b a) (minus t q)
more_after Lower a b q t = side_more a b q t
more_after Upper a b q t = negated _ _ _ _ _ (orient_other a b t) (orient_other a b q) (side_more a b q t)
    ∙ sym (cross_swap (minus t q) (minus b a))

-- if q is outwards of a line, and s before it and t after it are not, q is outwards of their segment
pub stays_outwards : (side : Side) (a b s q t : Pair) → IsBefore a b → IsBefore s q → IsBefore q t
    → orient_on side a b q <ℤ pos 0 → pos 0 ≤ℤ orient_on side a b s → pos 0 ≤ℤ orient_on side a b t → orient_on side s t q <ℤ pos 0
stays_outwards side a b s q t ab sq qt out hs ht =
    below_opposite _ _ (orient_on_swap side s q t)
    (above _ _ (sym (orient_on_by_middle side s q t))
    (wedge_trans_first side (minus q s) (minus b a) (minus t q) (ahead_of s q sq) (ahead_of a b ab) (ahead_of q t qt)
    (gap _ _ _ (more_before side a b q s) hs out) (nn_above _ (gap _ _ _ (more_after side a b q t) ht out))))
  where
    gap : (x y z : ℤ) → x -ℤ y ≡ z → pos 0 ≤ℤ x → y <ℤ pos 0 → pos 0 <ℤ z
    gap x y z e h k = omega (arith, ints)

-- a number above 0 minus one that is not is above 0
rise : (x y z : ℤ) → x -ℤ y ≡ z → pos 0 <ℤ x → y ≤ℤ pos 0 → pos 0 <ℤ z
rise x y z e h k = omega (arith, ints)

-- a number not below 0 minus one that is not above 0 is not below 0
rise_or_none : (x y z : ℤ) → x -ℤ y ≡ z → pos 0 ≤ℤ x → y ≤ℤ pos 0 → pos 0 ≤ℤ z
rise_or_none x y z e h k = omega (arith, ints)

-- if q is not inwards of a line, s before it inwards and t after it not outwards, q is outwards of their segment
pub stays_first : (side : Side) (a b s q t : Pair) → IsBefore a b → IsBefore s q → IsBefore q t
    → orient_on side a b q ≤ℤ pos 0 → pos 0 <ℤ orient_on side a b s → pos 0 ≤ℤ orient_on side a b t → orient_on side s t q <ℤ pos 0
stays_first side a b s q t ab sq qt out hs ht =
    below_opposite _ _ (orient_on_swap side s q t)
    (above _ _ (sym (orient_on_by_middle side s q t))
    (wedge_trans_first side (minus q s) (minus b a) (minus t q) (ahead_of s q sq) (ahead_of a b ab) (ahead_of q t qt)
    (rise _ _ _ (more_before side a b q s) hs out) (rise_or_none _ _ _ (more_after side a b q t) ht out)))

-- the same if s before it is not outwards of the line and t after it inwards
pub stays_second : (side : Side) (a b s q t : Pair) → IsBefore a b → IsBefore s q → IsBefore q t
    → orient_on side a b q ≤ℤ pos 0 → pos 0 ≤ℤ orient_on side a b s → pos 0 <ℤ orient_on side a b t → orient_on side s t q <ℤ pos 0
stays_second side a b s q t ab sq qt out hs ht =
    below_opposite _ _ (orient_on_swap side s q t)
    (above _ _ (sym (orient_on_by_middle side s q t))
    (wedge_trans_second side (minus q s) (minus b a) (minus t q) (ahead_of s q sq) (ahead_of a b ab) (ahead_of q t qt)
    (rise_or_none _ _ _ (more_before side a b q s) hs out) (rise _ _ _ (more_after side a b q t) ht out)))
