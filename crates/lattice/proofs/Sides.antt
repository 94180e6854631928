-- The side of a point as seen along a line, by the steps between the points, and after a rotation by 180 degrees.
use Rattle.std.proofs.Common.{◌≡◌, ◌+ℤ◌, ◌-ℤ◌, arith}
use Rattle.lattice.specs.Plane.{Pair, orient, distance_squared, turned_point}
use Rattle.lattice.specs.Polynomials.{difference-eq, difference_rules}
use Rattle.lattice.proofs.Vectors.{as_pair, minus, cross}

-- the side of t, by way of a
pub side_by_start : (c d a t : Pair) → orient c d t ≡ cross (minus d c) (minus a c) +ℤ cross (minus d c) (minus t a)
unfolding orient
side_by_start c d a t = rw (as_pair c, as_pair d, as_pair a, as_pair t)
    (simp difference_rules (difference-eq _ _ _ _ (omega arith)))

-- the side of t, by way of b and the end of the line
pub side_by_end : (c d b t : Pair) → orient c d t ≡ cross (minus d b) (minus d c) +ℤ cross (minus b t) (minus d c)
unfolding orient
side_by_end c d b t = rw (as_pair c, as_pair d, as_pair b, as_pair t)
    (simp difference_rules (difference-eq _ _ _ _ (omega arith)))

-- of a point before the line, by the step to its start
pub side_before : (a b c : Pair) → orient a b c ≡ cross (minus a c) (minus b a)
unfolding orient
side_before a b c = rw (as_pair a, as_pair b, as_pair c) (simp difference_rules (difference-eq _ _ _ _ (omega arith)))

-- of a point after the line, by the step from its end
pub side_after : (a b d : Pair) → orient a b d ≡ cross (minus b a) (minus d b)
unfolding orient
side_after a b d = rw (as_pair a, as_pair b, as_pair d) (simp difference_rules (difference-eq _ _ _ _ (omega arith)))

-- of a point before the end of the line, by the step to that end
pub side_to_end : (a b t : Pair) → orient a b t ≡ cross (minus b t) (minus b a)
unfolding orient
side_to_end a b t = rw (as_pair a, as_pair b, as_pair t) (simp difference_rules (difference-eq _ _ _ _ (omega arith)))

-- of a point after the start of a line that goes back, by the step from its end
pub side_back : (u v t : Pair) → orient u v t ≡ cross (minus t v) (minus u v)
unfolding orient
side_back u v t = rw (as_pair u, as_pair v, as_pair t) (simp difference_rules (difference-eq _ _ _ _ (omega arith)))

-- of a point before the end of a line that goes back, by the step to it
pub side_beyond : (u v t : Pair) → orient u v t ≡ cross (minus u v) (minus v t)
unfolding orient
side_beyond u v t = rw (as_pair u, as_pair v, as_pair t) (simp difference_rules (difference-eq _ _ _ _ (omega arith)))

-- of a point after the start of a line that goes back, by the step from it
pub side_over : (v w t : Pair) → orient v w t ≡ cross (minus t v) (minus v w)
unfolding orient
side_over v w t = rw (as_pair v, as_pair w, as_pair t) (simp difference_rules (difference-eq _ _ _ _ (omega arith)))

-- the side of one point less that of another, by the step to the first
pub side_more : (c d q t : Pair) → orient c d t -ℤ orient c d q ≡ cross (minus d c) (minus t q)
unfolding orient
side_more c d q t = rw (as_pair c, as_pair d, as_pair q, as_pair t)
    (simp difference_rules (difference-eq _ _ _ _ (omega arith)))

-- the same by the step from the first
pub side_less : (c d q s : Pair) → orient c d s -ℤ orient c d q ≡ cross (minus q s) (minus d c)
unfolding orient
side_less c d q s = rw (as_pair c, as_pair d, as_pair q, as_pair s)
    (simp difference_rules (difference-eq _ _ _ _ (omega arith)))

-- a rotation by 180 degrees keeps sides
pub side_turned : (a b c : Pair) → orient (turned_point a) (turned_point b) (turned_point c) ≡ orient a b c
unfolding orient
side_turned a b c = rw (as_pair a, as_pair b, as_pair c) (simp difference_rules (difference-eq _ _ _ _ (omega arith)))

-- a rotation of the line has the same side as a rotation of the point
pub side_turned_over : (a b t : Pair) → orient (turned_point a) (turned_point b) t ≡ orient a b (turned_point t)
unfolding orient
side_turned_over a b t =
    rw (as_pair a, as_pair b, as_pair t) (simp difference_rules (difference-eq _ _ _ _ (omega arith)))

-- the same of three points of which the middle one is rotated already
pub side_turned_back : (a b c : Pair) → orient (turned_point a) b (turned_point c) ≡ orient a (turned_point b) c
unfolding orient
side_turned_back a b c =
    rw (as_pair a, as_pair b, as_pair c) (simp difference_rules (difference-eq _ _ _ _ (omega arith)))

-- a rotation keeps distances
pub far_turned : (a b : Pair) → distance_squared (turned_point a) (turned_point b) ≡ distance_squared a b
unfolding distance_squared
far_turned a b = rw (as_pair a, as_pair b) (simp difference_rules (difference-eq _ _ _ _ (omega arith)))

-- the same of a point that is rotated already
pub far_turned_back : (a b : Pair) → distance_squared (turned_point a) b ≡ distance_squared a (turned_point b)
unfolding distance_squared
far_turned_back a b = rw (as_pair a, as_pair b) (simp difference_rules (difference-eq _ _ _ _ (omega arith)))
