-- A rotation by 180 degrees reverses the order of points, and makes a lower bridge an upper one.
use Rattle.std.proofs.Common.{◌≡◌, ap, ◌∙◌, sym, arith, inl, inr, subst}
use lib.IntN.{ℤ, pos, neg_ℤ, neg_ℤ-neg_ℤ}
use Rattle.lattice.specs.Plane.{Pair, orient, IsBefore, turned_point}
use Rattle.lattice.specs.Bridges.{IsAllBefore, IsInner, IsBridge, IsNotBeyond}
use Rattle.lattice.specs.declared.side.Side.{Side}
use Rattle.lattice.specs.declared.side.Side.TheVariants.{Lower, Upper}
use Rattle.lattice.specs.Integers.{linear, ring_laws}

-- two rotations by 180 degrees cancel
pub turned_twice : (p : Pair) → turned_point (turned_point p) ≡ p
turned_twice p = ap (λ (z : ℤ). let q : Pair = record { x = z; y = neg_ℤ (neg_ℤ p.y) } in q) (neg_ℤ-neg_ℤ p.x)
    ∙ ap (λ (z : ℤ). let q : Pair = record { x = p.x; y = z } in q) (neg_ℤ-neg_ℤ p.y)

-- the side of a point as seen from the rotated line is the opposite of that of the rotated point
pub orient_turned : (p q t : Pair) → orient (turned_point q) (turned_point p) t ≡ neg_ℤ (orient p q (turned_point t))
unfolding orient
orient_turned p q t = simp ring_laws (omega (arith, linear))

-- a rotation reverses the order
pub before_turned : (p q : Pair) → IsBefore (turned_point q) p → IsBefore (turned_point p) q
before_turned p q (inl h) = inl (omega (arith, linear))
before_turned p q (inr h) = inr (omega (arith, linear))

-- a rotation reverses the order, seen from the other point
pub before_turned_back : (p q : Pair) → IsBefore p (turned_point q) → IsBefore q (turned_point p)
before_turned_back p q (inl h) = inl (omega (arith, linear))
before_turned_back p q (inr h) = inr (omega (arith, linear))

-- a rotation reverses the order of two points
pub turned_order : (p q : Pair) → IsBefore p q → IsBefore (turned_point q) (turned_point p)
turned_order p q (inl h) = inl (omega (arith, linear))
turned_order p q (inr h) = inr (omega (arith, linear))

-- if the rotated points are in order, the points are in the reversed order
pub unturned : (p q : Pair) → IsBefore (turned_point q) (turned_point p) → IsBefore p q
unturned p q (inl h) = inl (omega (arith, linear))
unturned p q (inr h) = inr (omega (arith, linear))

-- the set t is the set s after a rotation
pub record AreTurned (s t : Pair → Type 0) : Type 0 where
  pub onto : (p : Pair) → s p → t (turned_point p)
  pub back : (p : Pair) → t p → s (turned_point p)

-- the points that a rotation takes into the set
abbrev pub Turned : (Pair → Type 0) → Pair → Type 0
Turned s t = s (turned_point t)

-- these points are the set after a rotation
pub are_turned : (s : Pair → Type 0) → AreTurned s (Turned s)
are_turned s = record { onto = λ p h. subst s (sym (turned_twice p)) h; back = λ p h. h }

-- the order of two sets is reversed by a rotation
pub order_turned : (l r m n : Pair → Type 0) → AreTurned l n → AreTurned r m → IsAllBefore l r → IsAllBefore m n
order_turned l r m n f g o p q i j = unturned p q (o (turned_point q) (turned_point p) (f.back q j) (g.back p i))

-- a point on the line of the rotated edge is, rotated, on the line of the edge
zero : (p q t : Pair) → orient (turned_point q) (turned_point p) t ≡ pos 0 → orient p q (turned_point t) ≡ pos 0
zero p q t g = let e : orient (turned_point q) (turned_point p) t ≡ neg_ℤ (orient p q (turned_point t)) =
    orient_turned p q t in omega (arith, linear)

-- a point not beyond the ends of the edge is not beyond them after the rotation
tie : (p q t : Pair) → IsNotBeyond p q (turned_point t) → IsNotBeyond (turned_point q) (turned_point p) t
tie p q t k = (λ b. k.1 (before_turned_back t q b), λ b. k.0 (before_turned t p b))

-- the other side of a hull: a rotation by 180 degrees exchanges the two
abbrev pub other : Side → Side
other Upper = Lower
other Lower = Upper

-- a point inner to a line is inner to it after the rotation, on the other side
inner : (side : Side) (p q t : Pair) → IsInner side (orient p q (turned_point t))
    → IsInner (other side) (orient (turned_point q) (turned_point p) t)
inner Upper p q t h = let e : orient (turned_point q) (turned_point p) t ≡ neg_ℤ (orient p q (turned_point t)) =
    orient_turned p q t in omega (arith, linear)
inner Lower p q t h = let e : orient (turned_point q) (turned_point p) t ≡ neg_ℤ (orient p q (turned_point t)) =
    orient_turned p q t in omega (arith, linear)

-- the rotated bridge of two sets is the bridge of the rotated sets on the other side
pub bridge_turned : (side : Side) (l r m n : Pair → Type 0) (p q : Pair) → AreTurned l n → AreTurned r m → IsBridge side l r p q
    → IsBridge (other side) m n (turned_point q) (turned_point p)
bridge_turned side l r m n p q f g h = record {
  from_left = g.onto q h.to_right;
  to_right = f.onto p h.from_left;
  inner_left = λ t i. inner side p q t (h.inner_right (turned_point t) (g.back t i));
  inner_right = λ t i. inner side p q t (h.inner_left (turned_point t) (f.back t i));
  tie_left = λ t i e. tie p q t (h.tie_right (turned_point t) (g.back t i) (zero p q t e));
  tie_right = λ t i e. tie p q t (h.tie_left (turned_point t) (f.back t i) (zero p q t e));
}
