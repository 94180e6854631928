-- Directions in which a point lies farther than all of a list, or as far as the farthest.
use Rattle.std.proofs.Common.{◌≡◌, ℤ, pos, ◌+ℤ◌, ◌-ℤ◌, ◌*ℤ◌, ◌≤ℤ◌, ◌<ℤ◌, ◌⊎◌, inl, inr, sym, ap, ◌∙◌, List, arith}
use Rattle.std.specs.List.{All}
use Rattle.std.proofs.lemmas.Int.{ints}
use Rattle.std.proofs.lemmas.List.Elements.{All-weaker}
use Rattle.lattice.specs.Plane.{Pair, orient, product, IsBefore, IsZero}
use Rattle.lattice.specs.Polynomials.{difference-eq, difference_rules}
use Rattle.lattice.specs.Signs.{le_or_lt, cancel_zero}
use Rattle.lattice.specs.declared.side.Side.{Side}
use Rattle.lattice.specs.declared.side.Side.TheVariants.{Lower, Upper}
use Rattle.lattice.proofs.Vectors.{as_pair, minus, opp}
use Rattle.hull_geometry.specs.Edges.{IsAlong}
use Rattle.hull_geometry.proofs.Orientations.{strict_on, strict_back}
use Rattle.hull_geometry.proofs.NotCovered.{Separated}
use Rattle.lattice.proofs.Order.{couple}
use Rattle.hull_geometry.proofs.Orientation.{product-minus, at_least, above, orient-cycle}

-- if c - b is above 0, b is below c
less : (a b c : ℤ) → a ≡ c -ℤ b → pos 0 <ℤ a → b <ℤ c
less a b c e h = omega (arith, ints)

-- if the step from q to t has a positive product with the opposite direction, t lies less far than q
pub nearer : (d t q : Pair) → pos 0 <ℤ product (opp d) (minus t q) → product d t <ℤ product d q
nearer d t q h = less _ _ _ (product-minus d t q) h

-- the direction to the right of the line from l to r
abbrev pub across : Pair → Pair → Pair
across l r = record { x = r.y -ℤ l.y; y = l.x -ℤ r.x }

-- how far t is behind q in the direction of a wedge at q
product-across : (q l r t : Pair) → product (opp (across l r)) (minus t q) ≡ orient q r t +ℤ orient q t l
unfolding orient product
product-across q l r t =
    rw (as_pair q, as_pair l, as_pair r, as_pair t) (simp difference_rules (difference-eq _ _ _ _ (omega arith)))

-- if all points lie within the wedge at q from r to l, they are separated from q
pub separated_by_wedge : (S : List Pair) (q l r : Pair) → All (λ t. pos 0 <ℤ (orient q r t +ℤ orient q t l)) S
    → Separated S q
separated_by_wedge S q l r h = (
  across l r,
  All-weaker (λ t. pos 0 <ℤ (orient q r t +ℤ orient q t l))
      (λ t. product (across l r) t <ℤ product (across l r) q)
      (λ t p. nearer (across l r) t q (above _ _ (sym (product-across q l r t)) p)) S h,
)

-- a sum with a second part above 0 is above 0
sum_above : (a b : ℤ) → pos 0 ≤ℤ a → pos 0 <ℤ b → pos 0 <ℤ (a +ℤ b)
sum_above a b h k = omega (arith, ints)

-- a sum with a first part above 0 is above 0
pub sum_above_left : (a b : ℤ) → pos 0 <ℤ a → pos 0 ≤ℤ b → pos 0 <ℤ (a +ℤ b)
sum_above_left a b h k = omega (arith, ints)

-- if the chain on a side does not reach q, between l before it and r after it, a point before q and no farther left
-- than l lies within the wedge
pub wedge_before : (side : Side) (q l r t : Pair) → IsAlong side l q → IsAlong side q r → IsAlong side t q
    → pos 0 <ℤ orient q r l → pos 0 ≤ℤ orient q t l → pos 0 <ℤ (orient q r t +ℤ orient q t l)
wedge_before Lower q l r t lq qr tq rl tl =
    sum_above_left _ _ (strict_back Lower l q r t lq qr tq (at_least _ _ (orient-cycle q t l) tl)
    (above _ _ (orient-cycle q r l) rl)) tl
wedge_before Upper q l r t lq qr tq rl tl =
    sum_above_left _ _ (strict_on Upper r q l t qr lq tq rl (at_least _ _ (orient-cycle q t l) tl)) tl

-- and so does a point after q and no farther right than r
pub wedge_behind : (side : Side) (q l r t : Pair) → IsAlong side l q → IsAlong side q r → IsAlong side q t
    → pos 0 <ℤ orient q r l → pos 0 ≤ℤ orient q r t → pos 0 <ℤ (orient q r t +ℤ orient q t l)
wedge_behind Lower q l r t lq qr qt rl rt =
    sum_above _ _ rt (above _ _ (sym (orient-cycle q t l))
    (strict_on Lower l q r t lq qr qt (above _ _ (orient-cycle q r l) rl) rt))
wedge_behind Upper q l r t lq qr qt rl rt =
    sum_above _ _ rt (above _ _ (sym (orient-cycle q t l)) (strict_back Upper r q l t qr lq qt rt rl))

-- how far q lies ahead of t in the direction to the right of the line from q to r
pub product-right : (q r t : Pair) → product (across q r) q -ℤ product (across q r) t ≡ orient q r t
unfolding orient product
product-right q r t =
    rw (as_pair q, as_pair r, as_pair t) (simp difference_rules (difference-eq _ _ _ _ (omega arith)))

-- the direction to the right of a line is not zero
pub across_nonzero : (q r : Pair) → IsBefore q r ⊎ IsBefore r q → ¬ IsZero (across q r)
across_nonzero q r (inl (inl b)) z = omega (arith, ints, z.1)
across_nonzero q r (inl (inr b)) z = omega (arith, ints, z.0, b.1)
across_nonzero q r (inr (inl b)) z = omega (arith, ints, z.1)
across_nonzero q r (inr (inr b)) z = omega (arith, ints, z.0, b.1)

-- how far t lies behind v in the direction outwards at the vertex v
product-vertex : (u v w t : Pair) → product (opp (across u w)) (minus t v) ≡ orient u v t +ℤ orient v w t
unfolding orient product
product-vertex u v w t =
    rw (as_pair u, as_pair v, as_pair w, as_pair t) (simp difference_rules (difference-eq _ _ _ _ (omega arith)))

-- the step from v to t by its sides of the lines uv and vw, in x
intersects_x : (u v w t : Pair) → (t.x -ℤ v.x) *ℤ orient u v w ≡ (w.x -ℤ v.x) *ℤ orient u v t -ℤ (v.x -ℤ u.x) *ℤ orient v w t
unfolding orient
intersects_x u v w t = rw (as_pair u, as_pair v, as_pair w, as_pair t) (simp difference_rules (difference-eq _ _ _ _ (omega arith)))

-- the same in y
intersects_y : (u v w t : Pair) → (t.y -ℤ v.y) *ℤ orient u v w ≡ (w.y -ℤ v.y) *ℤ orient u v t -ℤ (v.y -ℤ u.y) *ℤ orient v w t
unfolding orient
intersects_y u v w t = rw (as_pair u, as_pair v, as_pair w, as_pair t) (simp difference_rules (difference-eq _ _ _ _ (omega arith)))

-- a weighted sum of zeros is zero
zero_of : (a c x y m n : ℤ) → pos 0 <ℤ c → x ≡ pos 0 → y ≡ pos 0 → a *ℤ c ≡ m *ℤ x -ℤ n *ℤ y → a ≡ pos 0
zero_of a c x y m n hc hx hy e =
    cancel_zero a c hc (e ∙ ap (λ (z : ℤ). m *ℤ z -ℤ n *ℤ y) hx ∙ ap (λ (z : ℤ). m *ℤ pos 0 -ℤ n *ℤ z) hy
    ∙ omega (arith, ints))

-- two points with no difference are equal
same_pair : (t v : Pair) → (t.x -ℤ v.x) ≡ pos 0 → (t.y -ℤ v.y) ≡ pos 0 → t ≡ v
same_pair t v hx hy = let ex : t.x ≡ v.x = omega (arith, ints) in let ey : t.y ≡ v.y = omega (arith, ints) in
    ap (λ (z : ℤ). couple z t.y) ex ∙ ap (λ (z : ℤ). couple v.x z) ey

-- all points but the vertex v of the edges uv and vw lie strictly on one side of a line through it
pub vertex_apart : (u v w t : Pair) → pos 0 <ℤ orient u v w → pos 0 ≤ℤ orient u v t → pos 0 ≤ℤ orient v w t → ¬ (t ≡ v)
    → product (across u w) t <ℤ product (across u w) v
vertex_apart u v w t h a b n =
    nearer (across u w) t v (above _ _ (sym (product-vertex u v w t))
    (elim (le_or_lt (orient u v t +ℤ orient v w t) (pos 0)) [
      | inl k ↦ let za : orient u v t ≡ pos 0 = squeeze _ _ a b k in let zb : orient v w t ≡ pos 0 =
          squeeze_right _ _ a b k in
          absurd (n (same_pair t v (zero_of _ _ _ _ _ _ h za zb (intersects_x u v w t))
          (zero_of _ _ _ _ _ _ h za zb (intersects_y u v w t))))
      | inr k ↦ k
    ]))
  where
    squeeze : (a b : ℤ) → pos 0 ≤ℤ a → pos 0 ≤ℤ b → (a +ℤ b) ≤ℤ pos 0 → a ≡ pos 0
    squeeze a b h k l = omega (arith, ints)

    squeeze_right : (a b : ℤ) → pos 0 ≤ℤ a → pos 0 ≤ℤ b → (a +ℤ b) ≤ℤ pos 0 → b ≡ pos 0
    squeeze_right a b h k l = omega (arith, ints)
