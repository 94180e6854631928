-- Three vertices in a row: a point left of both edges lies no farther than the middle one in each direction in which
-- the others lie no farther.
use Rattle.std.proofs.lemmas.Grind.{common_steps}
use Rattle.std.proofs.Common.{◌≡◌, ℤ, pos, negsuc, ◌+ℤ◌, ◌-ℤ◌, ◌*ℤ◌, ◌≤ℤ◌, ◌<ℤ◌, ◌⊎◌, inl, inr, arith}
use Rattle.std.proofs.lemmas.Int.{ints}
use Rattle.lattice.specs.Plane.{Pair, orient, product}
use Rattle.lattice.specs.Polynomials.{difference-eq, as_difference, difference-add, difference-mul, difference_rules}
use Rattle.lattice.proofs.Vectors.{as_pair}
use Rattle.lattice.specs.Signs.{le_or_lt, product_nn, product_pp}
use Rattle.hull_polygon.specs.Nearest.{IsOnward}
use Rattle.hull_polygon.specs.Steps.{step}
use Rattle.hull_polygon.proofs.SeparatedLists.{product_mm, product_ns, product_mp}
use Rattle.lattice.proofs.Numbers.{sum_nn}

-- ---- identities

-- the step from c to x by those to n and to p, by x
cone_x : (p c n x : Pair) → orient p c n *ℤ (x.x -ℤ c.x) ≡ orient p c x *ℤ (n.x -ℤ c.x) +ℤ orient c n x *ℤ (p.x -ℤ c.x)
unfolding orient
cone_x p c n x =
    rw (as_pair p, as_pair c, as_pair n, as_pair x) (simp difference_rules (difference-eq _ _ _ _ (omega arith)))

-- the same by y
cone_y : (p c n x : Pair) → orient p c n *ℤ (x.y -ℤ c.y) ≡ orient p c x *ℤ (n.y -ℤ c.y) +ℤ orient c n x *ℤ (p.y -ℤ c.y)
unfolding orient
cone_y p c n x =
    rw (as_pair p, as_pair c, as_pair n, as_pair x) (simp difference_rules (difference-eq _ _ _ _ (omega arith)))

-- a step along a direction, by its coordinates
step_along : (f c x : Pair) → product f x -ℤ product f c ≡ f.x *ℤ (x.x -ℤ c.x) +ℤ f.y *ℤ (x.y -ℤ c.y)
unfolding product
step_along f c x = rw (as_pair f, as_pair c, as_pair x) (simp difference_rules (difference-eq _ _ _ _ (omega arith)))

-- a weighted sum of both coordinates
weigh : (k u v x y : ℤ) → k *ℤ (u *ℤ x +ℤ v *ℤ y) ≡ u *ℤ (k *ℤ x) +ℤ v *ℤ (k *ℤ y)
weigh k u v x y =
    rw (as_difference k, as_difference u, as_difference v, as_difference x, as_difference y)
    (simp (difference-add, difference-mul) (difference-eq _ _ _ _ (omega arith)))

-- a sum of both coordinates with two weights
weigh_two : (b a u v w z x y : ℤ)
    → u *ℤ (b *ℤ w +ℤ a *ℤ x) +ℤ v *ℤ (b *ℤ z +ℤ a *ℤ y) ≡ b *ℤ (u *ℤ w +ℤ v *ℤ z) +ℤ a *ℤ (u *ℤ x +ℤ v *ℤ y)
weigh_two b a u v w z x y =
    rw (
      as_difference b,
      as_difference a,
      as_difference u,
      as_difference v,
      as_difference w,
      as_difference z,
      as_difference x,
      as_difference y,
    ) (simp (difference-add, difference-mul) (difference-eq _ _ _ _ (omega arith)))

-- how far x lies beyond c in a direction, by how far n and p do
pub cone : (f p c n x : Pair)
    → orient p c n *ℤ (product f x -ℤ product f c)
    ≡ orient p c x *ℤ (product f n -ℤ product f c) +ℤ orient c n x *ℤ (product f p -ℤ product f c)
cone f p c n x = grind (arith, common_steps, orient, c, n, step_along, f, weigh, cone_x, cone_y, weigh_two, product)

-- ---- signs

-- a weighted sum, with weights that are not negative, of numbers that are not positive is not positive
within_cone : (d b a x n p : ℤ) → pos 0 <ℤ d → pos 0 ≤ℤ b → pos 0 ≤ℤ a → n ≤ℤ pos 0 → p ≤ℤ pos 0
    → d *ℤ x ≡ b *ℤ n +ℤ a *ℤ p → x ≤ℤ pos 0
within_cone d b a x n p hd hb ha hn hp e = elim (le_or_lt x (pos 0)) [
  | inl h ↦ h
  | inr h ↦
      let u = product_pp d x hd h in let v = product_ns b n hb hn in let w = product_ns a p ha hp in
      absurd (omega (arith, ints))
]

-- if a weighted sum with a negative weight is not negative, the number with that weight is not positive
away : (d b a x n p : ℤ) → pos 0 <ℤ d → pos 0 ≤ℤ b → a <ℤ pos 0 → n ≤ℤ pos 0 → pos 0 ≤ℤ x
    → d *ℤ x ≡ b *ℤ n +ℤ a *ℤ p → p ≤ℤ pos 0
away d b a x n p hd hb ha hn hx e = elim (le_or_lt p (pos 0)) [
  | inl h ↦ h
  | inr h ↦
      let u = product_nn d x (omega (arith, ints)) hx in let v = product_ns b n hb hn in let w = product_mp a p ha h in
      absurd (omega (arith, ints))
]

-- a square is not negative
pub square_nn : (x : ℤ) → pos 0 ≤ℤ (x *ℤ x)
square_nn (pos n) = product_nn (pos n) (pos n) (omega (arith, ints)) (omega (arith, ints))
square_nn (negsuc n) = omega (arith, ints)

-- the square of a number that is not 0 is positive
pub square_above : (x : ℤ) → (pos 0 <ℤ x) ⊎ (x <ℤ pos 0) → pos 0 <ℤ (x *ℤ x)
square_above x (inl h) = product_pp x x h h
square_above x (inr h) = product_mm x x h h

-- ---- the vector from c to q

-- how far q lies in the direction of n is how far n lies in the direction of q
on_the_way : (c n q : Pair)
    → product (step c n) q -ℤ product (step c n) c ≡ product (step c q) n -ℤ product (step c q) c
unfolding product
on_the_way c n q = rw (as_pair c, as_pair n, as_pair q) (simp difference_rules (difference-eq _ _ _ _ (omega arith)))

-- q lies onward to n if n lies onward to q
pub seen_onward : (c n q : Pair) → product (step c q) c <ℤ product (step c q) n → IsOnward c n q
seen_onward c n q h = omega (arith, ints, on_the_way c n q)

-- q lies onward to n only if n lies onward to q
pub not_onward : (c n q : Pair) → ¬ IsOnward c n q → (product (step c q) n -ℤ product (step c q) c) ≤ℤ pos 0
not_onward c n q h = elim (le_or_lt (product (step c q) n -ℤ product (step c q) c) (pos 0))
    [ inl k ↦ k | inr k ↦ absurd (h (seen_onward c n q (omega (arith, ints)))) ]

-- the same for q
pub onward_not : (c n q : Pair) → (product (step c q) n -ℤ product (step c q) c) ≤ℤ pos 0 → ¬ IsOnward c n q
onward_not c n q h k = omega (arith, ints, on_the_way c n q)

-- how far the vector to q goes is its squared length
pub way_square : (c q : Pair) → product (step c q) q -ℤ product (step c q) c
    ≡ (q.x -ℤ c.x) *ℤ (q.x -ℤ c.x) +ℤ (q.y -ℤ c.y) *ℤ (q.y -ℤ c.y)
unfolding product
way_square c q = rw (as_pair c, as_pair q) (simp difference_rules (difference-eq _ _ _ _ (omega arith)))

-- the vector to q does not go back
pub way_forward : (c q : Pair) → pos 0 ≤ℤ (product (step c q) q -ℤ product (step c q) c)
way_forward c q = rw (way_square c q) (sum_nn _ _ (square_nn (q.x -ℤ c.x)) (square_nn (q.y -ℤ c.y)))

-- ---- a left bend from p by c to n

-- a point left of both edges is no farther than c if p and n are not
pub no_farther_in_cone : (f p c n x : Pair) → pos 0 <ℤ orient p c n → pos 0 ≤ℤ orient p c x → pos 0 ≤ℤ orient c n x
    → (product f n -ℤ product f c) ≤ℤ pos 0 → (product f p -ℤ product f c) ≤ℤ pos 0
    → (product f x -ℤ product f c) ≤ℤ pos 0
no_farther_in_cone f p c n x t hp hn fn fp = within_cone _ _ _ _ _ _ t hp hn fn fp (cone f p c n x)

-- if q lies right of the second edge, not of the first, and not onward on the second, it is not back on the first
pub turned_to_second : (p c n q : Pair) → pos 0 <ℤ orient p c n → pos 0 ≤ℤ orient p c q → orient c n q <ℤ pos 0
    → ¬ IsOnward c n q → ¬ IsOnward c p q
turned_to_second p c n q t hp hn o =
    onward_not c p q (away _ _ _ _ _ _ t hp hn (not_onward c n q o) (way_forward c q) (cone (step c q) p c n q))

-- if q lies right of the first edge, not of the second, and not back on the first, it is not onward on the second
pub turned_to_first : (p c n q : Pair) → pos 0 <ℤ orient p c n → orient p c q <ℤ pos 0 → pos 0 ≤ℤ orient c n q
    → ¬ IsOnward c p q → ¬ IsOnward c n q
turned_to_first p c n q t hp hn o =
    onward_not c n q (away _ _ _ _ _ _ t hn hp (not_onward c p q o) (way_forward c q)
    (omega (arith, ints, cone (step c q) p c n q)))

-- ---- the nearer of two vertices

-- if q lies onward from c to n, and not from n to c, it is nearer to n
square_between : (c n q : Pair)
    → (product (step c q) q -ℤ product (step c q) c) -ℤ (product (step n q) q -ℤ product (step n q) n)
    ≡ (product (step c n) q -ℤ product (step c n) c) -ℤ (product (step n c) q -ℤ product (step n c) n)
unfolding product
square_between c n q =
    rw (as_pair c, as_pair n, as_pair q) (simp difference_rules (difference-eq _ _ _ _ (omega arith)))

-- how far q is from c, squared
abbrev pub far : Pair → Pair → ℤ
far c q = product (step c q) q -ℤ product (step c q) c

-- if q lies onward from c to n, and not back from n to c, it is nearer to n
pub nearer_to_next : (c n q : Pair) → IsOnward c n q → ¬ IsOnward n c q → far n q <ℤ far c q
nearer_to_next c n q h k = omega (arith, ints, square_between c n q, le_of k)
  where
    le_of : {x y : ℤ} → ¬ (x <ℤ y) → y ≤ℤ x
    le_of {x} {y} n = elim (le_or_lt y x) [ inl h ↦ h | inr h ↦ absurd (n h) ]
