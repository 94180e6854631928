-- Products of numbers in order, and a quotient of squares between two others.
use Rattle.std.proofs.lemmas.Grind.{common_steps}
use Rattle.std.proofs.Common.{◌≡◌, ℤ, pos, ◌+ℤ◌, ◌-ℤ◌, ◌*ℤ◌, ◌≤ℤ◌, ◌<ℤ◌, inl, inr, subst, arith}
use Rattle.std.proofs.lemmas.Int.{ints}
use Rattle.lattice.specs.Polynomials.{difference-eq, as_difference, difference-mul, difference_rules}
use Rattle.lattice.specs.Signs.{le_or_lt, product_nn, product_pp, cancel_nn}
use Rattle.hull_polygon.proofs.Cones.{square_nn}
use Rattle.lattice.proofs.Numbers.{gap_nn, le_by_gap, le_by_sum, le_itself, less_by_sum}

-- a difference of two products, by the differences of their factors
unfold_products : (a b c d : ℤ) → b *ℤ d -ℤ a *ℤ c ≡ (b -ℤ a) *ℤ d +ℤ a *ℤ (d -ℤ c)
unfold_products a b c d =
    rw (as_difference a, as_difference b, as_difference c, as_difference d)
    (simp difference_rules (difference-eq _ _ _ _ (omega arith)))

-- products of numbers in order, none below 0, are in order
pub products_le : (a b c d : ℤ) → pos 0 ≤ℤ a → a ≤ℤ b → pos 0 ≤ℤ c → c ≤ℤ d → (a *ℤ c) ≤ℤ (b *ℤ d)
products_le a b c d ha ab hc cd = grind (arith, common_steps, le_by_sum, d, c, unfold_products, product_nn, gap_nn, ints)

-- squares of numbers in strict order, none below 0, are in strict order
pub products_lt : (a b : ℤ) → pos 0 ≤ℤ a → a <ℤ b → (a *ℤ a) <ℤ (b *ℤ b)
products_lt a b ha ab =
    less_by_sum (b *ℤ b) (a *ℤ a) _ _ (unfold_products a b a b)
    (product_pp (b -ℤ a) b (omega (arith, ints)) (omega (arith, ints)))
    (product_nn a (b -ℤ a) ha (omega (arith, ints)))

-- the identity of three quotients, by products
middle : (a b c x y z : ℤ) → (c *ℤ x -ℤ a *ℤ z) *ℤ y ≡ (c *ℤ y -ℤ b *ℤ z) *ℤ x +ℤ (b *ℤ x -ℤ a *ℤ y) *ℤ z
middle a b c x y z =
    rw (as_difference a, as_difference b, as_difference c, as_difference x, as_difference y, as_difference z)
    (simp difference_rules (difference-eq _ _ _ _ (omega arith)))

-- quotients in order are transitive
pub quotients_le : (a b c x y z : ℤ) → pos 0 <ℤ y → pos 0 ≤ℤ x → pos 0 ≤ℤ z → (a *ℤ y) ≤ℤ (b *ℤ x)
    → (b *ℤ z) ≤ℤ (c *ℤ y) → (a *ℤ z) ≤ℤ (c *ℤ x)
quotients_le a b c x y z hy hx hz first second =
    le_by_gap (c *ℤ x) (a *ℤ z) (cancel_nn (c *ℤ x -ℤ a *ℤ z) y hy
    (sum _ _ _ (middle a b c x y z) (product_nn _ x (gap_nn _ _ second) hx) (product_nn _ z (gap_nn _ _ first) hz)))
  where
    sum : (x y z : ℤ) → x ≡ y +ℤ z → pos 0 ≤ℤ y → pos 0 ≤ℤ z → pos 0 ≤ℤ x
    sum x y z e h k = omega (arith, ints)

-- ---- a direction between two others

-- a product of products
pairs : (m a b : ℤ) → (m *ℤ a) *ℤ (m *ℤ b) ≡ (m *ℤ m) *ℤ (a *ℤ b)
pairs m a b =
    rw (as_difference m, as_difference a, as_difference b) (simp difference-mul (difference-eq _ _ _ _ (omega arith)))

-- a product of squares
squares : (k j l : ℤ) → ((k *ℤ k) *ℤ l) *ℤ ((j *ℤ j) *ℤ l) ≡ ((k *ℤ j) *ℤ l) *ℤ ((k *ℤ j) *ℤ l)
squares k j l =
    rw (as_difference k, as_difference j, as_difference l) (simp difference-mul (difference-eq _ _ _ _ (omega arith)))

-- if the bound m holds for the squares of two numbers, it holds for their product
pub mixed : (m l k j r s p : ℤ) → pos 0 ≤ℤ m → pos 0 ≤ℤ l → pos 0 ≤ℤ k → pos 0 ≤ℤ j → pos 0 ≤ℤ r → pos 0 ≤ℤ s
    → (m *ℤ r) ≤ℤ ((k *ℤ k) *ℤ l) → (m *ℤ s) ≤ℤ ((j *ℤ j) *ℤ l) → (p *ℤ p) ≤ℤ (r *ℤ s)
    → (m *ℤ p) ≤ℤ ((k *ℤ j) *ℤ l)
mixed m l k j r s p hm hl hk hj hr hs first second both = elim (le_or_lt (m *ℤ p) ((k *ℤ j) *ℤ l)) [
  | inl h ↦ h
  | inr h ↦ absurd (clash _ _ _ _ _ (products_lt ((k *ℤ j) *ℤ l) (m *ℤ p) (product_nn _ l (product_nn k j hk hj) hl) h)
      (pairs m p p) (products_le (m *ℤ m) (m *ℤ m) (p *ℤ p) (r *ℤ s) (product_nn m m hm hm) (le_itself _) (square p) both)
      (pairs m r s)
      (subst (λ (z : ℤ). ((m *ℤ r) *ℤ (m *ℤ s)) ≤ℤ z) (squares k j l)
      (products_le (m *ℤ r) ((k *ℤ k) *ℤ l) (m *ℤ s) ((j *ℤ j) *ℤ l) (product_nn m r hm hr) first (product_nn m s hm hs)
      second)))
]
  where
    square : (x : ℤ) → pos 0 ≤ℤ (x *ℤ x)
    square x = square_nn x

    clash : (x y z u v : ℤ) → x <ℤ y → y ≡ z → z ≤ℤ u → v ≡ u → v ≤ℤ x → ⊥
    clash x y z u v e f g h i = omega (arith, ints)

-- the difference for a sum of two numbers with the weights a and b, by the differences for the two
expanded : (m l a b k j r s p : ℤ)
    → ((a *ℤ k +ℤ b *ℤ j) *ℤ (a *ℤ k +ℤ b *ℤ j)) *ℤ l
    -ℤ m *ℤ ((a *ℤ a) *ℤ r +ℤ ((a *ℤ b) *ℤ p +ℤ ((a *ℤ b) *ℤ p +ℤ (b *ℤ b) *ℤ s)))
    ≡ (a *ℤ a) *ℤ ((k *ℤ k) *ℤ l -ℤ m *ℤ r)
    +ℤ (((a *ℤ b) *ℤ ((k *ℤ j) *ℤ l -ℤ m *ℤ p) +ℤ (a *ℤ b) *ℤ ((k *ℤ j) *ℤ l -ℤ m *ℤ p))
    +ℤ (b *ℤ b) *ℤ ((j *ℤ j) *ℤ l -ℤ m *ℤ s))
expanded m l a b k j r s p =
    rw (
      as_difference m,
      as_difference l,
      as_difference a,
      as_difference b,
      as_difference k,
      as_difference j,
      as_difference r,
      as_difference s,
      as_difference p,
    ) (simp difference_rules (difference-eq _ _ _ _ (omega arith)))

-- a square multiplied in
drawn : (c n l m d : ℤ) → (c *ℤ n) *ℤ (c *ℤ n) *ℤ l -ℤ m *ℤ ((c *ℤ c) *ℤ d) ≡ ((n *ℤ n) *ℤ l -ℤ m *ℤ d) *ℤ (c *ℤ c)
drawn c n l m d =
    rw (as_difference c, as_difference n, as_difference l, as_difference m, as_difference d)
    (simp difference_rules (difference-eq _ _ _ _ (omega arith)))

-- between two directions the quotient is no less than the lesser of those of both
pub between_two : (m l c n d a b k j r s p : ℤ) → pos 0 ≤ℤ m → pos 0 ≤ℤ l → pos 0 <ℤ c → pos 0 ≤ℤ a → pos 0 ≤ℤ b
    → pos 0 ≤ℤ k → pos 0 ≤ℤ j → pos 0 ≤ℤ r → pos 0 ≤ℤ s → (m *ℤ r) ≤ℤ ((k *ℤ k) *ℤ l)
    → (m *ℤ s) ≤ℤ ((j *ℤ j) *ℤ l) → (p *ℤ p) ≤ℤ (r *ℤ s) → c *ℤ n ≡ a *ℤ k +ℤ b *ℤ j
    → (c *ℤ c) *ℤ d ≡ (a *ℤ a) *ℤ r +ℤ ((a *ℤ b) *ℤ p +ℤ ((a *ℤ b) *ℤ p +ℤ (b *ℤ b) *ℤ s))
    → (m *ℤ d) ≤ℤ ((n *ℤ n) *ℤ l)
between_two m l c n d a b k j r s p hm hl hc ha hb hk hj hr hs first second both e f =
    le_by_gap _ _ (cancel_nn ((n *ℤ n) *ℤ l -ℤ m *ℤ d) (c *ℤ c) (product_pp c c hc hc)
    (subst (λ (z : ℤ). pos 0 ≤ℤ z) (drawn c n l m d) whole))
  where
    sum : (x u v w : ℤ) → x ≡ u +ℤ ((v +ℤ v) +ℤ w) → pos 0 ≤ℤ u → pos 0 ≤ℤ v → pos 0 ≤ℤ w → pos 0 ≤ℤ x
    sum x u v w e g h k = omega (arith, ints)

    ab : pos 0 ≤ℤ (a *ℤ b)
    ab = product_nn a b ha hb

    parts : pos 0
        ≤ℤ (((a *ℤ k +ℤ b *ℤ j) *ℤ (a *ℤ k +ℤ b *ℤ j)) *ℤ l
        -ℤ m *ℤ ((a *ℤ a) *ℤ r +ℤ ((a *ℤ b) *ℤ p +ℤ ((a *ℤ b) *ℤ p +ℤ (b *ℤ b) *ℤ s))))
    parts = sum _ _ _ _ (expanded m l a b k j r s p) (product_nn _ _ (product_nn a a ha ha) (gap_nn _ _ first))
        (product_nn _ _ ab (gap_nn _ _ (mixed m l k j r s p hm hl hk hj hr hs first second both)))
        (product_nn _ _ (product_nn b b hb hb) (gap_nn _ _ second))

    whole : pos 0 ≤ℤ ((c *ℤ n) *ℤ (c *ℤ n) *ℤ l -ℤ m *ℤ ((c *ℤ c) *ℤ d))
    whole = rw (e, f) parts
