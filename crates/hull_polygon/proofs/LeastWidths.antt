-- A set is least wide in the direction of the normal of an edge.
use Rattle.std.proofs.lemmas.Grind.{common_steps}
use Rattle.std.proofs.Common.{◌≡◌, ℕ, ◌+◌, ◌≤◌, ◌<◌, ℤ, pos, ◌+ℤ◌, ◌-ℤ◌, ◌*ℤ◌, ◌≤ℤ◌, ◌<ℤ◌, neg_ℤ, inl, inr, refl}
use Rattle.std.proofs.Common.{sym, ap, ◌∙◌, subst, List, length, arith}
use Rattle.std.specs.List.{Contains}
use Rattle.std.proofs.lemmas.Bool.{cases_lt}
use Rattle.std.proofs.lemmas.Int.{ints}
use Rattle.std.proofs.lemmas.List.Elements.{All-contains}
use Rattle.lattice.specs.Plane.{Pair, orient, product, distance_squared, IsBefore}
use Rattle.lattice.specs.Polynomials.{difference-eq, as_difference, difference-add, difference-neg, difference-mul, difference_rules}
use Rattle.lattice.specs.Signs.{le_or_lt, product_nn, product_pp, cancel_nn}
use Rattle.lattice.specs.Vertices.{IsLeftOf}
use Rattle.lattice.proofs.Order.{equal_by}
use Rattle.lattice.proofs.Vectors.{as_pair, minus, opp, cross, cross_swap}
use Rattle.hull_polygon.specs.Extents.{IsExtent, IsLeastWidth, IsOnePoint, IsStrip, IsStripAt, IsThinnerOf}
use Rattle.hull_polygon.specs.Extents.{IsThinnestOf, length_squared, side_of, edge_squared}
use Rattle.hull_polygon.specs.Nearest.{previous}
use Rattle.hull_polygon.specs.Polygons.{IsPolygonOf}
use Rattle.hull_polygon.specs.Rounds.{vertex, IsSeparated}
use Rattle.hull_polygon.specs.Steps.{left_of}
use Rattle.hull_polygon.specs.declared.strips.Strip.{Strip}
use Rattle.hull_polygon.proofs.Axes.{IsSpan, span_of, three}
use Rattle.hull_polygon.proofs.Cones.{square_nn}
use Rattle.hull_polygon.proofs.Vertices.{vertex_back, vertex_extreme, next_apart, next_left}
use Rattle.hull_polygon.proofs.Diameters.{distance_above}
use Rattle.hull_polygon.proofs.Distances.{distance_nn}
use Rattle.hull_polygon.proofs.EdgeAxes.{bend_at, bend_at_most, both_back, product_minus, side_off, side_off_more}
use Rattle.hull_polygon.proofs.EdgeAxes.{top_of, wedge_from, wedge_to}
use Rattle.lattice.proofs.Sides.{side_after}
use Rattle.hull_geometry.proofs.PointLists.{all_of}
use Rattle.hull_polygon.proofs.Ends.{ends_of, no_vertices}
use Rattle.hull_polygon.proofs.Fractions.{between_two, products_le, quotients_le}
use Rattle.hull_polygon.proofs.NearestOf.{previous_at}
use Rattle.hull_polygon.proofs.SeparatedLists.{product_ns}
use Rattle.hull_polygon.proofs.Shields.{product_left}
use Rattle.lattice.proofs.Sides.{side_more}
use Rattle.lattice.proofs.Numbers.{gap_nn, le_by_gap, le_itself, le_less, le_opposites, le_trans, np_by}
use Rattle.lattice.proofs.Numbers.{np_opposite, sum_nn}
use lib.IntN.{*ℤ_comm}
use Rattle.hull_geometry.proofs.Slopes.{product-opp}
use Rattle.lattice.proofs.LineCrossings.{orient_other}

-- ---- identities

-- the product of two directions
abbrev dot : Pair → Pair → ℤ
dot g h = g.x *ℤ h.x +ℤ g.y *ℤ h.y

-- a squared distance, by the step
length_of_step : (a b : Pair) → distance_squared a b ≡ length_squared (minus b a)
unfolding distance_squared
length_of_step a b = refl

-- a squared distance, by the step back
length_of_back : (a b : Pair) → distance_squared a b ≡ length_squared (minus a b)
unfolding distance_squared
length_of_back a b = rw (as_pair a, as_pair b) (simp difference_rules (difference-eq _ _ _ _ (omega arith)))

-- a direction's product with itself is its squared length
along_itself : (d : Pair) → product d d ≡ length_squared d
unfolding product
along_itself d = refl

-- a direction between two others, by x
mean_x : (d g h : Pair) → cross h g *ℤ d.x ≡ product d h *ℤ g.y -ℤ product d g *ℤ h.y
unfolding product
mean_x d g h = rw (as_pair d, as_pair g, as_pair h) (simp difference_rules (difference-eq _ _ _ _ (omega arith)))

-- the same by y
mean_y : (d g h : Pair) → cross h g *ℤ d.y ≡ product d g *ℤ h.x -ℤ product d h *ℤ g.x
unfolding product
mean_y d g h = rw (as_pair d, as_pair g, as_pair h) (simp difference_rules (difference-eq _ _ _ _ (omega arith)))

-- a weighted square
weighed_square : (c x y : ℤ) → (c *ℤ c) *ℤ (x *ℤ x +ℤ y *ℤ y) ≡ (c *ℤ x) *ℤ (c *ℤ x) +ℤ (c *ℤ y) *ℤ (c *ℤ y)
weighed_square c x y =
    rw (as_difference c, as_difference x, as_difference y)
    (simp (difference-add, difference-mul) (difference-eq _ _ _ _ (omega arith)))

-- the square of two weighted normals
normals_square : (a b gx gy hx hy : ℤ)
    → (a *ℤ gy -ℤ b *ℤ hy) *ℤ (a *ℤ gy -ℤ b *ℤ hy) +ℤ (b *ℤ hx -ℤ a *ℤ gx) *ℤ (b *ℤ hx -ℤ a *ℤ gx)
    ≡ (a *ℤ a) *ℤ (gx *ℤ gx +ℤ gy *ℤ gy)
    +ℤ ((a *ℤ b) *ℤ neg_ℤ (gx *ℤ hx +ℤ gy *ℤ hy)
    +ℤ ((a *ℤ b) *ℤ neg_ℤ (gx *ℤ hx +ℤ gy *ℤ hy) +ℤ (b *ℤ b) *ℤ (hx *ℤ hx +ℤ hy *ℤ hy)))
normals_square a b gx gy hx hy =
    rw (as_difference a, as_difference b, as_difference gx, as_difference gy, as_difference hx, as_difference hy)
    (simp difference_rules (difference-eq _ _ _ _ (omega arith)))

-- the squared length of a direction between two others
mean_square : (d g h : Pair)
    → (cross h g *ℤ cross h g) *ℤ length_squared d
    ≡ (product d h *ℤ product d h) *ℤ length_squared g
    +ℤ ((product d h *ℤ product d g) *ℤ neg_ℤ (dot g h)
    +ℤ ((product d h *ℤ product d g) *ℤ neg_ℤ (dot g h) +ℤ (product d g *ℤ product d g) *ℤ length_squared h))
mean_square d g h = grind (arith, common_steps, weighed_square, cross, h, g, mean_x, d, product, mean_y, normals_square)

-- the identity of Lagrange
lagrange : (g h : Pair)
    → length_squared g *ℤ length_squared h -ℤ neg_ℤ (dot g h) *ℤ neg_ℤ (dot g h) ≡ cross h g *ℤ cross h g
lagrange g h = rw (as_pair g, as_pair h) (simp difference_rules (difference-eq _ _ _ _ (omega arith)))

-- how far w goes along d, by g
level_along : (d g w : Pair)
    → product d w *ℤ length_squared g ≡ product d g *ℤ dot g w +ℤ cross g w *ℤ cross g d
unfolding product
level_along d g w = rw (as_pair d, as_pair g, as_pair w) (simp difference_rules (difference-eq _ _ _ _ (omega arith)))

-- the length of d, by g
level_length : (d g : Pair)
    → length_squared d *ℤ length_squared g ≡ product d g *ℤ product d g +ℤ cross g d *ℤ cross g d
unfolding product
level_length d g = rw (as_pair d, as_pair g) (simp difference_rules (difference-eq _ _ _ _ (omega arith)))

-- ---- numbers

-- the identity of two squares
drawn_level : (m l n d r : ℤ)
    → ((n *ℤ n) *ℤ l -ℤ m *ℤ d) *ℤ (r *ℤ r) ≡ ((n *ℤ r) *ℤ (n *ℤ r)) *ℤ l -ℤ m *ℤ ((d *ℤ r) *ℤ r)
drawn_level m l n d r =
    rw (as_difference m, as_difference l, as_difference n, as_difference d, as_difference r)
    (simp difference_rules (difference-eq _ _ _ _ (omega arith)))

-- their common factor
common_level : (m l k c r : ℤ)
    → (neg_ℤ (k *ℤ c) *ℤ neg_ℤ (k *ℤ c)) *ℤ l -ℤ m *ℤ ((c *ℤ c) *ℤ r) ≡ (c *ℤ c) *ℤ ((k *ℤ k) *ℤ l -ℤ m *ℤ r)
common_level m l k c r =
    rw (as_difference m, as_difference l, as_difference k, as_difference c, as_difference r)
    (simp difference_rules (difference-eq _ _ _ _ (omega arith)))

-- a direction in line with a normal has the same quotient
level_quotient : (m l n d k r c : ℤ) → pos 0 <ℤ r → (m *ℤ r) ≤ℤ ((k *ℤ k) *ℤ l) → n *ℤ r ≡ neg_ℤ (k *ℤ c)
    → d *ℤ r ≡ c *ℤ c → (m *ℤ d) ≤ℤ ((n *ℤ n) *ℤ l)
level_quotient m l n d k r c hr h e f =
    le_by_gap _ _ (cancel_nn ((n *ℤ n) *ℤ l -ℤ m *ℤ d) (r *ℤ r) (product_pp r r hr hr)
    (subst (λ (z : ℤ). pos 0 ≤ℤ z) (sym (drawn_level m l n d r))
    (rw (e, f) (subst (λ (z : ℤ). pos 0 ≤ℤ z) (sym (common_level m l k c r))
    (product_nn (c *ℤ c) _ (square_nn c) (gap_nn _ _ h))))))

-- a negated number times another is the negated product
opposite_times : (n c : ℤ) → neg_ℤ n *ℤ c ≡ neg_ℤ (c *ℤ n)
opposite_times n c =
    rw (as_difference n, as_difference c) (simp (difference-neg, difference-mul) (difference-eq _ _ _ _ (omega arith)))

-- ---- the strips of edges

-- no point of S lies farther than k to the left of an edge of V whose squared length is r
abbrev IsBounded : List Pair → List Pair → ℤ → ℤ → Type 0
IsBounded S V k r =
    (i : ℕ) × (i < length V) × ((t : Pair) → Contains S t → orient (vertex V i) (vertex V (i + 1)) t ≤ℤ k)
    × (distance_squared (vertex V i) (vertex V (i + 1)) ≡ r)

-- the thinnest strip is no wider than that of such an edge
weighed : (S V : List Pair) (w : Strip) (k r : ℤ) → IsPolygonOf S V → IsThinnestOf S V (length V) w → IsBounded S V k r
    → (pos 0 ≤ℤ k) × (((side_of w *ℤ side_of w) *ℤ r) ≤ℤ ((k *ℤ k) *ℤ edge_squared w))
weighed S V w k r o best (i, l, h, e) =
    let b = best.1 i l in
    let f = b.0 in
    let side = orient (vertex V i) (vertex V (i + 1)) f in
    let low : pos 0 ≤ℤ side = All-contains (λ t. pos 0 ≤ℤ orient (vertex V i) (vertex V (i + 1)) t) S f
    (next_left S V i (i + 1) o.1 refl l) b.1 in (
      le_trans _ _ _ low (h f b.1),
      subst (λ (z : ℤ). ((side_of w *ℤ side_of w) *ℤ z) ≤ℤ ((k *ℤ k) *ℤ edge_squared w)) e
          (le_trans _ _ _ b.2 (products_le (side *ℤ side) (k *ℤ k) (edge_squared w) (edge_squared w)
          (product_nn side side low low) (products_le side k side k low (h f b.1) low (h f b.1))
          (distance_nn w.from w.to) (le_itself _))),
    )

-- the edge to a vertex, by its index, bounds S
bounded_to : (S V : List Pair) (j : ℕ) (k r : ℤ) → j < length V
    → ((t : Pair) → Contains S t → orient (previous V j) (vertex V j) t ≤ℤ k)
    → distance_squared (previous V j) (vertex V j) ≡ r → IsBounded S V k r
bounded_to S V j k r l h e =
    let b = previous_at V j l in (
      b.0,
      b.1,
      λ t m. subst (λ (z : Pair). orient (vertex V b.0) z t ≤ℤ k) (sym b.4)
          (subst (λ (z : Pair). orient z (vertex V j) t ≤ℤ k) b.3 (h t m)),
      ap (distance_squared (vertex V b.0)) b.4 ∙ ap (λ (z : Pair). distance_squared z (vertex V j)) (sym b.3) ∙ e,
    )

-- a bound under another name
rebound : (S V : List Pair) (k j r : ℤ) → k ≡ j → IsBounded S V k r → IsBounded S V j r
rebound S V k j r e h = subst (λ (z : ℤ). IsBounded S V z r) e h

-- the two ends of a set in a direction, and the vertices beside them
record IsCaliper (S V : List Pair) (i j : ℕ) : Type 0 where
  polygon : IsPolygonOf S V
  separated : (last : ℕ) × IsSeparated V last
  many : 2 < length V
  top : i < length V
  bottom : j < length V

-- the edge to one end has the other end farthest from it
left_here : (S V : List Pair) (i j : ℕ) → IsCaliper S V i j
    → cross (minus (vertex V i) (previous V i)) (minus (previous V j) (vertex V j)) ≤ℤ pos 0
    → cross (minus (vertex V i) (previous V i)) (minus (vertex V (j + 1)) (vertex V j)) ≤ℤ pos 0
    → IsBounded S V (cross (minus (vertex V i) (previous V i)) (minus (vertex V j) (vertex V i)))
    (length_squared (minus (vertex V i) (previous V i)))
left_here S V i j c h k =
    rebound S V _ _ _ (side_after (previous V i) (vertex V i) (vertex V j))
    (bounded_to S V i _ _ c.top
    (bend_at_most S (previous V i) (vertex V i) (previous V j) (vertex V j) (vertex V (j + 1))
    (bend_at S V c.separated.0 j c.polygon c.separated.1 c.many c.bottom)
    (np_by _ _ (side_more (previous V i) (vertex V i) (vertex V j) (previous V j)) h)
    (np_by _ _ (side_more (previous V i) (vertex V i) (vertex V j) (vertex V (j + 1))) k))
    (length_of_step (previous V i) (vertex V i)))

-- the edge from one end has the other end farthest from it
right_here : (S V : List Pair) (i j : ℕ) → IsCaliper S V i j
    → pos 0 ≤ℤ cross (minus (vertex V i) (vertex V (i + 1))) (minus (previous V j) (vertex V j))
    → pos 0 ≤ℤ cross (minus (vertex V i) (vertex V (i + 1))) (minus (vertex V (j + 1)) (vertex V j))
    → IsBounded S V (neg_ℤ (cross (minus (vertex V i) (vertex V (i + 1))) (minus (vertex V j) (vertex V i))))
    (length_squared (minus (vertex V i) (vertex V (i + 1))))
right_here S V i j c h k =
    rebound S V _ _ _ (side_off (vertex V i) (vertex V (i + 1)) (vertex V j)) (
      i,
      c.top,
      bend_at_most S (vertex V i) (vertex V (i + 1)) (previous V j) (vertex V j) (vertex V (j + 1))
          (bend_at S V c.separated.0 j c.polygon c.separated.1 c.many c.bottom)
          (np_opposite _ _ (side_off_more (vertex V i) (vertex V (i + 1)) (vertex V j) (previous V j)) h)
          (np_opposite _ _ (side_off_more (vertex V i) (vertex V (i + 1)) (vertex V j) (vertex V (j + 1))) k),
      length_of_back (vertex V i) (vertex V (i + 1)),
    )

-- exchanging the ends keeps a caliper
exchanged : (S V : List Pair) (i j : ℕ) → IsCaliper S V i j → IsCaliper S V j i
exchanged S V i j c = record { polygon = c.polygon; separated = c.separated; many = c.many; top = c.bottom; bottom = c.top }

-- the left one of the outermost edges bounds S
left_bounded : (S V : List Pair) (i j : ℕ) (d g h : Pair) → IsCaliper S V i j
    → IsSpan d (minus (vertex V i) (previous V i)) (minus (vertex V i) (vertex V (i + 1)))
    (minus (previous V j) (vertex V j)) (minus (vertex V (j + 1)) (vertex V j)) g h
    → IsBounded S V (cross g (minus (vertex V j) (vertex V i))) (length_squared g)
left_bounded S V i j d g h c s = elim s.left_one [
  | inl a ↦ subst (λ (z : Pair). IsBounded S V (cross z (minus (vertex V j) (vertex V i))) (length_squared z)) (sym a.0)
      (left_here S V i j c a.1 a.2)
  | inr a ↦ subst (λ (z : Pair). IsBounded S V (cross z (minus (vertex V j) (vertex V i))) (length_squared z)) (sym a.0)
      (subst (IsBounded S V (cross (minus (previous V j) (vertex V j)) (minus (vertex V j) (vertex V i))))
      (sym (length_of_step (previous V j) (vertex V j)) ∙ length_of_back (previous V j) (vertex V j))
      (rebound S V _ _ _ (both_back (vertex V j) (previous V j) (vertex V i) (vertex V j))
      (left_here S V j i (exchanged S V i j c)
      (np_by _ _ (both_back (vertex V j) (previous V j) (previous V i) (vertex V i)) a.1)
      (np_by _ _ (both_back (vertex V j) (previous V j) (vertex V (i + 1)) (vertex V i)) a.2))))
]

-- the right one of the outermost edges bounds S
right_bounded : (S V : List Pair) (i j : ℕ) (d g h : Pair) → IsCaliper S V i j
    → IsSpan d (minus (vertex V i) (previous V i)) (minus (vertex V i) (vertex V (i + 1)))
    (minus (previous V j) (vertex V j)) (minus (vertex V (j + 1)) (vertex V j)) g h
    → IsBounded S V (cross (minus (vertex V j) (vertex V i)) h) (length_squared h)
right_bounded S V i j d g h c s = elim s.right_one [
  | inl a ↦ subst (λ (z : Pair). IsBounded S V (cross (minus (vertex V j) (vertex V i)) z) (length_squared z)) (sym a.0)
      (rebound S V _ _ _ (sym (cross_swap (minus (vertex V j) (vertex V i)) (minus (vertex V i) (vertex V (i + 1)))))
      (right_here S V i j c a.1 a.2))
  | inr a ↦ subst (λ (z : Pair). IsBounded S V (cross (minus (vertex V j) (vertex V i)) z) (length_squared z)) (sym a.0)
      (subst (IsBounded S V (cross (minus (vertex V j) (vertex V i)) (minus (vertex V (j + 1)) (vertex V j))))
      (sym (length_of_back (vertex V j) (vertex V (j + 1))) ∙ length_of_step (vertex V j) (vertex V (j + 1)))
      (rebound S V _ _ _
      (ap neg_ℤ (both_back (vertex V j) (vertex V (j + 1)) (vertex V i) (vertex V j))
      ∙ sym (cross_swap (minus (vertex V j) (vertex V i)) (minus (vertex V (j + 1)) (vertex V j))))
      (right_here S V j i (exchanged S V i j c)
      (omega (arith, ints, both_back (vertex V j) (vertex V (j + 1)) (previous V i) (vertex V i), a.1))
      (omega (arith, ints, both_back (vertex V j) (vertex V (j + 1)) (vertex V (i + 1)) (vertex V i), a.2)))))
]

-- a squared length is not below 0
length_nn : (g : Pair) → pos 0 ≤ℤ length_squared g
length_nn g = sum_nn _ _ (square_nn g.x) (square_nn g.y)

-- the thinnest strip is no wider than the set is along a direction between the outermost
by_span : (S V : List Pair) (i j : ℕ) (w : Strip) (d g h : Pair) (n : ℤ) → IsCaliper S V i j
    → IsThinnestOf S V (length V) w
    → IsSpan d (minus (vertex V i) (previous V i)) (minus (vertex V i) (vertex V (i + 1)))
    (minus (previous V j) (vertex V j)) (minus (vertex V (j + 1)) (vertex V j)) g h
    → product d (minus (vertex V j) (vertex V i)) ≡ neg_ℤ n
    → ((side_of w *ℤ side_of w) *ℤ length_squared d) ≤ℤ ((n *ℤ n) *ℤ edge_squared w)
by_span S V i j w d g h n c best s e =
    let v : Pair = minus (vertex V j) (vertex V i) in
    let at_left = left_bounded S V i j d g h c s in
    let left = weighed S V w (cross g v) (length_squared g) c.polygon best at_left in
    let right = weighed S V w (cross v h) (length_squared h) c.polygon best (right_bounded S V i j d g h c s) in
    elim s.bends [
      | inl t ↦ between_two (side_of w *ℤ side_of w) (edge_squared w) (cross h g) n (length_squared d) (product d h)
          (product d g) (cross g v) (cross v h) (length_squared g) (length_squared h) (neg_ℤ (dot g h))
          (square_nn (side_of w))
          (distance_nn w.from w.to) t s.right_up s.left_up left.0 right.0 (length_nn g) (length_nn h) left.1 right.1
          (at_most _ _ _ (lagrange g h) (square_nn (cross h g)))
          (turned (product d v *ℤ cross h g) (product d h *ℤ cross g v) (product d g *ℤ cross v h) _ (three d v h g)
          (ap (λ (z : ℤ). z *ℤ cross h g) e ∙ opposite_times n (cross h g)))
          (mean_square d g h)
      | inr z ↦ level_quotient (side_of w *ℤ side_of w) (edge_squared w) n (length_squared d) (cross g v)
          (length_squared g)
          (cross g d)
          (subst (λ (y : ℤ). pos 0 <ℤ y) at_left.3
          (distance_above (vertex V at_left.0) (vertex V (at_left.0 + 1))
          (λ q. next_apart S V at_left.0 (at_left.0 + 1) c.polygon.1 refl at_left.1 (omega (arith, c.many)) (sym q))))
          left.1
          (level _ _ _ _ (level_along d g v) (nothing_times _ (dot g v) z)
          (ap (λ (y : ℤ). y *ℤ length_squared g) e ∙ opposite_times n (length_squared g))
          (*ℤ_comm n (length_squared g)))
          (square_only _ _ _ (level_length d g) (nothing_times _ (product d g) z))
    ]
  where
    at_most : (x y z : ℤ) → x -ℤ y ≡ z → pos 0 ≤ℤ z → y ≤ℤ x
    at_most x y z e h = omega (arith, ints)

    turned : (x y z c : ℤ) → x +ℤ (y +ℤ z) ≡ pos 0 → x ≡ neg_ℤ c → c ≡ y +ℤ z
    turned x y z c e f = omega (arith, ints)

    nothing_times : (k z : ℤ) → k ≡ pos 0 → k *ℤ z ≡ pos 0
    nothing_times k z e = ap (λ (x : ℤ). x *ℤ z) e ∙ omega (arith, ints)

    level : (x y z u : ℤ) {t : ℤ} → x ≡ y +ℤ z → y ≡ pos 0 → x ≡ neg_ℤ u → t ≡ u → t ≡ neg_ℤ z
    level x y z u e f g h = omega (arith, ints)

    square_only : (x y z : ℤ) → x ≡ y +ℤ z → y ≡ pos 0 → x ≡ z
    square_only x y z e f = omega (arith, ints)

-- the extent is how much farther the farthest point lies than the one farthest backwards
extent_is : (S : List Pair) (d p q : Pair) (n : ℤ) → IsExtent S d n → Contains S p → Contains S q
    → ((t : Pair) → Contains S t → product d t ≤ℤ product d p)
    → ((t : Pair) → Contains S t → product d q ≤ℤ product d t)
    → n ≡ product d p -ℤ product d q
extent_is S d p q n h mp mq high low =
    let (s, t, ms, mt, e) = h.reached in
    omega (arith, ints, h.most p q mp mq, high s ms, low t mt)

-- for at least three vertices the thinnest strip is no wider than the extent
least_many : (S V : List Pair) (last : ℕ) (w : Strip) (d : Pair) (n : ℤ) → IsPolygonOf S V → IsSeparated V last
    → 2 < length V → IsThinnestOf S V (length V) w → pos 0 <ℤ length_squared d → IsExtent S d n
    → ((side_of w *ℤ side_of w) *ℤ length_squared d) ≤ℤ ((n *ℤ n) *ℤ edge_squared w)
least_many S V last w d n o p many best h x =
    let a = top_of S V last d o p (omega (arith, many)) in
    let b = top_of S V last (opp d) o p (omega (arith, many)) in
    let c : IsCaliper S V a.0 b.0 = record { polygon = o; separated = (last, p); many = many; top = a.1; bottom = b.1 } in
    let s = span_of d d (minus (vertex V a.0) (previous V a.0)) (minus (vertex V a.0) (vertex V (a.0 + 1)))
    (minus (previous V b.0) (vertex V b.0)) (minus (vertex V (b.0 + 1)) (vertex V b.0))
    (wedge_to S V d a.0 o a.1 (bend_at S V last a.0 o p many a.1) a.2)
    (wedge_from S V d b.0 o b.1 (bend_at S V last b.0 o p many b.1) b.2)
    (subst (λ (z : ℤ). pos 0 <ℤ z) (sym (along_itself d)) h) in
    by_span S V a.0 b.0 w d s.0 s.1 n c best s.2
    (back _ (product d (vertex V b.0)) (product d (vertex V a.0)) (product_minus d (vertex V b.0) (vertex V a.0))
    (extent_is S d (vertex V a.0) (vertex V b.0) n x a.2.0 b.2.0
    (λ t m. All-contains (λ u. product d u ≤ℤ product d (vertex V a.0)) S t a.2.1 m)
    (λ t m. le_opposites _ _ _ _ (product-opp d t) (product-opp d (vertex V b.0))
    (All-contains (λ u. product (opp d) u ≤ℤ product (opp d) (vertex V b.0)) S t b.2.1 m))))
  where
    back : (x y z : ℤ) → x ≡ y -ℤ z → n ≡ z -ℤ y → x ≡ neg_ℤ n
    back x y z e f = omega (arith, ints)

-- for two vertices all points are in line with them
least_two : (S V : List Pair) (w : Strip) (d : Pair) (n : ℤ) → IsPolygonOf S V → 1 < length V → length V ≤ 2
    → IsThinnestOf S V (length V) w
    → ((side_of w *ℤ side_of w) *ℤ length_squared d) ≤ℤ ((n *ℤ n) *ℤ edge_squared w)
least_two S V w d n o two few best =
    let b = weighed S V w (pos 0) (distance_squared (vertex V 0) (vertex V 1)) o best (
      0,
      omega (arith, two),
      λ t m. flat t m,
      refl,
    ) in
    up _ _ _ (product_ns (length_squared d) _ (length_nn d) (none b.1))
    (*ℤ_comm (side_of w *ℤ side_of w) (length_squared d))
    (product_nn _ _ (square_nn n) (distance_nn w.from w.to))
  where
    -- the second edge goes back on the first
    flat : (t : Pair) → Contains S t → orient (vertex V 0) (vertex V 1) t ≤ℤ pos 0
    flat t m = np_opposite _ _ (orient_other (vertex V 1) (vertex V 0) t)
        (subst (λ (z : Pair). pos 0 ≤ℤ orient (vertex V 1) z t) back
        (All-contains (λ u. pos 0 ≤ℤ orient (vertex V 1) (vertex V 2) u) S t
        (next_left S V 1 2 o.1 (omega arith) two) m))
      where
        back : vertex V 2 ≡ vertex V 0
        back = vertex_back V 2 few (omega (arith, two))

    none : ((side_of w *ℤ side_of w) *ℤ distance_squared (vertex V 0) (vertex V 1))
        ≤ℤ ((pos 0 *ℤ pos 0) *ℤ edge_squared w)
        → (side_of w *ℤ side_of w) ≤ℤ pos 0
    none h = elim (le_or_lt (side_of w *ℤ side_of w) (pos 0)) [
      | inl k ↦ k
      | inr k ↦ absurd (clash _ _ h (zero_times (edge_squared w)) (product_pp _ _ k
          (distance_above (vertex V 0) (vertex V 1)
          (λ q. next_apart S V 0 1 o.1 (omega arith) (omega (arith, two)) two (sym q)))))
    ]
      where
        zero_times : (z : ℤ) → (pos 0 *ℤ pos 0) *ℤ z ≡ pos 0
        zero_times z = omega (arith, ints)

        clash : (x y : ℤ) → x ≤ℤ y → y ≡ pos 0 → pos 0 <ℤ x → ⊥
        clash x y h e k = omega (arith, ints)

    up : (x y z : ℤ) → x ≤ℤ pos 0 → y ≡ x → pos 0 ≤ℤ z → y ≤ℤ z
    up x y z h e k = omega (arith, ints)

-- ---- the thinnest strip of all edges

-- the strip of an edge is a strip of the set
pub strip_of : (S V : List Pair) (i : ℕ) (w : Strip) → IsPolygonOf S V → 1 < length V → i < length V → IsStripAt S V i w
    → IsStrip S w
strip_of S V i w o two l h = record {
  start = subst (Contains S) (sym h.from_vertex) (vertex_extreme S V i o.1 (omega (arith, two))).0;
  end = subst (Contains S) (sym h.to_next) (vertex_extreme S V (i + 1) o.1 (omega (arith, two))).0;
  apart = λ e. next_apart S V i (i + 1) o.1 refl l two (sym h.from_vertex ∙ e ∙ h.to_next);
  left = subst (λ (z : Pair). IsLeftOf S z w.to) (sym h.from_vertex)
      (subst (IsLeftOf S (vertex V i)) (sym h.to_next) (next_left S V i (i + 1) o.1 refl l));
  there = h.opposite.0;
  farthest = all_of (λ t. orient w.from w.to t ≤ℤ side_of w) S
      (λ t m. subst (λ (z : Pair). orient z w.to t ≤ℤ orient z w.to w.farthest) (sym h.from_vertex)
      (subst (λ (z : Pair). orient (vertex V i) z t ≤ℤ orient (vertex V i) z w.farthest) (sym h.to_next)
      (at_most (along t) (along w.farthest) (along (vertex V i)) _ _ (product_left (vertex V i) (vertex V (i + 1)) t)
      (product_left (vertex V i) (vertex V (i + 1)) w.farthest)
      (All-contains (λ u. along u ≤ℤ along w.farthest) S t h.opposite.1 m))));
}
  where
    along : Pair → ℤ
    along = product (left_of (vertex V i) (vertex V (i + 1)))

    at_most : (x y z u v : ℤ) → x -ℤ z ≡ u → y -ℤ z ≡ v → x ≤ℤ y → u ≤ℤ v
    at_most x y z u v e f h = omega (arith, ints)

-- its side is not below 0
pub side_nn : (S : List Pair) (w : Strip) → IsStrip S w → pos 0 ≤ℤ side_of w
side_nn S w h = All-contains (λ t. pos 0 ≤ℤ orient w.from w.to t) S w.farthest h.left h.there

-- the strip of the edge at i is no wider than itself
own_edge : (S V : List Pair) (i : ℕ) (w : Strip) → IsStripAt S V i w → (f : Pair) × Contains S f
    × (((side_of w *ℤ side_of w) *ℤ distance_squared (vertex V i) (vertex V (i + 1)))
    ≤ℤ ((orient (vertex V i) (vertex V (i + 1)) f *ℤ orient (vertex V i) (vertex V (i + 1)) f) *ℤ edge_squared w))
own_edge S V i w h = grind (arith, common_steps, vertex, le_itself)
  where
    Bounds : Pair → Pair → Type 0
    Bounds a b = ((side_of w *ℤ side_of w) *ℤ distance_squared a b)
        ≤ℤ ((orient a b w.farthest *ℤ orient a b w.farthest) *ℤ edge_squared w)

-- the strip of the first edge is the thinnest of one
pub thinnest_first : (S V : List Pair) (w : Strip) → IsPolygonOf S V → 1 < length V → IsStripAt S V 0 w
    → IsThinnestOf S V 1 w
thinnest_first S V w o two h = (
  strip_of S V 0 w o two (omega (arith, two)) h,
  λ i l. subst (λ (k : ℕ). (f : Pair) × Contains S f
      × (((side_of w *ℤ side_of w) *ℤ distance_squared (vertex V k) (vertex V (k + 1)))
      ≤ℤ ((orient (vertex V k) (vertex V (k + 1)) f *ℤ orient (vertex V k) (vertex V (k + 1)) f) *ℤ edge_squared w)))
      (omega (arith, l)) (own_edge S V 0 w h),
)

-- an edge has a length
edge_above : (w : Strip) → ¬ (w.from ≡ w.to) → pos 0 <ℤ edge_squared w
edge_above w n = distance_above w.from w.to (λ e. n (sym e))

-- the thinner of the best strip and the next one is the thinnest of one edge more
pub thinnest_more : (S V : List Pair) (i : ℕ) (best next r : Strip) → IsPolygonOf S V → 1 < length V → i < length V
    → IsThinnestOf S V i best → IsStripAt S V i next → IsThinnerOf best next r → IsThinnestOf S V (i + 1) r
thinnest_more S V i best next r o two l h a (inl (e, n)) =
    subst (IsThinnestOf S V (i + 1)) (sym e) (
      h.0,
      λ k lk. elim (cases_lt k i) [
        | inl j ↦ h.1 k j
        | inr j ↦ subst (λ (x : ℕ). Bounded best x) (omega (arith, j, lk))
            (let b = own_edge S V i next a in (
              b.0,
              b.1,
              quotients_le _ _ _ _ _ _ (edge_above next s.apart) (distance_nn best.from best.to) (distance_nn _ _)
                  (not_less _ _ n)
                  b.2,
            ))
      ],
    )
  where
    s : IsStrip S next
    s = strip_of S V i next o two l a

    Bounded : Strip → ℕ → Type 0
    Bounded w k = (f : Pair) × Contains S f
        × (((side_of w *ℤ side_of w) *ℤ distance_squared (vertex V k) (vertex V (k + 1)))
        ≤ℤ ((orient (vertex V k) (vertex V (k + 1)) f *ℤ orient (vertex V k) (vertex V (k + 1)) f) *ℤ edge_squared w))

    not_less : (x y : ℤ) → ¬ (x <ℤ y) → y ≤ℤ x
    not_less x y n = elim (le_or_lt y x) [ inl h ↦ h | inr h ↦ absurd (n h) ]
thinnest_more S V i best next r o two l h a (inr (e, n)) =
    subst (IsThinnestOf S V (i + 1)) (sym e) (
      strip_of S V i next o two l a,
      λ k lk. elim (cases_lt k i) [
        | inl j ↦ let b = h.1 k j in (
          b.0,
          b.1,
          quotients_le _ _ _ _ _ _ (edge_above best h.0.apart) (distance_nn next.from next.to) (distance_nn _ _)
              (le_less _ _ n) b.2,
        )
        | inr j ↦ subst (λ (x : ℕ). Bounded next x) (omega (arith, j, lk)) (own_edge S V i next a)
      ],
    )
  where
    Bounded : Strip → ℕ → Type 0
    Bounded w k = (f : Pair) × Contains S f
        × (((side_of w *ℤ side_of w) *ℤ distance_squared (vertex V k) (vertex V (k + 1)))
        ≤ℤ ((orient (vertex V k) (vertex V (k + 1)) f *ℤ orient (vertex V k) (vertex V (k + 1)) f) *ℤ edge_squared w))

-- the set is least wide in the thinnest strip of all edges
pub least_of : (S V : List Pair) (last : ℕ) (w : Strip) → IsPolygonOf S V → IsSeparated V last → 1 < length V
    → IsThinnestOf S V (length V) w → IsLeastWidth S w
least_of S V last w o p two best = record {
  strip = best.0;
  least = λ d n x. elim (le_or_lt (length_squared d) (pos 0)) [
    | inl h ↦ flat d n (product_ns (side_of w *ℤ side_of w) (length_squared d) (square_nn (side_of w)) h)
        (product_nn _ _ (square_nn n) (distance_nn w.from w.to))
    | inr h ↦ elim (cases_lt 2 (length V)) [
      | inl many ↦ least_many S V last w d n o p many best h x
      | inr few ↦ least_two S V w d n o two few best
    ]
  ];
}
  where
    flat : (d : Pair) (n : ℤ) → ((side_of w *ℤ side_of w) *ℤ length_squared d) ≤ℤ pos 0
        → pos 0 ≤ℤ ((n *ℤ n) *ℤ edge_squared w)
        → ((side_of w *ℤ side_of w) *ℤ length_squared d) ≤ℤ ((n *ℤ n) *ℤ edge_squared w)
    flat d n h k = omega (arith, ints)

-- all points of a set with at most one vertex are equal
pub one_point : (S V : List Pair) (last : ℕ) → IsPolygonOf S V → IsSeparated V last → length V < 2 → IsOnePoint S
one_point S V last o p few s t ms mt = elim (cases_lt 0 (length V)) [
  | inl n ↦
      let e : last ≡ 0 = omega (arith, p.0 n, few) in
      let ends = ends_of S V last o p n in
      only s (ends.0 s ms) (subst (λ (k : ℕ). ¬ IsBefore (vertex V k) s) e (ends.1 s ms))
      ∙ sym (only t (ends.0 t mt) (subst (λ (k : ℕ). ¬ IsBefore (vertex V k) t) e (ends.1 t mt)))
  | inr n ↦ absurd (let k = subst (λ (z : List Pair). Contains z s) (no_vertices S V o (omega (arith, n))) ms in
      omega (arith, k.1))
]
  where
    only : (q : Pair) → ¬ IsBefore q (vertex V 0) → ¬ IsBefore (vertex V 0) q → q ≡ vertex V 0
    only q h k = equal_by q (vertex V 0) h k
