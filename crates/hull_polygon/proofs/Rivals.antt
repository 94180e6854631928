-- If the nearest feature of T to a point of S is no farther off than the nearest features to other points of the two,
-- no point of S lies farther in that direction.
use Rattle.std.proofs.lemmas.Grind.{common_steps}
use Rattle.std.proofs.Common.{◌≡◌, ℤ, pos, ◌+ℤ◌, ◌-ℤ◌, ◌*ℤ◌, ◌≤ℤ◌, ◌<ℤ◌, negsuc, neg_ℤ, inl, inr}
use Rattle.std.proofs.Common.{refl, sym, ap, ◌∙◌, subst, List, [], ◌∷◌, arith}
use Rattle.std.specs.List.{Contains}
use Rattle.std.proofs.lemmas.Int.{ints}
use Rattle.std.proofs.lemmas.List.Elements.{All-contains}
use lib.IntN.{*ℤ_comm}
use Rattle.lattice.specs.Integers.{distrib_r}
use Rattle.lattice.specs.Plane.{Pair, product}
use Rattle.lattice.specs.Polynomials.{difference-eq, as_difference, difference_rules}
use Rattle.lattice.proofs.Vectors.{as_pair}
use Rattle.lattice.specs.Signs.{le_or_lt, product_nn, product_pp, product_np, product_pn, cancel_nn}
use Rattle.hull_polygon.specs.Nearest.{IsNearestEdge}
use Rattle.hull_polygon.specs.Separations.{IsSeparation}
use Rattle.hull_polygon.specs.Steps.{step, left_of}
use Rattle.hull_polygon.specs.declared.separations.Separation.{Separation}
use Rattle.hull_polygon.proofs.Cones.{square_nn, square_above}
use Rattle.hull_polygon.proofs.Fractions.{products_le, products_lt}
use Rattle.hull_polygon.proofs.Gaps.{turned, parts, gap, along_gap, along_step, some_length, narrower}
use Rattle.hull_polygon.proofs.NearestOf.{step_back}
use Rattle.hull_polygon.proofs.SeparatedLists.{product_ns}
use Rattle.hull_polygon.proofs.Separated.{apart_by, from_edge}
use Rattle.lattice.proofs.Numbers.{above_not_np, below_not_nn, gap_above, gap_below, gap_nn, le_by_gap, le_by_sum}
use Rattle.lattice.proofs.Numbers.{less_across, less_not_le, less_opposites, nn_above, nn_by_le, np_below}
use Rattle.hull_geometry.proofs.EdgeSteps.{product_same}
use Rattle.hull_polygon.proofs.Passing.{times_less}

-- ---- a separation of a set from a point, as a fraction

-- how far q lies beyond a farthest point in a direction: its square, divided by that of the direction's length, is that
-- of the distance
abbrev pub depth : Separation → Pair → ℤ
depth w q = product w.direction q -ℤ product w.direction w.farthest

-- the square of that length
abbrev pub reach : Separation → ℤ
reach w = product w.direction w.direction

-- a separation of S from q that is at least as wide as H divided by the root of L
abbrev pub Rival : List Pair → Pair → ℤ → ℤ → Type 0
Rival S q H L =
    (w : Separation) × IsSeparation S (q ∷ []) w × (((H *ℤ H) *ℤ reach w) ≤ℤ ((depth w q *ℤ depth w q) *ℤ L))

-- q lies beyond S
pub farther_than : (S : List Pair) (q : Pair) (w : Separation) → IsSeparation S (q ∷ []) w
    → product w.direction w.farthest <ℤ product w.direction q
farther_than S q w h =
    All-contains (λ t. product w.direction w.farthest <ℤ product w.direction t) (q ∷ []) q h.beyond
    (0, omega arith, refl)

-- q lies beyond S by more than 0
pub depth_above : (S : List Pair) (q : Pair) (w : Separation) → IsSeparation S (q ∷ []) w → pos 0 <ℤ depth w q
depth_above S q w h = gap_above _ _ (farther_than S q w h)

-- the direction has a length
pub reach_above : (S : List Pair) (q : Pair) (w : Separation) → IsSeparation S (q ∷ []) w → pos 0 <ℤ reach w
reach_above S q w h = some_length w.direction w.farthest q (farther_than S q w h)

-- q lies at least as far beyond each point of S
pub depth_from : (S : List Pair) (q x : Pair) (w : Separation) → IsSeparation S (q ∷ []) w → Contains S x
    → depth w q ≤ℤ (product w.direction q -ℤ product w.direction x)
depth_from S q x w h m =
    rest _ _ _ (All-contains (λ t. product w.direction t ≤ℤ product w.direction w.farthest) S x h.farthest m)
  where
    rest : (x y z : ℤ) → x ≤ℤ y → (z -ℤ y) ≤ℤ (z -ℤ x)
    rest x y z h = omega (arith, ints)

-- ---- weights

-- a weighted sum of two numbers minus as many times a third is the sum of the weighted differences
weighed_less : (l m h u v : ℤ) → (l *ℤ u +ℤ m *ℤ v) -ℤ (l +ℤ m) *ℤ h ≡ l *ℤ (u -ℤ h) +ℤ m *ℤ (v -ℤ h)
weighed_less l m h u v =
    rw (as_difference l, as_difference m, as_difference h, as_difference u, as_difference v)
    (simp difference_rules (difference-eq _ _ _ _ (omega arith)))

-- a weighted sum of two numbers no less than a third is no less than its multiple
weighed_up : (l m h u v : ℤ) → pos 0 ≤ℤ l → pos 0 ≤ℤ m → h ≤ℤ u → h ≤ℤ v → ((l +ℤ m) *ℤ h) ≤ℤ (l *ℤ u +ℤ m *ℤ v)
weighed_up l m h u v hl hm hu hv =
    le_by_sum _ _ _ _ (weighed_less l m h u v) (product_nn l (u -ℤ h) hl (gap_nn _ _ hu)) (product_nn m (v -ℤ h) hm (gap_nn _ _ hv))

-- a weighted sum of two numbers below 0 is below 0
weighed_below : (l m u v : ℤ) → pos 0 ≤ℤ l → pos 0 ≤ℤ m → pos 0 <ℤ (l +ℤ m) → u <ℤ pos 0 → v <ℤ pos 0
    → (l *ℤ u +ℤ m *ℤ v) <ℤ pos 0
weighed_below l m u v hl hm h hu hv =
    below _ _ _ _ (weighed_less l m (negsuc 0) u v) h
    (product_ns l (u -ℤ negsuc 0) hl (omega (arith, ints))) (product_ns m (v -ℤ negsuc 0) hm (omega (arith, ints)))
  where
    below : (x k u v : ℤ) → x -ℤ k *ℤ negsuc 0 ≡ u +ℤ v → pos 0 <ℤ k → u ≤ℤ pos 0 → v ≤ℤ pos 0 → x <ℤ pos 0
    below x k u v e h p q = omega (arith, ints)

-- a weighted sum of two numbers above 0 is above 0
weighed_above : (l m u v : ℤ) → pos 0 ≤ℤ l → pos 0 ≤ℤ m → pos 0 <ℤ (l +ℤ m) → pos 0 <ℤ u → pos 0 <ℤ v
    → pos 0 <ℤ (l *ℤ u +ℤ m *ℤ v)
weighed_above l m u v hl hm h hu hv =
    omega (arith, ints, weighed_up l m (pos 1) u v hl hm (omega (arith, ints)) (omega (arith, ints)))

-- a weighted sum of equal numbers is their multiple
weighed_same : (l m u v : ℤ) → u ≡ v → l *ℤ u +ℤ m *ℤ v ≡ (l +ℤ m) *ℤ v
weighed_same l m u v e = ap (λ (z : ℤ). l *ℤ z +ℤ m *ℤ v) e ∙ sym (distrib_r l m v)

-- the weights of z between x and y, by its distances from them
balanced : (x y z : ℤ) → (y -ℤ z) *ℤ (z -ℤ x) +ℤ (z -ℤ x) *ℤ (z -ℤ y) ≡ pos 0
balanced x y z = omega (arith, ints, flipped x y z)
  where
    flipped : (x y z : ℤ) → (y -ℤ z) *ℤ (z -ℤ x) ≡ neg_ℤ ((z -ℤ x) *ℤ (z -ℤ y))
    flipped x y z = rw (as_difference x, as_difference y, as_difference z)
        (simp difference_rules (difference-eq _ _ _ _ (omega arith)))

-- ---- a gap that is narrower

-- a separation of S from q is no wider than the gap between q and a point between two of S
loses : (S : List Pair) (q x y n : Pair) (l m H : ℤ) → Rival S q H (product n n) → Contains S x → Contains S y
    → pos 0 ≤ℤ l → pos 0 ≤ℤ m → pos 0 <ℤ (l +ℤ m) → product (turned n) (gap l m q x y) ≡ pos 0
    → neg_ℤ ((l +ℤ m) *ℤ H) <ℤ product n (gap l m q x y) → product n (gap l m q x y) <ℤ ((l +ℤ m) *ℤ H) → ⊥
loses S q x y n l m H (w, h, more) mx my hl hm k z low high =
    narrower n w.direction (gap l m q x y) (l +ℤ m) (depth w q) H z k (nn_above _ (depth_above S q w h))
    (rw (along_gap w.direction l m q x y)
    (weighed_up l m (depth w q) _ _ hl hm (depth_from S q x w h mx) (depth_from S q y w h my)))
    low high (reach_above S q w h) more

-- if w goes nowhere across n, how far it goes in another direction, by how far it goes along n
across : (n d w : Pair) → product (turned n) w ≡ pos 0 → product n n *ℤ product d w ≡ product n d *ℤ product n w
across n d w z =
    parts n d w ∙ ap (λ (k : ℤ). product n d *ℤ product n w +ℤ product (turned n) d *ℤ k) z ∙ omega (arith, ints)

-- ---- a vertex that is the nearest

-- the step there and the step back have the same squared length
both_ways : (c d : Pair) → product (step d c) (step d c) ≡ product (step c d) (step c d)
unfolding product
both_ways c d = rw (as_pair c, as_pair d) (simp difference_rules (difference-eq _ _ _ _ (omega arith)))

-- a factor on both sides is cancelled
shorter : (l r h : ℤ) → pos 0 <ℤ l → ((l *ℤ l) *ℤ r) ≤ℤ ((h *ℤ h) *ℤ l) → (l *ℤ r) ≤ℤ (h *ℤ h)
shorter l r h hl m = le_by_gap _ _ (cancel_nn ((h *ℤ h) -ℤ l *ℤ r) l hl (nn_by_le _ _ _ (drawn (h *ℤ h) l r) m))
  where
    drawn : (k l r : ℤ) → (k -ℤ l *ℤ r) *ℤ l ≡ k *ℤ l -ℤ (l *ℤ l) *ℤ r
    drawn k l r = rw (as_difference k, as_difference l, as_difference r)
        (simp difference_rules (difference-eq _ _ _ _ (omega arith)))

-- a number whose square is not above 0 is 0
no_square : (t : ℤ) → (t *ℤ t) ≤ℤ pos 0 → t ≡ pos 0
no_square t h = grind (arith, common_steps, le_or_lt, pos, ints, square_above)

-- if squares are in order, so are the numbers
root_le : (g h : ℤ) → pos 0 ≤ℤ h → (g *ℤ g) ≤ℤ (h *ℤ h) → g ≤ℤ h
root_le g h hh m = elim (le_or_lt g h) [ inl k ↦ k | inr k ↦ absurd (less_not_le _ _ (products_lt h g hh k) m) ]

-- if the separation of S from d is no narrower than the step from c in S to d, no point of S lies farther in that
-- direction
pub vertex_closest : (S : List Pair) (c d : Pair) → Contains S c → product (step d c) d <ℤ product (step d c) c
    → Rival S d (product (step d c) c -ℤ product (step d c) d) (product (step d c) (step d c)) → (s : Pair)
    → Contains S s → product (step c d) s ≤ℤ product (step c d) c
vertex_closest S c d mc apart (w, r, more) s ms = elim (le_or_lt (product e s) (product e c)) [
  | inl k ↦ k
  | inr k ↦ absurd (above_not_np _ _ across_n (product_pp R (product e (step c s)) high
      (rw (along_step e c s) (gap_above _ _ k)))
      (product_ns g (product n (step c s)) (omega (arith, ints, depth_above S d w r, far)) level))
]
  where
    e : Pair
    e = step c d

    n : Pair
    n = w.direction

    R : ℤ
    R = product n n

    L : ℤ
    L = product (step d c) (step d c)

    h : ℤ
    h = depth w d

    g : ℤ
    g = product n e

    high : pos 0 <ℤ R
    high = reach_above S d w r

    far : h ≤ℤ g
    far = rw (along_step n c d) (depth_from S d c w r mc)

    -- the square of the whole step
    whole : R *ℤ product e e ≡ g *ℤ g +ℤ product (turned n) e *ℤ product (turned n) e
    whole = parts n e e

    little : (R *ℤ product e e) ≤ℤ (h *ℤ h)
    little =
        subst (λ (x : ℤ). (R *ℤ x) ≤ℤ (h *ℤ h)) (both_ways c d)
        (subst (λ (x : ℤ). x ≤ℤ (h *ℤ h)) (*ℤ_comm L R)
        (shorter L R h (some_length (step d c) d c apart)
        (subst (λ (x : ℤ). ((x *ℤ x) *ℤ R) ≤ℤ ((h *ℤ h) *ℤ L)) (sym (along_step (step d c) d c)) more)))

    squares : (h *ℤ h) ≤ℤ (g *ℤ g)
    squares = products_le h g h g (nn_above _ (depth_above S d w r)) far (nn_above _ (depth_above S d w r)) far

    nothing : product (turned n) e ≡ pos 0
    nothing = no_square _ (omega (arith, ints, whole, little, squares))

    short : g ≤ℤ h
    short = root_le g h (nn_above _ (depth_above S d w r))
        (omega (arith, ints, whole, little, square_nn (product (turned n) e)))

    -- s lies no farther along n than c
    level : product n (step c s) ≤ℤ pos 0
    level = rw (along_step n c s)
        (flat _ _ _ _ (All-contains (λ t. product n t ≤ℤ product n w.farthest) S s r.farthest ms)
        (rw (along_step n c d) at short))
      where
        flat : (x y z q : ℤ) → x ≤ℤ y → (q -ℤ z) ≤ℤ (q -ℤ y) → (x -ℤ z) ≤ℤ pos 0
        flat x y z q h k = omega (arith, ints)

    across_n : R *ℤ product e (step c s) ≡ g *ℤ product n (step c s)
    across_n =
        parts n e (step c s)
        ∙ ap (λ (k : ℤ). g *ℤ product n (step c s) +ℤ k *ℤ product (turned n) (step c s)) nothing
        ∙ omega (arith, ints)

-- ---- an edge that is the nearest

-- the normal of an edge, rotated, goes along the edge
turned_edge : (a b t : Pair) → product (turned (left_of b a)) t ≡ product (step a b) t
unfolding product
turned_edge a b t = rw (as_pair a, as_pair b, as_pair t) (simp difference_rules (difference-eq _ _ _ _ (omega arith)))

-- the other normal
pub other_normal : (a b t : Pair) → product (left_of a b) t ≡ neg_ℤ (product (left_of b a) t)
unfolding product
other_normal a b t = rw (as_pair a, as_pair b, as_pair t) (simp difference_rules (difference-eq _ _ _ _ (omega arith)))

-- both ends of an edge lie equally far along its normal
ends_level : (a b : Pair) → product (left_of b a) a ≡ product (left_of b a) b
unfolding product
ends_level a b = rw (as_pair a, as_pair b) (simp difference_rules (difference-eq _ _ _ _ (omega arith)))

-- the signs of two equal products: the third factor is above 0
same_way : (l x y z : ℤ) → pos 0 <ℤ l → l *ℤ x ≡ y *ℤ z → y <ℤ pos 0 → x <ℤ pos 0 → pos 0 <ℤ z
same_way l x y z hl e hy hx = grind (arith, common_steps, le_or_lt, pos, below_not_nn, e, product_pn, product_same, np_below)

-- the signs of two equal products: the third factor is below 0
other_way : (l x y z : ℤ) → pos 0 <ℤ l → l *ℤ x ≡ y *ℤ z → y <ℤ pos 0 → pos 0 <ℤ x → z <ℤ pos 0
other_way l x y z hl e hy hx = elim (le_or_lt (pos 0) z) [
  | inr k ↦ k
  | inl k ↦ absurd (above_not_np _ _ e (product_pp l x hl hx) (product_np y z (np_below _ hy) k))
]

-- the signs of two equal products: the second factor is below 0
first_way : (l x y z : ℤ) → pos 0 <ℤ l → l *ℤ x ≡ y *ℤ z → pos 0 <ℤ z → x <ℤ pos 0 → y <ℤ pos 0
first_way l x y z hl e hz hx = grind (arith, common_steps, le_or_lt, pos, below_not_nn, e, product_pn, product_nn, nn_above)

module _ (S T : List Pair) (c a b s : Pair) (d : Pair)
    (parts_them : (u t : Pair) → Contains S u → Contains T t → product d u <ℤ product d t)
    (mc : Contains S c) (ms : Contains S s) (h : IsNearestEdge T c a b)
    (nearer : product (left_of b a) s <ℤ product (left_of b a) c) where
  abbrev n : Pair
  n = left_of b a

  -- how far a point lies out from the edge
  abbrev out : Pair → ℤ
  out t = product (left_of b a) t

  -- how far a point lies along the edge
  abbrev on : Pair → ℤ
  on t = product (turned (left_of b a)) t

  -- how far c lies out
  abbrev H : ℤ
  H = out c -ℤ out b

  -- c lies out
  c_out : out b <ℤ out c
  c_out = farther_than T c (apart_by n b) (from_edge T c a b n h refl)

  -- the edge has a length
  long : pos 0 <ℤ product n n
  long = some_length n b c c_out

  -- c lies beyond its start
  after_start : on a <ℤ on c
  after_start = rw (turned_edge a b a, turned_edge a b c) h.beside.1

  -- c lies before its end
  before_end : on c <ℤ on b
  before_end = rw (turned_edge a b b, turned_edge a b c)
      (less_opposites _ _ _ _ (step_back a b b) (step_back a b c) h.beside.2)

  -- a point between two others in a row, by how far it lies along
  flat : (q x y : Pair) → product (turned n) (gap (on y -ℤ on q) (on q -ℤ on x) q x y) ≡ pos 0
  flat q x y = along_gap (turned n) _ _ q x y ∙ balanced (on x) (on y) (on q)

  -- a point over the edge goes out from it by as much
  over_edge : (q : Pair)
      → product n (gap (on b -ℤ on q) (on q -ℤ on a) q a b)
      ≡ ((on b -ℤ on q) +ℤ (on q -ℤ on a)) *ℤ (out q -ℤ out b)
  over_edge q =
      along_gap n _ _ q a b
      ∙ weighed_same (on b -ℤ on q) (on q -ℤ on a) (out q -ℤ out a) (out q -ℤ out b)
      (ap (λ (z : ℤ). out q -ℤ z) (ends_level a b))

  -- d goes against the normal, since c lies out
  against : product n d <ℤ pos 0
  against =
      first_way (product n n) (product d w) (product n d) (product n w) long (across n d w (flat c a b))
      (rw (over_edge c) (product_pp _ _ sum (gap_above _ _ c_out)))
      (rw (along_gap d (on b -ℤ on c) (on c -ℤ on a) c a b)
      (weighed_below _ _ _ _ (left _ _ before_end) (left _ _ after_start) sum
      (gap_below _ _ (parts_them c a mc h.start.0)) (gap_below _ _ (parts_them c b mc h.end.0))))
    where
      w : Pair
      w = gap (on b -ℤ on c) (on c -ℤ on a) c a b

      sum : pos 0 <ℤ ((on b -ℤ on c) +ℤ (on c -ℤ on a))
      sum = let p = after_start in let q = before_end in omega (arith, ints)

      left : (x y : ℤ) → x <ℤ y → pos 0 ≤ℤ (y -ℤ x)
      left x y h = omega (arith, ints)

  -- a point s over the edge is nearer to it
  over : on a ≤ℤ on s → on s ≤ℤ on b → Rival T s H (product n n) → ⊥
  over l m r =
      loses T s a b n (on b -ℤ on s) (on s -ℤ on a) H r h.start.0 h.end.0 (gap_nn _ _ m) (gap_nn _ _ l) sum (flat s a b)
      (rw (over_edge s) (omega (arith, ints, product_pp _ _ sum (gap_above _ _ c_out), out_from)))
      (rw (over_edge s) (times_less _ _ _ sum (omega (arith, ints, nearer))))
    where
      w : Pair
      w = gap (on b -ℤ on s) (on s -ℤ on a) s a b

      sum : pos 0 <ℤ ((on b -ℤ on s) +ℤ (on s -ℤ on a))
      sum = let p = after_start in let q = before_end in omega (arith, ints)

      out_from : pos 0 <ℤ (((on b -ℤ on s) +ℤ (on s -ℤ on a)) *ℤ (out s -ℤ out b))
      out_from = rw (← over_edge s)
          (same_way (product n n) (product d w) (product n d) (product n w) long (across n d w (flat s a b)) against
          (rw (along_gap d (on b -ℤ on s) (on s -ℤ on a) s a b)
          (weighed_below _ _ _ _ (gap_nn _ _ m) (gap_nn _ _ l) sum
          (gap_below _ _ (parts_them s a ms h.start.0)) (gap_below _ _ (parts_them s b ms h.end.0)))))

  -- if s lies past an end of the edge, that end is nearer to S
  past : (q : Pair) (l m : ℤ) → Contains T q → out q ≡ out b → pos 0 <ℤ l → pos 0 <ℤ m
      → product (turned n) (gap l m q c s) ≡ pos 0 → Rival S q H (product n n) → ⊥
  past q l m mq e hl hm z r =
      loses S q c s n l m H r mc ms (nn_above _ hl) (nn_above _ hm) sum z
      (rw (along_gap n l m q c s, e) (low _ _ _ (level l m (out b) (out c) (out s))
      (product_pp m (out c -ℤ out s) hm (gap_above _ _ nearer))))
      (less_across _ _ (other_way (product n n) (product d w) (product n d) (product n w) long (across n d w z) against
      (rw (along_gap d l m q c s)
      (weighed_above l m _ _ (nn_above _ hl) (nn_above _ hm) sum (gap_above _ _ (parts_them c q mc mq))
      (gap_above _ _ (parts_them s q ms mq)))))
      (product_pp _ _ sum (gap_above _ _ c_out)))
    where
      w : Pair
      w = gap l m q c s

      sum : pos 0 <ℤ (l +ℤ m)
      sum = omega (arith, ints)

      level : (l m b c s : ℤ)
          → (l *ℤ (b -ℤ c) +ℤ m *ℤ (b -ℤ s)) +ℤ (l +ℤ m) *ℤ (c -ℤ b) ≡ m *ℤ (c -ℤ s)
      level l m b c s =
          rw (as_difference l, as_difference m, as_difference b, as_difference c, as_difference s)
          (simp difference_rules (difference-eq _ _ _ _ (omega arith)))

      low : (x y z : ℤ) → x +ℤ y ≡ z → pos 0 <ℤ z → neg_ℤ y <ℤ x
      low x y z e h = omega (arith, ints)

  -- s lies over the edge, or past one of its ends: a contradiction either way
  pub edge_closest : Rival T s H (product n n) → Rival S a H (product n n) → Rival S b H (product n n) → ⊥
  edge_closest rs ra rb = elim (le_or_lt (on s) (on b)) [
    | inr k ↦ past b (on s -ℤ on b) (on b -ℤ on c) h.end.0 refl (gap_above _ _ k) (gap_above _ _ before_end) (flat b c s) rb
    | inl m ↦ elim (le_or_lt (on a) (on s)) [
      | inl l ↦ over l m rs
      | inr k ↦ past a (on a -ℤ on s) (on c -ℤ on a) h.start.0 (ends_level a b) (gap_above _ _ k) (gap_above _ _ after_start)
          (along_gap (turned n) _ _ a c s ∙ balanced_back (on s) (on c) (on a)) ra
    ]
  ]
    where
      balanced_back : (x y z : ℤ) → (z -ℤ x) *ℤ (z -ℤ y) +ℤ (y -ℤ z) *ℤ (z -ℤ x) ≡ pos 0
      balanced_back x y z = omega (arith, ints, *ℤ_comm (z -ℤ x) (z -ℤ y), balanced x y z)
