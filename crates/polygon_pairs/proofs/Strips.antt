-- A strip between two sets: how far they are from one another, and that two sets have one distance.
use Rattle.std.proofs.Common.{◌≡◌, ℤ, pos, ◌+ℤ◌, ◌-ℤ◌, ◌*ℤ◌, ◌≤ℤ◌, ◌<ℤ◌, neg_ℤ, refl, sym, ap, ◌∙◌, subst, arith, inl, inr}
use Rattle.std.proofs.Common.{◌⊎◌, ◌<◌, List}
use Rattle.std.specs.List.{Contains}
use Rattle.std.proofs.lemmas.Int.{ints}
use Rattle.std.proofs.lemmas.List.Elements.{All-contains}
use Rattle.lattice.specs.Covers.{Member}
use Rattle.lattice.specs.Plane.{Pair, orient, product, distance_squared}
use Rattle.lattice.specs.Polynomials.{difference-eq, as_difference, difference_rules}
use Rattle.lattice.specs.Signs.{le_or_lt, product_nn, product_pp, cancel_nn}
use Rattle.lattice.proofs.Numbers.{gap_above, gap_nn, le_by_gap, le_trans, nn_above, nn_by_le}
use Rattle.lattice.proofs.Vectors.{as_pair}
use Rattle.hull_polygon.specs.Closest.{IsClosestToEdge, IsDistance, dividend, divisor}
use Rattle.hull_polygon.specs.Meetings.{AreDisjoint}
use Rattle.hull_polygon.specs.Nearest.{IsBeside}
use Rattle.hull_polygon.specs.Ranges.{IsNoFarther}
use Rattle.hull_polygon.specs.Steps.{step, left_of}
use Rattle.hull_polygon.specs.declared.distance.Distance.{Distance}
use Rattle.hull_polygon.specs.declared.distance.Distance.TheVariants.{Zero, Vertices, VertexAndEdge, EdgeAndVertex}
use Rattle.hull_polygon.specs.declared.ranges.Length.{Length}
use Rattle.hull_polygon.proofs.Cones.{square_nn, square_above}
use Rattle.hull_polygon.proofs.Fractions.{products_le, products_lt, quotients_le}
use Rattle.hull_polygon.proofs.Gaps.{along_step, as_far, cauchy, parts, some_length, step_squared, turned}
use Rattle.hull_polygon.proofs.NearestOf.{step_back}
use Rattle.hull_polygon.proofs.Rivals.{other_normal}
use Rattle.hull_polygon.proofs.Separated.{way_on}
use Rattle.hull_polygon.proofs.SeparatedLists.{never_both}
use Rattle.hull_polygon.proofs.Shields.{product_left}

-- in the direction n no point of S lies beyond u, and each point of T lies at least w beyond that
pub record IsStrip (n : Pair) (u w : ℤ) (S T : List Pair) : Type 0 where
  pub wide : pos 0 ≤ℤ w
  pub before : (s : Pair) → Contains S s → product n s ≤ℤ u
  pub beyond : (t : Pair) → Contains T t → (u +ℤ w) ≤ℤ product n t

-- the same strip in the opposite direction
pub reversed : (n back : Pair) (u w : ℤ) (S T : List Pair) → ((x : Pair) → product back x ≡ neg_ℤ (product n x))
    → IsStrip n u w S T → IsStrip back (neg_ℤ (u +ℤ w)) w T S
reversed n back u w S T opposite h = record {
  wide = h.wide;
  before = λ t m. let e = opposite t in let k = h.beyond t m in omega (arith, ints, e, k);
  beyond = λ s m. let e = opposite s in let k = h.before s m in omega (arith, ints, e, k);
}

-- ---- numbers

-- a factor above 0 cancels
cancelled : (l x y : ℤ) → pos 0 <ℤ l → (l *ℤ x) ≤ℤ (l *ℤ y) → x ≤ℤ y
cancelled l x y h le = le_by_gap y x (cancel_nn (y -ℤ x) l h (nn_by_le _ _ _ (drawn l x y) le))
  where
    drawn : (l x y : ℤ) → (y -ℤ x) *ℤ l ≡ l *ℤ y -ℤ l *ℤ x
    drawn l x y = rw (as_difference l, as_difference x, as_difference y)
        (simp difference_rules (difference-eq _ _ _ _ (omega arith)))

-- how far the foot of a point on a segment lies beyond the point
foot_beyond : (l s a b c u w : ℤ)
    → ((b -ℤ a) *ℤ s -ℤ l *ℤ (c -ℤ a)) -ℤ l *ℤ w
    ≡ l *ℤ (u -ℤ c) +ℤ (s *ℤ (b -ℤ (u +ℤ w)) +ℤ (l -ℤ s) *ℤ (a -ℤ (u +ℤ w)))
foot_beyond l s a b c u w =
    rw (as_difference l, as_difference s, as_difference a, as_difference b, as_difference c, as_difference u, as_difference w)
    (simp difference_rules (difference-eq _ _ _ _ (omega arith)))

-- the square of an opposite product
opposite_square : (g o : ℤ) → neg_ℤ (g *ℤ o) *ℤ neg_ℤ (g *ℤ o) ≡ (g *ℤ g) *ℤ (o *ℤ o)
opposite_square g o = rw (as_difference g, as_difference o)
    (simp difference_rules (difference-eq _ _ _ _ (omega arith)))

-- four factors in another order
four_factors : (l w : ℤ) → (l *ℤ w) *ℤ (l *ℤ w) ≡ l *ℤ ((w *ℤ w) *ℤ l)
four_factors l w = rw (as_difference l, as_difference w) (simp difference_rules (difference-eq _ _ _ _ (omega arith)))

-- three factors in another order
three_factors : (l n o : ℤ) → (l *ℤ n) *ℤ o ≡ l *ℤ (n *ℤ o)
three_factors l n o = rw (as_difference l, as_difference n, as_difference o)
    (simp difference_rules (difference-eq _ _ _ _ (omega arith)))

-- if a foot on an edge lies w beyond a point, the square of w is at most that of their distance
foot_far : (l s a b c u w g o n : ℤ) → l *ℤ (c -ℤ a) ≡ (b -ℤ a) *ℤ s +ℤ g *ℤ o → pos 0 <ℤ l → pos 0 ≤ℤ s → s ≤ℤ l
    → pos 0 ≤ℤ w → c ≤ℤ u → (u +ℤ w) ≤ℤ a → (u +ℤ w) ≤ℤ b → (g *ℤ g) ≤ℤ (l *ℤ n)
    → ((w *ℤ w) *ℤ l) ≤ℤ (n *ℤ (o *ℤ o))
foot_far l s a b c u w g o n e hl hs sl hw hc ha hb hg =
    cancelled l ((w *ℤ w) *ℤ l) (n *ℤ (o *ℤ o)) hl
    (subst (λ (z : ℤ). z ≤ℤ (l *ℤ (n *ℤ (o *ℤ o)))) (four_factors l w)
    (subst (λ (z : ℤ). ((l *ℤ w) *ℤ (l *ℤ w)) ≤ℤ z) (three_factors l n (o *ℤ o))
    (le_trans _ _ _ (products_le (l *ℤ w) (neg_ℤ (g *ℤ o)) (l *ℤ w) (neg_ℤ (g *ℤ o)) lw far lw far)
    (subst (λ (z : ℤ). z ≤ℤ ((l *ℤ n) *ℤ (o *ℤ o))) (sym (opposite_square g o))
    (products_le (g *ℤ g) (l *ℤ n) (o *ℤ o) (o *ℤ o) (square_nn g) hg (square_nn o) (same (o *ℤ o)))))))
  where
    same : (x : ℤ) → x ≤ℤ x
    same x = omega (arith, ints)

    lw : pos 0 ≤ℤ (l *ℤ w)
    lw = product_nn l w (nn_above _ hl) hw

    sum : (x y z p q r : ℤ) → x ≡ y +ℤ z → (y -ℤ x) -ℤ r ≡ p +ℤ q → pos 0 ≤ℤ p → pos 0 ≤ℤ q → r ≤ℤ neg_ℤ z
    sum x y z p q r h k hp hq = omega (arith, ints)

    far : (l *ℤ w) ≤ℤ neg_ℤ (g *ℤ o)
    far = sum (l *ℤ (c -ℤ a)) ((b -ℤ a) *ℤ s) (g *ℤ o) (l *ℤ (u -ℤ c))
        (s *ℤ (b -ℤ (u +ℤ w)) +ℤ (l -ℤ s) *ℤ (a -ℤ (u +ℤ w))) (l *ℤ w) e (foot_beyond l s a b c u w)
        (product_nn l (u -ℤ c) (nn_above _ hl) (gap_nn _ _ hc))
        (both (s *ℤ (b -ℤ (u +ℤ w))) ((l -ℤ s) *ℤ (a -ℤ (u +ℤ w))) (product_nn s _ hs (gap_nn _ _ hb))
        (product_nn (l -ℤ s) _ (gap_nn _ _ sl) (gap_nn _ _ ha)))
      where
        both : (x y : ℤ) → pos 0 ≤ℤ x → pos 0 ≤ℤ y → pos 0 ≤ℤ (x +ℤ y)
        both x y h k = omega (arith, ints)

-- ---- vectors

-- a product does not depend on the order
product_swap : (d e : Pair) → product d e ≡ product e d
unfolding product
product_swap d e = rw (as_pair d, as_pair e) (simp difference_rules (difference-eq _ _ _ _ (omega arith)))

-- the side of a point as a product with the normal of the edge
turned_side : (a b c : Pair) → product (turned (step a b)) (step a c) ≡ orient a b c
unfolding product orient
turned_side a b c = rw (as_pair a, as_pair b, as_pair c) (simp difference_rules (difference-eq _ _ _ _ (omega arith)))

-- a direction keeps its length as it is turned
turned_long : (d : Pair) → product (turned d) (turned d) ≡ product d d
unfolding product
turned_long d = rw (as_pair d) (simp difference_rules (difference-eq _ _ _ _ (omega arith)))

-- ---- in a strip

-- a point before it and an edge beyond it are at least as far apart as it is wide
edge_apart : (n : Pair) (u w : ℤ) (S T : List Pair) (c a b : Pair) → IsStrip n u w S T → Contains S c → Contains T a
    → Contains T b → IsBeside a b c
    → ((w *ℤ w) *ℤ distance_squared a b) ≤ℤ (product n n *ℤ (orient a b c *ℤ orient a b c))
edge_apart n u w S T c a b h mc ma mb (o, onward, back) =
    subst (λ (z : ℤ). ((w *ℤ w) *ℤ z) ≤ℤ (product n n *ℤ (orient a b c *ℤ orient a b c))) (step_squared a b)
    (foot_far (product e e) (product e (step a c)) (product n a) (product n b) (product n c) u w (product (turned e) n)
    (orient a b c) (product n n) split (some_length e a c onward)
    (rw (along_step e a c) (ahead _ _ onward))
    (rw (along_step e a c, along_step e a b) (short _ _ _ _ _ (step_back a b b) (step_back a b c) back))
    h.wide (h.before c mc) (h.beyond a ma) (h.beyond b mb)
    (subst (λ (z : ℤ). (product (turned e) n *ℤ product (turned e) n) ≤ℤ (z *ℤ product n n)) (turned_long e)
    (cauchy (turned e) n)))
  where
    e : Pair
    e = step a b

    ahead : (x y : ℤ) → x <ℤ y → pos 0 ≤ℤ (y -ℤ x)
    ahead x y h = omega (arith, ints)

    short : (x y z p q : ℤ) → p ≡ neg_ℤ x → q ≡ neg_ℤ y → p <ℤ q → (y -ℤ z) ≤ℤ (x -ℤ z)
    short x y z p q h k l = omega (arith, ints)

    split : product e e *ℤ (product n c -ℤ product n a)
        ≡ (product n b -ℤ product n a) *ℤ product e (step a c) +ℤ product (turned e) n *ℤ orient a b c
    split =
        ap (λ (z : ℤ). product e e *ℤ z) (sym (along_step n a c))
        ∙ parts e n (step a c)
        ∙ ap (λ (z : ℤ). z *ℤ product e (step a c) +ℤ product (turned e) n *ℤ product (turned e) (step a c))
        (product_swap e n ∙ along_step n a b)
        ∙ ap (λ (z : ℤ). (product n b -ℤ product n a) *ℤ product e (step a c) +ℤ product (turned e) n *ℤ z) (turned_side a b c)

-- the distance of two sets is no less than the width of a strip between them
pub strip_apart : (n back : Pair) (u w : ℤ) (S T : List Pair) (found : Distance)
    → ((x : Pair) → product back x ≡ neg_ℤ (product n x)) → product back back ≡ product n n → IsStrip n u w S T
    → IsDistance S T found → ((w *ℤ w) *ℤ divisor found) ≤ℤ (product n n *ℤ dividend found)
strip_apart n back u w S T Zero opposite long h m = elim (le_or_lt w (pos 0)) [
  | inl k ↦ let e : w ≡ pos 0 = omega (arith, ints, h.wide) in rw e (nothing (product n n))
  | inr k ↦ absurd (never_both S T m (n, λ s t ms mt. past _ _ u w (h.before s ms) (h.beyond t mt) k))
]
  where
    nothing : (x : ℤ) → ((pos 0 *ℤ pos 0) *ℤ pos 1) ≤ℤ (x *ℤ pos 0)
    nothing x = omega (arith, ints)

    past : (x y u w : ℤ) → x ≤ℤ u → (u +ℤ w) ≤ℤ y → pos 0 <ℤ w → x <ℤ y
    past x y u w h k l = omega (arith, ints)
strip_apart n back u w S T (Vertices c d) opposite long h (mc, md) =
    once _ _ (as_far n c d w h.wide (across _ _ u w (h.before c mc.vertex.0) (h.beyond d md.vertex.0)))
  where
    once : (x y : ℤ) → x ≤ℤ y → (x *ℤ pos 1) ≤ℤ y
    once x y h = omega (arith, ints)

    across : (x y u w : ℤ) → x ≤ℤ u → (u +ℤ w) ≤ℤ y → w ≤ℤ (y -ℤ x)
    across x y u w h k = omega (arith, ints)
strip_apart n back u w S T (VertexAndEdge c a b) opposite long h m =
    edge_apart n u w S T c a b h m.vertex.0 m.edge.start.0 m.edge.end.0 m.edge.beside
strip_apart n back u w S T (EdgeAndVertex a b d) opposite long h m =
    subst (λ (z : ℤ). ((w *ℤ w) *ℤ distance_squared a b) ≤ℤ (z *ℤ (orient a b d *ℤ orient a b d))) long
    (edge_apart back (neg_ℤ (u +ℤ w)) w T S d a b (reversed n back u w S T opposite h) m.vertex.0 m.edge.start.0 m.edge.end.0
    m.edge.beside)

-- an edge that a point lies beside has a length
edge_long : (a b c : Pair) → IsBeside a b c → pos 0 <ℤ distance_squared a b
edge_long a b c h = rw (← step_squared a b) (some_length (step a b) a c h.1)

-- the divisor of a squared distance is above 0
pub divisor_above : (S T : List Pair) (found : Distance) → IsDistance S T found → pos 0 <ℤ divisor found
divisor_above S T Zero m = omega (arith, ints)
divisor_above S T (Vertices c d) m = omega (arith, ints)
divisor_above S T (VertexAndEdge c a b) m = edge_long a b c m.edge.beside
divisor_above S T (EdgeAndVertex a b d) m = edge_long a b d m.edge.beside

-- ---- a strip that is wider than a length

-- the opposite of a direction
abbrev pub opposite : Pair → Pair
opposite d = record { x = neg_ℤ d.x; y = neg_ℤ d.y }

-- how far a point lies in the opposite direction
pub opposite_way : (d x : Pair) → product (opposite d) x ≡ neg_ℤ (product d x)
unfolding product
opposite_way d x = rw (as_pair d, as_pair x) (simp difference_rules (difference-eq _ _ _ _ (omega arith)))

-- the opposite direction is as long
pub opposite_long : (d : Pair) → product (opposite d) (opposite d) ≡ product d d
unfolding product
opposite_long d = rw (as_pair d) (simp difference_rules (difference-eq _ _ _ _ (omega arith)))

-- the distance of two sets with a strip between them is more than a length, if the strip is wider
pub too_far : (r : Length) (n : Pair) (u w : ℤ) (S T : List Pair) (found : Distance) → product n n ≡ pos 1
    → IsStrip n u w S T → pos r.numerator <ℤ (pos r.denominator *ℤ w) → IsDistance S T found → ¬ IsNoFarther found r
too_far r n u w S T found one h wider m near =
    clash (pos r.numerator) (pos r.denominator) w (dividend found) (divisor found)
    (products_lt (pos r.numerator) (pos r.denominator *ℤ w) (omega (arith, ints)) wider) (divisor_above S T found m)
    (subst (λ (z : ℤ). ((w *ℤ w) *ℤ divisor found) ≤ℤ (z *ℤ dividend found)) one
    (strip_apart n (opposite n) u w S T found (opposite_way n) (opposite_long n) h m)) near
  where
    drawn : (k d w q : ℤ) → ((d *ℤ w) *ℤ (d *ℤ w) -ℤ k *ℤ k) *ℤ q ≡ (d *ℤ d) *ℤ ((w *ℤ w) *ℤ q) -ℤ (k *ℤ k) *ℤ q
    drawn k d w q = rw (as_difference k, as_difference d, as_difference w, as_difference q)
        (simp difference_rules (difference-eq _ _ _ _ (omega arith)))

    swapped : (d p : ℤ) → (d *ℤ d) *ℤ (pos 1 *ℤ p) ≡ p *ℤ (d *ℤ d)
    swapped d p = rw (as_difference d, as_difference p, as_difference (pos 1))
        (simp difference_rules (difference-eq _ _ _ _ (omega arith)))

    apart : (x y z a b : ℤ) → x ≡ a -ℤ b → pos 0 <ℤ x → a ≤ℤ y → y ≡ z → z ≤ℤ b → ⊥
    apart x y z a b h k l m n = omega (arith, ints)

    clash : (k d w p q : ℤ) → (k *ℤ k) <ℤ ((d *ℤ w) *ℤ (d *ℤ w)) → pos 0 <ℤ q → ((w *ℤ w) *ℤ q) ≤ℤ (pos 1 *ℤ p)
        → (p *ℤ (d *ℤ d)) ≤ℤ ((k *ℤ k) *ℤ q) → ⊥
    clash k d w p q h hq far close =
        apart _ _ _ _ _ (drawn k d w q) (product_pp _ q (gap_above _ _ h) hq)
        (products_le (d *ℤ d) (d *ℤ d) ((w *ℤ w) *ℤ q) (pos 1 *ℤ p) (square_nn d) (omega (arith, ints))
        (product_nn (w *ℤ w) q (square_nn w) (nn_above _ hq)) far)
        (swapped d p) close

-- ---- two sets have one distance

-- a strip that is as wide as a distance
pub record HasStrip (S T : List Pair) (found : Distance) : Type 0 where
  pub n : Pair
  pub u : ℤ
  pub w : ℤ
  pub strip : IsStrip n u w S T
  pub long : pos 0 <ℤ product n n
  pub exact : (w *ℤ w) *ℤ divisor found ≡ product n n *ℤ dividend found

-- the normal of an edge is as long as the edge
normal_squared : (a b : Pair) → product (left_of a b) (left_of a b) ≡ distance_squared a b
unfolding product distance_squared
normal_squared a b = rw (as_pair a, as_pair b) (simp difference_rules (difference-eq _ _ _ _ (omega arith)))

-- so is the other normal
back_squared : (a b : Pair) → product (left_of b a) (left_of b a) ≡ distance_squared a b
unfolding product distance_squared
back_squared a b = rw (as_pair a, as_pair b) (simp difference_rules (difference-eq _ _ _ _ (omega arith)))

-- the strip between a point and an edge
edge_strip : (S T : List Pair) (c a b : Pair) → IsClosestToEdge S T c a b
    → IsStrip (left_of a b) (product (left_of a b) c) (neg_ℤ (orient a b c)) S T
edge_strip S T c a b m = record {
  wide = right (orient a b c) m.edge.beside.0;
  before = λ s ms. All-contains (λ t. product (left_of a b) t ≤ℤ product (left_of a b) c) S s m.closest ms;
  beyond = λ t mt.
      over _ _ _ _ _ (product_left a b c) (product_left a b t) (All-contains (λ t. pos 0 ≤ℤ orient a b t) T t m.edge.left mt);
}
  where
    right : (o : ℤ) → o <ℤ pos 0 → pos 0 ≤ℤ neg_ℤ o
    right o h = omega (arith, ints)

    over : (x y z o k : ℤ) → x -ℤ y ≡ o → z -ℤ y ≡ k → pos 0 ≤ℤ k → (x +ℤ neg_ℤ o) ≤ℤ z
    over x y z o k h l m = omega (arith, ints)

-- its width is the distance
edge_exact : (l o n : ℤ) → n ≡ l → (neg_ℤ o *ℤ neg_ℤ o) *ℤ l ≡ n *ℤ (o *ℤ o)
edge_exact l o n e = rw e (exact l o)
  where
    exact : (l o : ℤ) → (neg_ℤ o *ℤ neg_ℤ o) *ℤ l ≡ l *ℤ (o *ℤ o)
    exact l o = rw (as_difference l, as_difference o) (simp difference_rules (difference-eq _ _ _ _ (omega arith)))

-- two sets whose distance is not zero have a strip as wide as that
strip_of : (S T : List Pair) (found : Distance) → IsDistance S T found → (found ≡ Zero) ⊎ HasStrip S T found
strip_of S T Zero m = inl refl
strip_of S T (Vertices c d) (mc, md) = inr (record {
  n = step c d;
  u = product (step c d) c;
  w = product (step c d) d -ℤ product (step c d) c;
  strip = record {
    wide = ahead _ _ on;
    before = λ s ms. All-contains (λ t. product (step c d) t ≤ℤ product (step c d) c) S s mc.nearest ms;
    beyond = λ t mt. over _ _ _ _ _ (step_back c d t) (step_back c d d)
        (All-contains (λ x. product (step d c) x ≤ℤ product (step d c) d) T t md.nearest mt);
  };
  long = some_length (step c d) c d on;
  exact = same _ _ _ (sym (along_step (step c d) c d)) (step_squared c d);
})
  where
    on : product (step c d) c <ℤ product (step c d) d
    on = way_on c d (λ e. md.outside (Member (subst (Contains T) (sym e) md.vertex.0)))

    ahead : (x y : ℤ) → x <ℤ y → pos 0 ≤ℤ (y -ℤ x)
    ahead x y h = omega (arith, ints)

    over : (x y z p q : ℤ) → p ≡ neg_ℤ z → q ≡ neg_ℤ y → p ≤ℤ q → (x +ℤ (y -ℤ x)) ≤ℤ z
    over x y z p q h k l = omega (arith, ints)

    same : (w n d : ℤ) → w ≡ n → n ≡ d → (w *ℤ w) *ℤ pos 1 ≡ n *ℤ d
    same w n d e f = rw (e, f) (omega (arith, ints))
strip_of S T (VertexAndEdge c a b) m = inr (record {
  n = left_of a b;
  u = product (left_of a b) c;
  w = neg_ℤ (orient a b c);
  strip = edge_strip S T c a b m;
  long = rw (normal_squared a b) (edge_long a b c m.edge.beside);
  exact = edge_exact (distance_squared a b) (orient a b c) _ (normal_squared a b);
})
strip_of S T (EdgeAndVertex a b d) m = inr (record {
  n = left_of b a;
  u = neg_ℤ (product (left_of a b) d +ℤ neg_ℤ (orient a b d));
  w = neg_ℤ (orient a b d);
  strip = reversed (left_of a b) (left_of b a) (product (left_of a b) d) (neg_ℤ (orient a b d)) T S (other_normal b a)
      (edge_strip T S d a b m);
  long = rw (back_squared a b) (edge_long a b d m.edge.beside);
  exact = edge_exact (distance_squared a b) (orient a b d) _ (back_squared a b);
})

-- sets that intersect have a distance of at most any length
pub intersecting_near : (r : Length) → IsNoFarther Zero r
intersecting_near r =
    grown (pos r.numerator *ℤ pos r.numerator) (pos r.denominator *ℤ pos r.denominator) (square_nn (pos r.numerator))
  where
    grown : (k d : ℤ) → pos 0 ≤ℤ k → (pos 0 *ℤ d) ≤ℤ (k *ℤ pos 1)
    grown k d h = omega (arith, ints)

-- if one distance of two sets is at most a length, so is each
pub both_near : (r : Length) (S T : List Pair) (found other : Distance) → IsDistance S T found → IsDistance S T other
    → IsNoFarther other r → IsNoFarther found r
both_near r S T found other m k near = elim (strip_of S T found m) [
  | inl e ↦ subst (λ (z : Distance). IsNoFarther z r) (sym e) (intersecting_near r)
  | inr h ↦
      quotients_le (dividend found) (dividend other) (pos r.numerator *ℤ pos r.numerator) (divisor found) (divisor other)
      (pos r.denominator *ℤ pos r.denominator) (divisor_above S T other k) (nn_above _ (divisor_above S T found m))
      (square_nn (pos r.denominator))
      (narrow h.w (product h.n h.n) (dividend found) (divisor found) (dividend other) (divisor other) h.long
      (nn_above _ (divisor_above S T found m)) h.exact
      (strip_apart h.n (opposite h.n) h.u h.w S T other (opposite_way h.n) (opposite_long h.n) h.strip k))
      near
]
  where
    reordered : (w q p : ℤ) → ((w *ℤ w) *ℤ q) *ℤ p ≡ ((w *ℤ w) *ℤ p) *ℤ q
    reordered w q p = rw (as_difference w, as_difference q, as_difference p)
        (simp difference_rules (difference-eq _ _ _ _ (omega arith)))

    narrow : (w n a x b y : ℤ) → pos 0 <ℤ n → pos 0 ≤ℤ x → (w *ℤ w) *ℤ x ≡ n *ℤ a → ((w *ℤ w) *ℤ y) ≤ℤ (n *ℤ b)
        → (a *ℤ y) ≤ℤ (b *ℤ x)
    narrow w n a x b y hn hx e le =
        cancelled n (a *ℤ y) (b *ℤ x) hn
        (subst (λ (z : ℤ). z ≤ℤ (n *ℤ (b *ℤ x)))
        (reordered w y x ∙ ap (λ (z : ℤ). z *ℤ y) e ∙ three_factors n a y)
        (subst (λ (z : ℤ). (((w *ℤ w) *ℤ y) *ℤ x) ≤ℤ z) (three_factors n b x)
        (times x ((w *ℤ w) *ℤ y) (n *ℤ b) hx le)))
      where
        times : (x a b : ℤ) → pos 0 ≤ℤ x → a ≤ℤ b → (a *ℤ x) ≤ℤ (b *ℤ x)
        times x a b h le = le_by_gap _ _ (nn_by_equal _ _ (drawn x a b) (product_nn (b -ℤ a) x (gap_nn _ _ le) h))
          where
            drawn : (x a b : ℤ) → (b -ℤ a) *ℤ x ≡ b *ℤ x -ℤ a *ℤ x
            drawn x a b = rw (as_difference x, as_difference a, as_difference b)
                (simp difference_rules (difference-eq _ _ _ _ (omega arith)))

            nn_by_equal : (p q : ℤ) → p ≡ q → pos 0 ≤ℤ p → pos 0 ≤ℤ q
            nn_by_equal p q e h = omega (arith, ints)

-- the squared distance of sets that are disjoint is above 0
disjoint_above : (S T : List Pair) (found : Distance) → AreDisjoint S T → IsDistance S T found → pos 0 <ℤ dividend found
disjoint_above S T Zero apart m = absurd (never_both S T m apart)
disjoint_above S T (Vertices c d) apart (mc, md) =
    rw (← step_squared c d) (some_length (step c d) c d (way_on c d (λ e. md.outside (Member (subst (Contains T) (sym e) md.vertex.0)))))
disjoint_above S T (VertexAndEdge c a b) apart m = square_above (orient a b c) (inr m.edge.beside.0)
disjoint_above S T (EdgeAndVertex a b d) apart m = square_above (orient a b d) (inr m.edge.beside.0)

-- sets that are disjoint are farther apart than the length 0
pub disjoint_far : (r : Length) (S T : List Pair) (found : Distance) → r.numerator ≡ 0 → 0 < r.denominator
    → AreDisjoint S T → IsDistance S T found → ¬ IsNoFarther found r
disjoint_far r S T found e h apart m near =
    clash (dividend found) (pos r.numerator) (pos r.denominator) (divisor found) (omega (arith, ints, e))
    (disjoint_above S T found apart m) (omega (arith, ints, h)) near
  where
    none : (k q : ℤ) → k ≡ pos 0 → (k *ℤ k) *ℤ q ≡ pos 0
    none k q e = rw e (omega (arith, ints))

    clash : (p k d q : ℤ) → k ≡ pos 0 → pos 0 <ℤ p → pos 0 <ℤ d → (p *ℤ (d *ℤ d)) ≤ℤ ((k *ℤ k) *ℤ q) → ⊥
    clash p k d q e hp hd le = omega (arith, ints, le, none k q e, product_pp p (d *ℤ d) hp (product_pp d d hd hd))
