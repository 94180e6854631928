-- The two points of a set that are farthest from each other: each is a vertex, and one of them is the first of the
-- points farthest from an edge that begins at the other.
use Rattle.std.proofs.lemmas.Grind.{common_steps}
use Rattle.std.proofs.Common.{◌≡◌, ℕ, zero, suc, ◌+◌, ◌<◌, ℤ, pos, ◌+ℤ◌, ◌-ℤ◌, ◌*ℤ◌, ◌≤ℤ◌, ◌<ℤ◌, neg_ℤ, ◌⊎◌, inl, inr}
use Rattle.std.proofs.Common.{refl, sym, ap, ◌∙◌, subst, List, [], ◌∷◌, length, arith}
use Rattle.std.specs.List.{Contains}
use Rattle.std.proofs.lemmas.Bool.{cases_lt}
use Rattle.std.proofs.lemmas.Int.{ints}
use Rattle.std.proofs.lemmas.List.Elements.{All-contains}
use Rattle.lattice.specs.Plane.{Pair, orient, product, distance_squared, IsBefore}
use Rattle.lattice.specs.Polynomials.{difference-eq, difference_rules}
use Rattle.lattice.specs.Signs.{le_or_lt, product_nn, product_pp, product_np, cancel_zero}
use Rattle.lattice.specs.Vertices.{IsLeftOf, IsVertexList}
use Rattle.lattice.proofs.Order.{before_total, before_apart, after_apart}
use Rattle.lattice.proofs.Vectors.{as_pair, minus, cross, cross_swap, Ahead, ahead_nn}
use Rattle.hull_geometry.specs.Tangents.{IsFirstFarthest}
use Rattle.hull_geometry.proofs.Orientation.{orient-cross, ahead_of}
use Rattle.hull_polygon.specs.Extents.{IsDiameter, IsDiameterOf}
use Rattle.hull_polygon.specs.Polygons.{IsPolygonOf}
use Rattle.hull_polygon.specs.Rounds.{vertex, IsSeparated}
use Rattle.hull_polygon.specs.Steps.{step, left_of}
use Rattle.hull_polygon.proofs.Axes.{three, first_of_three, second_of_three, third_of_three}
use Rattle.hull_polygon.proofs.Vertices.{vertex_extreme, next_apart, next_left}
use Rattle.hull_polygon.proofs.EdgeAxes.{product_minus, both_back, top_of}
use Rattle.hull_polygon.proofs.NearestOf.{step_back}
use Rattle.hull_polygon.proofs.SeparatedLists.{product_mm, product_mp}
use Rattle.hull_polygon.proofs.Separated.{way_on}
use Rattle.hull_polygon.proofs.Shields.{product_left}
use Rattle.lattice.proofs.Sides.{side_more}
use Rattle.lattice.proofs.Numbers.{above_by_less, above_opposite, below_by_less, le_itself, le_trans}
use Rattle.lattice.proofs.Numbers.{less_not_le, less_opposites, nn_above, nn_opposite, np_below, zero_opposite}
use lib.IntN.{*ℤ_comm}
use Rattle.hull_polygon.proofs.Distances.{distance_nn}
use Rattle.hull_geometry.proofs.EdgeSteps.{product_same}

-- ---- the greatest value of a function of points

-- if a function is at most m at the first member and at the others, it is at most m at all
bound : (g : Pair → ℤ) (x : Pair) (xs : List Pair) (m : ℤ) → g x ≤ℤ m → ((t : Pair) → Contains xs t → g t ≤ℤ m)
    → (t : Pair) → Contains (x ∷ xs) t → g t ≤ℤ m
bound g x xs m h k t (zero, l, e) = subst (λ (z : Pair). g z ≤ℤ m) e h
bound g x xs m h k t (suc i, l, e) = k t (i, omega (arith, l), e)

-- of a set with points, one has the greatest value
greatest : (g : Pair → ℤ) (S : List Pair) → 0 < length S
    → (p : Pair) × Contains S p × ((t : Pair) → Contains S t → g t ≤ℤ g p)
greatest g [] n = absurd (omega (arith, n))
greatest g (x ∷ xs) n = elim (cases_lt 0 (length xs)) [
  | inr none ↦ (
    x,
    (0, omega arith, refl),
    bound g x xs (g x) (le_itself (g x)) (λ t m. absurd (omega (arith, m.1, none))),
  )
  | inl some ↦ let r = greatest g xs some in elim (le_or_lt (g x) (g r.0)) [
    | inl h ↦ (r.0, later r.1, bound g x xs (g r.0) h r.2)
    | inr h ↦ (x, (0, omega arith, refl), bound g x xs (g x) (le_itself (g x)) (λ t m. (omega (arith, ints, r.2 t m))))
  ]
]
  where
    later : {p : Pair} → Contains xs p → Contains (x ∷ xs) p
    later (i, l, e) = (suc i, omega (arith, l), e)

-- some two points are farthest from each other
farthest_pair : (S : List Pair) → 0 < length S → (p : Pair) × (q : Pair) × IsDiameter S p q
farthest_pair S n =
    let best = λ (s : Pair). greatest (distance_squared s) S n in
    let r = greatest (λ s. distance_squared s (best s).0) S n in (
      r.0,
      (best r.0).0,
      record { start = r.1; end = (best r.0).1; farthest = λ s t ms mt. le_trans _ _ _ ((best s).2 t mt) (r.2 s ms) },
    )

-- ---- distances

-- a distance is the same from its other end
pub distance_turned : (p q : Pair) → distance_squared p q ≡ distance_squared q p
unfolding distance_squared
distance_turned p q = rw (as_pair p, as_pair q) (simp difference_rules (difference-eq _ _ _ _ (omega arith)))

-- a distance, by how far the step goes
distance_way : (q t : Pair) → distance_squared q t ≡ product (step q t) t -ℤ product (step q t) q
unfolding distance_squared product
distance_way q t = rw (as_pair q, as_pair t) (simp difference_rules (difference-eq _ _ _ _ (omega arith)))

-- how much farther from p another point is than q
distance_more : (p q t : Pair)
    → distance_squared p t -ℤ distance_squared p q
    ≡ (product (step p q) t -ℤ product (step p q) q)
    +ℤ ((product (step p q) t -ℤ product (step p q) q) +ℤ distance_squared q t)
unfolding distance_squared product
distance_more p q t = rw (as_pair p, as_pair q, as_pair t) (simp difference_rules (difference-eq _ _ _ _ (omega arith)))

-- the distance of two different points is above 0
pub distance_above : (q t : Pair) → ¬ (t ≡ q) → pos 0 <ℤ distance_squared q t
distance_above q t n = above_by_less _ _ _ (distance_way q t) (way_on q t (λ e. n (sym e)))

-- ---- the ends of a diameter

-- in the direction from one end to the other, all other points lie less far than that end
short_of_end : (S : List Pair) (p q : Pair) → IsDiameter S p q → (t : Pair) → Contains S t → ¬ (t ≡ q)
    → product (step p q) t <ℤ product (step p q) q
short_of_end S p q h t m n = omega (arith, ints, distance_more p q t, h.farthest p t h.start m, distance_above q t n)

-- a diameter exchanged is a diameter
turned : (S : List Pair) (p q : Pair) → IsDiameter S p q → IsDiameter S q p
turned S p q h = record {
  start = h.end;
  end = h.start;
  farthest = λ s t ms mt. subst (λ (z : ℤ). distance_squared s t ≤ℤ z) (distance_turned p q) (h.farthest s t ms mt);
}

-- all other points lie farther than its start
beyond_start : (S : List Pair) (p q : Pair) → IsDiameter S p q → (t : Pair) → Contains S t → ¬ (t ≡ p)
    → product (step p q) p <ℤ product (step p q) t
beyond_start S p q h t m n =
    less_opposites _ _ _ _ (step_back p q t) (step_back p q p) (short_of_end S q p (turned S p q h) t m n)

-- the only point that is farthest in a direction is a vertex
only_farthest : (S V : List Pair) (last : ℕ) (d q : Pair) → IsPolygonOf S V → IsSeparated V last → 0 < length V
    → Contains S q → ((t : Pair) → Contains S t → ¬ (t ≡ q) → product d t <ℤ product d q) → (i : ℕ) × (i < length V) × (vertex V i ≡ q)
only_farthest S V last d q o p n m h =
    let r = top_of S V last d o p n in (
      r.0,
      r.1,
      elim (before_total (vertex V r.0) q) [
        | inr (inl e) ↦ e
        | inl b ↦ absurd (less_not_le _ _ (h (vertex V r.0) r.2.0 (before_apart (vertex V r.0) q b))
            (All-contains (λ t. product d t ≤ℤ product d (vertex V r.0)) S q r.2.1 m))
        | inr (inr b) ↦ absurd (less_not_le _ _ (h (vertex V r.0) r.2.0 (after_apart (vertex V r.0) q b))
            (All-contains (λ t. product d t ≤ℤ product d (vertex V r.0)) S q r.2.1 m))
      ],
    )

-- ---- two vectors in line

-- one vector by how far the other goes, by x
line_x : (d e y : Pair) → product d e *ℤ y.x -ℤ product d y *ℤ e.x ≡ cross y e *ℤ d.y
unfolding product
line_x d e y = rw (as_pair d, as_pair e, as_pair y) (simp difference_rules (difference-eq _ _ _ _ (omega arith)))

-- the same by y
line_y : (d e y : Pair) → product d y *ℤ e.y -ℤ product d e *ℤ y.y ≡ cross y e *ℤ d.x
unfolding product
line_y d e y = rw (as_pair d, as_pair e, as_pair y) (simp difference_rules (difference-eq _ _ _ _ (omega arith)))

-- two vectors in line that are both ahead do not go up and down
not_up_and_down : (d e y : Pair) → Ahead e → Ahead y → pos 0 <ℤ product d e → product d y <ℤ pos 0 → cross y e ≡ pos 0
    → ⊥
not_up_and_down d e y ae (inl h) up down z =
    clash _ _ _ (line_x d e y) (nothing_times _ d.y z) (product_pp _ _ up h)
    (product_np _ _ (np_below _ down) (ahead_nn e ae))
  where
    nothing_times : (k z : ℤ) → k ≡ pos 0 → k *ℤ z ≡ pos 0
    nothing_times k z e = ap (λ (x : ℤ). x *ℤ z) e ∙ omega (arith, ints)

    clash : (x y z : ℤ) → x -ℤ y ≡ z → z ≡ pos 0 → pos 0 <ℤ x → y ≤ℤ pos 0 → ⊥
    clash x y z e f h k = omega (arith, ints)
not_up_and_down d e y ae (inr h) up down z = elim ae [
  | inl k ↦ clash _ _ _ (line_x d e y) (nothing_times _ d.y z) (times_nothing _ y.x h.0) (product_mp _ _ down k)
  | inr k ↦ other _ _ _ (line_y d e y) (nothing_times _ d.x z) (product_mp _ _ down k.1) (product_pp _ _ up h.1)
]
  where
    nothing_times : (k z : ℤ) → k ≡ pos 0 → k *ℤ z ≡ pos 0
    nothing_times k z e = ap (λ (x : ℤ). x *ℤ z) e ∙ omega (arith, ints)

    times_nothing : (k z : ℤ) → z ≡ pos 0 → k *ℤ z ≡ pos 0
    times_nothing k z e = ap (λ (x : ℤ). k *ℤ x) e ∙ omega (arith, ints)

    clash : (x y z : ℤ) → x -ℤ y ≡ z → z ≡ pos 0 → x ≡ pos 0 → y <ℤ pos 0 → ⊥
    clash x y z e f g h = omega (arith, ints)

    other : (x y z : ℤ) → x -ℤ y ≡ z → z ≡ pos 0 → x <ℤ pos 0 → pos 0 <ℤ y → ⊥
    other x y z e f g h = omega (arith, ints)

-- if a product with a number below 0 is 0, the other factor is 0
cancel_down : (a c : ℤ) → a <ℤ pos 0 → a *ℤ c ≡ pos 0 → c ≡ pos 0
cancel_down a c h e = grind (arith, common_steps, le_or_lt, c, pos, product_mp, h, ints, product_mm)

-- a step back negates the cross product
back_first : (p f v : Pair) → cross (minus p f) v ≡ neg_ℤ (cross (minus f p) v)
back_first p f v = rw (as_pair p, as_pair f, as_pair v) (simp difference_rules (difference-eq _ _ _ _ (omega arith)))

-- ---- opposite an edge

-- if p and q are the only points nearest and farthest in a direction, a is the next vertex after p and b that after q,
-- and the edge from q turns no farther than the reverse of the edge from p, then p is the first of the points farthest
-- from the edge from q
opposite_is : (S : List Pair) (d p a q b f : Pair) → Contains S p → IsLeftOf S p a → pos 0 <ℤ product d (minus a p)
    → product d (minus b q) <ℤ pos 0 → ((t : Pair) → Contains S t → ¬ (t ≡ p) → product d p <ℤ product d t)
    → pos 0 ≤ℤ cross (minus a p) (minus b q) → (cross (minus a p) (minus b q) ≡ pos 0 → IsBefore p a)
    → IsFirstFarthest S (left_of q b) f → f ≡ p
opposite_is S d p a q b f mp left up down low orient_on tie far = elim (before_total f p) [
  | inr (inl e) ↦ e
  | inl fp ↦ absurd (not_up_and_down d (minus a p) (minus p f) (ahead_of p a (tie (flat (before_apart f p fp))))
      (ahead_of f p fp) up (below_by_less _ _ _ (product_minus d p f) (low f far.0 (before_apart f p fp)))
      (in_line (before_apart f p fp)))
  | inr (inr pf) ↦ absurd (All-contains (λ u. IsBefore u f → ¬ (product (left_of q b) u ≡ product (left_of q b) f)) S p
      far.2 mp pf
      (level (product (left_of q b) p) (product (left_of q b) f) (product (left_of q b) q) _ _ _
      (product_left q b p) (product_left q b f) (side_more q b p f) (as_far (after_apart f p pf))))
]
  where
    goes : ¬ (f ≡ p) → pos 0 <ℤ product d (minus f p)
    goes n = above_by_less _ _ _ (product_minus d f p) (low f far.0 n)

    no_less : (x y z u v w : ℤ) → x -ℤ z ≡ u → y -ℤ z ≡ v → v -ℤ u ≡ w → x ≤ℤ y → pos 0 ≤ℤ w
    no_less x y z u v w e f g h = omega (arith, ints)

    -- f lies no less far to the left than p
    farther : pos 0 ≤ℤ cross (minus b q) (minus f p)
    farther =
        no_less (product (left_of q b) p) (product (left_of q b) f) (product (left_of q b) q) _ _ _ (product_left q b p)
        (product_left q b f) (side_more q b p f)
        (All-contains (λ t. product (left_of q b) t ≤ℤ product (left_of q b) f) S p far.1 mp)

    under : (x y z : ℤ) → x ≡ neg_ℤ y → z ≡ y → pos 0 ≤ℤ z → x ≤ℤ pos 0
    under x y z e f h = omega (arith, ints)

    -- f does not lie right of the edge from p
    inside : cross (minus f p) (minus a p) ≤ℤ pos 0
    inside = under _ _ _ (cross_swap (minus f p) (minus a p)) (orient-cross p a f)
        (All-contains (λ t. pos 0 ≤ℤ orient p a t) S f left far.0)

    whole : product d (minus a p) *ℤ cross (minus b q) (minus f p)
        +ℤ (product d (minus b q) *ℤ cross (minus f p) (minus a p)
        +ℤ product d (minus f p) *ℤ cross (minus a p) (minus b q)) ≡ pos 0
    whole = three d (minus a p) (minus b q) (minus f p)

    first : pos 0 ≤ℤ (product d (minus a p) *ℤ cross (minus b q) (minus f p))
    first = product_nn _ _ (nn_above _ up) farther

    second : pos 0 ≤ℤ (product d (minus b q) *ℤ cross (minus f p) (minus a p))
    second = product_same _ _ (np_below _ down) inside

    third : ¬ (f ≡ p) → pos 0 ≤ℤ (product d (minus f p) *ℤ cross (minus a p) (minus b q))
    third n = product_nn _ _ (nn_above _ (goes n)) orient_on

    cancel_left : (x y : ℤ) → pos 0 <ℤ x → x *ℤ y ≡ pos 0 → y ≡ pos 0
    cancel_left x y h e = cancel_zero y x h (*ℤ_comm y x ∙ e)

    flat : ¬ (f ≡ p) → cross (minus a p) (minus b q) ≡ pos 0
    flat n = cancel_left _ _ (goes n) (third_of_three _ _ _ whole first second (third n))

    as_far : ¬ (f ≡ p) → cross (minus b q) (minus f p) ≡ pos 0
    as_far n = cancel_left _ _ up (first_of_three _ _ _ whole first second (third n))

    level : (x y z u v w : ℤ) → x -ℤ z ≡ u → y -ℤ z ≡ v → v -ℤ u ≡ w → w ≡ pos 0 → x ≡ y
    level x y z u v w e g h k = omega (arith, ints)

    in_line : ¬ (f ≡ p) → cross (minus p f) (minus a p) ≡ pos 0
    in_line n = zero_opposite _ _ (back_first p f (minus a p))
        (cancel_down _ _ down (second_of_three _ _ _ whole first second (third n)))

-- if two vertices are a diameter, and the edge from the second turns no farther than the reverse of the edge from the
-- first, the first is opposite the edge from the second
edge_opposite : (S V : List Pair) (i j : ℕ) → IsVertexList S V → 1 < length V → i < length V → j < length V
    → IsDiameter S (vertex V j) (vertex V i)
    → pos 0 ≤ℤ cross (minus (vertex V (j + 1)) (vertex V j)) (minus (vertex V (i + 1)) (vertex V i))
    → (cross (minus (vertex V (j + 1)) (vertex V j)) (minus (vertex V (i + 1)) (vertex V i)) ≡ pos 0
    → IsBefore (vertex V j) (vertex V (j + 1)))
    → (f : Pair) → IsFirstFarthest S (left_of (vertex V i) (vertex V (i + 1))) f → f ≡ vertex V j
edge_opposite S V i j o n li lj h orient_on tie f far =
    opposite_is S (step (vertex V j) (vertex V i)) (vertex V j) (vertex V (j + 1)) (vertex V i) (vertex V (i + 1)) f
    h.start (next_left S V j (j + 1) o refl lj)
    (above_by_less _ _ _ (product_minus (step (vertex V j) (vertex V i)) (vertex V (j + 1)) (vertex V j))
    (beyond_start S (vertex V j) (vertex V i) h (vertex V (j + 1)) (there (j + 1))
    (λ e. next_apart S V j (j + 1) o refl lj n (sym e))))
    (below_by_less _ _ _ (product_minus (step (vertex V j) (vertex V i)) (vertex V (i + 1)) (vertex V i))
    (short_of_end S (vertex V j) (vertex V i) h (vertex V (i + 1)) (there (i + 1))
    (λ e. next_apart S V i (i + 1) o refl li n (sym e))))
    (beyond_start S (vertex V j) (vertex V i) h) orient_on tie far
  where
    there : (k : ℕ) → Contains S (vertex V k)
    there k = (vertex_extreme S V k o (omega (arith, n))).0

-- the first of the points farthest to the left of the edge from one vertex is the other
abbrev IsOpposite : List Pair → List Pair → ℕ → ℕ → Type 0
IsOpposite S V i j = (f : Pair) → IsFirstFarthest S (left_of (vertex V i) (vertex V (i + 1))) f → f ≡ vertex V j

-- two edges in line, back from the first vertex and from the second, are not both back
forward_there : (S V : List Pair) (i j : ℕ) → IsVertexList S V → 1 < length V → i < length V → j < length V
    → IsDiameter S (vertex V j) (vertex V i)
    → cross (minus (vertex V (j + 1)) (vertex V j)) (minus (vertex V (i + 1)) (vertex V i)) ≡ pos 0
    → IsBefore (vertex V (j + 1)) (vertex V j) → IsBefore (vertex V i) (vertex V (i + 1))
forward_there S V i j o n li lj h z back = elim (before_total (vertex V i) (vertex V (i + 1))) [
  | inl b ↦ b
  | inr (inl e) ↦ absurd (next_apart S V i (i + 1) o refl li n e)
  | inr (inr b) ↦ absurd (not_up_and_down d (minus (vertex V i) (vertex V (i + 1)))
      (minus (vertex V j) (vertex V (j + 1)))
      (ahead_of (vertex V (i + 1)) (vertex V i) b) (ahead_of (vertex V (j + 1)) (vertex V j) back)
      (above_by_less _ _ _ (product_minus d (vertex V i) (vertex V (i + 1)))
      (short_of_end S (vertex V j) (vertex V i) h (vertex V (i + 1)) (there (i + 1))
      (λ e. next_apart S V i (i + 1) o refl li n (sym e))))
      (below_by_less _ _ _ (product_minus d (vertex V j) (vertex V (j + 1)))
      (beyond_start S (vertex V j) (vertex V i) h (vertex V (j + 1)) (there (j + 1))
      (λ e. next_apart S V j (j + 1) o refl lj n (sym e))))
      (both_back (vertex V j) (vertex V (j + 1)) (vertex V i) (vertex V (i + 1)) ∙ z))
]
  where
    d : Pair
    d = step (vertex V j) (vertex V i)

    there : (k : ℕ) → Contains S (vertex V k)
    there k = (vertex_extreme S V k o (omega (arith, n))).0

-- of two vertices that are a diameter, one is opposite the edge from the other
one_opposite : (S V : List Pair) (i j : ℕ) → IsVertexList S V → 1 < length V → i < length V → j < length V
    → IsDiameter S (vertex V j) (vertex V i) → IsOpposite S V i j ⊎ IsOpposite S V j i
one_opposite S V i j o n li lj h = elim (le_or_lt (pos 0) (cross e f)) [
  | inr m ↦ inr (edge_opposite S V j i o n lj li back (nn_above _ (above_opposite _ _ (cross_swap f e) m))
      (λ z. absurd (omega (arith, ints, above_opposite _ _ (cross_swap f e) m))))
  | inl m ↦ elim (le_or_lt (cross e f) (pos 0)) [
    | inr k ↦ inl (edge_opposite S V i j o n li lj h m (λ z. absurd (omega (arith, ints))))
    | inl k ↦ elim (before_total (vertex V j) (vertex V (j + 1))) [
      | inl b ↦ inl (edge_opposite S V i j o n li lj h m (λ z. b))
      | inr (inl q) ↦ absurd (next_apart S V j (j + 1) o refl lj n q)
      | inr (inr b) ↦ inr (edge_opposite S V j i o n lj li back (nn_opposite _ _ (cross_swap f e) k)
          (λ z. forward_there S V i j o n li lj h (omega (arith, ints)) b))
    ]
  ]
]
  where
    e : Pair
    e = minus (vertex V (j + 1)) (vertex V j)

    f : Pair
    f = minus (vertex V (i + 1)) (vertex V i)

    back : IsDiameter S (vertex V i) (vertex V j)
    back = turned S (vertex V j) (vertex V i) h

-- the best pair after all vertices is a diameter
pub diameter_of : (S V : List Pair) (last : ℕ) (u w : Pair) → IsPolygonOf S V → IsSeparated V last → 0 < length V
    → IsDiameterOf S V (length V) u w → IsDiameter S u w
diameter_of S V last u w o p n best = record {
  start = best.0;
  end = best.1;
  farthest = λ s t ms mt. le_trans _ _ _ (pair.2.farthest s t ms mt) enough;
}
  where
    pair : (p : Pair) × (q : Pair) × IsDiameter S p q
    pair = farthest_pair S (let k = (vertex_extreme S V 0 o.1 n).0 in omega (arith, k.1))

    -- a vertex and the one opposite its edge
    across : (i j : ℕ) → i < length V → IsOpposite S V i j
        → distance_squared (vertex V i) (vertex V j) ≤ℤ distance_squared u w
    across i j l h =
        let r = best.2 i l in
        subst (λ (z : Pair). distance_squared (vertex V i) z ≤ℤ distance_squared u w) (h r.0 r.1) r.2

    level : pair.0 ≡ pair.1 → distance_squared pair.0 pair.1 ≤ℤ distance_squared u w
    level e = omega (arith, ints, distance_way pair.0 pair.1, ap (product (step pair.0 pair.1)) e, distance_nn u w)

    vertices : (i j : ℕ) → i < length V → j < length V → vertex V i ≡ pair.1 → vertex V j ≡ pair.0 → ¬ (pair.0 ≡ pair.1)
        → distance_squared pair.0 pair.1 ≤ℤ distance_squared u w
    vertices i j li lj ei ej ne =
        let more : 1 < length V = elim (cases_lt 1 (length V)) [
          | inl k ↦ k
          | inr k ↦ absurd (ne (sym ej ∙ ap (vertex V) (omega (arith, k, li, lj)) ∙ ei))
        ] in
        let h : IsDiameter S (vertex V j) (vertex V i) =
        subst (λ (z : Pair). IsDiameter S z (vertex V i)) (sym ej)
        (subst (IsDiameter S pair.0) (sym ei) pair.2) in
        subst (λ (z : Pair). distance_squared z pair.1 ≤ℤ distance_squared u w) ej
        (subst (λ (z : Pair). distance_squared (vertex V j) z ≤ℤ distance_squared u w) ei
        (elim (one_opposite S V i j o.1 more li lj h) [
          | inl k ↦ subst (λ (z : ℤ). z ≤ℤ distance_squared u w) (distance_turned (vertex V i) (vertex V j))
              (across i j li k)
          | inr k ↦ across j i lj k
        ]))

    apart : ¬ (pair.0 ≡ pair.1) → distance_squared pair.0 pair.1 ≤ℤ distance_squared u w
    apart ne =
        let i = only_farthest S V last (step pair.0 pair.1) pair.1 o p n pair.2.end
        (short_of_end S pair.0 pair.1 pair.2) in
        let j = only_farthest S V last (step pair.1 pair.0) pair.0 o p n pair.2.start
        (short_of_end S pair.1 pair.0 (turned S pair.0 pair.1 pair.2)) in
        vertices i.0 j.0 i.1 j.1 i.2 j.2 ne

    enough : distance_squared pair.0 pair.1 ≤ℤ distance_squared u w
    enough = elim (before_total pair.0 pair.1) [
      | inl b ↦ apart (before_apart pair.0 pair.1 b)
      | inr (inl e) ↦ level e
      | inr (inr b) ↦ apart (after_apart pair.0 pair.1 b)
    ]
