-- The entry of a path into a set: by an edge that crosses its line, or by a vertex on it.
use Rattle.std.proofs.lemmas.Grind.{common_steps}
use Rattle.std.proofs.Common.{◌≡◌, ℕ, ℤ, pos, ◌+ℤ◌, ◌-ℤ◌, ◌*ℤ◌, ◌≤ℤ◌, ◌<ℤ◌, neg_ℤ, inl, inr, refl, sym, ap, ◌∙◌, subst}
use Rattle.std.proofs.Common.{List, [], ◌∷◌, arith}
use Rattle.std.specs.List.{Contains}
use Rattle.std.proofs.lemmas.Int.{ints}
use Rattle.std.proofs.lemmas.List.{get_or-map, length-map}
use Rattle.std.proofs.lemmas.List.Elements.{All-contains}
use Rattle.lattice.specs.Covers.{Covers, IsBetween, IsPointSet, Member, OnSegment}
use Rattle.lattice.specs.Places.{IsFarthest}
use Rattle.lattice.specs.Plane.{Pair, orient, product}
use Rattle.lattice.specs.Polynomials.{difference-eq, difference-pos, as_difference, difference_rules}
use Rattle.lattice.specs.Signs.{le_or_lt, product_nn, product_pn}
use Rattle.lattice.specs.Vertices.{IsLeftOf}
use Rattle.lattice.proofs.LineCrossings.{orient_end, orient_other}
use Rattle.lattice.proofs.Order.{same_pair}
use Rattle.lattice.proofs.Numbers.{gap_above, gap_below, gap_np, np_below}
use Rattle.lattice.proofs.Vectors.{as_pair}
use Rattle.hull_geometry.proofs.Decided.{covers_or_separated}
use Rattle.hull_geometry.proofs.PointLists.{all_of}
use Rattle.hull_polygon.specs.Raycasts.{EntersThere, IsUncrossed, MissesRay, NoneBefore, on_way}
use Rattle.hull_polygon.specs.Closest.{magnified}
use Rattle.hull_polygon.specs.Meetings.{AreDisjoint, segment}
use Rattle.hull_polygon.specs.Steps.{left_of, step}
use Rattle.hull_polygon.specs.declared.raycasts.Entry.TheVariants.{Start, Edge, Vertex}
use Rattle.hull_polygon.proofs.FarApart.{magnified_near}
use Rattle.hull_polygon.proofs.SeparatedLists.{below_both, weights_from, weights_x, weights_y, weights_sum}
use Rattle.hull_polygon.proofs.NearestOf.{step_back}
use Rattle.hull_polygon.proofs.Separated.{way_on}
use Rattle.hull_polygon.proofs.Shields.{between_by, one_of_two, parts_both, product_left}
use Rattle.hull_geometry.proofs.EdgeSteps.{product_same}

-- ---- misses

-- if the edge from p to q crosses from left to right, and both lie less far than a in a direction in which b lies no
-- farther than a, then a lies right of the line from p to q
crossed_right : (d a b p q : Pair) → pos 0 ≤ℤ orient a b p → orient a b q ≤ℤ pos 0
    → pos 0 <ℤ (orient a b p -ℤ orient a b q) → product d p <ℤ product d a → product d q <ℤ product d a
    → product d b <ℤ product d a → orient p q a <ℤ pos 0
crossed_right d a b p q hp hq hpq lp lq lb = elim (le_or_lt (pos 0) (orient p q a)) [
  | inr h ↦ h
  | inl h ↦ absurd (clash (orient p q a) (orient p q b) (product d b -ℤ product d a) (product d a -ℤ product d a)
      (orient a b q) (product d p -ℤ product d a) (orient a b p) (product d q -ℤ product d a)
      (weights_from d a b p q (product d a)) h (gap_below _ _ lb) (none (product d a))
      (below_both (orient a b p) (orient a b q) (product d q -ℤ product d a) (product d p -ℤ product d a) hp hq
      (less _ _ hpq) (gap_below _ _ lq) (gap_below _ _ lp)))
]
  where
    none : (x : ℤ) → x -ℤ x ≡ pos 0
    none x = omega (arith, ints)

    less : (x y : ℤ) → pos 0 <ℤ (x -ℤ y) → y <ℤ x
    less x y h = omega (arith, ints)

    times_none : (u : ℤ) → u *ℤ pos 0 ≡ pos 0
    times_none u = omega (arith, ints)

    turned : (o x : ℤ) → o *ℤ neg_ℤ x ≡ neg_ℤ (o *ℤ x)
    turned o x = rw (as_difference o, as_difference x) (simp difference_rules (difference-eq _ _ _ _ (omega arith)))

    negative : (o x : ℤ) → pos 0 ≤ℤ o → x <ℤ pos 0 → (o *ℤ x) ≤ℤ pos 0
    negative o x ho hx = omega (arith, ints, product_nn o (neg_ℤ x) ho (omega (arith, ints)), turned o x)

    clash : (o u x w s y r z : ℤ) → o *ℤ x -ℤ u *ℤ w ≡ s *ℤ y -ℤ r *ℤ z → pos 0 ≤ℤ o → x <ℤ pos 0 → w ≡ pos 0
        → (r *ℤ z -ℤ s *ℤ y) <ℤ pos 0 → ⊥
    clash o u x w s y r z e ho hx hw h =
        let k : u *ℤ w ≡ pos 0 = ap (λ (t : ℤ). u *ℤ t) hw ∙ times_none u in
        let l : (o *ℤ x) ≤ℤ pos 0 = negative o x ho hx in omega (arith, ints, e, k, l, h)

-- if a is not covered, and does not lie right of that line, the ray misses S
pub missed_edge : (S : List Pair) (a b p q : Pair) → IsPointSet S → ¬ Covers S a → Contains S p → Contains S q
    → pos 0 ≤ℤ orient a b p → orient a b q ≤ℤ pos 0 → pos 0 <ℤ (orient a b p -ℤ orient a b q)
    → pos 0 ≤ℤ orient p q a → MissesRay S a b
missed_edge S a b p q o n mp mq hp hq hpq h = elim (covers_or_separated S a o) [
  | inl c ↦ absurd (n c)
  | inr (d, f) ↦ let near : (s : Pair) → Contains S s → product d s <ℤ product d a =
      λ s m. All-contains (λ t. product d t <ℤ product d a) S s f m in
      elim (le_or_lt (product d a) (product d b)) [
        | inl k ↦ (d, near, k)
        | inr k ↦ absurd (not_both (orient p q a)
            (crossed_right d a b p q hp hq hpq (near p mp) (near q mq) k) h)
      ]
]
  where
    not_both : (x : ℤ) → x <ℤ pos 0 → pos 0 ≤ℤ x → ⊥
    not_both x h k = omega (arith, ints)

-- the ray misses a set that lies left of its line
pub missed_left : (S : List Pair) (a b : Pair) → ((s : Pair) → Contains S s → pos 0 <ℤ orient a b s) → MissesRay S a b
missed_left S a b h = (
  left_of b a,
  λ s m. less _ _ _ _ _ _ (product_left b a s) (product_left b a a) (orient_other a b s) (orient_end b a) (h s m),
  level _ _ _ (product_left b a a) (orient_end b a),
)
  where
    less : (x y z o u v : ℤ) → x -ℤ y ≡ o → z -ℤ y ≡ u → o ≡ neg_ℤ v → u ≡ pos 0 → pos 0 <ℤ v → x <ℤ z
    less x y z o u v e f g h k = omega (arith, ints)

    level : (x y u : ℤ) → x -ℤ y ≡ u → u ≡ pos 0 → x ≤ℤ y
    level x y u e f = omega (arith, ints)

-- the ray misses a set that lies right of its line
pub missed_right : (S : List Pair) (a b : Pair) → ((s : Pair) → Contains S s → orient a b s <ℤ pos 0) → MissesRay S a b
missed_right S a b h = (
  left_of a b,
  λ s m. less _ _ _ (product_left a b s) (h s m),
  level _ _ _ (product_left a b b) (orient_end a b),
)
  where
    less : (x y o : ℤ) → x -ℤ y ≡ o → o <ℤ pos 0 → x <ℤ y
    less x y o e h = omega (arith, ints)

    level : (x y u : ℤ) → x -ℤ y ≡ u → u ≡ pos 0 → y ≤ℤ x
    level x y u e f = omega (arith, ints)

-- how far a point lies along a step
pub steps_along : (a b c : Pair)
    → product (step a b) c -ℤ product (step a b) a ≡ (b.x -ℤ a.x) *ℤ (c.x -ℤ a.x) +ℤ (b.y -ℤ a.y) *ℤ (c.y -ℤ a.y)
unfolding product
steps_along a b c = rw (as_pair a, as_pair b, as_pair c) (simp difference_rules (difference-eq _ _ _ _ (omega arith)))

-- how far a point lies along any vector
goes_along : (d a c : Pair) → product d c -ℤ product d a ≡ d.x *ℤ (c.x -ℤ a.x) +ℤ d.y *ℤ (c.y -ℤ a.y)
unfolding product
goes_along d a c = rw (as_pair d, as_pair a, as_pair c) (simp difference_rules (difference-eq _ _ _ _ (omega arith)))

-- the product of two vectors, by their products and cross products with a third
by_third : (w z u v x y : ℤ)
    → (w *ℤ w +ℤ z *ℤ z) *ℤ (x *ℤ u +ℤ y *ℤ v) -ℤ (w *ℤ u +ℤ z *ℤ v) *ℤ (x *ℤ w +ℤ y *ℤ z)
    ≡ (w *ℤ v -ℤ z *ℤ u) *ℤ (w *ℤ y -ℤ z *ℤ x)
by_third w z u v x y =
    rw (as_difference w, as_difference z, as_difference u, as_difference v, as_difference x, as_difference y)
    (simp difference_rules (difference-eq _ _ _ _ (omega arith)))

-- a step's squared length, how far another goes along it, and its cross product
along_step : (d a b c : Pair)
    → (product (step a b) b -ℤ product (step a b) a) *ℤ (product d c -ℤ product d a)
    -ℤ (product (step a b) c -ℤ product (step a b) a) *ℤ (product d b -ℤ product d a)
    ≡ orient a b c *ℤ ((b.x -ℤ a.x) *ℤ d.y -ℤ (b.y -ℤ a.y) *ℤ d.x)
unfolding orient
along_step d a b c = grind (arith, common_steps, steps_along, c, goes_along, d, by_third)

-- a step's squared length is not below 0, and is above it if it goes anywhere along a direction
step_length : (d a b : Pair) → ¬ (product d b ≡ product d a)
    → pos 0 <ℤ (product (step a b) b -ℤ product (step a b) a)
step_length d a b n = gap_above _ _ (way_on a b (λ e. n (ap (product d) (sym e))))

-- if a point of S on the line lies no farther ahead than a, which is not covered, the ray misses S
pub missed_behind : (S : List Pair) (a b c : Pair) → IsPointSet S → ¬ Covers S a → Contains S c → orient a b c ≡ pos 0
    → product (step a b) c ≤ℤ product (step a b) a → MissesRay S a b
missed_behind S a b c o n m z h = elim (covers_or_separated S a o) [
  | inl k ↦ absurd (n k)
  | inr (d, f) ↦ let near : (s : Pair) → Contains S s → product d s <ℤ product d a =
      λ s m. All-contains (λ t. product d t <ℤ product d a) S s f m in
      elim (le_or_lt (product d a) (product d b)) [
        | inl k ↦ (d, near, k)
        | inr k ↦ absurd (clash _ _ _ _ _ _ (along_step d a b c) z (long d a b (away _ _ k)) (gap_below _ _ (near c m)) (gap_np _ _ h) (gap_below _ _ k))
      ]
]
  where
    away : (x y : ℤ) → x <ℤ y → ¬ (x ≡ y)
    away x y h e = omega (arith, ints)

    long : (d a b : Pair) → ¬ (product d b ≡ product d a) → pos 0 <ℤ (product (step a b) b -ℤ product (step a b) a)
    long d a b n = step_length d a b n

    none : (k : ℤ) → pos 0 *ℤ k ≡ pos 0
    none k = omega (arith, ints)

    -- no such products are equal: w * x - u * v = o * k with o = 0, w above 0, x below 0, u not above 0, v below 0
    clash : (w x u v o k : ℤ) → w *ℤ x -ℤ u *ℤ v ≡ o *ℤ k → o ≡ pos 0 → pos 0 <ℤ w → x <ℤ pos 0 → u ≤ℤ pos 0
        → v <ℤ pos 0 → ⊥
    clash w x u v o k e z hw hx hu hv =
        let p = product_pn w x hw hx in
        let q = product_same u v hu (np_below _ hv) in
        let r : o *ℤ k ≡ pos 0 = ap (λ (t : ℤ). t *ℤ k) z ∙ none k in
        omega (arith, ints, e, p, q, r)

-- ---- segments

-- a set that the ray misses is disjoint from the segment
pub apart_missed : (S : List Pair) (a b : Pair) → MissesRay S a b → AreDisjoint S (segment a b)
apart_missed S a b (d, near, far) = (d, parts_both S d a b near far)

-- a set is disjoint from a segment that ends before it comes to the edge
pub apart_before_edge : (S : List Pair) (a b p q : Pair) → IsLeftOf S p q → orient p q a <ℤ pos 0
    → (orient a b p -ℤ orient a b q) <ℤ neg_ℤ (orient p q a) → AreDisjoint S (segment a b)
apart_before_edge S a b p q left before short = (
  left_of q p,
  λ s t ms mt. elim (one_of_two a b t mt) [
    | inl e ↦ subst (λ (z : Pair). product (left_of q p) s <ℤ product (left_of q p) z) (sym e) (nearer s a ms before)
    | inr e ↦ subst (λ (z : Pair). product (left_of q p) s <ℤ product (left_of q p) z) (sym e)
        (nearer s b ms
        (behind (orient p q a) (orient p q b) (orient a b q) (orient a b p) (weights_sum a b p q) short))
  ],
)
  where
    less : (x y z u v o r : ℤ) → x -ℤ y ≡ u → z -ℤ y ≡ v → u ≡ neg_ℤ o → v ≡ neg_ℤ r → pos 0 ≤ℤ o → r <ℤ pos 0 → x <ℤ z
    less x y z u v o r e f g h k l = omega (arith, ints)

    nearer : (s t : Pair) → Contains S s → orient p q t <ℤ pos 0 → product (left_of q p) s <ℤ product (left_of q p) t
    nearer s t m h = less _ _ _ _ _ _ _ (product_left q p s) (product_left q p t) (orient_other p q s) (orient_other p q t)
        (All-contains (λ u. pos 0 ≤ℤ orient p q u) S s left m) h

    behind : (oa ob sq sp : ℤ) → oa -ℤ ob ≡ sq -ℤ sp → (sp -ℤ sq) <ℤ neg_ℤ oa → ob <ℤ pos 0
    behind oa ob sq sp e h = omega (arith, ints)

-- a set is disjoint from a segment that ends before it comes to the vertex
pub apart_before_vertex : (S : List Pair) (a b c : Pair) → IsFarthest S (step b a) c
    → product (step a b) a <ℤ product (step a b) c
    → (product (step a b) b -ℤ product (step a b) a) <ℤ (product (step a b) c -ℤ product (step a b) a)
    → AreDisjoint S (segment a b)
apart_before_vertex S a b c first ahead short = (
  step b a,
  λ s t ms mt. elim (one_of_two a b t mt) [
    | inl e ↦ subst (λ (z : Pair). product (step b a) s <ℤ product (step b a) z) (sym e) (nearer s a ms ahead)
    | inr e ↦ subst (λ (z : Pair). product (step b a) s <ℤ product (step b a) z) (sym e) (nearer s b ms (behind _ _ _ short))
  ],
)
  where
    less : (x y z u v : ℤ) → y ≡ neg_ℤ u → z ≡ neg_ℤ v → x ≤ℤ z → u <ℤ v → x <ℤ y
    less x y z u v e f h k = omega (arith, ints)

    nearer : (s t : Pair) → Contains S s → product (step a b) t <ℤ product (step a b) c
        → product (step b a) s <ℤ product (step b a) t
    nearer s t m h = less _ _ _ _ _ (step_back a b t) (step_back a b c)
        (All-contains (λ u. product (step b a) u ≤ℤ product (step b a) c) S s first m) h

    behind : (x y z : ℤ) → (y -ℤ x) <ℤ (z -ℤ x) → y <ℤ z
    behind x y z h = omega (arith, ints)

-- ---- no point before

-- how far a point of the path lies in a direction
way_along : (d a b : Pair) (k n : ℕ)
    → product d (on_way k n a b) ≡ pos k *ℤ product d a +ℤ pos n *ℤ (product d b -ℤ product d a)
unfolding product
way_along d a b k n = parts d.x d.y a.x a.y b.x b.y (pos k) (pos n)
  where
    parts : (u v x y z w k n : ℤ)
        → u *ℤ (k *ℤ x +ℤ n *ℤ (z -ℤ x)) +ℤ v *ℤ (k *ℤ y +ℤ n *ℤ (w -ℤ y))
        ≡ k *ℤ (u *ℤ x +ℤ v *ℤ y) +ℤ n *ℤ ((u *ℤ z +ℤ v *ℤ w) -ℤ (u *ℤ x +ℤ v *ℤ y))
    parts u v x y z w k n =
        rw (
          as_difference u,
          as_difference v,
          as_difference x,
          as_difference y,
          as_difference z,
          as_difference w,
          as_difference k,
          as_difference n,
        ) (simp difference_rules (difference-eq _ _ _ _ (omega arith)))

-- if a point of the path is no farther in a direction than k times c, it does not come before
none_beyond : (k n : ℕ) (da db dc part whole : ℤ) → (pos k *ℤ da +ℤ pos n *ℤ (db -ℤ da)) ≤ℤ (pos k *ℤ dc)
    → part ≡ da -ℤ dc → whole ≡ da -ℤ db → (pos k *ℤ part) ≤ℤ (pos n *ℤ whole)
none_beyond k n da db dc part whole h e f =
    rw (e, f) (omega (arith, ints, spread (pos k) da dc, turned (pos n) da db, h))
  where
    spread : (k x y : ℤ) → k *ℤ (x -ℤ y) ≡ k *ℤ x -ℤ k *ℤ y
    spread k x y = rw (as_difference k, as_difference x, as_difference y)
        (simp difference_rules (difference-eq _ _ _ _ (omega arith)))

    turned : (n x y : ℤ) → n *ℤ (x -ℤ y) ≡ neg_ℤ (n *ℤ (y -ℤ x))
    turned n x y = rw (as_difference n, as_difference x, as_difference y)
        (simp difference_rules (difference-eq _ _ _ _ (omega arith)))

-- no point of a set lies farther to the right of its edge than that
pub right_of_edge : (S : List Pair) (p q : Pair) → IsLeftOf S p q → IsFarthest S (left_of q p) q
right_of_edge S p q left =
    all_of (λ t. product (left_of q p) t ≤ℤ product (left_of q p) q) S
    (λ t m. at_most _ _ _ _ (product_left q p t) (orient_other p q t) (All-contains (λ u. pos 0 ≤ℤ orient p q u) S t left m))
  where
    at_most : (x y u o : ℤ) → x -ℤ y ≡ u → u ≡ neg_ℤ o → pos 0 ≤ℤ o → x ≤ℤ y
    at_most x y u o e f h = omega (arith, ints)

-- no point of the path before the edge or the vertex is covered
pub none_before : NoneBefore
none_before S a b Start k n h c = nothing (pos k) n
  where
    nothing : (x : ℤ) (n : ℕ) → (x *ℤ pos 0) ≤ℤ (pos n *ℤ pos 1)
    nothing x n = omega (arith, ints)
none_before S a b (Edge p q) k n h c =
    none_beyond k n (product (left_of q p) a) (product (left_of q p) b) (product (left_of q p) q) (neg_ℤ (orient p q a))
    (orient a b p -ℤ orient a b q)
    (subst (λ (z : ℤ). z ≤ℤ (pos k *ℤ product (left_of q p) q)) (way_along (left_of q p) a b k n)
    (magnified_near S (left_of q p) q (on_way k n a b) k (right_of_edge S p q h.0.left) c))
    (part (product (left_of q p) a) (product (left_of q p) q) (orient q p a) (orient p q a) (product_left q p a)
    (orient_other p q a))
    (whole (product (left_of q p) a) (product (left_of q p) q) (product (left_of q p) b) (orient q p a) (orient q p b)
    (orient p q a) (orient p q b) (orient a b p) (orient a b q) (product_left q p a) (product_left q p b)
    (orient_other p q a) (orient_other p q b) (weights_sum a b p q))
  where
    part : (x y u o : ℤ) → x -ℤ y ≡ u → u ≡ neg_ℤ o → neg_ℤ o ≡ x -ℤ y
    part x y u o e f = omega (arith, ints)

    whole : (x y z u v o r sp sq : ℤ) → x -ℤ y ≡ u → z -ℤ y ≡ v → u ≡ neg_ℤ o → v ≡ neg_ℤ r → o -ℤ r ≡ sq -ℤ sp
        → sp -ℤ sq ≡ x -ℤ z
    whole x y z u v o r sp sq e f g h k = omega (arith, ints)
none_before S a b (Vertex c) k n h m =
    none_beyond k n (product (step b a) a) (product (step b a) b) (product (step b a) c)
    (product (step a b) c -ℤ product (step a b) a) (product (step a b) b -ℤ product (step a b) a)
    (subst (λ (z : ℤ). z ≤ℤ (pos k *ℤ product (step b a) c)) (way_along (step b a) a b k n)
    (magnified_near S (step b a) c (on_way k n a b) k h.first m))
    (turned (product (step b a) a) (product (step b a) c) (product (step a b) a) (product (step a b) c) (step_back a b a)
    (step_back a b c))
    (turned (product (step b a) a) (product (step b a) b) (product (step a b) a) (product (step a b) b) (step_back a b a)
    (step_back a b b))
  where
    turned : (x y u v : ℤ) → x ≡ neg_ℤ u → y ≡ neg_ℤ v → v -ℤ u ≡ x -ℤ y
    turned x y u v e f = omega (arith, ints)

-- ---- the entry is covered

-- k times a member of a set is a member of the magnified set
magnified_there : (S : List Pair) (p : Pair) (k : ℕ) → Contains S p
    → Contains (magnified k S) record { x = pos k *ℤ p.x; y = pos k *ℤ p.y }
magnified_there S p k (i, l, e) = (
  i,
  rw length-map l,
  get_or-map (λ t. record { x = pos k *ℤ t.x; y = pos k *ℤ t.y }) S i p _ l
      ∙ ap (λ (t : Pair). record { x = pos k *ℤ t.x; y = pos k *ℤ t.y }) e,
)

-- a coordinate of the crossing of two lines, by the weights of either
at_crossing : (k n oa ob sp sq x z p q : ℤ) → k ≡ sp -ℤ sq → n ≡ neg_ℤ oa → oa -ℤ ob ≡ sq -ℤ sp
    → oa *ℤ z -ℤ ob *ℤ x ≡ sq *ℤ p -ℤ sp *ℤ q → k *ℤ x +ℤ n *ℤ (z -ℤ x) ≡ sp *ℤ q -ℤ sq *ℤ p
at_crossing k n oa ob sp sq x z p q ek en es e =
    let j : k ≡ ob -ℤ oa = omega (arith, ints, ek, es) in
    rw (j, en) (omega (arith, ints, drawn oa ob x z, e))
  where
    drawn : (oa ob x z : ℤ) → (ob -ℤ oa) *ℤ x +ℤ neg_ℤ oa *ℤ (z -ℤ x) ≡ neg_ℤ (oa *ℤ z -ℤ ob *ℤ x)
    drawn oa ob x z = rw (as_difference oa, as_difference ob, as_difference x, as_difference z)
        (simp difference_rules (difference-eq _ _ _ _ (omega arith)))

-- that coordinate lies between those of the ends
between_magnified : (k sp sq x p q : ℤ) → k ≡ sp -ℤ sq → pos 0 <ℤ k → pos 0 ≤ℤ sp → sq ≤ℤ pos 0
    → x ≡ sp *ℤ q -ℤ sq *ℤ p → IsBetween (k *ℤ p) (k *ℤ q) x
between_magnified k sp sq x p q ek hk hp hq e =
    between_by sp sq k (k *ℤ p) (k *ℤ q) x hp hq hk ek (ap (λ (t : ℤ). k *ℤ t) e ∙ drawn k sp sq p q)
  where
    drawn : (k sp sq p q : ℤ) → k *ℤ (sp *ℤ q -ℤ sq *ℤ p) ≡ sp *ℤ (k *ℤ q) -ℤ sq *ℤ (k *ℤ p)
    drawn k sp sq p q =
        rw (as_difference k, as_difference sp, as_difference sq, as_difference p, as_difference q)
        (simp difference_rules (difference-eq _ _ _ _ (omega arith)))

-- the crossing is on the line of the ends
on_line : (k sp sq px py qx qy x y : ℤ) → k ≡ sp -ℤ sq → x ≡ sp *ℤ qx -ℤ sq *ℤ px → y ≡ sp *ℤ qy -ℤ sq *ℤ py
    → (k *ℤ qx -ℤ k *ℤ px) *ℤ (y -ℤ k *ℤ py) -ℤ (k *ℤ qy -ℤ k *ℤ py) *ℤ (x -ℤ k *ℤ px) ≡ pos 0
on_line k sp sq px py qx qy x y ek ex ey =
    rw (spread k qx px, spread k qy py, ex, ey, ek) (rw (beyond sp sq qx px, beyond sp sq qy py) (flat (sp -ℤ sq) sp (qx -ℤ px) (qy -ℤ py)))
  where
    spread : (k u v : ℤ) → k *ℤ u -ℤ k *ℤ v ≡ k *ℤ (u -ℤ v)
    spread k u v = rw (as_difference k, as_difference u, as_difference v)
        (simp difference_rules (difference-eq _ _ _ _ (omega arith)))

    beyond : (sp sq u v : ℤ) → (sp *ℤ u -ℤ sq *ℤ v) -ℤ (sp -ℤ sq) *ℤ v ≡ sp *ℤ (u -ℤ v)
    beyond sp sq u v = rw (as_difference sp, as_difference sq, as_difference u, as_difference v)
        (simp difference_rules (difference-eq _ _ _ _ (omega arith)))

    flat : (k s u v : ℤ) → (k *ℤ u) *ℤ (s *ℤ v) -ℤ (k *ℤ v) *ℤ (s *ℤ u) ≡ pos 0
    flat k s u v = rw (as_difference k, as_difference s, as_difference u, as_difference v)
        (simp difference_rules (difference-pos _ _ 0 (omega arith)))

-- the crossing is on that line, by sides
line_there : (k sp sq : ℤ) (p q : Pair) (x y : ℤ) → k ≡ sp -ℤ sq → x ≡ sp *ℤ q.x -ℤ sq *ℤ p.x
    → y ≡ sp *ℤ q.y -ℤ sq *ℤ p.y
    → orient record { x = k *ℤ p.x; y = k *ℤ p.y } record { x = k *ℤ q.x; y = k *ℤ q.y } record { x = x; y = y } ≡ pos 0
unfolding orient
line_there k sp sq p q x y ek ex ey = on_line k sp sq p.x p.y q.x q.y x y ek ex ey

-- the point at n / k of a step, magnified by k
abbrev pub at_part : ℕ → ℤ → Pair → Pair → Pair
at_part k n a b = record {
  x = pos k *ℤ a.x +ℤ n *ℤ (b.x -ℤ a.x);
  y = pos k *ℤ a.y +ℤ n *ℤ (b.y -ℤ a.y);
}

-- the point at which the path crosses an edge is covered
pub crosses_there : (S : List Pair) (a b p q : Pair) (k : ℕ) (n : ℤ) → Contains S p → Contains S q → pos 0 ≤ℤ orient a b p
    → orient a b q ≤ℤ pos 0 → pos 0 <ℤ (orient a b p -ℤ orient a b q) → n ≡ neg_ℤ (orient p q a)
    → pos k ≡ orient a b p -ℤ orient a b q → Covers (magnified k S) (at_part k n a b)
crosses_there S a b p q k n mp mq hp hq h en ek =
    OnSegment _ _ (magnified_there S p k mp) (magnified_there S q k mq) (
      line_there (pos k) (orient a b p) (orient a b q) p q _ _ ek (at a.x b.x p.x q.x (weights_x a b p q))
          (at a.y b.y p.y q.y (weights_y a b p q)),
      between_magnified (pos k) _ _ _ p.x q.x ek long hp hq (at a.x b.x p.x q.x (weights_x a b p q)),
      between_magnified (pos k) _ _ _ p.y q.y ek long hp hq (at a.y b.y p.y q.y (weights_y a b p q)),
    )
  where
    long : pos 0 <ℤ pos k
    long = subst (λ (z : ℤ). pos 0 <ℤ z) (sym ek) h

    at : (x z u v : ℤ)
        → orient p q a *ℤ z -ℤ orient p q b *ℤ x ≡ orient a b q *ℤ u -ℤ orient a b p *ℤ v
        → pos k *ℤ x +ℤ n *ℤ (z -ℤ x) ≡ orient a b p *ℤ v -ℤ orient a b q *ℤ u
    at x z u v e = at_crossing (pos k) n (orient p q a) (orient p q b) (orient a b p) (orient a b q) x z u v ek en
        (weights_sum a b p q) e

-- how a point of the line lies ahead, by the step's squared length
ahead_x : (a b c : Pair)
    → (product (step a b) b -ℤ product (step a b) a) *ℤ (c.x -ℤ a.x)
    -ℤ (product (step a b) c -ℤ product (step a b) a) *ℤ (b.x -ℤ a.x)
    ≡ orient a b c *ℤ (a.y -ℤ b.y)
unfolding orient product
ahead_x a b c = rw (as_pair a, as_pair b, as_pair c) (simp difference_rules (difference-eq _ _ _ _ (omega arith)))

ahead_y : (a b c : Pair)
    → (product (step a b) b -ℤ product (step a b) a) *ℤ (c.y -ℤ a.y)
    -ℤ (product (step a b) c -ℤ product (step a b) a) *ℤ (b.y -ℤ a.y)
    ≡ orient a b c *ℤ (b.x -ℤ a.x)
unfolding orient product
ahead_y a b c = rw (as_pair a, as_pair b, as_pair c) (simp difference_rules (difference-eq _ _ _ _ (omega arith)))

-- the point at which the path comes to a vertex on its line is that vertex
pub comes_there : (S : List Pair) (a b c : Pair) (k : ℕ) (n : ℤ) → Contains S c → orient a b c ≡ pos 0
    → n ≡ product (step a b) c -ℤ product (step a b) a → pos k ≡ product (step a b) b -ℤ product (step a b) a
    → Covers (magnified k S) (at_part k n a b)
comes_there S a b c k n m z en ek =
    Member (subst (Contains (magnified k S)) (sym same) (magnified_there S c k m))
  where
    none : (w : ℤ) → pos 0 *ℤ w ≡ pos 0
    none w = omega (arith, ints)

    spread : (k u v : ℤ) → k *ℤ (u -ℤ v) ≡ k *ℤ u -ℤ k *ℤ v
    spread k u v = rw (as_difference k, as_difference u, as_difference v)
        (simp difference_rules (difference-eq _ _ _ _ (omega arith)))

    at : (x y u w o : ℤ) → pos k *ℤ (u -ℤ x) -ℤ n *ℤ (y -ℤ x) ≡ o *ℤ w → o ≡ pos 0
        → pos k *ℤ x +ℤ n *ℤ (y -ℤ x) ≡ pos k *ℤ u
    at x y u w o e f = let g : o *ℤ w ≡ pos 0 = ap (λ (t : ℤ). t *ℤ w) f ∙ none w in
        omega (arith, ints, spread (pos k) u x, e, g)

    same : at_part k n a b ≡ record { x = pos k *ℤ c.x; y = pos k *ℤ c.y }
    same = same_pair _ _ (at a.x b.x c.x (a.y -ℤ b.y) (orient a b c) (rw (ek, en) (ahead_x a b c)) z)
        (at a.y b.y c.y (b.x -ℤ a.x) (orient a b c) (rw (ek, en) (ahead_y a b c)) z)

-- a set magnified by 1 is the set
once : (S : List Pair) → magnified 1 S ≡ S
once [] = refl
once (p ∷ S) = ap (λ (T : List Pair). record { x = pos 1 *ℤ p.x; y = pos 1 *ℤ p.y } ∷ T) (once S)
    ∙ ap (λ (t : Pair). t ∷ S) (same_pair _ p (one p.x) (one p.y))
  where
    one : (x : ℤ) → pos 1 *ℤ x ≡ x
    one x = omega (arith, ints)

-- a path whose start is covered enters at its start
starts_there : (S : List Pair) (a b : Pair) → Covers S a → Covers (magnified 1 S) (on_way 1 0 a b)
starts_there S a b c =
    subst (λ (T : List Pair). Covers T (on_way 1 0 a b)) (sym (once S))
    (subst (Covers S) (same_pair a _ (start a.x b.x) (start a.y b.y)) c)
  where
    start : (x y : ℤ) → x ≡ pos 1 *ℤ x +ℤ pos 0 *ℤ (y -ℤ x)
    start x y = omega (arith, ints)

-- the entry of the path is covered
pub enters_there : EntersThere
enters_there S a b Start k n h en ek =
    let i : n ≡ 0 = omega (arith, ints, en) in
    let j : k ≡ 1 = omega (arith, ints, ek) in
    subst (λ (m : ℕ). Covers (magnified m S) (on_way m n a b)) (sym j)
    (subst (λ (m : ℕ). Covers (magnified 1 S) (on_way 1 m a b)) (sym i) (starts_there S a b h))
enters_there S a b (Edge p q) k n h en ek = crosses_there S a b p q k (pos n) h.0.start.0 h.0.end.0 h.0.from h.0.to h.0.across en ek
enters_there S a b (Vertex c) k n h en ek = comes_there S a b c k (pos n) h.vertex.0 h.line en ek

-- ---- results

-- if the line is not crossed, and a point of S lies beside it, the ray misses S
pub missed_beside : (S : List Pair) (a b c : Pair) → IsUncrossed S a b → Contains S c → ¬ (orient a b c ≡ pos 0) → MissesRay S a b
missed_beside S a b c (inl h) m n = missed_left S a b h
missed_beside S a b c (inr (inl h)) m n = missed_right S a b h
missed_beside S a b c (inr (inr h)) m n = absurd (n (h c m))

-- if the line is not crossed, and a point of S lies beside it or not ahead, the ray misses S
pub missed_uncrossed : (S : List Pair) (a b c : Pair) → IsPointSet S → ¬ Covers S a → IsUncrossed S a b → Contains S c
    → ((orient a b c ≡ pos 0) → product (step a b) c ≤ℤ product (step a b) a) → MissesRay S a b
missed_uncrossed S a b c o n (inl h) m k = missed_left S a b h
missed_uncrossed S a b c o n (inr (inl h)) m k = missed_right S a b h
missed_uncrossed S a b c o n (inr (inr h)) m k = missed_behind S a b c o n m (h c m) (k (h c m))
