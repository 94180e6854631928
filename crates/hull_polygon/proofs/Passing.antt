-- If S has a point that T does not cover, and both sets share a point, the segment between the two passes an edge of T,
-- which is then not disjoint from S.
use Rattle.std.proofs.Common.{◌≡◌, ℕ, ◌+◌, ◌-◌, ◌≤◌, ◌<◌, ℤ, pos, ◌+ℤ◌, ◌-ℤ◌, ◌*ℤ◌, ◌≤ℤ◌, ◌<ℤ◌, neg_ℤ, ◌⊎◌, inl, inr}
use Rattle.std.proofs.Common.{refl, sym, ap, ◌∙◌, subst, List, length, arith}
use Rattle.std.specs.List.{Contains}
use Rattle.std.proofs.lemmas.Bool.{cases_lt}
use Rattle.std.proofs.lemmas.Int.{ints}
use Rattle.std.proofs.lemmas.List.Elements.{All-contains}
use Rattle.lattice.specs.Plane.{Pair, orient, product}
use Rattle.lattice.specs.Polynomials.{difference-eq, as_difference, difference-add, difference-mul, difference_rules}
use lib.IntN.{*ℤ_comm}
use Rattle.lattice.specs.Signs.{le_or_lt, product_nn, product_pp, product_np, cancel_zero}
use Rattle.lattice.proofs.Order.{same_pair}
use Rattle.hull_polygon.specs.Nearest.{previous}
use Rattle.hull_polygon.proofs.Cones.{cone}
use Rattle.lattice.specs.Vertices.{IsLeftOf}
use Rattle.lattice.proofs.LineCrossings.{orient_end, orient_other}
use Rattle.lattice.proofs.Vectors.{as_pair, opp}
use Rattle.hull_polygon.specs.Meetings.{Parts, AreDisjoint, segment}
use Rattle.hull_polygon.specs.Polygons.{IsPolygonOf}
use Rattle.hull_polygon.specs.Rounds.{vertex, IsSeparated}
use Rattle.hull_polygon.proofs.Vertices.{vertex_back, vertex_extreme, next_left}
use Rattle.hull_polygon.proofs.Switches.{switch_of, farthest_vertex, placed, less_returned}
use Rattle.hull_polygon.proofs.NearestOf.{search_below, bends_at, previous_at}
use Rattle.hull_polygon.specs.Steps.{left_of}
use Rattle.hull_polygon.proofs.Differences.{Shared}
use Rattle.hull_polygon.proofs.SeparatedLists.{weights_from, product_ns, product_mp}
use Rattle.hull_polygon.proofs.Shields.{pushed, product_left, start_there, end_there}
use Rattle.lattice.proofs.Numbers.{equal_by_gap, equal_by_none, gap_above, gap_below, gap_none, gap_np, not_at_most, not_less}
use Rattle.lattice.proofs.Numbers.{le_by_opposite, le_itself, le_less, less_by_gap, nn_above, np_below}
use Rattle.lattice.proofs.Numbers.{zero_between}
use Rattle.hull_geometry.proofs.EdgeSteps.{product_same}
use Rattle.hull_geometry.proofs.Slopes.{product-opp}

-- ---- weights

-- a sum of numbers above 0 with three weights, not below 0 and not all 0, is above 0
weigh_above : (u v w x y z : ℤ) → pos 0 ≤ℤ u → pos 0 ≤ℤ v → pos 0 ≤ℤ w → pos 0 <ℤ (u +ℤ v +ℤ w) → pos 0 <ℤ x
    → pos 0 <ℤ y → pos 0 <ℤ z → pos 0 <ℤ (u *ℤ x +ℤ v *ℤ y +ℤ w *ℤ z)
weigh_above u v w x y z hu hv hw h hx hy hz =
    let a = product_nn u x hu (omega (arith, ints)) in
    let b = product_nn v y hv (omega (arith, ints)) in
    let c = product_nn w z hw (omega (arith, ints)) in
    elim (le_or_lt u (pos 0)) [
      | inr k ↦ let p = product_pp u x k hx in omega (arith, ints)
      | inl l ↦ elim (le_or_lt v (pos 0)) [
        | inr k ↦ let p = product_pp v y k hy in omega (arith, ints)
        | inl m ↦ let p = product_pp w z (omega (arith, ints)) hz in omega (arith, ints)
      ]
    ]

-- how far a weighted sum stays below a multiple of m
weigh_from : (u v w x y z m : ℤ)
    → (u +ℤ v +ℤ w) *ℤ m -ℤ (u *ℤ x +ℤ v *ℤ y +ℤ w *ℤ z) ≡ u *ℤ (m -ℤ x) +ℤ v *ℤ (m -ℤ y) +ℤ w *ℤ (m -ℤ z)
weigh_from u v w x y z m =
    rw (
      as_difference u,
      as_difference v,
      as_difference w,
      as_difference x,
      as_difference y,
      as_difference z,
      as_difference m,
    )
    (simp difference_rules (difference-eq _ _ _ _ (omega arith)))

-- a weighted sum of numbers that are all less than m is less than that multiple of m
weigh_less : (u v w x y z m : ℤ) → pos 0 ≤ℤ u → pos 0 ≤ℤ v → pos 0 ≤ℤ w → pos 0 <ℤ (u +ℤ v +ℤ w) → x <ℤ m → y <ℤ m
    → z <ℤ m → (u *ℤ x +ℤ v *ℤ y +ℤ w *ℤ z) <ℤ ((u +ℤ v +ℤ w) *ℤ m)
weigh_less u v w x y z m hu hv hw h hx hy hz =
    less_by_gap _ _ _ (weigh_from u v w x y z m)
    (weigh_above u v w (m -ℤ x) (m -ℤ y) (m -ℤ z) hu hv hw h (omega (arith, ints)) (omega (arith, ints))
    (omega (arith, ints)))

-- a weighted sum of numbers not more than m is not more than that multiple of m
weigh_most : (u v w x y z m : ℤ) → pos 0 ≤ℤ u → pos 0 ≤ℤ v → pos 0 ≤ℤ w → x ≤ℤ m → y ≤ℤ m → z ≤ℤ m
    → (u *ℤ x +ℤ v *ℤ y +ℤ w *ℤ z) ≤ℤ ((u +ℤ v +ℤ w) *ℤ m)
weigh_most u v w x y z m hu hv hw hx hy hz =
    let a = product_nn u (m -ℤ x) hu (omega (arith, ints)) in
    let b = product_nn v (m -ℤ y) hv (omega (arith, ints)) in
    let c = product_nn w (m -ℤ z) hw (omega (arith, ints)) in
    let e = weigh_from u v w x y z m in omega (arith, ints)

-- how far a weighted sum of points lies
weigh_points : (f a b c : Pair) (u v w : ℤ)
    → product f (record { x = u *ℤ a.x +ℤ v *ℤ b.x +ℤ w *ℤ c.x; y = u *ℤ a.y +ℤ v *ℤ b.y +ℤ w *ℤ c.y })
    ≡ u *ℤ product f a +ℤ v *ℤ product f b +ℤ w *ℤ product f c
unfolding product
weigh_points f a b c u v w =
    rw (as_pair f, as_pair a, as_pair b, as_pair c, as_difference u, as_difference v, as_difference w)
    (simp (difference-add, difference-mul) (difference-eq _ _ _ _ (omega arith)))

-- a point magnified by k
abbrev times : ℤ → Pair → Pair
times k p = record { x = k *ℤ p.x; y = k *ℤ p.y }

-- how far it lies
times_far : (k : ℤ) (f p : Pair) → product f (times k p) ≡ k *ℤ product f p
unfolding product
times_far k f p =
    rw (as_difference k, as_pair f, as_pair p)
    (simp (difference-add, difference-mul) (difference-eq _ _ _ _ (omega arith)))

-- a product with a positive number keeps the order
pub times_less : (k x y : ℤ) → pos 0 <ℤ k → x <ℤ y → (k *ℤ x) <ℤ (k *ℤ y)
times_less k x y h l = less_by_gap _ _ _ (spread k x y) (product_pp k (y -ℤ x) h (omega (arith, ints)))
  where
    spread : (k x y : ℤ) → k *ℤ y -ℤ k *ℤ x ≡ k *ℤ (y -ℤ x)
    spread k x y = rw (as_difference k, as_difference x, as_difference y)
        (simp difference_rules (difference-eq _ _ _ _ (omega arith)))

-- the side of a point at an edge magnified by k
times_side : (k : ℤ) (a b x : Pair)
    → orient (times k b) (times k a) x ≡ k *ℤ (product (left_of b a) x -ℤ product (left_of b a) (times k b))
unfolding orient product
times_side k a b x =
    rw (as_difference k, as_pair a, as_pair b, as_pair x) (simp difference_rules (difference-eq _ _ _ _ (omega arith)))

-- ---- the edge that is passed

-- a weighted sum of numbers above 0 is above 0 ..
above_both : (r s y z : ℤ) → pos 0 ≤ℤ r → s ≤ℤ pos 0 → s <ℤ r → pos 0 <ℤ y → pos 0 <ℤ z → pos 0 <ℤ (r *ℤ y -ℤ s *ℤ z)
above_both r s y z hr hs h hy hz = elim (le_or_lt r (pos 0)) [
  | inr l ↦ let p = product_pp r y l hy in let n = product_np s z hs (omega (arith, ints)) in omega (arith, ints)
  | inl l ↦ let e : r ≡ pos 0 = omega (arith, ints) in let n = product_mp s z (omega (arith, ints)) hz in
      rw e (omega (arith, ints))
]

-- .. and does not equal one of numbers not above 0
pub overweighed : (p q r s w x y z : ℤ) → pos 0 ≤ℤ p → q ≤ℤ pos 0 → pos 0 ≤ℤ r → s ≤ℤ pos 0 → s <ℤ r → w ≤ℤ pos 0
    → x ≤ℤ pos 0 → pos 0 <ℤ y → pos 0 <ℤ z → p *ℤ x -ℤ q *ℤ w ≡ r *ℤ y -ℤ s *ℤ z → ⊥
overweighed p q r s w x y z hp hq hr hs l hw hx hy hz e =
    let a = product_ns p x hp hx in
    let b = product_same q w hq hw in
    let c = above_both r s y z hr hs l hy hz in omega (arith, ints)

module _ (S T : List Pair) (h : Shared S T) where
  -- the sum of the weights
  pub total : ℤ
  total = h.u +ℤ h.v +ℤ h.w

  -- the common point, magnified by the sum of the weights
  pub common : Pair
  common = record { x = h.u *ℤ h.d.x +ℤ h.v *ℤ h.e.x +ℤ h.w *ℤ h.f.x; y = h.u *ℤ h.d.y +ℤ h.v *ℤ h.e.y +ℤ h.w *ℤ h.f.y }

  -- if all of T is less far than a bound, so is the common point
  pub less_than_T : (f : Pair) (m : ℤ) → ((t : Pair) → Contains T t → product f t <ℤ m)
      → product f common <ℤ (total *ℤ m)
  unfolding common total
  less_than_T f m k = rw (weigh_points f h.d h.e h.f h.u h.v h.w)
      (weigh_less h.u h.v h.w _ _ _ m h.u_nn h.v_nn h.w_nn h.some (k h.d h.d_there) (k h.e h.e_there) (k h.f h.f_there))

  -- if no point of T is farther than a bound, neither is the common point
  pub most_of_T : (f : Pair) (m : ℤ) → ((t : Pair) → Contains T t → product f t ≤ℤ m)
      → product f common ≤ℤ (total *ℤ m)
  unfolding common total
  most_of_T f m k = rw (weigh_points f h.d h.e h.f h.u h.v h.w)
      (weigh_most h.u h.v h.w _ _ _ m h.u_nn h.v_nn h.w_nn (k h.d h.d_there) (k h.e h.e_there) (k h.f h.f_there))

  -- if all of S is less far than a bound, so is the common point
  pub less_than_S : (f : Pair) (m : ℤ) → ((s : Pair) → Contains S s → product f s <ℤ m)
      → product f common <ℤ (total *ℤ m)
  unfolding common total
  less_than_S f m k = rw (← h.same_x, ← h.same_y, weigh_points f h.a h.b h.c h.u h.v h.w)
      (weigh_less h.u h.v h.w _ _ _ m h.u_nn h.v_nn h.w_nn h.some (k h.a h.a_there) (k h.b h.b_there) (k h.c h.c_there))

  -- the sum is above 0
  pub total_above : pos 0 <ℤ total
  unfolding total
  total_above = h.some

-- magnifying two points keeps which is nearer
times_nearer : (k : ℤ) (f p q : Pair) → pos 0 <ℤ k → product f p <ℤ product f q
    → product f (times k p) <ℤ product f (times k q)
times_nearer k f p q h l = rw (times_far k f p, times_far k f q) (times_less k (product f p) (product f q) h l)

module _ (S T : List Pair) (h : Shared S T) (v g : Pair) (mv : Contains S v)
    (free : (t : Pair) → Contains T t → product g t <ℤ product g v) where
  -- the side of the step from v to the common point on which a point of T lies
  pub side : Pair → ℤ
  side c = orient (times (total S T h) v) (common S T h) (times (total S T h) c)

  -- the common point does not lie right of an edge that has T on its left
  not_right : (a b : Pair) → IsLeftOf T a b
      → orient (times (total S T h) b) (times (total S T h) a) (common S T h) ≤ℤ pos 0
  not_right a b left =
      let L : Pair = left_of b a in
      let k : ℤ = total S T h in
      rw (times_side k a b (common S T h))
      (product_ns k (product L (common S T h) -ℤ product L (times k b)) (nn_above _ (total_above S T h))
      (gap_np (product L (common S T h)) (product L (times k b))
      (rw (times_far k L b) (most_of_T S T h L (product L b) (λ t mt. near t mt)))))
    where
      near : (t : Pair) → Contains T t → product (left_of b a) t ≤ℤ product (left_of b a) b
      near t mt = le_by_opposite _ _ _ _ (product_left b a t) (orient_other a b t)
          (All-contains (λ z. pos 0 ≤ℤ orient a b z) T t left mt)

  -- no edge that is passed is disjoint from S
  pub not_passed : (a b d : Pair) → Contains T a → Contains T b → IsLeftOf T a b → Parts d S (segment a b)
      → pos 0 ≤ℤ side a → side b ≤ℤ pos 0 → side b <ℤ side a → ⊥
  unfolding side
  not_passed a b d ma mb left parts ha hb l =
      elim (le_or_lt (pos 0) (orient (times k b) (times k a) (times k v))) [
        | inr p ↦ clash _ _ _ (times_far k g v) (less_than_T S T h g (product g v) free)
            (pushed _ (orient (times k b) (times k a) X) _ _ _ _ _ _ p (gap_none (product g (times k v))) ha hb l
            (gap_below _ _ (times_nearer k g b v big (free b mb)))
            (gap_below _ _ (times_nearer k g a v big (free a ma))) (weights_from g (times k v) X (times k b) (times k a)
            (product g (times k v))))
        | inl p ↦ elim (le_or_lt (product d (times k v)) (product d X)) [
          | inl w ↦ overweighed _ _ _ _ _ _ _ _ p (not_right a b left) ha hb l (gap_np _ _ w)
              (gap_np (product d X) (product d X) (le_itself _))
              (gap_above (product d X) (product d (times k b))
              (rw (times_far k d b) (less_than_S S T h d (product d b) (λ s ms. parts s b ms (end_there a b)))))
              (gap_above (product d X) (product d (times k a))
              (rw (times_far k d a) (less_than_S S T h d (product d a) (λ s ms. parts s a ms (start_there a b)))))
              (weights_from d (times k v) X (times k b) (times k a) (product d X))
          | inr w ↦ overweighed _ _ _ _ _ _ _ _ p (not_right a b left) ha hb l
              (gap_np (product d (times k v)) (product d (times k v)) (le_itself _)) (gap_np _ _ (le_less _ _ w))
              (gap_above _ _ (times_nearer k d v b big (parts v b mv (end_there a b))))
              (gap_above _ _ (times_nearer k d v a big (parts v a mv (start_there a b))))
              (weights_from d (times k v) X (times k b) (times k a) (product d (times k v)))
        ]
      ]
    where
      k : ℤ
      k = total S T h

      X : Pair
      X = common S T h

      big : pos 0 <ℤ total S T h
      big = total_above S T h

      clash : (x y z : ℤ) → y ≡ z → x <ℤ z → pos 0 <ℤ (x -ℤ y) → ⊥
      clash x y z e l m = omega (arith, ints)

-- ---- an edge is passed

-- between a vertex with the property Q and one without it, round the list, Q ends at an edge
ends_ahead : (V : List Pair) (Q : Pair → Type 0) → ((p : Pair) → Q p ⊎ ¬ Q p) → (i j : ℕ) → i < j → j ≤ length V
    → Q (vertex V i) → ¬ Q (vertex V j)
    → (m : ℕ) × (m < length V) × Q (vertex V m) × ¬ Q (vertex V (m + 1))
ends_ahead V Q returned i j l n q f =
    let r = switch_of (λ k. Q (vertex V k)) (λ k. returned (vertex V k)) (j - i) i j (omega (arith, l)) in
    let t = r.1 in
    let past : ¬ Q (vertex V r.0) =
    elim (cases_lt r.0 j) [
      | inl h ↦ t.fails h
      | inr h ↦ subst (λ (k : ℕ). ¬ Q (vertex V k)) (omega (arith, h, t.to)) f
    ] in
    let moved : i < r.0 =
    elim (cases_lt i r.0) [
      | inl h ↦ h
      | inr h ↦ absurd (past (subst (λ (k : ℕ). Q (vertex V k)) (omega (arith, h, t.from)) q))
    ] in (
      r.0 - 1,
      omega (arith, moved, t.to, n),
      t.held moved,
      subst (λ (k : ℕ). ¬ Q (vertex V k)) (omega (arith, moved)) past,
    )

-- the same for any two such vertices
ends_round : (V : List Pair) (Q : Pair → Type 0) → ((p : Pair) → Q p ⊎ ¬ Q p) → (i j : ℕ) → i < length V → j < length V
    → Q (vertex V i) → ¬ Q (vertex V j)
    → (m : ℕ) × (m < length V) × Q (vertex V m) × ¬ Q (vertex V (m + 1))
ends_round V Q returned i j li lj q f = elim (cases_lt i j) [
  | inl l ↦ ends_ahead V Q returned i j l (omega (arith, lj)) q f
  | inr l ↦ elim (returned (vertex V 0)) [
    | inr g ↦ ends_ahead V Q returned i (length V) li (omega arith) q
        (subst (λ (z : Pair). ¬ Q z) (sym (vertex_back V (length V) (omega arith) (omega (arith, li)))) g)
    | inl g ↦ elim (cases_lt 0 j) [
      | inl k ↦ ends_ahead V Q returned 0 j k (omega (arith, lj)) g f
      | inr k ↦ absurd (f (subst (λ (n : ℕ). Q (vertex V n)) (omega (arith, k)) g))
    ]
  ]
]

-- whether a number is below 0 can be decided
below_returned : (x : ℤ) → (x <ℤ pos 0) ⊎ ¬ (x <ℤ pos 0)
below_returned x = less_returned x (pos 0)

-- whether a number is not below 0 can be decided
from_returned : (x : ℤ) → (pos 0 ≤ℤ x) ⊎ ¬ (pos 0 ≤ℤ x)
from_returned x = elim (le_or_lt (pos 0) x) [ inl h ↦ inl h | inr h ↦ inr (λ k. omega (arith, ints)) ]

-- two points that lie as far as a third, when magnified, lie equally far
same_far : {m : ℤ} (k : ℤ) (f p q : Pair) → pos 0 <ℤ k → product f (times k p) ≡ m → product f (times k q) ≡ m
    → product f p ≡ product f q
same_far {m} k f p q big e g =
    equal_by_gap _ _ (cancel_zero (product f p -ℤ product f q) k big
    (spread (product f p) (product f q) k ∙ (omega (arith, ints, times_far k f p, times_far k f q))))
  where
    spread : (x y z : ℤ) → (x -ℤ y) *ℤ z ≡ z *ℤ x -ℤ z *ℤ y
    spread x y z = rw (as_difference x, as_difference y, as_difference z)
        (simp difference_rules (difference-eq _ _ _ _ (omega arith)))

-- if three vertices that bend lie as far, all points do
level_by : (f p c n x : Pair) → pos 0 <ℤ orient p c n → product f n ≡ product f c → product f p ≡ product f c
    → product f x ≡ product f c
level_by f p c n x t en ep =
    equal_by_gap _ _ (cancel_zero (product f x -ℤ product f c) (orient p c n) t
    (*ℤ_comm (product f x -ℤ product f c) (orient p c n) ∙ cone f p c n x
    ∙ ap (λ (z : ℤ). orient p c x *ℤ z +ℤ orient c n x *ℤ (product f p -ℤ product f c)) (none _ _ en)
    ∙ ap (λ (z : ℤ). orient p c x *ℤ pos 0 +ℤ orient c n x *ℤ z) (none _ _ ep) ∙ omega (arith, ints)))
  where
    none : (x y : ℤ) → x ≡ y → x -ℤ y ≡ pos 0
    none x y e = omega (arith, ints)

-- one step to the right
abbrev east : Pair → Pair
east c = record { x = c.x +ℤ pos 1; y = c.y }

-- one step up
abbrev north : Pair → Pair
north c = record { x = c.x; y = c.y +ℤ pos 1 }

-- how far a step to the right goes
step_east : (f c : Pair) → product f (east c) -ℤ product f c ≡ f.x
unfolding product
step_east f c =
    rw (as_pair f, as_pair c, as_difference (pos 1)) (simp difference_rules (difference-eq _ _ _ _ (omega arith)))

-- how far a step up goes
step_north : (f c : Pair) → product f (north c) -ℤ product f c ≡ f.y
unfolding product
step_north f c =
    rw (as_pair f, as_pair c, as_difference (pos 1)) (simp difference_rules (difference-eq _ _ _ _ (omega arith)))

-- a rotated step that goes nowhere is one between a point and itself
turned_nothing : (a b c : Pair) → product (left_of a b) (east c) ≡ product (left_of a b) c
    → product (left_of a b) (north c) ≡ product (left_of a b) c → b ≡ a
turned_nothing a b c e n =
    same_pair b a (omega (arith, ints, step_north (left_of a b) c)) (omega (arith, ints, step_east (left_of a b) c))

module _ (S T W : List Pair) (last : ℕ) (o : IsPolygonOf T W) (p : IsSeparated W last) (many : 2 < length W)
    (h : Shared S T) (v g : Pair) (mv : Contains S v)
    (free : (t : Pair) → Contains T t → product g t <ℤ product g v) where
  -- the side of the step from v on which a point of T lies
  at : Pair → ℤ
  at c = side S T h v g mv free c

  -- the side is how far it lies to the left
  at_is : (c : Pair)
      → product (left_of (times (total S T h) v) (common S T h)) (times (total S T h) c)
      -ℤ product (left_of (times (total S T h) v) (common S T h)) (times (total S T h) v)
      ≡ at c
  unfolding at side
  at_is c = product_left (times (total S T h) v) (common S T h) (times (total S T h) c)

  -- the common point lies on the line of that step
  on_way : product (left_of (times (total S T h) v) (common S T h)) (common S T h)
      ≡ product (left_of (times (total S T h) v) (common S T h)) (times (total S T h) v)
  on_way = equal_by_none _ _ _ (product_left (times (total S T h) v) (common S T h) (common S T h))
      (orient_end (times (total S T h) v) (common S T h))

  -- some vertex does not lie right of that line
  some_left : (i : ℕ) × (i < length W) × (pos 0 ≤ℤ at (vertex W i))
  some_left =
      let k : ℤ = total S T h in
      let K : Pair = left_of (times k v) (common S T h) in
      let r = farthest_vertex T W last K o p (omega (arith, many)) in
      let j = placed W r.0 (omega (arith, many)) in
      let c : Pair = vertex W r.0 in (
        j.0,
        j.1,
        subst (λ (z : Pair). pos 0 ≤ℤ at z) j.2
            (left_by _ _ _ _ _ (at_is c) on_way (times_far k K c)
            (most_of_T S T h K (product K c) (λ t mt. All-contains (λ z. product K z ≤ℤ product K c) T t r.1.1 mt))),
      )
    where
      left_by : (x y z u w : ℤ) → x -ℤ y ≡ z → u ≡ y → x ≡ w → u ≤ℤ w → pos 0 ≤ℤ z
      left_by x y z u w e f g l = omega (arith, ints)

  -- some vertex does not lie left of that line
  some_right : (i : ℕ) × (i < length W) × (at (vertex W i) ≤ℤ pos 0)
  some_right =
      let k : ℤ = total S T h in
      let K : Pair = left_of (times k v) (common S T h) in
      let r = farthest_vertex T W last (opp K) o p (omega (arith, many)) in
      let j = placed W r.0 (omega (arith, many)) in
      let c : Pair = vertex W r.0 in (
        j.0,
        j.1,
        subst (λ (z : Pair). at z ≤ℤ pos 0) j.2
            (right_by _ _ _ _ _ _ _ (at_is c) on_way (product-opp K (times k c)) (times_far k (opp K) c)
            (product-opp K (common S T h))
            (most_of_T S T h (opp K) (product (opp K) c)
            (λ t mt. All-contains (λ z. product (opp K) z ≤ℤ product (opp K) c) T t r.1.1 mt))),
      )
    where
      right_by : (x y z u w n m : ℤ) → x -ℤ y ≡ z → u ≡ y → n ≡ neg_ℤ x → n ≡ w → m ≡ neg_ℤ u → m ≤ℤ w → z ≤ℤ pos 0
      right_by x y z u w n m e f g h i l = omega (arith, ints)

  -- not all vertices lie on it
  not_level : ((i : ℕ) → i < length W → at (vertex W i) ≡ pos 0) → ⊥
  not_level level =
      let k : ℤ = total S T h in
      let big : pos 0 <ℤ k = total_above S T h in
      let K : Pair = left_of (times k v) (common S T h) in
      let b = previous_at W 0 (omega (arith, many)) in
      let P : Pair = previous W 0 in
      let C : Pair = vertex W 0 in
      let N : Pair = vertex W 1 in
      let n : product K N ≡ product K C =
      same_far k K N C big (flat N (level 1 (omega (arith, many)))) (flat C (level 0 (omega (arith, many)))) in
      let q : product K P ≡ product K C =
      same_far k K P C big (flat P (rw (b.3) (level b.0 b.1))) (flat C (level 0 (omega (arith, many)))) in
      let all : (x : Pair) → product K x ≡ product K C =
      λ x. level_by K P C N x (bends_at T W 0 o.1 (omega (arith, many)) many) n q in
      let e : common S T h ≡ times k v = turned_nothing (times k v) (common S T h) C (all (east C)) (all (north C)) in
      omega (arith, ints, times_far k g v, ap (product g) e, less_than_T S T h g (product g v) free)
    where
      flat : (c : Pair) → at c ≡ pos 0
          → product (left_of (times (total S T h) v) (common S T h)) (times (total S T h) c)
          ≡ product (left_of (times (total S T h) v) (common S T h)) (times (total S T h) v)
      flat c z = equal_by_none _ _ _ (at_is c) z

  -- some edge is passed
  passed : (m : ℕ) × (m < length W) × (pos 0 ≤ℤ at (vertex W m)) × (at (vertex W (m + 1)) ≤ℤ pos 0)
      × (at (vertex W (m + 1)) <ℤ at (vertex W m))
  passed = elim (search_below (λ i. at (vertex W i) <ℤ pos 0) (λ i. below_returned (at (vertex W i))) (length W)) [
    | inl b ↦
        let a = some_left in
        let m = ends_round W (λ z. pos 0 ≤ℤ at z) (λ z. from_returned (at z)) a.0 b.0 a.1 b.1 a.2
        (omega (arith, ints, b.2)) in
        (m.0, m.1, m.2, np_below _ (not_at_most (pos 0) _ m.3), (omega (arith, ints, not_at_most (pos 0) _ m.3, m.2)))
    | inr none ↦ elim (search_below (λ i. pos 0 <ℤ at (vertex W i)) (λ i. less_returned (pos 0) (at (vertex W i)))
        (length W)) [
          | inl a ↦
              let b = some_right in
              let m = ends_round W (λ z. pos 0 <ℤ at z) (λ z. less_returned (pos 0) (at z)) a.0 b.0 a.1 b.1 a.2
              (omega (arith, ints, b.2)) in
              (m.0, m.1, nn_above _ m.2, not_less (pos 0) _ m.3, (omega (arith, ints, not_less (pos 0) _ m.3, m.2)))
          | inr flat ↦ absurd (not_level (λ i l. zero_between _ (not_less _ (pos 0) (none i l)) (not_less (pos 0) _ (flat i l))))
        ]
  ]

  -- if all edges are disjoint from S there is no common point
  pub none_shared : ((i : ℕ) → i < length W → AreDisjoint S (segment (vertex W i) (vertex W (i + 1)))) → ⊥
  unfolding side at
  none_shared edges =
      let m = passed in
      let e = edges m.0 m.1 in
      not_passed S T h v g mv free (vertex W m.0) (vertex W (m.0 + 1)) e.0
      (vertex_extreme T W m.0 o.1 (omega (arith, many))).0
      (vertex_extreme T W (m.0 + 1) o.1 (omega (arith, many))).0
      (next_left T W m.0 (m.0 + 1) o.1 refl m.1) e.1 m.2 m.3 m.4
