-- The result of a ray from a point: when a set covers the point on its way, and that it does not.
use Rattle.std.proofs.Common.{◌≡◌, ℕ, zero, suc, ◌+◌, ◌*◌, ◌<◌, ◌≤◌, ℤ, pos, ◌+ℤ◌, ◌-ℤ◌, ◌*ℤ◌, ◌≤ℤ◌, ◌<ℤ◌, inl, inr, refl, sym, subst}
use Rattle.std.proofs.Common.{List, [], ◌∷◌, Bool, arith}
use Rattle.std.specs.List.{Contains}
use Rattle.std.proofs.lemmas.Int.{ints}
use Rattle.std.proofs.Math.Nat.{mul-le-mul_right}
use Rattle.lattice.specs.Plane.{Pair, product}
use Rattle.lattice.specs.Polynomials.{difference-eq, as_difference, difference_rules}
use Rattle.lattice.specs.Signs.{product_pp, product_nn}
use Rattle.lattice.proofs.Order.{before_total, before_apart, after_apart}
use Rattle.hull_geometry.proofs.NotCovered.{not_covered}
use Rattle.hull_geometry.proofs.PointLists.{all_of}
use Rattle.hull_polygon.specs.Closest.{magnified}
use Rattle.hull_polygon.specs.Raycasts.{IsEntry, IsHit, MissesRay, moved, on_way, part_of, whole_of}
use Rattle.hull_polygon.specs.Steps.{step}
use Rattle.hull_polygon.specs.declared.raycasts.Entry.{Entry}
use Rattle.hull_polygon.specs.declared.raycasts.Entry.TheVariants.{Start, Edge, Vertex}
use Rattle.hull_polygon.specs.declared.raycasts.Hit.{Hit}
use Rattle.hull_polygon.proofs.Casting.{none_before}
use Rattle.hull_polygon.proofs.Separated.{way_on}
use Rattle.first_meeting.specs.Arrivals.{ArrivesFirst, CoversAfter, NoneArrives}
use Rattle.first_meeting.proofs.Earlier.{image_of}
use Rattle.first_meeting.proofs.Reached.{times, product_times}

-- ---- a ray that misses

-- how far a point of the way lies in a direction
way_along : (d a b : Pair) (k n : ℕ)
    → product d (on_way k n a b) ≡ pos k *ℤ product d a +ℤ pos n *ℤ (product d b -ℤ product d a)
unfolding product
way_along d a b k n = parts d.x d.y a.x a.y b.x b.y (pos k) (pos n)
  where
    parts : (u v x y z w k n : ℤ)
        → u *ℤ (k *ℤ x +ℤ n *ℤ (z -ℤ x)) +ℤ v *ℤ (k *ℤ y +ℤ n *ℤ (w -ℤ y))
        ≡ k *ℤ (u *ℤ x +ℤ v *ℤ y) +ℤ n *ℤ ((u *ℤ z +ℤ v *ℤ w) -ℤ (u *ℤ x +ℤ v *ℤ y))
    parts u v x y z w k n =
        rw (
          as_difference u,
          as_difference v,
          as_difference x,
          as_difference y,
          as_difference z,
          as_difference w,
          as_difference k,
          as_difference n,
        ) (simp difference_rules (difference-eq _ _ _ _ (omega arith)))

-- a set that a ray misses covers no point of it
pub never_covered : (T : List Pair) (d a : Pair) (n k : ℕ) → MissesRay T a (moved a d) → 0 < k → ¬ CoversAfter T d a n k
never_covered T d a n k (e, near, far) hk c =
    not_covered (magnified k T) (on_way k n a (moved a d)) (
      e,
      all_of (λ t. product e t <ℤ product e (on_way k n a (moved a d))) (magnified k T) (λ t m. before t (image_of (times k) T t m)),
    ) c
  where
    less : (x y z w u : ℤ) → x <ℤ y → y ≤ℤ z → u ≡ pos k *ℤ y +ℤ pos n *ℤ (z -ℤ y) → w ≡ pos k *ℤ x → w <ℤ u
    less x y z w u h l e f =
        let p = product_pp (pos k) (y -ℤ x) (omega (arith, ints)) (omega (arith, ints)) in
        let q = product_nn (pos n) (z -ℤ y) (omega (arith, ints)) (omega (arith, ints)) in
        omega (arith, ints, spread (pos k) y x, e, f)
      where
        spread : (k u v : ℤ) → k *ℤ (u -ℤ v) ≡ k *ℤ u -ℤ k *ℤ v
        spread k u v = rw (as_difference k, as_difference u, as_difference v)
            (simp difference_rules (difference-eq _ _ _ _ (omega arith)))

    before : (t : Pair) → ((s : Pair) × Contains T s × (t ≡ times k s)) → product e t <ℤ product e (on_way k n a (moved a d))
    before t (s, m, i) = subst (λ (z : Pair). product e z <ℤ product e (on_way k n a (moved a d))) (sym i)
        (less _ _ _ _ _ (near s m) far (way_along e a (moved a d) k n) (product_times k e s))

-- ---- a ray that hits

-- a member of one is that
pub only_one : (v a : Pair) → Contains (v ∷ []) a → a ≡ v
only_one v a (zero, l, e) = sym e
only_one v a (suc i, l, e) = absurd (omega (arith, l))

-- no part of the way before the hit is covered
pub none_sooner : (T : List Pair) (d a : Pair) (n k : ℕ) (hit : Hit) → IsHit T a (moved a d) hit → CoversAfter T d a n k
    → hit.numerator * k ≤ n * hit.denominator
none_sooner T d a n k hit h c =
    whole_numbers (subst (λ (z : ℤ). (pos k *ℤ z) ≤ℤ (pos n *ℤ pos hit.denominator)) (sym h.part)
    (subst (λ (z : ℤ). (pos k *ℤ part_of a (moved a d) hit.place) ≤ℤ (pos n *ℤ z)) (sym h.whole)
    (none_before T a (moved a d) hit.place k n h.entry c)))
  where
    whole_numbers : pos (k * hit.numerator) ≤ℤ pos (n * hit.denominator) → hit.numerator * k ≤ n * hit.denominator
    whole_numbers l = omega (arith, ints)

-- no point lies any way along no step
still : (c a : Pair) → product (step a a) c ≡ pos 0
unfolding product
still c a = nothing a.x a.y c.x c.y
  where
    none : (x : ℤ) → x -ℤ x ≡ pos 0
    none x = omega (arith, ints)

    no_product : (u v : ℤ) → pos 0 *ℤ u +ℤ pos 0 *ℤ v ≡ pos 0
    no_product u v = omega (arith, ints)

    nothing : (x y u v : ℤ) → (x -ℤ x) *ℤ u +ℤ (y -ℤ y) *ℤ v ≡ pos 0
    nothing x y u v = rw (none x, none y) (no_product u v)

-- the length of the way is above 0
whole_above : (T : List Pair) (a b : Pair) (place : Entry) → IsEntry T a b place → pos 0 <ℤ whole_of a b place
whole_above T a b Start h = omega (arith, ints)
whole_above T a b (Edge p q) h = h.0.across
whole_above T a b (Vertex c) h = elim (before_total a b) [
  | inr (inl e) ↦ absurd (no_step c e h.ahead)
  | inl l ↦ gap _ _ (way_on a b (before_apart a b l))
  | inr (inr l) ↦ gap _ _ (way_on a b (after_apart a b l))
]
  where
    gap : (x y : ℤ) → x <ℤ y → pos 0 <ℤ (y -ℤ x)
    gap x y h = omega (arith, ints)

    no_step : (c : Pair) → a ≡ b → product (step a b) a <ℤ product (step a b) c → ⊥
    no_step c e l = let l2 = subst (λ (z : Pair). product (step a z) a <ℤ product (step a z) c) (sym e) l in
        omega (arith, ints, still a a, still c a, l2)

-- the denominator of a hit is above 0
pub denominator_above : (T : List Pair) (a b : Pair) (hit : Hit) → IsHit T a b hit → 0 < hit.denominator
denominator_above T a b hit h = above hit.denominator _ h.whole (whole_above T a b hit.place h.entry)
  where
    above : (n : ℕ) (z : ℤ) → pos n ≡ z → pos 0 <ℤ z → 0 < n
    above n z e h = omega (arith, ints)

-- ---- one point

-- if the ray misses, the point does not arrive
pub missed_one : (T : List Pair) (d v : Pair) → MissesRay T v (moved v d) → NoneArrives T d (v ∷ [])
missed_one T d v h a n k m hk l c =
    never_covered T d v n k h hk (subst (λ (z : Pair). CoversAfter T d z n k) (only_one v a m) c)

-- if it hits beyond the motion, neither
pub beyond_one : (T : List Pair) (d v : Pair) (hit : Hit) → IsHit T v (moved v d) hit → hit.denominator < hit.numerator
    → NoneArrives T d (v ∷ [])
beyond_one T d v hit h l a n k m hk nk c =
    clash hit.numerator hit.denominator
    (none_sooner T d v n k hit h (subst (λ (z : Pair). CoversAfter T d z n k) (only_one v a m) c)) l
  where
    clash : (x y : ℕ) → x * k ≤ n * y → y < x → ⊥
    clash x y h l =
        let a : (y + 1) * k ≤ x * k = mul-le-mul_right k (omega arith) in
        let b : n * y ≤ k * y = mul-le-mul_right y nk in omega (arith, a, b)

-- and else the point arrives first of all
pub hit_one : (T : List Pair) (d v : Pair) (hit : Hit) (moves : Bool) → IsHit T v (moved v d) hit → hit.numerator ≤ hit.denominator
    → ArrivesFirst T d (v ∷ []) record { vertex = v; moves = moves; hit = hit }
hit_one T d v hit moves h l = record {
  there = (0, omega arith, refl);
  hit = h;
  within = l;
  first = λ a n k m hk c. none_sooner T d v n k hit h (subst (λ (z : Pair). CoversAfter T d z n k) (only_one v a m) c);
}
