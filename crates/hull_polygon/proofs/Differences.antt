-- Two sets are separated, or they share a point: a weighted sum of points of the one that is one of the other with the
-- same weights.
use Rattle.std.proofs.Common.{◌≡◌, zero, suc, ℤ, pos, ◌+ℤ◌, ◌-ℤ◌, ◌*ℤ◌, ◌≤ℤ◌, ◌<ℤ◌, ◌⊎◌, inl, inr, refl, sym, ap}
use Rattle.std.proofs.Common.{◌∙◌, subst, List, [], ◌∷◌, arith}
use Rattle.std.specs.List.{Contains}
use Rattle.std.proofs.lemmas.Int.{ints}
use Rattle.std.proofs.lemmas.List.Elements.{All-contains}
use Rattle.lattice.specs.Covers.{Covers, Member, OnSegment, InTriangle, IsOnSegment, IsInTriangle, IsBetween}
use Rattle.lattice.specs.Covers.{IsPointSet, with_point}
use Rattle.lattice.specs.Plane.{Pair, orient, product}
use Rattle.lattice.specs.Polynomials.{difference-eq, as_difference, difference_rules}
use Rattle.lattice.specs.Signs.{product_nn}
use Rattle.lattice.proofs.Vectors.{as_pair, minus}
use Rattle.hull_geometry.specs.Positions.{origin}
use Rattle.hull_geometry.proofs.Decided.{covers_or_separated}
use Rattle.hull_geometry.proofs.PointLists.{AllPairs-none, later}
use Rattle.hull_geometry.proofs.SetLaws.{ordered_with, members_with}
use Rattle.hull_polygon.specs.Meetings.{AreDisjoint}
use Rattle.hull_polygon.proofs.NearestOf.{step_back}
use Rattle.hull_polygon.proofs.Separated.{way_on}
use Rattle.hull_polygon.specs.Steps.{step}
use Rattle.lattice.proofs.Order.{before_total, before_apart, after_apart}
use Rattle.hull_geometry.proofs.Orientation.{orient-sum, above, at_least, orient-cycle}
use Rattle.lattice.proofs.Numbers.{sum_nn}
use Rattle.hull_geometry.proofs.EdgeSteps.{product_same}
use Rattle.lattice.proofs.Lines.{times_zero}
use Rattle.hull_polygon.proofs.Shields.{between_back}

-- ---- the differences of the points of two sets

-- the differences of s and each point of T, added to others
from_one : Pair → List Pair → List Pair → List Pair
from_one s [] D = D
from_one s (t ∷ ts) D = with_point (minus s t) (from_one s ts D)

-- the differences of each point of S and each point of T
differences : List Pair → List Pair → List Pair
differences [] T = []
differences (s ∷ ss) T = from_one s T (differences ss T)

-- the differences are in order
from_one_ordered : (s : Pair) (T D : List Pair) → IsPointSet D → IsPointSet (from_one s T D)
unfolding from_one
from_one_ordered s [] D o = o
from_one_ordered s (t ∷ ts) D o = ordered_with (minus s t) (from_one s ts D) (from_one_ordered s ts D o)

-- all differences are in order
differences_ordered : (S T : List Pair) → IsPointSet (differences S T)
unfolding differences
differences_ordered [] T = AllPairs-none
differences_ordered (s ∷ ss) T = from_one_ordered s T (differences ss T) (differences_ordered ss T)

-- a difference that was there stays
from_one_keeps : (s : Pair) (T D : List Pair) (x : Pair) → Contains D x → Contains (from_one s T D) x
unfolding from_one
from_one_keeps s [] D x m = m
from_one_keeps s (t ∷ ts) D x m = (members_with (minus s t) x (from_one s ts D)).1 (inr (from_one_keeps s ts D x m))

-- each difference from s is there
from_one_has : (s : Pair) (T D : List Pair) (t : Pair) → Contains T t → Contains (from_one s T D) (minus s t)
unfolding from_one
from_one_has s [] D t (i, l, e) = absurd (omega (arith, l))
from_one_has s (u ∷ us) D t (zero, l, e) =
    (members_with (minus s u) (minus s t) (from_one s us D)).1 (inl (ap (minus s) (sym e)))
from_one_has s (u ∷ us) D t (suc i, l, e) =
    (members_with (minus s u) (minus s t) (from_one s us D)).1 (inr (from_one_has s us D t (i, omega (arith, l), e)))

-- each difference of all is there
differences_have : (S T : List Pair) (s t : Pair) → Contains S s → Contains T t → Contains (differences S T) (minus s t)
unfolding differences
differences_have [] T s t (i, l, e) mt = absurd (omega (arith, l))
differences_have (u ∷ us) T s t (zero, l, e) mt =
    subst (λ (z : Pair). Contains (from_one u T (differences us T)) (minus z t)) e
    (from_one_has u T (differences us T) t mt)
differences_have (u ∷ us) T s t (suc i, l, e) mt =
    from_one_keeps u T (differences us T) (minus s t) (differences_have us T s t (i, omega (arith, l), e) mt)

-- a point of S and one of T, and their difference
abbrev IsDifference : List Pair → List Pair → Pair → Type 0
IsDifference S T x = (s : Pair) × (t : Pair) × Contains S s × Contains T t × (x ≡ minus s t)

-- each member is a difference from s, or was there
from_one_only : (s : Pair) (T D : List Pair) (x : Pair) → Contains (from_one s T D) x
    → ((t : Pair) × Contains T t × (x ≡ minus s t)) ⊎ Contains D x
unfolding from_one
from_one_only s [] D x m = inr m
from_one_only s (t ∷ ts) D x m = elim ((members_with (minus s t) x (from_one s ts D)).0 m) [
  | inl e ↦ inl (t, (0, omega arith, refl), e)
  | inr k ↦ elim (from_one_only s ts D x k) [
    | inl r ↦ inl (r.0, later t r.0 ts r.1, r.2)
    | inr d ↦ inr d
  ]
]

-- each member is a difference
differences_only : (S T : List Pair) (x : Pair) → Contains (differences S T) x → IsDifference S T x
unfolding differences
differences_only [] T x (i, l, e) = absurd (omega (arith, l))
differences_only (u ∷ us) T x m = elim (from_one_only u T (differences us T) x m) [
  | inl r ↦ (u, r.0, (0, omega arith, refl), r.1, r.2)
  | inr d ↦ let r = differences_only us T x d in (r.0, r.1, later u r.0 us r.2, r.3, r.4)
]

-- ---- a common point, by weights

-- three points of S and three of T with the same weighted sum, whose weights are not below 0, and not all 0
pub record Shared (S T : List Pair) : Type 0 where
  pub u : ℤ
  pub v : ℤ
  pub w : ℤ
  pub u_nn : pos 0 ≤ℤ u
  pub v_nn : pos 0 ≤ℤ v
  pub w_nn : pos 0 ≤ℤ w
  pub some : pos 0 <ℤ (u +ℤ v +ℤ w)
  pub a : Pair
  pub b : Pair
  pub c : Pair
  pub d : Pair
  pub e : Pair
  pub f : Pair
  pub a_there : Contains S a
  pub b_there : Contains S b
  pub c_there : Contains S c
  pub d_there : Contains T d
  pub e_there : Contains T e
  pub f_there : Contains T f
  pub same_x : u *ℤ a.x +ℤ v *ℤ b.x +ℤ w *ℤ c.x ≡ u *ℤ d.x +ℤ v *ℤ e.x +ℤ w *ℤ f.x
  pub same_y : u *ℤ a.y +ℤ v *ℤ b.y +ℤ w *ℤ c.y ≡ u *ℤ d.y +ℤ v *ℤ e.y +ℤ w *ℤ f.y

-- if weighted differences sum to 0, the weighted sums are equal
same_sums : (u v w a b c d e f : ℤ) → u *ℤ (a -ℤ d) +ℤ v *ℤ (b -ℤ e) +ℤ w *ℤ (c -ℤ f) ≡ pos 0
    → u *ℤ a +ℤ v *ℤ b +ℤ w *ℤ c ≡ u *ℤ d +ℤ v *ℤ e +ℤ w *ℤ f
same_sums u v w a b c d e f z = let h = spread u v w a b c d e f in omega (arith, ints)
  where
    spread : (u v w a b c d e f : ℤ)
        → u *ℤ (a -ℤ d) +ℤ v *ℤ (b -ℤ e) +ℤ w *ℤ (c -ℤ f)
        ≡ (u *ℤ a +ℤ v *ℤ b +ℤ w *ℤ c) -ℤ (u *ℤ d +ℤ v *ℤ e +ℤ w *ℤ f)
    spread u v w a b c d e f =
        rw (
          as_difference u,
          as_difference v,
          as_difference w,
          as_difference a,
          as_difference b,
          as_difference c,
          as_difference d,
          as_difference e,
          as_difference f,
        ) (simp difference_rules (difference-eq _ _ _ _ (omega arith)))

-- three differences with weights that sum to 0 are a common point
shared_of : (S T : List Pair) (x y z : Pair) (u v w : ℤ) → IsDifference S T x → IsDifference S T y → IsDifference S T z
    → pos 0 ≤ℤ u → pos 0 ≤ℤ v → pos 0 ≤ℤ w → pos 0 <ℤ (u +ℤ v +ℤ w)
    → u *ℤ x.x +ℤ v *ℤ y.x +ℤ w *ℤ z.x ≡ pos 0 → u *ℤ x.y +ℤ v *ℤ y.y +ℤ w *ℤ z.y ≡ pos 0 → Shared S T
shared_of S T x y z u v w (a, d, ma, md, ex) (b, e, mb, me, ey) (c, f, mc, mf, ez) hu hv hw h zx zy = record {
  u = u;
  v = v;
  w = w;
  u_nn = hu;
  v_nn = hv;
  w_nn = hw;
  some = h;
  a = a;
  b = b;
  c = c;
  d = d;
  e = e;
  f = f;
  a_there = ma;
  b_there = mb;
  c_there = mc;
  d_there = md;
  e_there = me;
  f_there = mf;
  same_x = same_sums u v w a.x b.x c.x d.x e.x f.x (rw (ex, ey, ez) at zx);
  same_y = same_sums u v w a.y b.y c.y d.y e.y f.y (rw (ex, ey, ez) at zy);
}

-- the weights of the origin in a triangle, by x
balance_x : (a b c : Pair)
    → orient origin b c *ℤ a.x +ℤ orient origin c a *ℤ b.x +ℤ orient origin a b *ℤ c.x ≡ pos 0
unfolding orient
balance_x a b c = rw (as_pair a, as_pair b, as_pair c, as_difference (pos 0))
    (simp difference_rules (difference-eq _ _ _ _ (omega arith)))

-- the same by y
balance_y : (a b c : Pair)
    → orient origin b c *ℤ a.y +ℤ orient origin c a *ℤ b.y +ℤ orient origin a b *ℤ c.y ≡ pos 0
unfolding orient
balance_y a b c = rw (as_pair a, as_pair b, as_pair c, as_difference (pos 0))
    (simp difference_rules (difference-eq _ _ _ _ (omega arith)))

-- three differences round the origin are a common point
shared_in_triangle : (S T : List Pair) (a b c : Pair) → IsDifference S T a → IsDifference S T b → IsDifference S T c
    → IsInTriangle a b c origin → Shared S T
shared_in_triangle S T a b c da db dc (t, ab, bc, ca) =
    shared_of S T a b c (orient origin b c) (orient origin c a) (orient origin a b) da db dc
    (at_least _ _ (orient-cycle b c origin) bc) (at_least _ _ (orient-cycle c a origin) ca)
    (at_least _ _ (orient-cycle a b origin) ab)
    (above _ _ (orient-sum a b c origin) t) (balance_x a b c) (balance_y a b c)

-- if 0 is between two numbers, the step from one to the other goes on at the other
onward : (x y : ℤ) → IsBetween x y (pos 0) → pos 0 ≤ℤ ((y -ℤ x) *ℤ y)
onward x y (inl h) = product_nn (y -ℤ x) y (let k = h.0 in let l = h.1 in omega (arith, ints)) h.1
onward x y (inr h) = product_same (y -ℤ x) y (let k = h.0 in let l = h.1 in omega (arith, ints)) h.0

-- if the origin is between two points, the step from one to the other goes on at the other
onward_both : (a b : Pair) → IsBetween a.x b.x (pos 0) → IsBetween a.y b.y (pos 0) → pos 0 ≤ℤ product (step a b) b
unfolding product
onward_both a b hx hy = sum_nn _ _ (onward a.x b.x hx) (onward a.y b.y hy)

-- the weights of two points in line with the origin, by x
flat_x : (a b : Pair)
    → product (step a b) b *ℤ a.x +ℤ product (step b a) a *ℤ b.x +ℤ pos 0 *ℤ a.x ≡ (b.y -ℤ a.y) *ℤ orient origin a b
unfolding orient product
flat_x a b =
    rw (as_pair a, as_pair b, as_difference (pos 0)) (simp difference_rules (difference-eq _ _ _ _ (omega arith)))

-- the same by y
flat_y : (a b : Pair)
    → product (step a b) b *ℤ a.y +ℤ product (step b a) a *ℤ b.y +ℤ pos 0 *ℤ a.y ≡ (a.x -ℤ b.x) *ℤ orient origin a b
unfolding orient product
flat_y a b =
    rw (as_pair a, as_pair b, as_difference (pos 0)) (simp difference_rules (difference-eq _ _ _ _ (omega arith)))

-- a difference that is 0 is a common point
shared_at : (S T : List Pair) (a : Pair) → IsDifference S T a → a.x ≡ pos 0 → a.y ≡ pos 0 → Shared S T
shared_at S T a d zx zy =
    shared_of S T a a a (pos 1) (pos 0) (pos 0) d d d (omega (arith, ints)) (omega (arith, ints)) (omega (arith, ints))
    (omega (arith, ints)) (omega (arith, ints, zx)) (omega (arith, ints, zy))

-- two differences with the origin between them are a common point
shared_on_segment : (S T : List Pair) (a b : Pair) → IsDifference S T a → IsDifference S T b → IsOnSegment a b origin
    → Shared S T
shared_on_segment S T a b da db (z, bx, by) = elim (before_total a b) [
  | inr (inl e) ↦ shared_at S T a da (only a.x b.x (ap (λ (p : Pair). p.x) e) bx)
      (only a.y b.y (ap (λ (p : Pair). p.y) e) by)
  | inl l ↦ apart (before_apart a b l)
  | inr (inr l) ↦ apart (after_apart a b l)
]
  where
    only : (x y : ℤ) → x ≡ y → IsBetween x y (pos 0) → x ≡ pos 0
    only x y e (inl h) = let k = h.0 in let l = h.1 in omega (arith, ints)
    only x y e (inr h) = let k = h.0 in let l = h.1 in omega (arith, ints)

    line : orient origin a b ≡ pos 0
    line = sym (orient-cycle a b origin) ∙ z

    apart : ¬ (a ≡ b) → Shared S T
    apart n =
        shared_of S T a b a (product (step a b) b) (product (step b a) a) (pos 0) da db da (onward_both a b bx by)
        (onward_both b a (between_back _ _ _ bx) (between_back _ _ _ by)) (omega (arith, ints))
        (omega (arith, ints, step_back a b a, way_on a b n))
        (flat_x a b ∙ times_zero _ _ line) (flat_y a b ∙ times_zero _ _ line)

-- how far a difference lies in a direction
difference_along : (d s t : Pair) → product d (minus s t) -ℤ product d origin ≡ product d s -ℤ product d t
unfolding product
difference_along d s t = rw (as_pair d, as_pair s, as_pair t, as_difference (pos 0))
    (simp difference_rules (difference-eq _ _ _ _ (omega arith)))

-- two sets are separated, or share a point
pub separated_or_shared : (S T : List Pair) → AreDisjoint S T ⊎ Shared S T
separated_or_shared S T = elim (covers_or_separated (differences S T) origin (differences_ordered S T)) [
  | inr a ↦ inl (
    a.0,
    λ s t ms mt. less a.0 s t (All-contains (λ x. product a.0 x <ℤ product a.0 origin) (differences S T) (minus s t) a.1
        (differences_have S T s t ms mt)),
  )
  | inl c ↦ inr (covered c)
]
  where
    less : (d s t : Pair) → product d (minus s t) <ℤ product d origin → product d s <ℤ product d t
    less d s t h = omega (arith, ints, difference_along d s t)

    covered : Covers (differences S T) origin → Shared S T
    covered (Member m) = shared_at S T origin (differences_only S T origin m) refl refl
    covered (OnSegment a b ma mb h) =
        shared_on_segment S T a b (differences_only S T a ma) (differences_only S T b mb) h
    covered (InTriangle a b c ma mb mc h) =
        shared_in_triangle S T a b c (differences_only S T a ma) (differences_only S T b mb)
        (differences_only S T c mc) h
