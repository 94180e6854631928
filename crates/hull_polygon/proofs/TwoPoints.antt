-- The two ends of a segment in order, and a single end, are the polygon of their set.
use Rattle.std.proofs.Common.{◌≡◌, ℕ, zero, suc, ◌<◌, ◌≤◌, List, [], ◌∷◌, length, take, inl, inr, refl, sym, ap, ◌∙◌, subst}
use Rattle.std.proofs.Common.{ℤ, ◌≤ℤ◌, get_or, arith}
use Rattle.std.proofs.lemmas.Int.{ints}
use Rattle.lattice.specs.Covers.{IsExtreme, IsPointSet}
use Rattle.lattice.specs.Places.{IsFarthest}
use Rattle.lattice.specs.Plane.{Pair, IsBefore, product}
use Rattle.lattice.proofs.Order.{before_irrefl, before_not, before_total, is_before-true, is_before-false}
use Rattle.hull_geometry.specs.Positions.{point_at}
use Rattle.hull_geometry.proofs.Rounding.{small_list}
use Rattle.hull_geometry.proofs.SetLaws.{ordered_with}
use Rattle.hull_polygon.specs.Polygons.{IsPolygonOf}
use Rattle.hull_polygon.specs.Rounds.{GoesOn, BendsLeft, IsSeparated, IsRound}
use Rattle.hull_polygon.specs.Segments.{ends}
use Rattle.hull_polygon.proofs.Made.{own_polygon}
use Rattle.hull_polygon.proofs.Vertices.{vertex_extreme}

-- ---- the set of the ends

-- the set of two points in order is both
pub ends_in_order : (p q : Pair) → IsBefore p q → ends p q ≡ p ∷ q ∷ []
ends_in_order p q b = rw (is_before-false q p (before_not p q b), is_before-true p q b) refl

-- the set of two points in reversed order is both
pub ends_turned : (p q : Pair) → IsBefore q p → ends p q ≡ q ∷ p ∷ []
ends_turned p q b = rw (is_before-true q p b) refl

-- the set of one point twice is that one
pub ends_alone : (p : Pair) → ends p p ≡ p ∷ []
ends_alone p = rw (is_before-false p p (before_irrefl p)) refl

-- the set of the ends is in order
ends_ordered : (a b : Pair) → IsPointSet (ends a b)
ends_ordered a b = ordered_with a (b ∷ []) (λ i j d h n. absurd (omega (arith, h, n)))

-- ---- its polygon

two_steps : (p q : Pair) → IsBefore p q → (i : ℕ) → i < length (p ∷ q ∷ []) → GoesOn (p ∷ q ∷ []) 1 i
two_steps p q b zero l = (λ k. b, λ k. absurd (omega (arith, k)))
two_steps p q b (suc zero) l = (λ k. absurd (omega (arith, k)), λ k. b)
two_steps p q b (suc (suc i)) l = absurd (omega (arith, l))

two_bends : (p q : Pair) (i : ℕ) → i < length (p ∷ q ∷ []) → BendsLeft (p ∷ q ∷ []) 1 i
two_bends p q zero l = λ n k. absurd (n (omega arith))
two_bends p q (suc zero) l = λ n k. absurd (omega (arith, k))
two_bends p q (suc (suc i)) l = absurd (omega (arith, l))

-- two points in order are a round
two_round : (p q : Pair) → IsBefore p q → IsRound (p ∷ q ∷ []) 1
two_round p q b = record {
  starts = omega arith;
  within = omega arith;
  steps = two_steps p q b;
  bends = two_bends p q;
}

-- the last one of two points in order is at index 1
two_separated : (p q : Pair) → IsBefore p q → IsSeparated (p ∷ q ∷ []) 1
two_separated p q b = (λ n. omega arith, λ n. two_round p q b)

-- they are the polygon of their set
two_polygon : (p q : Pair) → IsBefore p q → IsPointSet (p ∷ q ∷ []) → IsPolygonOf (p ∷ q ∷ []) (p ∷ q ∷ [])
two_polygon p q b s = (s, own_polygon (p ∷ q ∷ []) 1 (two_separated p q b) (p ∷ q ∷ []) s (λ t. (λ m. m, λ m. m)))

-- one point is the polygon of its set
one_polygon : (p : Pair) → IsPointSet (p ∷ []) → IsPolygonOf (p ∷ []) (p ∷ [])
one_polygon p s = (s, small_list (p ∷ []) (omega arith))

-- the ends of a segment are the polygon of their set
pub ends_polygon : (a b : Pair) → IsPolygonOf (ends a b) (ends a b)
ends_polygon a b = elim (before_total a b) [
  | inl h ↦ subst (λ (z : List Pair). IsPolygonOf z z) (sym (ends_in_order a b h))
      (two_polygon a b h (subst IsPointSet (ends_in_order a b h) (ends_ordered a b)))
  | inr (inl e) ↦ subst (λ (z : Pair). IsPolygonOf (ends a z) (ends a z)) e
      (subst (λ (z : List Pair). IsPolygonOf z z) (sym (ends_alone a))
      (one_polygon a (subst IsPointSet (ends_alone a) (ends_ordered a a))))
  | inr (inr h) ↦ subst (λ (z : List Pair). IsPolygonOf z z) (sym (ends_turned a b h))
      (two_polygon b a h (subst IsPointSet (ends_turned a b h) (ends_ordered a b)))
]

-- one point twice is a vertex of its set
pub alone_extreme : (p : Pair) → IsExtreme (ends p p) p
alone_extreme p =
    rw (ends_alone p) (vertex_extreme (p ∷ []) (p ∷ []) 0
    (one_polygon p (subst IsPointSet (ends_alone p) (ends_ordered p p))).1 (omega arith))

-- none of its set is farther
pub alone_farthest : (p d : Pair) → IsFarthest (ends p p) d p
alone_farthest p d = rw (ends_alone p) at
  where
    same : (x : ℤ) → x ≤ℤ x
    same x = omega (arith, ints)

    at : (k : ℕ) (z : Pair) → suc k ≤ 1 → product d (get_or (p ∷ []) k z) ≤ℤ product d p
    at zero z l = same (product d p)
    at (suc k) z l = absurd (omega (arith, l))

-- there are at most two ends
pub ends_few : (a b : Pair) → length (ends a b) ≤ 2
ends_few a b = elim (before_total a b) [
  | inl h ↦ rw (ends_in_order a b h) (omega arith)
  | inr (inl e) ↦ subst (λ (z : Pair). length (ends a z) ≤ 2) e (rw (ends_alone a) (omega arith))
  | inr (inr h) ↦ rw (ends_turned a b h) (omega arith)
]

-- there is at least one end
pub ends_some : (a b : Pair) → ¬ (ends a b ≡ [])
ends_some a b = elim (before_total a b) [
  | inl h ↦ λ e. none _ _ (sym (ends_in_order a b h) ∙ e)
  | inr (inl h) ↦ λ e. none _ _ (sym (ends_alone a) ∙ ap (ends a) h ∙ e)
  | inr (inr h) ↦ λ e. none _ _ (sym (ends_turned a b h) ∙ e)
]
  where
    none : (p : Pair) (S : List Pair) → p ∷ S ≡ [] → ⊥
    none p S e = let l : length (p ∷ S) ≡ 0 = ap length e in omega (arith, l)

-- ---- two points in a list

-- a list of two points is those at 0 and at 1
pub two_of : (V : List Pair) → length V ≡ 2 → V ≡ point_at V 0 ∷ point_at V 1 ∷ []
two_of [] l = absurd (omega (arith, l))
two_of (p ∷ []) l = absurd (omega (arith, l))
two_of (p ∷ q ∷ []) l = refl
two_of (p ∷ q ∷ r ∷ V) l = absurd (omega (arith, l))

-- the first point of such a list is the one at 0
pub one_of_two_points : (V : List Pair) → length V ≡ 2 → take 1 V ≡ point_at V 0 ∷ []
one_of_two_points [] l = absurd (omega (arith, l))
one_of_two_points (p ∷ []) l = absurd (omega (arith, l))
one_of_two_points (p ∷ q ∷ []) l = refl
one_of_two_points (p ∷ q ∷ r ∷ V) l = absurd (omega (arith, l))

-- if two points are equal, the first is the set of both
pub first_alone : (p q : Pair) → ¬ IsBefore p q → ¬ IsBefore q p → p ∷ [] ≡ ends p q
first_alone p q n m = elim (before_total p q) [
  | inl h ↦ absurd (n h)
  | inr (inl e) ↦ sym (ends_alone p) ∙ ap (ends p) e
  | inr (inr h) ↦ absurd (m h)
]
