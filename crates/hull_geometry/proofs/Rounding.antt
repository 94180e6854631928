-- The walk round the hull: the points that it has passed so far. At its end they are the vertex list, and its fan is
-- the doubled area.
use Rattle.std.proofs.lemmas.Grind.{common_steps}
use Rattle.std.proofs.Common.{◌≡◌, ℕ, pos, ◌+ℤ◌, ◌≤ℤ◌, inl, inr, refl, sym, ap, ◌∙◌, subst, List, arith, zero, suc}
use Rattle.std.proofs.Common.{◌<◌, [], ◌∷◌, ◌++◌, length, get_or, ◌-◌}
use Rattle.std.specs.List.{Contains}
use Rattle.std.proofs.lemmas.Bool.{cases_lt}
use Rattle.std.proofs.lemmas.Int.{ints}
use Rattle.std.proofs.lemmas.List.Elements.{All-contains, All-cons}
use Rattle.lattice.specs.Covers.{IsPointSet, IsExtreme}
use Rattle.lattice.specs.Plane.{Pair, orient, IsBefore}
use Rattle.lattice.specs.Vertices.{IsVertexList, fan}
use Rattle.hull_geometry.specs.Edges.{IsLowerEdge, end_of, IsFirst, IsLast}
use Rattle.hull_geometry.specs.Positions.{origin, point_at}
use Rattle.hull_geometry.proofs.Chains.{first_extreme}
use Rattle.lattice.proofs.Order.{before_irrefl, before_not}
use Rattle.lattice.proofs.Numbers.{nn_zero}
use Rattle.hull_geometry.proofs.Orientation.{at_least, orient-cycle}
use Rattle.lattice.proofs.LineCrossings.{orient_start}
use Rattle.hull_geometry.proofs.PointLists.{AllPairs-cons, AllPairs-none, get_or_free, only_member}

-- the point at index 0 is the first
pub least : (S : List Pair) → IsPointSet S → IsFirst S (point_at S 0)
least S s p (zero, l, e) b = before_irrefl p (subst (IsBefore p) (get_or_free S 0 origin p l ∙ e) b)
least S s p (suc k, l, e) b =
    before_not p (point_at S 0) b
    (subst (IsBefore (point_at S 0)) (get_or_free S (suc k) origin p l ∙ e) (s 0 (suc k) origin (omega arith) l))

-- the point at the last index is the last
pub greatest : (S : List Pair) → IsPointSet S → IsLast S (point_at S (length S - 1))
greatest S s p (k, l, e) b =
    let q : get_or S k origin ≡ p = get_or_free S k origin p l ∙ e in
    elim (cases_lt k (length S - 1)) [
      | inl h ↦ before_not (point_at S (length S - 1)) p b
          (subst (λ (z : Pair). IsBefore z (point_at S (length S - 1))) q (s k (length S - 1) origin h (omega arith)))
      | inr h ↦ let n : length S - 1 ≡ k = omega arith in
          before_irrefl p (subst (λ (z : Pair). IsBefore z p) (ap (λ (z : ℕ). point_at S z) n ∙ q) b)
    ]

-- a walk is its points but the last, and its end
pub front_of : (v w : Pair) (vs : List Pair) → end_of v vs ≡ w → (front : List Pair) × (v ∷ vs ≡ front ++ w ∷ [])
front_of v w [] e = ([], ap (λ (z : Pair). z ∷ []) e)
front_of v w (x ∷ xs) e = let r = front_of x w xs e in (v ∷ r.0, ap (λ (z : List Pair). v ∷ z) r.1)

-- the fan of two walks, one after the other, is the sum of their fans
pub fan-append : (f u : Pair) (xs ys : List Pair) → fan f u (xs ++ ys) ≡ fan f u xs +ℤ fan f (end_of u xs) ys
fan-append f u [] ys = omega (arith, ints)
fan-append f u (x ∷ xs) ys = let e = fan-append f x xs ys in omega (arith, ints)

-- a step back to the vertex of the fan adds nothing
pub fan-back : (f u : Pair) (xs : List Pair) → fan f u (xs ++ f ∷ []) ≡ fan f u xs
fan-back f u xs = grind (arith, common_steps, fan-append, orient, end_of, pos, orient_start, ints)

-- one more point of a walk adds a triangle
pub fan-push : (f u w : Pair) (xs : List Pair) → fan f u (xs ++ w ∷ []) ≡ fan f u xs +ℤ orient f (end_of u xs) w
fan-push f u w xs = let e = fan-append f u xs (w ∷ []) in omega (arith, ints)

-- the triangle from the first point to a lower edge does not bend right
pub lower_triangle : (S : List Pair) (u v t : Pair) → IsLowerEdge S u v → Contains S t → pos 0 ≤ℤ orient t u v
lower_triangle S u v t e m = at_least _ _ (orient-cycle u v t) (All-contains (λ z. pos 0 ≤ℤ orient u v z) S t e.left m)

-- the point of a set of one is extreme
alone_extreme : (v p : Pair) → Contains (v ∷ []) p → IsExtreme (v ∷ []) p
alone_extreme v p m =
    subst (IsExtreme (v ∷ [])) (sym (only_member v p m))
    (first_extreme (v ∷ []) v (AllPairs-cons v [] (λ k d l. absurd (omega (arith, l))) AllPairs-none)
    (0, omega arith, refl)
    (λ t i b. before_irrefl v (subst (λ (z : Pair). IsBefore z v) (only_member v t i) b)))

-- a set of at most one point is its own vertex list
pub small_list : (S : List Pair) → length S < 2 → IsVertexList S S
small_list [] l = record {
  distinct = λ i j d h k. absurd (omega (arith, k));
  members = λ p. ((λ m. absurd (omega (arith, m.1))), λ x. x.0);
  order = tt;
}
small_list (v ∷ []) l = record {
  distinct = λ i j d h k. absurd (omega (arith, h, k));
  members = λ p. ((λ m. alone_extreme v p m), λ x. x.0);
  order = (
    All-cons (λ t. pos 0 ≤ℤ orient v v t) v [] (nn_zero _ (orient_start v v))
        (λ k d h. absurd (omega (arith, h))),
    λ k d h. absurd (omega (arith, h)),
  );
}
small_list (v ∷ w ∷ vs) l = absurd (omega (arith, l))

-- the first point of a list that is not empty is a member
pub first_there : (S : List Pair) → 0 < length S → Contains S (point_at S 0)
first_there S l = (0, l, get_or_free S 0 _ origin l)
