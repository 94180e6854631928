-- The points of a half as a list: its members, their order and their number.
use Rattle.std.proofs.Common.{◌≡◌, zero, suc, ◌≤◌, inl, inr, refl, sym, ap, subst, arith, List, [], ◌∷◌, ◌++◌, length}
use Rattle.std.proofs.Common.{get_or}
use Rattle.std.specs.Prelude.{◌≢◌}
use Rattle.std.specs.List.{Contains}
use Rattle.std.proofs.lemmas.Grind.{common_steps}
use Rattle.std.proofs.lemmas.List.Elements.{Contains-append_left, Contains-append_right, Contains-append_cases}
use Rattle.std.proofs.lemmas.List.Elements.{Contains-get_or}
use Rattle.std.proofs.lemmas.List.Kept.{AllPairs-cons}
use Rattle.lattice.specs.Covers.{IsPointSet}
use Rattle.lattice.specs.Plane.{Pair, IsBefore}
use Rattle.bridge_search.specs.Trees.{Tree, Leaf, Fork, On, IsBridged, size_of}
use Rattle.bridge_search.specs.Leaves.{points_of}

-- a member of the list is a point of the half
pub on_of_contains : (t : Tree) (p : Pair) → Contains (points_of t) p → On t p
on_of_contains (Leaf x) p (zero, l, e) = sym e
on_of_contains (Leaf x) p (suc k, l, e) = absurd (omega (arith, l))
on_of_contains (Fork e f u w) p m =
    elim (Contains-append_cases (points_of u) (points_of w) p m)
    [ inl i ↦ inl (on_of_contains u p i) | inr i ↦ inr (on_of_contains w p i) ]

-- a point of the half is a member of the list
pub contains_of_on : (t : Tree) (p : Pair) → On t p → Contains (points_of t) p
contains_of_on (Leaf x) p h = (0, omega arith, sym h)
contains_of_on (Fork e f u w) p (inl i) = Contains-append_left (points_of u) (points_of w) p (contains_of_on u p i)
contains_of_on (Fork e f u w) p (inr i) = Contains-append_right (points_of u) (points_of w) p (contains_of_on w p i)

-- two sets in a row, the one before the other, are a set
pub sets_in_row : (xs ys : List Pair) → IsPointSet xs → IsPointSet ys
    → ((p q : Pair) → Contains xs p → Contains ys q → IsBefore p q) → IsPointSet (xs ++ ys)
sets_in_row [] ys s t o = t
sets_in_row (x ∷ xs) ys s t o =
    AllPairs-cons IsBefore x (xs ++ ys)
    (λ k d l. elim (Contains-append_cases xs ys (get_or (xs ++ ys) k d) (Contains-get_or (xs ++ ys) k d l))
    [ inl i ↦ ahead _ i | inr i ↦ o x _ (0, omega arith, refl) i ])
    (sets_in_row xs ys (λ i j d lt l. s (suc i) (suc j) d (omega arith) (omega arith)) t
    (λ p q i. o p q (suc i.0, omega (arith, i.1), i.2)))
  where
    ahead : (q : Pair) → Contains xs q → IsBefore x q
    ahead q (k, l, e) = subst (IsBefore x) e (s 0 (suc k) q (omega arith) (omega (arith, l)))

-- the points of a half that keeps the law are in order
pub points_in_order : (t : Tree) → IsBridged t → IsPointSet (points_of t)
points_in_order (Leaf x) h = λ i j d lt l. absurd (omega (arith, lt, l))
points_in_order (Fork e f u w) h =
    sets_in_row (points_of u) (points_of w) (points_in_order u h.3) (points_in_order w h.4)
    (λ p q i j. h.0 p q (on_of_contains u p i) (on_of_contains w q j))

-- a half has at least one point
pub points_not_none : (t : Tree) → points_of t ≢ []
points_not_none t e = absurd (omega (arith, some t, ap length e))
  where
    some : (t : Tree) → 1 ≤ length (points_of t)
    some (Leaf x) = omega arith
    some (Fork e f u w) = grind (arith, common_steps, some u, some w)

-- the list is as long as the half has points
pub size_is_length : (t : Tree) → size_of t ≡ length (points_of t)
size_is_length (Leaf x) = refl
size_is_length (Fork e f u w) = grind (arith, common_steps, size_is_length u, size_is_length w)
