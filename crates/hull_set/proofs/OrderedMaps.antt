-- The results of an ordered map of points, and its keys after a change, in the terms of point sets.
use Rattle.std.proofs.Common.{◌≡◌, ℕ, ℤ, ◌<ℤ◌, inl, inr, refl, sym, ap, ◌∙◌, subst, List, arith, [], ◌∷◌, get_or, true, false}
use Rattle.std.specs.List.{All, Contains}
use Rattle.std.specs.Prelude.{◌↔◌, IsSome}
use Rattle.std.specs.Ordering.{int_cmp, on, then_cmp, is_lt}
use Rattle.std.specs.declared.cmp.Ordering.{Ordering}
use Rattle.std.specs.declared.cmp.Ordering.TheVariants.{Less, Equal, Greater}
use Rattle.std.specs.Cmp.{IsTotalOrder}
use Rattle.std.specs.List.Sorted.{IsSorted}
use Rattle.std.proofs.lemmas.List.Sorted.{sorted_far, ranks_by}
use Rattle.hull_set.specs.PointLists.{IsAscending}
use Rattle.std.specs.BTreeMap.{is_at, insert_entry}
use Rattle.std.specs.Map.{lookup, keys_of, remove_entry}
use Rattle.std.proofs.lemmas.Cmp.{then_total, on_total, int_cmp_total, eq_by_cmp_equiv}
use Rattle.std.proofs.lemmas.Int.{ints}
use Rattle.std.proofs.lemmas.List.Elements.{All-head, All-tail, All-weaker}
use Rattle.std.proofs.lemmas.Map.Views.{tells_apart, Contains-keys_from_lookup, IsSome-lookup_from_Contains}
use Rattle.lattice.specs.Covers.{IsPointSet, with_point, without_point}
use Rattle.lattice.specs.Plane.{Pair, IsBefore}
use Rattle.lattice.proofs.Order.{before_trans, before_irrefl, before_total, before_not, is_before-true, is_before-false}
use Rattle.hull_geometry.proofs.PointLists.{AllPairs-head, AllPairs-tail}

-- the order of two points as values
abbrev pub point_cmp : Pair → Pair → Ordering
point_cmp = then_cmp (on (λ p. p.x) int_cmp) (on (λ p. p.y) int_cmp)

-- a number compares as less than a greater one
cmp_less : (a b : ℤ) → a <ℤ b → int_cmp a b ≡ Less
cmp_less a b h = grind (arith, ints)

-- a number compares as greater than a lesser one
cmp_greater : (a b : ℤ) → b <ℤ a → int_cmp a b ≡ Greater
cmp_greater a b h = grind (arith, ints)

-- equal numbers compare as equal
cmp_equal : (a b : ℤ) → a ≡ b → int_cmp a b ≡ Equal
cmp_equal a b h = grind (arith, ints)

-- a point before another compares as less
pub less : (p q : Pair) → IsBefore p q → point_cmp p q ≡ Less
less p q (inl h) = rw (cmp_less p.x q.x h) refl
less p q (inr h) = rw (cmp_equal p.x q.x h.0, cmp_less p.y q.y h.1) refl

-- a point after another compares as greater
pub greater : (p q : Pair) → IsBefore q p → point_cmp p q ≡ Greater
greater p q (inl h) = rw (cmp_greater p.x q.x h) refl
greater p q (inr h) = rw (cmp_equal p.x q.x (sym h.0), cmp_greater p.y q.y h.1) refl

-- a point compares as equal to itself
pub equal : (p : Pair) → point_cmp p p ≡ Equal
equal p = rw (cmp_equal p.x p.x refl, cmp_equal p.y p.y refl) refl

-- points that compare as equal are equal
pub exact : (p q : Pair) → point_cmp p q ≡ Equal → p ≡ q
exact p q h =
    elim (before_total p q) [
      | inl b ↦ absurd (less_not_equal (sym (less p q b) ∙ h))
      | inr (inl e) ↦ e
      | inr (inr b) ↦ absurd (greater_not_equal (sym (greater p q b) ∙ h))
    ]
  where
    less_not_equal : Less ≡ Equal → ⊥
    less_not_equal e = cc

    greater_not_equal : Greater ≡ Equal → ⊥
    greater_not_equal e = cc

-- the comparison is a total order
pub total : IsTotalOrder point_cmp
total = then_total (on_total (λ (p : Pair). p.x) int_cmp_total) (on_total (λ (p : Pair). p.y) int_cmp_total)

-- a look-up finds the points of the list and no others
pub found_iff : (es : List (Pair × ℕ)) (p : Pair) → IsSome (lookup (is_at (point_cmp p)) es) ↔ Contains (keys_of es) p
found_iff es p =
    (Contains-keys_from_lookup (tells_apart exact) p es, IsSome-lookup_from_Contains (eq_by_cmp_equiv total) p es)

-- inserting p into the list gives the points with p
pub insert_is : (es : List (Pair × ℕ)) (p : Pair) (n : ℕ)
    → keys_of (insert_entry point_cmp es p n) ≡ with_point p (keys_of es)
insert_is [] p n = refl
insert_is ((x, m) ∷ es) p n =
    elim (before_total x p) [
      | inl b ↦ rw (greater p x b, is_before-true x p b) (ap (λ (z : List Pair). x ∷ z) (insert_is es p n))
      | inr (inl e) ↦ subst
          (λ (z : Pair). keys_of (insert_entry point_cmp ((z, m) ∷ es) p n) ≡ with_point p (z ∷ keys_of es))
          (sym e) (rw (equal p, is_before-false p p (before_irrefl p)) refl)
      | inr (inr b) ↦ rw (less p x b, is_before-false x p (before_not p x b), is_before-true p x b) refl
    ]

-- if p is before all, removing p changes nothing
none_removed : (es : List (Pair × ℕ)) (p : Pair) → All (IsBefore p) (keys_of es)
    → keys_of (remove_entry (is_at (point_cmp p)) es) ≡ keys_of es
none_removed [] p h = refl
none_removed ((x, m) ∷ es) p h = rw (less p x (All-head (IsBefore p) x (keys_of es) h))
    (ap (λ (z : List Pair). x ∷ z) (none_removed es p (All-tail (IsBefore p) x (keys_of es) h)))

-- removing p from the list gives the points without p
pub remove_is : (es : List (Pair × ℕ)) (p : Pair) → IsPointSet (keys_of es)
    → keys_of (remove_entry (is_at (point_cmp p)) es) ≡ without_point p (keys_of es)
remove_is [] p s = refl
remove_is ((x, m) ∷ es) p s =
    let ahead : All (IsBefore x) (keys_of es) = AllPairs-head x (keys_of es) s in
    elim (before_total x p) [
      | inl b ↦ rw (greater p x b, is_before-true x p b)
          (ap (λ (z : List Pair). x ∷ z) (remove_is es p (AllPairs-tail x (keys_of es) s)))
      | inr (inl e) ↦ subst
          (λ (z : Pair). keys_of (remove_entry (is_at (point_cmp p)) ((z, m) ∷ es)) ≡ without_point p (z ∷ keys_of es))
          (sym e) (rw (equal p, is_before-false p p (before_irrefl p)) refl)
      | inr (inr b) ↦ rw (less p x b, is_before-false x p (before_not p x b), is_before-true p x b)
          (ap (λ (z : List Pair). x ∷ z)
          (none_removed es p
          (All-weaker (IsBefore x) (IsBefore p) (λ t c. before_trans p x t b c) (keys_of es) ahead)))
    ]

-- a sorted list is ascending
pub ascending : (xs : List Pair) → IsSorted point_cmp xs → IsAscending xs
ascending xs s i j d l m b =
    let f : is_lt (point_cmp (get_or xs j d) (get_or xs i d)) ≡ false =
    sorted_far (λ x y. is_lt (point_cmp x y)) (ranks_by total (λ x. x)) xs s i j d l m in
    reports (rw (less (get_or xs j d) (get_or xs i d) b) at f)
  where
    reports : true ≡ false → ⊥
    reports e = absurd (cc)
