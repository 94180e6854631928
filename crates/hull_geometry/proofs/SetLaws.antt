-- A list in the order "before" with a point added, and with one removed: its members, and that it stays in that order.
use Rattle.std.proofs.Common.{◌≡◌, ◌⊎◌, inl, inr, refl, sym, subst, List, arith, zero, suc, [], ◌∷◌}
use Rattle.std.specs.Prelude.{◌↔◌}
use Rattle.std.specs.List.{All, Contains}
use Rattle.std.proofs.lemmas.List.Elements.{All-contains, All-cons, All-head, All-tail, Contains-get_or}
use Rattle.lattice.specs.Covers.{IsPointSet, with_point, without_point}
use Rattle.lattice.specs.Plane.{Pair, IsBefore}
use Rattle.lattice.proofs.Order.{before_trans, before_irrefl, before_total, is_before-true, is_before-false, before_not}
use Rattle.hull_geometry.proofs.PointLists.{AllPairs-cons, AllPairs-head, AllPairs-tail, later}
use Rattle.hull_geometry.proofs.ChangedSets.{all_without, in_without}

-- equal points are not before each other
not_before_same : (x p : Pair) → x ≡ p → ¬ IsBefore x p
not_before_same x p e b = before_irrefl p (subst (λ (z : Pair). IsBefore z p) e b)

-- a property of p and of each member of S is one of each member of S with p
all_with : (P : Pair → Type 0) (p : Pair) (S : List Pair) → P p → All P S → All P (with_point p S)
all_with P p [] h a = All-cons P p [] h a
all_with P p (x ∷ xs) h a =
    elim (before_total x p) [
      | inl b ↦ rw (is_before-true x p b)
          (All-cons P x (with_point p xs) (All-head P x xs a) (all_with P p xs h (All-tail P x xs a)))
      | inr (inl e) ↦ rw (
        is_before-false x p (not_before_same x p e),
        is_before-false p x (not_before_same p x (sym e)),
      ) a
      | inr (inr b) ↦ rw (is_before-false x p (before_not p x b), is_before-true p x b) (All-cons P p (x ∷ xs) h a)
    ]

-- p is a member of S with p
added : (p : Pair) (S : List Pair) → Contains (with_point p S) p
added p [] = (0, omega arith, refl)
added p (x ∷ xs) =
    elim (before_total x p) [
      | inl b ↦ rw (is_before-true x p b) (later x p (with_point p xs) (added p xs))
      | inr (inl e) ↦ rw (
        is_before-false x p (not_before_same x p e),
        is_before-false p x (not_before_same p x (sym e)),
      ) (0, omega arith, e)
      | inr (inr b) ↦ rw (is_before-false x p (before_not p x b), is_before-true p x b) (0, omega arith, refl)
    ]

-- a member of S is a member of S with p
kept : (p t : Pair) (S : List Pair) → Contains S t → Contains (with_point p S) t
kept p t [] m = absurd (omega (arith, m.1))
kept p t (x ∷ xs) m =
    elim (before_total x p) [
      | inl b ↦ rw (is_before-true x p b) (first (λ m. kept p t xs m) m)
      | inr (inl e) ↦ rw (
        is_before-false x p (not_before_same x p e),
        is_before-false p x (not_before_same p x (sym e)),
      ) m
      | inr (inr b) ↦ rw (is_before-false x p (before_not p x b), is_before-true p x b) (later p t (x ∷ xs) m)
    ]
  where
    first : (Contains xs t → Contains (with_point p xs) t) → Contains (x ∷ xs) t → Contains (x ∷ with_point p xs) t
    first again (zero, l, e) = (zero, omega arith, e)
    first again (suc k, l, e) = later x t (with_point p xs) (again (k, omega (arith, l), e))

-- S with p is in order
pub ordered_with : (p : Pair) (S : List Pair) → IsPointSet S → IsPointSet (with_point p S)
ordered_with p [] s = AllPairs-cons p [] (λ k d l. absurd (omega (arith, l))) s
ordered_with p (x ∷ xs) s =
    let ahead : All (IsBefore x) xs = AllPairs-head x xs s in
    elim (before_total x p) [
      | inl b ↦ rw (is_before-true x p b)
          (AllPairs-cons x (with_point p xs) (all_with (IsBefore x) p xs b ahead)
          (ordered_with p xs (AllPairs-tail x xs s)))
      | inr (inl e) ↦ rw (
        is_before-false x p (not_before_same x p e),
        is_before-false p x (not_before_same p x (sym e)),
      ) s
      | inr (inr b) ↦ rw (is_before-false x p (before_not p x b), is_before-true p x b)
          (AllPairs-cons p (x ∷ xs) (All-cons (IsBefore p) x xs b (λ k d l. before_trans p x _ b (ahead k d l))) s)
    ]

-- S without p is in order
pub ordered_without : (p : Pair) (S : List Pair) → IsPointSet S → IsPointSet (without_point p S)
ordered_without p [] s = s
ordered_without p (x ∷ xs) s =
    let ahead : All (IsBefore x) xs = AllPairs-head x xs s in
    let rest : IsPointSet xs = AllPairs-tail x xs s in
    elim (before_total x p) [
      | inl b ↦ rw (is_before-true x p b)
          (AllPairs-cons x (without_point p xs)
          (all_without (IsBefore x) p xs rest (λ t m n. All-contains (IsBefore x) xs t ahead m))
          (ordered_without p xs rest))
      | inr (inl e) ↦ rw (
        is_before-false x p (not_before_same x p e),
        is_before-false p x (not_before_same p x (sym e)),
      ) rest
      | inr (inr b) ↦ rw (is_before-false x p (before_not p x b), is_before-true p x b) s
    ]

-- the members of S with p are p and those of S
pub members_with : (p t : Pair) (S : List Pair) → Contains (with_point p S) t ↔ ((t ≡ p) ⊎ Contains S t)
members_with p t S = (there, back)
  where
    there : Contains (with_point p S) t → (t ≡ p) ⊎ Contains S t
    there m = All-contains (λ u. (u ≡ p) ⊎ Contains S u) (with_point p S) t
        (all_with (λ u. (u ≡ p) ⊎ Contains S u) p S (inl refl) (λ k d l. inr (Contains-get_or S k d l))) m

    back : (t ≡ p) ⊎ Contains S t → Contains (with_point p S) t
    back (inl e) = subst (λ (z : Pair). Contains (with_point p S) z) (sym e) (added p S)
    back (inr m) = kept p t S m

-- the members of S without p are those of S that are not p
pub members_without : (p t : Pair) (S : List Pair) → IsPointSet S
    → Contains (without_point p S) t ↔ (Contains S t × ¬ (t ≡ p))
members_without p t S s = (there, λ m. in_without p t S m.1 m.0)
  where
    there : Contains (without_point p S) t → Contains S t × ¬ (t ≡ p)
    there m = All-contains (λ u. Contains S u × ¬ (u ≡ p)) (without_point p S) t
        (all_without (λ u. Contains S u × ¬ (u ≡ p)) p S s (λ u m n. (m, n))) m

-- S with p is in order, and its members are p and those of S
pub with_point_law : (S : List Pair) (p : Pair) → IsPointSet S
    → IsPointSet (with_point p S) × ((t : Pair) → (Contains (with_point p S) t ↔ ((t ≡ p) ⊎ Contains S t)))
with_point_law S p s = (ordered_with p S s, λ t. members_with p t S)

-- S without p is in order, and its members are those of S that are not p
pub without_point_law : (S : List Pair) (p : Pair) → IsPointSet S
    → IsPointSet (without_point p S) × ((t : Pair) → (Contains (without_point p S) t ↔ (Contains S t × ¬ (t ≡ p))))
without_point_law S p s = (ordered_without p S s, λ t. members_without p t S s)
