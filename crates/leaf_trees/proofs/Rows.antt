-- The effect of a change on a set whose points are two concatenated lists.
use Rattle.std.proofs.Common.{Bool, true, false, cond, ◌≡◌, ◌+◌, ◌≤◌, refl, sym, ap, subst, List, [], ◌∷◌, ◌++◌, length}
use Rattle.std.proofs.Common.{arith, inl, inr}
use Rattle.std.specs.List.{All, Contains}
use Rattle.std.proofs.lemmas.List.Elements.{All-contains, All-head, All-tail}
use Rattle.std.proofs.lemmas.List.Elements.{Contains-append_right, Contains-append_cases}
use Rattle.lattice.specs.Covers.{IsPointSet, is_before, with_point, without_point}
use Rattle.lattice.specs.Plane.{Pair, IsBefore}
use Rattle.lattice.proofs.Order.{before_trans, before_irrefl, before_total, before_not, before_apart, after_apart}
use Rattle.lattice.proofs.Order.{is_before-true, is_before-false}
use Rattle.hull_geometry.proofs.PointLists.{AllPairs-head, AllPairs-tail, only_member}

-- a list after one of three
both : (b c : Bool) (xs zs vs ws ys : List Pair) → ws ≡ xs ++ ys
    → cond b ws (cond c (zs ++ ys) (vs ++ ys)) ≡ cond b xs (cond c zs vs) ++ ys
both true c xs zs vs ws ys e = e
both false true xs zs vs ws ys e = refl
both false false xs zs vs ws ys e = refl

-- p before all of the right list: it is added to the left one
pub with_left : (p : Pair) (xs ys : List Pair) → All (IsBefore p) ys → with_point p (xs ++ ys) ≡ with_point p xs ++ ys
with_left p [] [] a = refl
with_left p [] (y ∷ ys) a =
    let h : IsBefore p y = All-head (IsBefore p) y ys a in
    rw (is_before-false y p (before_not p y h), is_before-true p y h) refl
with_left p (x ∷ xs) ys a = both (is_before x p) (is_before p x) (x ∷ with_point p xs) (p ∷ x ∷ xs) (x ∷ xs)
    (x ∷ with_point p (xs ++ ys)) ys (ap (λ (z : List Pair). x ∷ z) (with_left p xs ys a))

-- p after all of the left list: it is added to the right one
pub with_right : (p : Pair) (xs ys : List Pair) → All (λ t. IsBefore t p) xs
    → with_point p (xs ++ ys) ≡ xs ++ with_point p ys
with_right p [] ys a = refl
with_right p (x ∷ xs) ys a =
    rw (is_before-true x p (All-head (λ t. IsBefore t p) x xs a))
    (ap (λ (z : List Pair). x ∷ z) (with_right p xs ys (All-tail (λ t. IsBefore t p) x xs a)))

-- p before all of the right list: it is removed from the left one
pub without_left : (p : Pair) (xs ys : List Pair) → All (IsBefore p) ys
    → without_point p (xs ++ ys) ≡ without_point p xs ++ ys
without_left p [] [] a = refl
without_left p [] (y ∷ ys) a =
    let h : IsBefore p y = All-head (IsBefore p) y ys a in
    rw (is_before-false y p (before_not p y h), is_before-true p y h) refl
without_left p (x ∷ xs) ys a = both (is_before x p) (is_before p x) (x ∷ without_point p xs) (x ∷ xs) xs
    (x ∷ without_point p (xs ++ ys)) ys (ap (λ (z : List Pair). x ∷ z) (without_left p xs ys a))

-- p after all of the left list: it is removed from the right one
pub without_right : (p : Pair) (xs ys : List Pair) → All (λ t. IsBefore t p) xs
    → without_point p (xs ++ ys) ≡ xs ++ without_point p ys
without_right p [] ys a = refl
without_right p (x ∷ xs) ys a =
    rw (is_before-true x p (All-head (λ t. IsBefore t p) x xs a))
    (ap (λ (z : List Pair). x ∷ z) (without_right p xs ys (All-tail (λ t. IsBefore t p) x xs a)))

-- removing a point does not make the list longer
pub without_short : (p : Pair) (xs : List Pair) → length (without_point p xs) ≤ length xs
without_short p [] = omega arith
without_short p (x ∷ xs) =
    elim (before_total x p) [
      | inl h ↦ rw (is_before-true x p h) (omega (arith, without_short p xs))
      | inr (inl e) ↦ rw (
        is_before-false x p (λ k. before_apart x p k e),
        is_before-false p x (λ k. after_apart x p k e),
      ) (omega arith)
      | inr (inr h) ↦ rw (is_before-false x p (before_not p x h), is_before-true p x h) (omega arith)
    ]

-- a new point is one more
pub with_length : (p : Pair) (xs : List Pair) → ¬ (Contains xs p) → length (with_point p xs) ≡ length xs + 1
with_length p [] n = refl
with_length p (x ∷ xs) n =
    elim (before_total x p) [
      | inl k ↦ rw (is_before-true x p k)
          (let e : length (with_point p xs) ≡ length xs + 1 =
          with_length p xs (λ h. n (Contains-append_right (x ∷ []) xs p h)) in omega (arith, e))
      | inr (inl e) ↦ absurd (n (0, omega arith, e))
      | inr (inr k) ↦ rw (is_before-false x p (before_not p x k), is_before-true p x k) (omega arith)
    ]

-- removing a member makes the list one shorter
pub without_length : (p : Pair) (xs : List Pair) → IsPointSet xs → Contains xs p
    → length (without_point p xs) + 1 ≡ length xs
without_length p [] s (i, l, e) = absurd (omega arith)
without_length p (x ∷ xs) s h =
    elim (before_total x p) [
      | inl k ↦ rw (is_before-true x p k)
          (let e : length (without_point p xs) + 1 ≡ length xs =
          without_length p xs (AllPairs-tail x xs s) (in_rest k) in omega (arith, e))
      | inr (inl e) ↦ rw (
        is_before-false x p (λ k. before_apart x p k e),
        is_before-false p x (λ k. after_apart x p k e),
      ) (omega arith)
      | inr (inr k) ↦ absurd (nowhere k)
    ]
  where
    in_rest : IsBefore x p → Contains xs p
    in_rest k =
        elim (Contains-append_cases (x ∷ []) xs p h) [
          | inl i ↦ absurd (before_irrefl p (subst (λ (z : Pair). IsBefore z p) (sym (only_member x p i)) k))
          | inr i ↦ i
        ]

    nowhere : IsBefore p x → ⊥
    nowhere k =
        elim (Contains-append_cases (x ∷ []) xs p h) [
          | inl i ↦ before_irrefl p (subst (IsBefore p) (sym (only_member x p i)) k)
          | inr i ↦ before_irrefl p (before_trans p x p k (All-contains (IsBefore x) xs p (AllPairs-head x xs s) i))
        ]
