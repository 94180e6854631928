-- The results of `with_point` and `without_point` for a set.
use Rattle.std.proofs.Common.{◌≡◌, ℕ, inl, inr, refl, sym, ◌∙◌, subst, List, arith, zero, suc, ◌<◌, [], ◌∷◌, ◌++◌}
use Rattle.std.proofs.Common.{length, get_or}
use Rattle.std.specs.List.{All, Contains}
use Rattle.std.proofs.lemmas.List.Elements.{All-contains, All-weaker, All-cons, All-head, All-tail}
use Rattle.lattice.specs.Covers.{IsPointSet, without_point}
use Rattle.lattice.specs.Plane.{Pair, IsBefore}
use Rattle.lattice.proofs.Order.{before_trans, before_irrefl, before_total, is_before-true, is_before-false, before_not}
use Rattle.hull_geometry.proofs.PointLists.{AllPairs-cons, AllPairs-head, AllPairs-tail, all_append_right, left_part}
use Rattle.hull_geometry.proofs.PointLists.{right_part, get_or_free}

-- adding p to a set inserts it between the points before it and those after it
pub set-insert : (p : Pair) (xs ys : List Pair) → IsPointSet (xs ++ ys) → All (λ t. IsBefore t p) xs
    → All (IsBefore p) ys → IsPointSet (xs ++ p ∷ ys)
set-insert p [] ys s a b = AllPairs-cons p ys b s
set-insert p (x ∷ xs) ys s a b =
    AllPairs-cons x (xs ++ p ∷ ys)
    (all_append_right (IsBefore x) xs (p ∷ ys) (left_part (IsBefore x) xs ys (AllPairs-head x (xs ++ ys) s))
    (All-cons (IsBefore x) p ys (All-head (λ t. IsBefore t p) x xs a)
    (right_part (IsBefore x) xs ys (AllPairs-head x (xs ++ ys) s))))
    (set-insert p xs ys (AllPairs-tail x (xs ++ ys) s) (All-tail (λ t. IsBefore t p) x xs a) b)

-- p is not among the points before it and after it
pub absent_between : (p : Pair) (xs ys : List Pair) → All (λ t. IsBefore t p) xs → All (IsBefore p) ys
    → ¬ (Contains (xs ++ ys) p)
absent_between p xs ys a b m =
    All-contains (λ t. ¬ (t ≡ p)) (xs ++ ys) p
    (all_append_right (λ t. ¬ (t ≡ p)) xs ys
    (All-weaker (λ t. IsBefore t p) (λ t. ¬ (t ≡ p))
    (λ t h e. before_irrefl p (subst (λ (z : Pair). IsBefore z p) e h)) xs a)
    (All-weaker (IsBefore p) (λ t. ¬ (t ≡ p)) (λ t h e. before_irrefl p (subst (IsBefore p) e h)) ys b)) m refl

-- a property of all points of a set is one of all points of it without p
pub all_without : (P : Pair → Type 0) (p : Pair) (S : List Pair) → IsPointSet S
    → ((t : Pair) → Contains S t → ¬ (t ≡ p) → P t) → All P (without_point p S)
all_without P p [] s h = λ k d l. absurd (omega arith)
all_without P p (x ∷ xs) s h =
    elim (before_total x p) [
      | inl b ↦ rw (is_before-true x p b)
          (All-cons P x (without_point p xs)
          (h x (0, omega arith, refl) (λ e. before_irrefl p (subst (λ (z : Pair). IsBefore z p) e b)))
          (all_without P p xs (AllPairs-tail x xs s) (λ t m n. h t (later t m) n)))
      | inr (inl e) ↦ rw (
        is_before-false x p (λ b. before_irrefl p (subst (λ (z : Pair). IsBefore z p) e b)),
        is_before-false p x (λ b. before_irrefl p (subst (IsBefore p) e b)),
      )
          (λ k d l. h (get_or xs k d) (suc k, omega arith, refl2 k d l)
          (λ f. before_irrefl p
          (subst (IsBefore p) f
          (subst (λ (z : Pair). IsBefore z (get_or xs k d)) e (AllPairs-head x xs s k d l)))))
      | inr (inr b) ↦ rw (is_before-false x p (before_not p x b), is_before-true p x b)
          (λ k d l. h (get_or (x ∷ xs) k d) (k, l, get_or_free (x ∷ xs) k _ d l)
          (λ f. before_irrefl p
          (subst (IsBefore p) f
          (All-cons (IsBefore p) x xs b
          (All-weaker (IsBefore x) (IsBefore p) (λ t c. before_trans p x t b c) xs
          (AllPairs-head x xs s)) k d l))))
    ]
  where
    later : (t : Pair) → Contains xs t → Contains (x ∷ xs) t
    later t m = (suc m.0, omega (arith, m.1), m.2)

    refl2 : (k : ℕ) (d : Pair) (l : k < length xs) → get_or xs k (get_or xs k d) ≡ get_or xs k d
    refl2 k d l = get_or_free xs k _ d l

-- a member other than p is a member of S without p
pub in_without : (p t : Pair) (S : List Pair) → ¬ (t ≡ p) → Contains S t → Contains (without_point p S) t
in_without p t [] n m = absurd (omega (arith, m.1))
in_without p t (x ∷ xs) n m =
    elim (before_total x p) [
      | inl b ↦ rw (is_before-true x p b) (first (λ m. in_without p t xs n m) m)
      | inr (inl e) ↦ rw (
        is_before-false x p (λ b. before_irrefl p (subst (λ (z : Pair). IsBefore z p) e b)),
        is_before-false p x (λ b. before_irrefl p (subst (IsBefore p) e b)),
      ) (gone e m)
      | inr (inr b) ↦ rw (is_before-false x p (before_not p x b), is_before-true p x b) m
    ]
  where
    first : (Contains xs t → Contains (without_point p xs) t) → Contains (x ∷ xs) t
        → Contains (x ∷ without_point p xs) t
    first again (zero, l, e) = (zero, omega arith, e)
    first again (suc k, l, e) = let r = again (k, omega arith, e) in (suc r.0, omega (arith, r.1), r.2)

    gone : x ≡ p → Contains (x ∷ xs) t → Contains xs t
    gone f (zero, l, e) = absurd (n (sym e ∙ f))
    gone f (suc k, l, e) = (k, omega arith, e)
