-- The points of a list in order that are between two others.
use Rattle.std.proofs.Common.{◌≡◌, ℕ, inl, inr, sym, subst, List, arith, take, drop, length, ◌<◌, ◌+◌}
use Rattle.std.proofs.Common.{[], ◌∷◌, ◌++◌, get_or, Ok}
use Rattle.std.specs.List.{All, Contains}
use Rattle.std.proofs.lemmas.List.{take-append-drop}
use Rattle.std.proofs.lemmas.List.Elements.{All-contains, All-cons, All-weaker, Contains-append_left, Contains-append_right}
use Rattle.std.proofs.lemmas.List.Elements.{Contains-append_cases}
use Rattle.lattice.specs.Covers.{IsPointSet}
use Rattle.lattice.specs.Plane.{Pair, IsBefore}
use Rattle.lattice.proofs.Order.{before_trans, before_irrefl, before_not}
use Rattle.hull_geometry.specs.Mending.{IsBetween}
use Rattle.hull_geometry.specs.Positions.{IsPositionOf}
use Rattle.hull_geometry.proofs.ChainPasses.{take_next}
use Rattle.hull_geometry.proofs.PointSets.{set_append, set_left, set_right, set_apart}
use Rattle.hull_geometry.proofs.PointLists.{AllPairs-head, all_append_right}

-- no point up to p is after p
pub up_to_found : (S : List Pair) (p : Pair) (i : ℕ) → IsPositionOf S p (Ok i)
    → All (λ t. ¬ (IsBefore p t)) (take (i + 1) S)
up_to_found S p i at =
    subst (All (λ t. ¬ (IsBefore p t))) (sym (take_next S i p at.0 (sym (at.1 p))))
    (all_append_right (λ t. ¬ (IsBefore p t)) (take i S) (p ∷ [])
    (All-weaker (λ t. IsBefore t p) (λ t. ¬ (IsBefore p t)) (λ t b. before_not t p b) (take i S) at.2)
    (All-cons (λ t. ¬ (IsBefore p t)) p [] (before_irrefl p) (λ k d l. absurd (omega (arith, l)))))

-- a point before the first of a set is before all of it
pub before_all : (S : List Pair) (c t : Pair) → IsPointSet S → 0 < length S → c ≡ get_or S 0 c → IsBefore t c
    → All (IsBefore t) S
before_all [] c t s l e b = absurd (omega (arith, l))
before_all (x ∷ xs) c t s l e b =
    let tx : IsBefore t x = subst (IsBefore t) e b in
    All-cons (IsBefore t) x xs tx
    (All-weaker (IsBefore x) (IsBefore t) (λ u k. before_trans t x u tx k) xs (AllPairs-head x xs s))

-- a list is its first n members and the rest
cut_in : (S : List Pair) (n : ℕ) → S ≡ take n S ++ drop n S
cut_in S n = sym (take-append-drop n S)

-- a member of a list is in one of these two parts
in_parts : (S : List Pair) (n : ℕ) (t : Pair) → Contains S t → Contains (take n S ++ drop n S) t
in_parts S n t m = subst (λ (z : List Pair). Contains z t) (cut_in S n) m

-- a member of one of the two parts is one of the list
of_parts : (S : List Pair) (n : ℕ) (t : Pair) → Contains (take n S ++ drop n S) t → Contains S t
of_parts S n t m = subst (λ (z : List Pair). Contains z t) (sym (cut_in S n)) m

-- the points after those that are not after all of `left`, up to those that are not before all of `right`, are the ones
-- between
pub middle_between : (S left right : List Pair) (from to : ℕ) → IsPointSet S → IsPointSet (left ++ right)
    → ((t : Pair) → Contains (take from S) t → ¬ (All (λ u. IsBefore u t) left))
    → ((t : Pair) → Contains (drop from S) t → All (λ u. IsBefore u t) left)
    → ((t : Pair) → Contains (take to (drop from S)) t → All (IsBefore t) right)
    → ((t : Pair) → Contains (drop to (drop from S)) t → ¬ (All (IsBefore t) right))
    → IsBetween S left right (take to (drop from S))
middle_between S left right from to s sides passed to_come before beyond = record {
  ordered = set_append (left ++ middle) right
      (set_append left middle (set_left left right sides) middle_set
      (λ t u m n. All-contains (λ t. IsBefore t u) left t (to_come u (in_ahead u n)) m))
      (set_right left right sides)
      (λ t u m n. elim (Contains-append_cases left middle t m) [
        | inl k ↦ set_apart left right t u sides k n
        | inr k ↦ All-contains (IsBefore t) right u (before t k) n
      ]);
  among = λ t m. of_parts S from t (Contains-append_right (take from S) ahead t (in_ahead t m));
  all = λ t m h k. elim (Contains-append_cases (take from S) ahead t (in_parts S from t m)) [
    | inl n ↦ absurd (passed t n h)
    | inr n ↦ elim (Contains-append_cases middle (drop to ahead) t (in_parts ahead to t n)) [
      | inl j ↦ j
      | inr j ↦ absurd (beyond t j k)
    ]
  ];
}
  where
    ahead : List Pair
    ahead = drop from S

    middle : List Pair
    middle = take to ahead

    in_ahead : (t : Pair) → Contains middle t → Contains ahead t
    in_ahead t m = of_parts ahead to t (Contains-append_left middle (drop to ahead) t m)

    middle_set : IsPointSet middle
    middle_set = set_left middle (drop to ahead)
        (subst IsPointSet (cut_in ahead to)
        (set_right (take from S) ahead (subst IsPointSet (cut_in S from) s)))
