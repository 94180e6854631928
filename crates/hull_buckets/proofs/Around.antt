-- A list around one of its indices, and a point next to the vertices before it and after it.
use Rattle.std.proofs.lemmas.Grind.{common_steps}
use Rattle.std.proofs.Common.{◌≡◌, ℕ, pos, ◌≤ℤ◌, ◌+◌, ◌-◌, ◌<◌, sym, ap, ◌∙◌, subst, arith, inl, inr, ◌⊎◌, Err}
use Rattle.std.proofs.Common.{List, [], ◌∷◌, ◌++◌, length, take, drop, length-append, refl, zero, suc}
use Rattle.std.proofs.lemmas.List.{drop_more}
use Rattle.std.proofs.lemmas.List.Elements.{All-contains, Contains-append_cases, Contains-append_left}
use Rattle.std.proofs.lemmas.List.Elements.{Contains-append_right}
use Rattle.std.specs.List.{All, Contains}
use Rattle.std.specs.Prelude.{◌↔◌}
use Rattle.lattice.specs.Covers.{IsPointSet, with_point, without_point}
use Rattle.lattice.specs.Plane.{Pair, IsBefore}
use Rattle.lattice.specs.Orientations.{orient_on}
use Rattle.lattice.specs.declared.side.Side.{Side}
use Rattle.lattice.proofs.Order.{before_irrefl}
use Rattle.hull_geometry.specs.Mending.{IsOverEdge}
use Rattle.hull_geometry.specs.Positions.{IsPositionOf, point_at, origin}
use Rattle.hull_geometry.proofs.ChainPasses.{set_less}
use Rattle.hull_geometry.proofs.PointLists.{cut, all_of, AllPairs-head, later, append_twice}
use Rattle.hull_geometry.proofs.PointSets.{set_apart, set_right, same_set}
use Rattle.hull_geometry.proofs.SetLaws.{members_with, members_without, ordered_with, ordered_without}
use Rattle.hull_buckets.specs.Masks.{without_place}

-- ---- a list around an index

-- the first of two lists
pub take_front : (xs ys : List Pair) → take (length xs) (xs ++ ys) ≡ xs
take_front [] ys = refl
take_front (x ∷ xs) ys = ap (λ (z : List Pair). x ∷ z) (take_front xs ys)

-- and the second
pub drop_front : (xs ys : List Pair) → drop (length xs) (xs ++ ys) ≡ ys
drop_front [] ys = refl
drop_front (x ∷ xs) ys = drop_front xs ys

-- the points before an index, the one there, and those after it
pub around : (S : List Pair) (k : ℕ) → k < length S → S ≡ take k S ++ point_at S k ∷ drop (k + 1) S
around S k l = cut S k (omega (arith, l)) ∙ ap (λ (z : List Pair). take k S ++ z) (drop_more S k origin l)

-- if they are in order, so are the others
pub others_set : (S : List Pair) (k : ℕ) → IsPointSet S → k < length S → IsPointSet (without_place k S)
others_set S k s l = set_less (take k S) (point_at S k) (drop (k + 1) S) (subst IsPointSet (around S k l) s)

-- one point fewer
pub others_count : (S : List Pair) (k : ℕ) → k < length S → length (without_place k S) + 1 ≡ length S
others_count S k l = grind (arith, common_steps, length-append, around)

-- the others and the one there are the list
pub put_back : (S : List Pair) (k : ℕ) → IsPointSet S → k < length S
    → with_point (point_at S k) (without_place k S) ≡ S
put_back S k s l =
    same_set (with_point (point_at S k) (without_place k S)) S
    (ordered_with (point_at S k) (without_place k S) (others_set S k s l)) s
    (λ t m. subst (λ (z : List Pair). Contains z t) (sym (around S k l))
    (there t ((members_with (point_at S k) t (without_place k S)).0 m)))
    (λ t m. (members_with (point_at S k) t (without_place k S)).1
    (back t (subst (λ (z : List Pair). Contains z t) (around S k l) m)))
  where
    there : (t : Pair) → (t ≡ point_at S k) ⊎ Contains (without_place k S) t
        → Contains (take k S ++ point_at S k ∷ drop (k + 1) S) t
    there t (inl e) = Contains-append_right (take k S) (point_at S k ∷ drop (k + 1) S) t (0, omega arith, sym e)
    there t (inr m) = elim (Contains-append_cases (take k S) (drop (k + 1) S) t m) [
      | inl n ↦ Contains-append_left (take k S) (point_at S k ∷ drop (k + 1) S) t n
      | inr n ↦ Contains-append_right (take k S) (point_at S k ∷ drop (k + 1) S) t (later (point_at S k) t (drop (k +
          1) S) n)
    ]

    after : (t : Pair) → Contains (point_at S k ∷ drop (k + 1) S) t → (t ≡ point_at S k) ⊎ Contains (without_place k
        S) t
    after t (zero, l, e) = inl (sym e)
    after t (suc i, l, e) = inr (Contains-append_right (take k S) (drop (k + 1) S) t (i, omega (arith, l), e))

    back : (t : Pair) → Contains (take k S ++ point_at S k ∷ drop (k + 1) S) t
        → (t ≡ point_at S k) ⊎ Contains (without_place k S) t
    back t m = elim (Contains-append_cases (take k S) (point_at S k ∷ drop (k + 1) S) t m) [
      | inl n ↦ inr (Contains-append_left (take k S) (drop (k + 1) S) t n)
      | inr n ↦ after t n
    ]

-- what is after the point after the first of two lists
pub drop_past : (xs : List Pair) (p : Pair) (ys : List Pair) → drop (length xs + 1) (xs ++ p ∷ ys) ≡ ys
drop_past xs p ys =
    let e : length xs + 1 ≡ length (xs ++ p ∷ []) = let n = length-append xs (p ∷ []) in omega (arith, n) in
    ap (λ (k : ℕ). drop k (xs ++ p ∷ ys)) e
    ∙ ap (drop (length (xs ++ p ∷ []))) (sym (append_twice xs (p ∷ []) ys)) ∙ drop_front (xs ++ p ∷ []) ys

-- the others are the list without the point there
pub taken_away : (S : List Pair) (k : ℕ) → IsPointSet S → k < length S
    → without_place k S ≡ without_point (point_at S k) S
taken_away S k s l =
    same_set (without_place k S) (without_point (point_at S k) S) (others_set S k s l)
    (ordered_without (point_at S k) S s)
    (λ t m. (members_without (point_at S k) t S s).1 (there t (Contains-append_cases (take k S) (drop (k + 1) S) t m)))
    (λ t m. let n = (members_without (point_at S k) t S s).0 m in
    back t n.1 (Contains-append_cases (take k S) (point_at S k ∷ drop (k + 1) S) t
    (subst (λ (z : List Pair). Contains z t) (around S k l) n.0)))
  where
    parts : IsPointSet (take k S ++ point_at S k ∷ drop (k + 1) S)
    parts = subst IsPointSet (around S k l) s

    there : (t : Pair) → Contains (take k S) t ⊎ Contains (drop (k + 1) S) t → Contains S t × ¬ (t ≡ point_at S k)
    there t (inl m) = (
      subst (λ (z : List Pair). Contains z t) (sym (around S k l))
          (Contains-append_left (take k S) (point_at S k ∷ drop (k + 1) S) t m),
      λ e. before_irrefl (point_at S k) (subst (λ (z : Pair). IsBefore z (point_at S k)) e
          (set_apart (take k S) (point_at S k ∷ drop (k + 1) S) t (point_at S k) parts m (0, omega arith, refl))),
    )
    there t (inr m) = (
      subst (λ (z : List Pair). Contains z t) (sym (around S k l))
          (Contains-append_right (take k S) (point_at S k ∷ drop (k + 1) S) t (later (point_at S k) t (drop (k + 1) S)
          m)),
      λ e. before_irrefl (point_at S k) (subst (IsBefore (point_at S k)) e
          (All-contains (IsBefore (point_at S k)) (drop (k + 1) S) t
          (AllPairs-head (point_at S k) (drop (k + 1) S) (set_right (take k S) (point_at S k ∷ drop (k + 1) S) parts))
          m)),
    )

    after : (t : Pair) → ¬ (t ≡ point_at S k) → Contains (point_at S k ∷ drop (k + 1) S) t
        → Contains (drop (k + 1) S) t
    after t n (zero, l, e) = absurd (n (sym e))
    after t n (suc i, l, e) = (i, omega (arith, l), e)

    back : (t : Pair) → ¬ (t ≡ point_at S k)
        → Contains (take k S) t ⊎ Contains (point_at S k ∷ drop (k + 1) S) t → Contains (without_place k S) t
    back t n (inl m) = Contains-append_left (take k S) (drop (k + 1) S) t m
    back t n (inr m) = Contains-append_right (take k S) (drop (k + 1) S) t (after t n m)

-- ---- positions

-- a point between two lists would be after the first
pub between_lists : (xs ys : List Pair) (p : Pair) → ((t : Pair) → Contains xs t → IsBefore t p)
    → ((t : Pair) → Contains ys t → IsBefore p t) → IsPositionOf (xs ++ ys) p (Err (length xs))
between_lists xs ys p f g = (
  (let n = length-append xs ys in omega (arith, n)),
  subst (All (λ t. IsBefore t p)) (sym (take_front xs ys)) (all_of (λ t. IsBefore t p) xs f),
  subst (All (IsBefore p)) (sym (drop_front xs ys)) (all_of (IsBefore p) ys g),
)

-- what is before the point at an index is before it in the order
pub before_place : (S : List Pair) (k : ℕ) (t : Pair) → IsPointSet S → k < length S → Contains (take k S) t
    → IsBefore t (point_at S k)
before_place S k t s l m =
    set_apart (take k S) (point_at S k ∷ drop (k + 1) S) t (point_at S k) (subst IsPointSet (around S k l) s) m
    (0, omega arith, refl)

-- and what is after it, after it
pub after_place : (S : List Pair) (k : ℕ) (t : Pair) → IsPointSet S → k < length S → Contains (drop (k + 1) S) t
    → IsBefore (point_at S k) t
after_place S k t s l m =
    All-contains (IsBefore (point_at S k)) (drop (k + 1) S) t
    (AllPairs-head (point_at S k) (drop (k + 1) S)
    (set_right (take k S) (point_at S k ∷ drop (k + 1) S) (subst IsPointSet (around S k l) s))) m

-- ---- over an edge

-- the point after the first ones
point_after : (xs : List Pair) (b : Pair) (rest : List Pair) → point_at (xs ++ b ∷ rest) (length xs) ≡ b
point_after [] b rest = refl
point_after (x ∷ xs) b rest = point_after xs b rest

-- the last of the first ones
point_before : (front : List Pair) (a b : Pair) (rest : List Pair)
    → point_at ((front ++ a ∷ []) ++ b ∷ rest) (length (front ++ a ∷ []) - 1) ≡ a
point_before front a b rest = grind (arith, common_steps, length-append, append_twice, point_after)

-- a point is over the edge between the last of the first ones and the first of the others if it is not outwards of it
pub over_returned : (side : Side) (left right front rest : List Pair) (a b p : Pair) → left ≡ front ++ a ∷ []
    → right ≡ b ∷ rest → (orient_on side a p b ≤ℤ pos 0) ↔ IsOverEdge side (left ++ right) (length left) p
over_returned side left right front rest a b p e f =
    subst (λ (z : List Pair). (orient_on side a p b ≤ℤ pos 0) ↔ IsOverEdge side (z ++ right) (length z) p) (sym e)
    (subst (λ (z : List Pair). (orient_on side a p b ≤ℤ pos 0)
    ↔ IsOverEdge side ((front ++ a ∷ []) ++ z) (length (front ++ a ∷ [])) p) (sym f) (there, back))
  where
    chain : List Pair
    chain = (front ++ a ∷ []) ++ b ∷ rest

    before : point_at chain (length (front ++ a ∷ []) - 1) ≡ a
    before = point_before front a b rest

    after : point_at chain (length (front ++ a ∷ [])) ≡ b
    after = point_after (front ++ a ∷ []) b rest

    there : orient_on side a p b ≤ℤ pos 0 → IsOverEdge side chain (length (front ++ a ∷ [])) p
    there h = (
      (let n = length-append front (a ∷ []) in omega (arith, n)),
      (let n = length-append (front ++ a ∷ []) (b ∷ rest) in omega (arith, n)),
      subst (λ (z : Pair). orient_on side z p (point_at chain (length (front ++ a ∷ []))) ≤ℤ pos 0) (sym before)
          (subst (λ (z : Pair). orient_on side a p z ≤ℤ pos 0) (sym after) h),
    )

    back : IsOverEdge side chain (length (front ++ a ∷ [])) p → orient_on side a p b ≤ℤ pos 0
    back k = subst (λ (z : Pair). orient_on side z p b ≤ℤ pos 0) before
        (subst (λ (z : Pair). orient_on side (point_at chain (length (front ++ a ∷ []) - 1)) p z ≤ℤ pos 0) after k.2)

-- no vertex before it
pub none_before : (side : Side) (left right : List Pair) (p : Pair) → left ≡ []
    → ¬ (IsOverEdge side (left ++ right) (length left) p)
none_before side left right p e k = let n : length left ≡ 0 = ap (λ (z : List Pair). length z) e in
    let s = k.0 in omega (arith, n, s)

-- none after it
pub none_after : (side : Side) (left right : List Pair) (p : Pair) → right ≡ []
    → ¬ (IsOverEdge side (left ++ right) (length left) p)
none_after side left right p e k = grind (arith, common_steps, length-append)
