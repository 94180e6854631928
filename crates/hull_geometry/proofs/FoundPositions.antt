-- The position of a point in a list in the order "before".
use Rattle.std.proofs.Common.{◌≡◌, ℕ, inl, inr, sym, ap, ◌∙◌, subst, List, arith, zero, suc, ◌+◌, ◌<◌, ◌≤◌, [], ◌∷◌}
use Rattle.std.proofs.Common.{◌++◌, length, get_or, take, drop, length-drop, length-take, Ok, Err}
use Rattle.std.specs.List.{All, Contains}
use Rattle.std.proofs.lemmas.Bool.{cases_lt}
use Rattle.std.proofs.lemmas.List.{get_or-drop, get_or-take}
use Rattle.std.proofs.lemmas.List.Elements.{All-weaker, All-cons, All-head}
use Rattle.lattice.specs.Covers.{IsPointSet}
use Rattle.lattice.specs.Plane.{Pair, IsBefore}
use Rattle.hull_geometry.specs.Positions.{IsPositionOf}
use Rattle.hull_geometry.proofs.ChangedSets.{absent_between}
use Rattle.lattice.proofs.Order.{before_trans, before_irrefl, before_total}
use Rattle.hull_geometry.proofs.PointLists.{AllPairs-head, AllPairs-tail, get_or_free, cut, cut_at}

-- the rest of a set is a set
pub ordered_from : (n : ℕ) (S : List Pair) → IsPointSet S → n ≤ length S → IsPointSet (drop n S)
ordered_from n S s l i j d lt k =
    let m = length-drop n S in
    subst (λ (z : Pair). IsBefore z (get_or (drop n S) j d)) (sym (get_or-drop n S i d))
    (subst (λ (z : Pair). IsBefore (get_or S (n + i) d) z) (sym (get_or-drop n S j d))
    (s (n + i) (n + j) d (omega (arith, lt)) (omega (arith, k, m, l))))

-- if the point at m is before p, all points up to it are
pub below_up_to : (S : List Pair) (p x : Pair) (m : ℕ) → IsPointSet S → m < length S → x ≡ get_or S m x → IsBefore x p
    → All (λ t. IsBefore t p) (take (m + 1) S)
below_up_to S p x m s l e b k d h =
    let n = length-take (m + 1) S in
    let at : x ≡ get_or S m d = e ∙ get_or_free S m x d l in
    subst (λ (z : Pair). IsBefore z p) (sym (get_or-take (m + 1) S k d (omega (arith, h, n))))
    (elim (cases_lt k m) [
      | inl lt ↦ before_trans (get_or S k d) x p (subst (λ (z : Pair). IsBefore (get_or S k d) z) (sym at) (s k m d lt l)) b
      | inr ge ↦
          let same : m ≡ k = omega (arith, ge, h, n) in
          subst (λ (z : Pair). IsBefore z p) (at ∙ ap (λ (i : ℕ). get_or S i d) same) b
    ])

-- if the point at m is not before p, no point from there on is
pub rest_from : (S : List Pair) (p x : Pair) (m : ℕ) → IsPointSet S → m < length S → x ≡ get_or S m x → ¬ (IsBefore x p)
    → All (λ t. ¬ (IsBefore t p)) (drop m S)
rest_from S p x m s l e n k d h b =
    let c = length-drop m S in
    let at : x ≡ get_or S m d = e ∙ get_or_free S m x d l in
    let here : IsBefore (get_or S (m + k) d) p = subst (λ (z : Pair). IsBefore z p) (get_or-drop m S k d) b in
    elim (cases_lt 0 k) [
      | inl some ↦
          n (before_trans x (get_or S (m + k) d) p
          (subst (λ (z : Pair). IsBefore z (get_or S (m + k) d)) (sym at)
          (s m (m + k) d (omega (arith, some)) (omega (arith, h, c)))) here)
      | inr none ↦
          let same : m + k ≡ m = omega (arith, none) in
          n (subst (λ (z : Pair). IsBefore z p) (sym (at ∙ ap (λ (i : ℕ). get_or S i d) (sym same))) here)
    ]

-- if the first point is not before p and not p, all points are after p
all_after : (x : Pair) (xs : List Pair) (p : Pair) → IsPointSet (x ∷ xs) → ¬ (IsBefore x p) → ¬ (x ≡ p)
    → All (IsBefore p) (x ∷ xs)
all_after x xs p s n m =
    let first : IsBefore p x =
    elim (before_total p x) [ inl h ↦ h | inr (inl e) ↦ absurd (m (sym e)) | inr (inr h) ↦ absurd (n h) ] in
    All-cons (IsBefore p) x xs first
    (All-weaker (IsBefore x) (IsBefore p) (λ t h. before_trans p x t first h) xs (AllPairs-head x xs s))

-- if the point at i is not before p and not p, all points from there on are after p
pub drop_after : (S : List Pair) (p : Pair) (i : ℕ) (d : Pair) → IsPointSet S → i < length S
    → All (λ t. ¬ (IsBefore t p)) (drop i S) → ¬ (get_or S i d ≡ p) → All (IsBefore p) (drop i S)
drop_after [] p i d s l a n = absurd (omega arith)
drop_after (x ∷ xs) p zero d s l a n = all_after x xs p s (All-head (λ t. ¬ (IsBefore t p)) x xs a) n
drop_after (x ∷ xs) p (suc i) d s l a n = drop_after xs p i d (AllPairs-tail x xs s) (omega arith) a n

-- a point that was not found is not there
pub found_absent : (S : List Pair) (p : Pair) (i : ℕ) → IsPositionOf S p (Err i) → ¬ (Contains S p)
found_absent S p i h m =
    absent_between p (take i S) (drop i S) h.1 h.2 (subst (λ (z : List Pair). Contains z p) (cut S i h.0) m)

-- if the first point that is not before p is after it, p is not in the list
pub place_before : (S : List Pair) (p : Pair) (i : ℕ) (x : Pair) → IsPointSet S → i < length S
    → All (λ t. IsBefore t p) (take i S) → All (λ t. ¬ (IsBefore t p)) (drop i S) → x ≡ get_or S i x → IsBefore p x
    → IsPositionOf S p (Err i)
place_before S p i x s l h n e b =
    (omega arith, h, drop_after S p i x s l n (λ k. before_irrefl p (subst (IsBefore p) (e ∙ k) b)))

-- if the first point that is not before p is p, its index is the position
pub place_found : (S : List Pair) (p : Pair) (i : ℕ) (x : Pair) → i < length S → All (λ t. IsBefore t p) (take i S)
    → All (λ t. ¬ (IsBefore t p)) (drop i S) → x ≡ get_or S i x → ¬ (IsBefore p x) → IsPositionOf S p (Ok i)
place_found S p i x l h n e b =
    let not_less : ¬ (IsBefore (get_or S i x) p) = front S i n l in (
      l,
      λ f. get_or_free S i f x l
          ∙ elim (before_total (get_or S i x) p) [
            | inl k ↦ absurd (not_less k)
            | inr (inl k) ↦ k
            | inr (inr k) ↦
                absurd (b (subst (IsBefore p) (sym e) k))
          ],
      h,
    )
  where
    front : (T : List Pair) (j : ℕ) → All (λ t. ¬ (IsBefore t p)) (drop j T) → j < length T
        → ¬ (IsBefore (get_or T j x) p)
    front [] j a lt = absurd (omega arith)
    front (y ∷ ys) zero a lt = All-head (λ t. ¬ (IsBefore t p)) y ys a
    front (y ∷ ys) (suc j) a lt = front ys j a (omega arith)

-- all points after the position of p are after p
pub found_after : (S : List Pair) (p : Pair) (i : ℕ) → IsPointSet S → IsPositionOf S p (Ok i)
    → All (IsBefore p) (drop (i + 1) S)
found_after S p i s h k d l =
    let n : i + 1 + k < length S = omega (arith, length-drop (i + 1) S) in
    subst (λ (z : Pair). IsBefore p z) (sym (get_or-drop (i + 1) S k d))
    (subst (λ (z : Pair). IsBefore z (get_or S (i + 1 + k) d)) (h.1 d) (s i (i + 1 + k) d (omega arith) n))

-- a list is the points before the position of p, p, and the points after it
pub cut_around : (S : List Pair) (p : Pair) (i : ℕ) → IsPositionOf S p (Ok i) → take i S ++ p ∷ drop (i + 1) S ≡ S
cut_around S p i h =
    sym (cut_at S i p h.0 ∙ ap (λ (z : Pair). take i S ++ z ∷ drop (suc i) S) (h.1 p)
    ∙ (let e : suc i ≡ i + 1 = omega arith in ap (λ (z : ℕ). take i S ++ p ∷ drop z S) e))
