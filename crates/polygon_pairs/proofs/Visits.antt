-- Pairs of the places that a sweep has come to, from one place to the next.
use Rattle.std.proofs.Common.{◌≡◌, ◌≢◌, ◌⊎◌, ◌∙◌, ℕ, ◌+◌, ◌-◌, ◌<◌, List, [], ◌∷◌, ◌++◌, length, get_or, inl, inr}
use Rattle.std.proofs.Common.{refl, sym, ap, subst, arith, min, max}
use Rattle.std.proofs.lemmas.Bool.{cases_lt}
use Rattle.std.specs.List.{AllPairs, Contains}
use Rattle.std.proofs.lemmas.List.{get_or_append_left, get_or-append_right, length-append}
use Rattle.std.proofs.lemmas.List.Elements.{All-append, All-cons, Contains-append_left, Contains-append_right}
use denote.Ref.{Bor}
use Rattle.lattice.specs.Plane.{Pair}
use Rattle.hull_polygon.specs.declared.ranges.Length.{Length}
use Rattle.polygon_pairs.specs.Pairs.{IsPairWithin}
use Rattle.polygon_pairs.specs.Sweeps.{pair_of, ArePairsOf, IsPairIfWithin, IsVisited}
use Rattle.polygon_pairs.specs.declared.pair.HullPair.{HullPair}

-- a relation of all elements of two lists, in each and between them, is one of all of both in a row
all_pairs_append : {X : Type 0} (R : X → X → Type 0) (xs ys : List X) → AllPairs R xs → AllPairs R ys
    → ((i j : ℕ) (d : X) → i < length xs → j < length ys → R (get_or xs i d) (get_or ys j d)) → AllPairs R (xs ++ ys)
all_pairs_append {X} R xs ys a b between i j d l m =
    let n : length (xs ++ ys) ≡ length xs + length ys = length-append xs ys in
    elim (cases_lt j (length xs)) [
      | inl k ↦
          subst (λ (z : X). R z (get_or (xs ++ ys) j d)) (sym (get_or_append_left xs ys d i (omega (arith, l, k))))
          (subst (R (get_or xs i d)) (sym (get_or_append_left xs ys d j k)) (a i j d l k))
      | inr k ↦
          subst (R (get_or (xs ++ ys) i d)) (sym (get_or-append_right xs ys (length xs) j d refl k))
          (elim (cases_lt i (length xs)) [
            | inl h ↦
                subst (λ (z : X). R z (get_or ys (j - length xs) d)) (sym (get_or_append_left xs ys d i h))
                (between i (j - length xs) d h (omega (arith, m, n, k)))
            | inr h ↦
                subst (λ (z : X). R z (get_or ys (j - length xs) d))
                (sym (get_or-append_right xs ys (length xs) i d refl h))
                (b (i - length xs) (j - length xs) d (omega (arith, l, h)) (omega (arith, m, n, k)))
          ])
    ]

-- indices that differ at two places are at one place if they are equal
same_place : (order : List ℕ) (i j : ℕ) → AllPairs (λ m n. m ≢ n) order → i < length order → j < length order
    → get_or order i 0 ≡ get_or order j 0 → i ≡ j
same_place order i j differ li lj e = elim (cases_lt i j) [
  | inl k ↦ absurd (differ i j 0 k lj e)
  | inr k ↦ elim (cases_lt j i) [
    | inl m ↦ absurd (differ j i 0 m li (sym e))
    | inr m ↦ omega (arith, k, m)
  ]
]

-- two numbers are those of another pair, in one order or the other, if the lesser and the greater are
same_numbers : (x y u v : ℕ) → min x y ≡ min u v → max x y ≡ max u v → ((x ≡ u) × (y ≡ v)) ⊎ ((x ≡ v) × (y ≡ u))
same_numbers x y u v e f = elim (cases_lt x y) [
  | inl a ↦ elim (cases_lt u v) [
    | inl b ↦ inl (omega (arith, a, b, e, f), omega (arith, a, b, e, f))
    | inr b ↦ inr (omega (arith, a, b, e, f), omega (arith, a, b, e, f))
  ]
  | inr a ↦ elim (cases_lt u v) [
    | inl b ↦ inr (omega (arith, a, b, e, f), omega (arith, a, b, e, f))
    | inr b ↦ inl (omega (arith, a, b, e, f), omega (arith, a, b, e, f))
  ]
]

-- the pairs of two places are equal only if the places are
same_places : (order : List ℕ) (a b i j : ℕ) → AllPairs (λ m n. m ≢ n) order → a < b → b < length order → i < j → j < length order
    → pair_of (get_or order a 0) (get_or order b 0) ≡ pair_of (get_or order i 0) (get_or order j 0) → (a ≡ i) × (b ≡ j)
same_places order a b i j differ ab lb ij lj e =
    elim (same_numbers (get_or order a 0) (get_or order b 0) (get_or order i 0) (get_or order j 0)
    (ap (λ (p : HullPair). p.first) e) (ap (λ (p : HullPair). p.second) e)) [
      | inl s ↦ (
        same_place order a i differ (omega (arith, ab, lb)) (omega (arith, ij, lj)) s.0,
        same_place order b j differ lb lj s.1,
      )
      | inr s ↦
          let x : a ≡ j = same_place order a j differ (omega (arith, ab, lb)) lj s.0 in
          let y : b ≡ i = same_place order b i differ lb (omega (arith, ij, lj)) s.1 in
          absurd (omega (arith, ab, ij, x, y))
    ]

-- no place, no pair
pub nothing_visited : (visited : ℕ → ℕ → Type 0) (r : Length) (polygons : List (Bor (List Pair))) (order : List ℕ)
    → ((a b : ℕ) → a < b → visited a b → ⊥) → ArePairsOf visited r polygons order []
nothing_visited visited r polygons order none = record {
  within = λ k d l. absurd (omega (arith, l));
  among = λ k d l. absurd (omega (arith, l));
  complete = λ a b ab lb v near. absurd (none a b ab v);
  distinct = λ i j d l m. absurd (omega (arith, m));
}

-- places whose polygons are farther apart add nothing
pub more_visited : (v w : ℕ → ℕ → Type 0) (r : Length) (polygons : List (Bor (List Pair))) (order : List ℕ) (pairs : List HullPair)
    → ((a b : ℕ) → v a b → w a b)
    → ((a b : ℕ) → a < b → b < length order → w a b
    → v a b ⊎ ¬ IsPairWithin r polygons (pair_of (get_or order a 0) (get_or order b 0)))
    → ArePairsOf v r polygons order pairs → ArePairsOf w r polygons order pairs
more_visited v w r polygons order pairs into back h = record {
  within = h.within;
  among = λ k d l. widened (get_or pairs k d) (h.among k d l);
  complete = λ a b ab lb here near. elim (back a b ab lb here) [
    | inl there ↦ h.complete a b ab lb there near
    | inr far ↦ absurd (far near)
  ];
  distinct = h.distinct;
}
  where
    widened : (p : HullPair) → IsVisited v order p → IsVisited w order p
    widened p (a, b, ab, lb, here, e) = (a, b, ab, lb, into a b here, e)

-- one more pair of places
pub one_visited : (r : Length) (polygons : List (Bor (List Pair))) (order : List ℕ) (i j : ℕ) (more : List HullPair) → i < j
    → j < length order → IsPairIfWithin r polygons (pair_of (get_or order i 0) (get_or order j 0)) more
    → ArePairsOf (λ a b. (a ≡ i) × (b ≡ j)) r polygons order more
one_visited r polygons order i j more ij lj (inl h) =
    subst (ArePairsOf (λ a b. (a ≡ i) × (b ≡ j)) r polygons order) (sym h.1) record {
      within = All-cons (IsPairWithin r polygons) p [] h.0 (λ k d l. absurd (omega (arith, l)));
      among = All-cons (IsVisited (λ a b. (a ≡ i) × (b ≡ j)) order) p [] (i, j, ij, lj, (refl, refl), refl)
          (λ k d l. absurd (omega (arith, l)));
      complete = λ a b ab lb here near.
          subst (λ (n : ℕ). Contains (p ∷ []) (pair_of (get_or order n 0) (get_or order b 0))) (sym here.0)
          (subst (λ (n : ℕ). Contains (p ∷ []) (pair_of (get_or order i 0) (get_or order n 0))) (sym here.1)
          (0, omega arith, refl));
      distinct = λ a b d l m. absurd (omega (arith, l, m));
    }
  where
    p : HullPair
    p = pair_of (get_or order i 0) (get_or order j 0)
one_visited r polygons order i j more ij lj (inr h) =
    subst (ArePairsOf (λ a b. (a ≡ i) × (b ≡ j)) r polygons order) (sym h.1) record {
      within = λ k d l. absurd (omega (arith, l));
      among = λ k d l. absurd (omega (arith, l));
      complete = λ a b ab lb here near. absurd (h.0
          (subst (λ (n : ℕ). IsPairWithin r polygons (pair_of (get_or order n 0) (get_or order j 0))) here.0
          (subst (λ (n : ℕ). IsPairWithin r polygons (pair_of (get_or order a 0) (get_or order n 0))) here.1 near)));
      distinct = λ a b d l m. absurd (omega (arith, m));
    }

-- the pairs of some places and then those of others
pub both_visited : (v w u : ℕ → ℕ → Type 0) (r : Length) (polygons : List (Bor (List Pair))) (order : List ℕ) (xs ys : List HullPair)
    → AllPairs (λ m n. m ≢ n) order → ((a b : ℕ) → v a b → w a b → ⊥) → ((a b : ℕ) → v a b → u a b)
    → ((a b : ℕ) → w a b → u a b) → ((a b : ℕ) → u a b → v a b ⊎ w a b)
    → ArePairsOf v r polygons order xs → ArePairsOf w r polygons order ys → ArePairsOf u r polygons order (xs ++ ys)
both_visited v w u r polygons order xs ys differ clash left right either h k = record {
  within = All-append (IsPairWithin r polygons) xs ys h.within k.within;
  among = All-append (IsVisited u order) xs ys (λ i d l. from_left (get_or xs i d) (h.among i d l))
      (λ i d l. from_right (get_or ys i d) (k.among i d l));
  complete = λ a b ab lb here near. elim (either a b here) [
    | inl there ↦ Contains-append_left xs ys _ (h.complete a b ab lb there near)
    | inr there ↦ Contains-append_right xs ys _ (k.complete a b ab lb there near)
  ];
  distinct = all_pairs_append (λ p q. p ≢ q) xs ys h.distinct k.distinct
      (λ i j d l m. apart (get_or xs i d) (get_or ys j d) (h.among i d l) (k.among j d m));
}
  where
    from_left : (p : HullPair) → IsVisited v order p → IsVisited u order p
    from_left p (a, b, ab, lb, here, e) = (a, b, ab, lb, left a b here, e)

    from_right : (p : HullPair) → IsVisited w order p → IsVisited u order p
    from_right p (a, b, ab, lb, here, e) = (a, b, ab, lb, right a b here, e)

    apart : (p q : HullPair) → IsVisited v order p → IsVisited w order q → p ≢ q
    apart p q (a, b, ab, lb, here, e) (i, j, ij, lj, there, f) same =
        let s = same_places order a b i j differ ab lb ij lj (sym e ∙ same ∙ f) in
        clash i j (subst (λ (n : ℕ). v n j) s.0 (subst (v a) s.1 here)) there
