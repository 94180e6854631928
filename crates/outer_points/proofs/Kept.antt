-- What a filter keeps of a list of points, and what that covers.
use Rattle.std.proofs.Common.{◌≡◌, ◌⊎◌, ◌+◌, ◌<◌, ℕ, zero, suc, Bool, true, false, List, [], ◌∷◌, length, inl, inr}
use Rattle.std.proofs.Common.{refl, sym, ap, subst, arith}
use Rattle.std.specs.List.{All, Contains, items_where_true}
use Rattle.std.specs.List.Retain.{IsFiltered, ReturnsInTurn}
use Rattle.std.proofs.lemmas.List.Elements.{All-contains, Contains-get_or}
use Rattle.lattice.specs.Covers.{Covers, Member}
use Rattle.lattice.specs.Plane.{Pair, IsBefore}
use Rattle.lattice.specs.declared.side.Side.{Side}
use Rattle.lattice.specs.declared.side.Side.TheVariants.{Lower, Upper}
use Rattle.hull_geometry.specs.CandidateLists.{IsCandidateList}
use Rattle.hull_geometry.specs.Positions.{origin, point_at}
use Rattle.hull_geometry.proofs.CoveredByEdges.{covered_by_edges}
use Rattle.hull_geometry.proofs.Orientation.{at_least, orient-cycle}
use Rattle.hull_geometry.proofs.PointLists.{later}
use Rattle.outer_points.specs.Chains.{IsUnder}
use Rattle.outer_points.specs.Octagons.{chain_of, IsOctagonInOrder, IsInnerTo}
use Rattle.outer_points.specs.Sublists.{IsSublist}
use Rattle.outer_points.specs.declared.octagon.Octagon.{Octagon}
use Rattle.outer_points.proofs.InOrder.{none_between}

-- a chosen point is one of the points
chosen_among : (bs : List Bool) (xs : List Pair) (t : Pair) → Contains (items_where_true bs xs) t → Contains xs t
chosen_among [] xs t m = absurd (omega (arith, m.1))
chosen_among (b ∷ bs) [] t m = absurd (omega (arith, m.1))
chosen_among (true ∷ bs) (x ∷ xs) t (zero, l, e) = (0, omega arith, e)
chosen_among (true ∷ bs) (x ∷ xs) t (suc k, l, e) = later x t xs (chosen_among bs xs t (k, omega (arith, l), e))
chosen_among (false ∷ bs) (x ∷ xs) t m = later x t xs (chosen_among bs xs t m)

-- a point of a sublist is one of the points
pub sublist_among : (xs ys : List Pair) → IsSublist ys xs → (t : Pair) → Contains ys t → Contains xs t
sublist_among xs ys (bs, l, e) t m = chosen_among bs xs t (subst (λ (z : List Pair). Contains z t) e m)

-- all points are chosen if nothing is dropped
pub all_chosen : (xs : List Pair) → IsSublist xs xs
all_chosen [] = ([], refl, refl)
all_chosen (x ∷ xs) = let r = all_chosen xs in (true ∷ r.0, ap suc r.1, ap (λ (z : List Pair). x ∷ z) r.2)

-- a point at which a test returned true is kept, if it returns false only where D holds
kept_in_turn : {F : Type 0} (R : F → Pair → Bool → F → Type 0) (D : Pair → Type 0) (f : F)
    → ((x : Pair) (b : Bool) (g : F) → R f x b g → (b ≡ false → D x) × (g ≡ f))
    → (bs : List Bool) (xs : List Pair) (q : F) → length bs ≡ length xs → ReturnsInTurn R f bs xs q
    → (t : Pair) → Contains xs t → Contains (items_where_true bs xs) t ⊎ D t
kept_in_turn R D f h [] [] q l r t m = absurd (omega (arith, m.1))
kept_in_turn R D f h [] (x ∷ xs) q l r t m = absurd (omega (arith, l))
kept_in_turn R D f h (b ∷ bs) [] q l r t m = absurd (omega (arith, m.1))
kept_in_turn R D f h (true ∷ bs) (x ∷ xs) q l (j, k, r) t (zero, i, e) = inl (0, omega arith, e)
kept_in_turn R D f h (false ∷ bs) (x ∷ xs) q l (j, k, r) t (zero, i, e) = inr (subst D e ((h x false j k).0 refl))
kept_in_turn {F} R D f h (true ∷ bs) (x ∷ xs) q l (j, k, r) t (suc n, i, e) =
    elim (kept_in_turn R D f h bs xs q (omega (arith, l))
    (subst (λ (g : F). ReturnsInTurn R g bs xs q) (h x true j k).1 r) t (n, omega (arith, i), e)) [
      | inl m ↦ inl (later x t (items_where_true bs xs) m)
      | inr d ↦ inr d
    ]
kept_in_turn {F} R D f h (false ∷ bs) (x ∷ xs) q l (j, k, r) t (suc n, i, e) =
    kept_in_turn R D f h bs xs q (omega (arith, l))
    (subst (λ (g : F). ReturnsInTurn R g bs xs q) (h x false j k).1 r) t (n, omega (arith, i), e)

-- the same of a filtered list
pub kept_or : {F : Type 0} (R : F → Pair → Bool → F → Type 0) (D : Pair → Type 0) (f : F)
    → ((x : Pair) (b : Bool) (g : F) → R f x b g → (b ≡ false → D x) × (g ≡ f))
    → (xs ys : List Pair) → IsFiltered R f xs ys → (t : Pair) → Contains xs t → Contains ys t ⊎ D t
kept_or R D f h xs ys (bs, q, l, r, e) t m =
    subst (λ (z : List Pair). Contains z t ⊎ D t) (sym e) (kept_in_turn R D f h bs xs q l r t m)

-- points of which only those in the octagon are missing are a candidate list of all points, if its vertices are among these
pub candidates : (O : Octagon) (S K : List Pair) → IsOctagonInOrder O → length O.lower ≡ 5 → length O.upper ≡ 5
    → ((side : Side) → All (Contains S) (chain_of side O))
    → ((t : Pair) → Contains K t → Contains S t) → ((t : Pair) → Contains S t → Contains K t ⊎ IsInnerTo O t)
    → (side : Side) → IsCandidateList side (Contains K) (Contains S)
candidates O S K o five fives chosen among missing side = record {
  among = among;
  under = λ t m. elim (missing t m) [
    | inl k ↦ inl k
    | inr d ↦ let u = under side d in
        inr (
          point_at (chain_of side O) u.0,
          point_at (chain_of side O) (u.0 + 1),
          kept side u.0 (omega (arith, u.1)),
          kept side (u.0 + 1) (omega (arith, u.1)),
          u.2,
        )
  ];
}
  where
    under : (side : Side) {t : Pair} → IsInnerTo O t → IsUnder side (chain_of side O) t
    under Lower d = d.below
    under Upper d = d.above

    long : (side : Side) → length (chain_of side O) ≡ 5
    long Lower = five
    long Upper = fives

    ordered : (side : Side) (i : ℕ) (t : Pair) → i < 4 → IsBefore (point_at (chain_of side O) i) t
        → IsBefore t (point_at (chain_of side O) (i + 1)) → ¬ Contains (chain_of side O) t
    ordered Lower i t = none_between O.lower i t five o.0
    ordered Upper i t = none_between O.upper i t fives o.1

    kept : (side : Side) (i : ℕ) → i < 5 → Contains K (point_at (chain_of side O) i)
    kept side i l =
        let c : Pair = point_at (chain_of side O) i in
        let there = Contains-get_or (chain_of side O) i origin (omega (arith, l, long side)) in
        elim (missing c (All-contains (Contains S) (chain_of side O) c (chosen side) there)) [
          | inl k ↦ k
          | inr d ↦ let u = under side d in absurd (ordered side u.0 c u.1 u.2.0 u.2.1 there)
        ]

-- a candidate list for both chains covers all points
pub covering : (S K : List Pair) → ((side : Side) → IsCandidateList side (Contains K) (Contains S)) → (t : Pair)
    → Contains S t → Covers K t
covering S K c t m = elim ((c Lower).under t m) [
  | inl k ↦ Member k
  | inr (a, b, ma, mb, u) ↦ elim ((c Upper).under t m) [
    | inl k ↦ Member k
    | inr (e, d, me, md, v) ↦ covered_by_edges K t a b d e ma mb md me u.0 u.1 v.1 v.0
        (at_least _ _ (orient-cycle a b t) u.2) (at_least _ _ (orient-cycle d e t) v.2)
  ]
]
