-- The points of a set between a chain and the rest of it.
use Rattle.std.proofs.lemmas.Grind.{common_steps}
use Rattle.std.proofs.Common.{◌≡◌, ℕ, inl, inr, refl, sym, ap, ◌∙◌, subst, List, arith, zero, suc, [], ◌∷◌, ◌++◌, ◌<◌}
use Rattle.std.proofs.Common.{◌≤◌, ◌-◌, ◌+◌, length, length-append, get_or, take}
use Rattle.std.specs.List.{Contains}
use Rattle.std.proofs.lemmas.List.Elements.{All-contains, Contains-append_right, Contains-append_cases}
use Rattle.std.proofs.lemmas.List.Elements.{Contains-append_left}
use Rattle.lattice.specs.Covers.{IsPointSet}
use Rattle.lattice.specs.Plane.{Pair, IsBefore}
use Rattle.lattice.proofs.Order.{before_trans, before_irrefl}
use Rattle.hull_geometry.specs.Mending.{IsBetween}
use Rattle.hull_geometry.specs.Monotone.{EndsWith, IsThinned}
use Rattle.hull_geometry.specs.Edges.{end_of}
use Rattle.hull_geometry.specs.Positions.{origin}
use Rattle.lattice.specs.declared.side.Side.{Side}
use Rattle.hull_geometry.proofs.FewVertices.{distinct_few}
use Rattle.hull_geometry.proofs.Passes.{ends_take, ends_cut, thinned_set}
use Rattle.hull_geometry.proofs.PointSets.{set_left}
use Rattle.hull_geometry.proofs.Passes.{thinned_through, from_front}
use Rattle.hull_geometry.proofs.PointLists.{AllPairs-head, AllPairs-tail, append_twice}
use Rattle.hull_geometry.proofs.PointLists.{get_or_free}

-- the end of a list is a member
pub end_in : (c : Pair) (xs : List Pair) → EndsWith c xs → Contains xs c
end_in c xs e = let r = ends_cut c xs e in
    subst (λ (z : List Pair). Contains z c) (sym r.1) (Contains-append_right r.0 (c ∷ []) c (0, omega arith, refl))

-- the first i points of a list end with the one at i - 1
pub end_of_first : (xs : List Pair) (i : ℕ) (p : Pair) → 0 < i → i ≤ length xs → p ≡ get_or xs (i - 1) p
    → EndsWith p (take i xs)
end_of_first xs i p some l e =
    let here : i - 1 + 1 ≡ i = omega (arith, some) in
    subst (λ (n : ℕ). EndsWith p (take n xs)) here
    (subst (λ (z : Pair). EndsWith z (take (i - 1 + 1) xs))
    (sym (e ∙ get_or_free xs (i - 1) p origin (omega (arith, some, l)))) (ends_take xs (i - 1) (omega (arith, some, l))))

-- a point after the end of a set is after each of its points
after_end : (x : Pair) (xs : List Pair) (t q : Pair) → IsPointSet (x ∷ xs) → Contains (x ∷ xs) t
    → IsBefore (end_of x xs) q → IsBefore t q
after_end x [] t q s (zero, l, e) b = subst (λ (z : Pair). IsBefore z q) e b
after_end x [] t q s (suc k, l, e) b = absurd (omega (arith, l))
after_end x (y ∷ ys) t q s (zero, l, e) b =
    let xy : IsBefore x y = All-contains (IsBefore x) (y ∷ ys) y (AllPairs-head x (y ∷ ys) s) (0, omega arith, refl) in
    subst (λ (z : Pair). IsBefore z q) e
    (before_trans x y q xy (after_end y ys y q (AllPairs-tail x (y ∷ ys) s) (0, omega arith, refl) b))
after_end x (y ∷ ys) t q s (suc k, l, e) b =
    after_end y ys t q (AllPairs-tail x (y ∷ ys) s) (k, omega (arith, l), e) b

-- the same of a list that ends with d
pub after_ends : (d : Pair) (xs : List Pair) (t q : Pair) → IsPointSet xs → EndsWith d xs → Contains xs t
    → IsBefore d q → IsBefore t q
after_ends d [] t q s e m b = absurd e
after_ends d (x ∷ xs) t q s e m b = after_end x xs t q s m (subst (λ (z : Pair). IsBefore z q) (sym e) b)

-- the first of a list is a member
pub first_in : (a : Pair) (xs rest : List Pair) → xs ≡ a ∷ rest → Contains xs a
first_in a xs rest e = subst (λ (z : List Pair). Contains z a) (sym e) (0, omega arith, refl)

-- ---- one step of the pass over them

-- a set whose points are all in another has no more points
pub set_few : (C S : List Pair) → IsPointSet C → ((t : Pair) → Contains C t → Contains S t) → length C ≤ length S
set_few C S o among = distinct_few C S
    (λ i j d l b e. before_irrefl _ (subst (λ (z : Pair). IsBefore z (get_or C j d)) e (o i j d l b)))
    (λ k d l. among _ (k, l, get_or_free C k _ d l))

-- the points between two parts of a chain: those seen so far and one more
module _ (side : Side) (S left right chain seen rest whole : List Pair) (p : Pair) (w : seen ++ p ∷ rest ≡ whole)
    (k : IsBetween S left right whole) (h : IsThinned side (left ++ seen) chain) where
  -- the points so far, the next one, and the others are the whole
  parts : left ++ seen ++ p ∷ [] ++ rest ≡ left ++ whole
  parts = grind (arith, common_steps, append_twice)

  -- the points so far and the next one are a set
  front : IsPointSet (left ++ seen ++ p ∷ [])
  front = set_left (left ++ seen ++ p ∷ []) rest
      (subst IsPointSet (sym parts) (set_left (left ++ whole) right k.ordered))

  -- the chain and the next one are a set
  pub next_set : IsPointSet (chain ++ p ∷ [])
  next_set = thinned_set side (left ++ seen) chain (p ∷ []) h front

  -- the chain with the next one has no more points than S
  pub next_room : ((t : Pair) → Contains (left ++ right) t → Contains S t) → length chain + 1 ≤ length S
  next_room among = let l : length (chain ++ p ∷ []) ≤ length S = set_few (chain ++ p ∷ []) S next_set in_S in
      let m = length-append chain (p ∷ []) in omega (arith, l, m)
    where
      in_whole : (t : Pair) → Contains (left ++ whole) t → Contains S t
      in_whole t m = elim (Contains-append_cases left whole t m)
          [ inl n ↦ among t (Contains-append_left left right t n) | inr n ↦ k.among t n ]

      in_S : (t : Pair) → Contains (chain ++ p ∷ []) t → Contains S t
      in_S t m = in_whole t (subst (λ (z : List Pair). Contains z t) parts
          (Contains-append_left (left ++ seen ++ p ∷ []) rest t
          (from_front (left ++ seen) chain (p ∷ []) h.among t m)))

  -- removing inner points from the chain and the next one removes inner points from the points seen and the next one
  pub next_seen : (new : List Pair) → IsThinned side (chain ++ p ∷ []) new
      → (seen : List Pair) × (seen ++ rest ≡ whole) × IsThinned side (left ++ seen) new
  next_seen new q = (
    seen ++ p ∷ [],
    append_twice seen (p ∷ []) rest ∙ w,
    subst (λ (z : List Pair). IsThinned side z new) (append_twice left seen (p ∷ []))
        (thinned_through side (left ++ seen) chain (p ∷ []) new h q),
  )
