-- The chain of a set that changed.
use Rattle.std.proofs.lemmas.Grind.{common_steps}
use Rattle.std.proofs.Common.{◌≡◌, ℕ, ℤ, pos, ◌≤ℤ◌, ◌<ℤ◌, neg_ℤ, ◌⊎◌, inl, inr, refl, sym, ap, ◌∙◌, subst, List, arith}
use Rattle.std.proofs.Common.{zero, suc, [], ◌∷◌, ◌++◌, ◌<◌, ◌≤◌, ◌-◌, ◌+◌, length, get_or, take, drop, Ok, Err, to_z, of_z}
use Rattle.std.proofs.Common.{length-append, length-drop, length-take}
use Rattle.std.proofs.lemmas.Bool.{cases_lt}
use Rattle.std.proofs.lemmas.Int.{ints}
use Rattle.std.proofs.lemmas.List.{drop_more}
use Rattle.std.proofs.lemmas.List.Edits.{insert-append_right}
use Rattle.std.proofs.lemmas.List.Elements.{All-contains, All-cons, All-weaker, Contains-append_left}
use Rattle.std.proofs.lemmas.List.Elements.{Contains-append_right, Contains-append_cases}
use Rattle.std.specs.List.{All, Contains, insert}
use Rattle.std.specs.Prelude.{IsTrue, ◌↔◌}
use lib.Signed.{le_z}
use mir.Syntax.{w128}
use Rattle.lattice.specs.Covers.{IsPointSet, with_point, without_point}
use Rattle.lattice.specs.Plane.{Pair, IsBefore, IsWithin, widest_side}
use Rattle.lattice.specs.Signs.{le_or_lt}
use Rattle.lattice.proofs.Order.{before_total, before_trans, before_irrefl}
use Rattle.hull_geometry.specs.Mending.{IsOverEdge, IsBetween}
use Rattle.hull_geometry.specs.Monotone.{IsInwards, IsInnerFrom, IsInner, EndsWith, IsPassed, IsThinned}
use Rattle.lattice.specs.Orientations.{orient_on}
use Rattle.hull_geometry.specs.Monotone.{IsConvex, IsCandidateListOf, IsChainOf}
use Rattle.hull_geometry.specs.Positions.{IsPositionOf, point_at, origin}
use Rattle.lattice.specs.declared.side.Side.{Side}
use Rattle.hull_geometry.proofs.Between.{after_ends, end_in, first_in, set_few}
use Rattle.hull_geometry.proofs.PointLists.{all_of}
use Rattle.hull_geometry.proofs.ChainPasses.{set_less, set_longer}
use Rattle.hull_geometry.proofs.Comparisons.{fits_side, below_test}
use Rattle.hull_geometry.proofs.ChangedSets.{set-insert, in_without}
use Rattle.hull_geometry.proofs.FoundPositions.{found_after, found_absent, cut_around}
use Rattle.hull_geometry.proofs.Passes.{inner_cut, inner_left, inner_right}
use Rattle.hull_geometry.proofs.PointSets.{set_left, set_right}
use Rattle.hull_geometry.proofs.Passes.{inner_across, member_inner, ends_take, ends_right, thinned_itself, thinned_of}
use Rattle.hull_geometry.proofs.PointLists.{AllPairs-head, append_twice, append_none, get_or_free, later, cut}
use Rattle.hull_geometry.proofs.SetLaws.{members_with, members_without}
use Rattle.hull_geometry.proofs.Orientations.{orient_on_swap, inwards_from, inwards_to}
use Rattle.lattice.proofs.Numbers.{nn_above}

-- the negation of a number at most 0 is at least 0
not_below : (x y : ℤ) → y ≡ neg_ℤ x → x ≤ℤ pos 0 → pos 0 ≤ℤ y
not_below x y e h = omega (arith, ints)

-- the end of the points before an index is the point before it
end_before : (xs : List Pair) (i : ℕ) (d : Pair) → i ≤ length xs → EndsWith d (take i xs)
    → (0 < i) × (d ≡ point_at xs (i - 1))
end_before xs i d l e =
    elim (cases_lt 0 i) [
      | inr h ↦ let none : i ≡ 0 = omega (arith, h) in
          absurd (subst (λ (n : ℕ). EndsWith d (take n xs)) none e)
      | inl h ↦
          let j : i - 1 + 1 ≡ i = omega (arith, h) in
          let at : EndsWith (point_at xs (i - 1)) (take i xs) =
          subst (λ (n : ℕ). EndsWith (point_at xs (i - 1)) (take n xs)) j (ends_take xs (i - 1) (omega (arith, h, l))) in
          (h, one_end d (point_at xs (i - 1)) (take i xs) e at)
    ]
  where
    one_end : (c d : Pair) (zs : List Pair) → EndsWith c zs → EndsWith d zs → c ≡ d
    one_end c d [] e f = absurd e
    one_end c d (z ∷ zs) e f = sym e ∙ f

-- the first of the points from an index on is the one there
first_from : (xs : List Pair) (i : ℕ) (y : Pair) (rest : List Pair) → drop i xs ≡ y ∷ rest
    → (i < length xs) × (y ≡ point_at xs i)
first_from xs i y rest e =
    elim (cases_lt i (length xs)) [
      | inl h ↦ (h, ap (λ (z : List Pair). get_or z 0 origin) (sym e ∙ drop_more xs i origin h))
      | inr h ↦ let n = length-drop i xs in let m : length (drop i xs) ≡ length (y ∷ rest) = ap length e in
          absurd (omega (arith, h, n, m))
    ]

-- ---- a new point

-- the chain of a set is a candidate list of it
pub candidates_of : (side : Side) (S chain : List Pair) → IsChainOf side S chain → IsCandidateListOf side S chain
candidates_of side S chain c = record { ordered = c.strict.ordered; among = c.among; inner = c.inner }

-- a candidate list that bends is the chain
pub chain_of : (side : Side) (S chain : List Pair) → IsCandidateListOf side S chain → IsConvex side chain
    → IsChainOf side S chain
chain_of side S chain c h =
    record {
      strict = record {
        ordered = c.ordered;
        convex = h;
      };
      among = c.among;
      inner = c.inner;
    }

-- if p lies inwards of a segment of a candidate list, the list is one of the set with p
pub put_on_same : (side : Side) (S chain : List Pair) (p : Pair) (i : ℕ) → IsPositionOf chain p (Err i)
    → IsOverEdge side chain i p → IsCandidateListOf side S chain → IsCandidateListOf side (with_point p S) chain
put_on_same side S chain p i at (some, l, h) c = record {
  ordered = c.ordered;
  among = λ t m. (members_with p t S).1 (inr (c.among t m));
  inner = λ u m. go u ((members_with p u S).0 m);
}
  where
    l' : i - 1 < length chain
    l' = omega (arith, l)

    ends : EndsWith (point_at chain (i - 1)) (take i chain)
    ends = let j : i - 1 + 1 ≡ i = omega (arith, some) in
        subst (λ (n : ℕ). EndsWith (point_at chain (i - 1)) (take n chain)) j (ends_take chain (i - 1) l')

    parts : chain ≡ take i chain ++ point_at chain i ∷ drop (i + 1) chain
    parts = cut chain i (omega (arith, l)) ∙ ap (λ (z : List Pair). take i chain ++ z) (drop_more chain i origin l)

    inwards : IsInwards side (point_at chain (i - 1)) (point_at chain i) p
    inwards = (
      All-contains (λ t. IsBefore t p) (take i chain) (point_at chain (i - 1)) at.1
          (end_in (point_at chain (i - 1)) (take i chain) ends),
      All-contains (IsBefore p) (drop i chain) (point_at chain i) at.2
          (first_in (point_at chain i) (drop i chain) (drop (i + 1) chain) (drop_more chain i origin l)),
      not_below _ _ (orient_on_swap side (point_at chain (i - 1)) p (point_at chain i)) h,
    )

    inner_p : IsInner side chain p
    inner_p = subst (λ (z : List Pair). IsInner side z p) (sym parts)
        (inner_across side (take i chain) (point_at chain (i - 1)) (point_at chain i) (drop (i + 1) chain) p ends inwards)

    go : (u : Pair) → (u ≡ p) ⊎ Contains S u → IsInner side chain u
    go u (inl e) = subst (IsInner side chain) (sym e) inner_p
    go u (inr m) = c.inner u m

-- if p lies inwards of a segment of the chain, the chain is that of the set with p
pub put_in_same : (side : Side) (S chain : List Pair) (p : Pair) (i : ℕ) → IsPositionOf chain p (Err i)
    → IsOverEdge side chain i p → IsChainOf side S chain → IsChainOf side (with_point p S) chain
put_in_same side S chain p i at over c =
    chain_of side (with_point p S) chain (put_on_same side S chain p i at over (candidates_of side S chain c)) c.strict.convex

-- the points before p, and p, are in order
pub before_and : (side : Side) (chain : List Pair) (p : Pair) (i : ℕ) → IsPointSet chain → IsPositionOf chain p (Err i)
    → IsPointSet (take i chain ++ p ∷ [])
before_and side chain p i s at =
    set_longer (take i chain) p (set_left (take i chain) (drop i chain) (subst IsPointSet (cut chain i at.0) s)) at.1

-- the points before p, p, and the points after it, are in order
pub before_and_after : (chain : List Pair) (p : Pair) (i : ℕ) → IsPointSet chain → IsPositionOf chain p (Err i)
    → IsPointSet (take i chain ++ p ∷ [] ++ drop i chain)
before_and_after chain p i s at =
    subst IsPointSet (sym (append_twice (take i chain) (p ∷ []) (drop i chain)))
    (set-insert p (take i chain) (drop i chain) (subst IsPointSet (cut chain i at.0) s) at.1 at.2)

-- a point inwards of a segment, outwards of which p lies, is inwards of one of the two segments to p
split : (side : Side) (xs : List Pair) (d p y : Pair) (rest : List Pair) (u : Pair) → EndsWith d xs → IsBefore d p
    → IsBefore p y → pos 0 <ℤ orient_on side d p y → IsInwards side d y u → IsInner side (xs ++ p ∷ [] ++ y ∷ rest) u
split side xs d p y rest u e dp py h (du, uy, k) =
    let dy : IsBefore d y = before_trans d p y dp py in
    elim (before_total u p) [
      | inl up ↦ inner_left side (xs ++ p ∷ []) (y ∷ rest) u
          (inner_across side xs d p [] u e (du, up, nn_above _ (inwards_from side d p y u dp dy du h k)))
      | inr (inl z) ↦ inner_left side (xs ++ p ∷ []) (y ∷ rest) u
          (inner_right side xs (p ∷ []) u (inl z))
      | inr (inr pu) ↦ inner_across side (xs ++ p ∷ []) p y rest u (ends_right p xs (p ∷ []) refl)
          (pu, uy, nn_above _ (inwards_to side d p y u py dy uy h k))
    ]

-- a point that was inner to the chain is inner to the points before p, p and the points after it
inner_put : (side : Side) (chain : List Pair) (p : Pair) (i : ℕ) (right : List Pair) → drop i chain ≡ right
    → IsPositionOf chain p (Err i) → ¬ (IsOverEdge side chain i p) → (u : Pair)
    → IsInner side (take i chain ++ right) u → IsInner side (take i chain ++ p ∷ [] ++ right) u
inner_put side chain p i [] is at n u k = grind (arith, common_steps, inner_left, append_none)
inner_put side chain p i (y ∷ rest) is at n u k =
    elim (inner_cut side (take i chain) y rest u k) [
      | inl m ↦ inner_left side (take i chain ++ p ∷ []) (y ∷ rest) u (inner_left side (take i chain) (p ∷ []) u m)
      | inr (inl (d, e, m)) ↦ split side (take i chain) d p y rest u e
          (All-contains (λ t. IsBefore t p) (take i chain) d at.1 (end_in d (take i chain) e))
          (All-contains (IsBefore p) (drop i chain) y at.2 (first_in y (drop i chain) rest is))
          (outwards d e) m
      | inr (inr m) ↦ inner_right side (take i chain ++ p ∷ []) (y ∷ rest) u m
    ]
  where
    outwards : (d : Pair) → EndsWith d (take i chain) → pos 0 <ℤ orient_on side d p y
    outwards d e =
        let a = end_before chain i d at.0 e in
        let b = first_from chain i y rest is in
        elim (le_or_lt (orient_on side d p y) (pos 0)) [
          | inr h ↦ h
          | inl h ↦ absurd (n (
            a.0,
            b.0,
            subst (λ (z : Pair). orient_on side (point_at chain (i - 1)) p z ≤ℤ pos 0) b.1
                (subst (λ (z : Pair). orient_on side z p y ≤ℤ pos 0) a.1 h),
          ))
        ]

-- the points before p, p and the points after it, without some inner ones, are a candidate list of the set with p
pub put_on_new : (side : Side) (S chain new : List Pair) (p : Pair) (i : ℕ) → IsPositionOf chain p (Err i)
    → ¬ (IsOverEdge side chain i p) → IsThinned side (take i chain ++ p ∷ [] ++ drop i chain) new → IsCandidateListOf side S chain
    → IsCandidateListOf side (with_point p S) new
put_on_new side S chain new p i at n h c =
    record {
      ordered = h.ordered;
      among = λ t m. (members_with p t S).1 (whence t (h.among t m));
      inner =
          λ u m. h.inner u (go u ((members_with p u S).0 m));
    }
  where
    parts : chain ≡ take i chain ++ drop i chain
    parts = cut chain i at.0

    in_chain : (t : Pair) → Contains (take i chain ++ drop i chain) t → Contains S t
    in_chain t m = c.among t (subst (λ (z : List Pair). Contains z t) (sym parts) m)

    only : (t : Pair) → Contains (p ∷ []) t → t ≡ p
    only t (zero, l, e) = sym e
    only t (suc k, l, e) = absurd (omega (arith, l))

    whence : (t : Pair) → Contains (take i chain ++ p ∷ [] ++ drop i chain) t → (t ≡ p) ⊎ Contains S t
    whence t m =
        elim (Contains-append_cases (take i chain ++ p ∷ []) (drop i chain) t m) [
          | inr k ↦ inr (in_chain t (Contains-append_right (take i chain) (drop i chain) t k))
          | inl k ↦ elim (Contains-append_cases (take i chain) (p ∷ []) t k) [
            | inl j ↦ inr (in_chain t (Contains-append_left (take i chain) (drop i chain) t j))
            | inr j ↦ inl (only t j)
          ]
        ]

    go : (u : Pair) → (u ≡ p) ⊎ Contains S u → IsInner side (take i chain ++ p ∷ [] ++ drop i chain) u
    go u (inl e) = inner_left side (take i chain ++ p ∷ []) (drop i chain) u
        (inner_right side (take i chain) (p ∷ []) u (inl e))
    go u (inr m) = inner_put side chain p i (drop i chain) refl at n u
        (subst (λ (z : List Pair). IsInner side z u) parts (c.inner u m))

-- the result of a pass over them is the chain of the set with p
pub put_in_new : (side : Side) (S chain new : List Pair) (p : Pair) (i : ℕ) → IsPositionOf chain p (Err i)
    → ¬ (IsOverEdge side chain i p) → IsPassed side (take i chain ++ p ∷ [] ++ drop i chain) new → IsChainOf side S chain
    → IsChainOf side (with_point p S) new
put_in_new side S chain new p i at n h c =
    chain_of side (with_point p S) new
    (put_on_new side S chain new p i at n (thinned_of side (take i chain ++ p ∷ [] ++ drop i chain) new h)
    (candidates_of side S chain c)) h.strict.convex

-- inserting p at an index puts it between the points before the index and those from it on
inserted : (xs : List Pair) (i : ℕ) (p : Pair) → i ≤ length xs → insert xs i p ≡ take i xs ++ p ∷ drop i xs
inserted xs i p l =
    ap (λ (z : List Pair). insert z i p) (cut xs i l)
    ∙ insert-append_right (take i xs) (drop i xs) i i p (omega (arith, length-take i xs, l)) (omega arith)
    ∙ (let e : i - i ≡ 0 = omega arith in ap (λ (n : ℕ). take i xs ++ insert (drop i xs) n p) e)

-- the points before p, p and the points after it, as they are, are a candidate list of the set with p
pub put_on_all : (side : Side) (S candidates : List Pair) (p : Pair) (i : ℕ) → IsPositionOf candidates p (Err i)
    → ¬ (IsOverEdge side candidates i p) → IsCandidateListOf side S candidates → IsCandidateListOf side (with_point p S) (insert candidates i p)
put_on_all side S candidates p i at n c =
    subst (IsCandidateListOf side (with_point p S))
    (append_twice (take i candidates) (p ∷ []) (drop i candidates) ∙ sym (inserted candidates i p at.0))
    (put_on_new side S candidates (take i candidates ++ p ∷ [] ++ drop i candidates) p i at n
    (thinned_itself side (take i candidates ++ p ∷ [] ++ drop i candidates) (before_and_after candidates p i c.ordered at)) c)

-- ---- a point that was removed

-- a candidate list that does not have p is a candidate list of the set without p
pub take_off_same : (side : Side) (keys S chain : List Pair) (p : Pair) (i : ℕ) → IsPointSet S
    → IsPositionOf chain p (Err i) → keys ≡ without_point p S → IsCandidateListOf side S chain → IsCandidateListOf side keys chain
take_off_same side keys S chain p i s at e c =
    subst (λ (z : List Pair). IsCandidateListOf side z chain) (sym e) (record {
      ordered = c.ordered;
      among = λ t m. in_without p t S
          (λ z. found_absent chain p i at (subst (λ (x : Pair). Contains chain x) z m)) (c.among t m);
      inner = λ u m. c.inner u ((members_without p u S s).0 m).0;
    })

-- a chain that does not have p is the chain of the set without p
pub delete_same : (side : Side) (keys S chain : List Pair) (p : Pair) (i : ℕ) → IsPointSet S
    → IsPositionOf chain p (Err i) → keys ≡ without_point p S → IsChainOf side S chain → IsChainOf side keys chain
delete_same side keys S chain p i s at e c =
    chain_of side keys chain (take_off_same side keys S chain p i s at e (candidates_of side S chain c)) c.strict.convex

-- a point of the set is in the rest, or is the one that was removed
pub left_or_gone : (p : Pair) (keys S : List Pair) (t : Pair) → keys ≡ without_point p S → Contains S t
    → (t ≡ p) ⊎ Contains keys t
left_or_gone p keys S t e m = elim (before_total t p) [
  | inl b ↦ inr (other (λ z. before_irrefl p (subst (λ (x : Pair). IsBefore x p) z b)))
  | inr (inl z) ↦ inl z
  | inr (inr b) ↦ inr (other (λ z. before_irrefl p (subst (IsBefore p) z b)))
]
  where
    other : ¬ (t ≡ p) → Contains keys t
    other n = subst (λ (z : List Pair). Contains z t) (sym e) (in_without p t S n m)

-- the points before p and those after it are a set of the rest
pub around_set : (chain : List Pair) (p : Pair) (i : ℕ) → IsPointSet chain → IsPositionOf chain p (Ok i)
    → IsPointSet (take i chain ++ drop (i + 1) chain)
around_set chain p i s at =
    set_less (take i chain) p (drop (i + 1) chain) (subst IsPointSet (sym (cut_around chain p i at)) s)

-- they are points of the rest
pub around_among : (keys chain : List Pair) (p : Pair) (i : ℕ) → IsPointSet chain → IsPositionOf chain p (Ok i)
    → ((t : Pair) → Contains chain t → (t ≡ p) ⊎ Contains keys t) → (t : Pair)
    → Contains (take i chain ++ drop (i + 1) chain) t → Contains keys t
around_among keys chain p i s at among t m =
    elim (Contains-append_cases (take i chain) (drop (i + 1) chain) t m) [
      | inl k ↦ other
          (λ e. before_irrefl p (subst (λ (z : Pair). IsBefore z p) e
          (All-contains (λ t. IsBefore t p) (take i chain) t at.2 k)))
          (Contains-append_left (take i chain) (p ∷ drop (i + 1) chain) t k)
      | inr k ↦ other
          (λ e. before_irrefl p (subst (IsBefore p) e
          (All-contains (IsBefore p) (drop (i + 1) chain) t (found_after chain p i s at) k)))
          (Contains-append_right (take i chain) (p ∷ drop (i + 1) chain) t (later p t (drop (i + 1) chain) k))
    ]
  where
    other : ¬ (t ≡ p) → Contains (take i chain ++ p ∷ drop (i + 1) chain) t → Contains keys t
    other n k = elim (among t (subst (λ (z : List Pair). Contains z t) (cut_around chain p i at) k))
        [ inl e ↦ absurd (n e) | inr j ↦ j ]

-- together they are one point less than with p
pub around_few : (keys chain : List Pair) (p : Pair) (i : ℕ) → IsPointSet chain → IsPositionOf chain p (Ok i)
    → ((t : Pair) → Contains chain t → (t ≡ p) ⊎ Contains keys t) → length chain ≤ length keys + 1
around_few keys chain p i s at among =
    let few : length (take i chain ++ drop (i + 1) chain) ≤ length keys =
    set_few (take i chain ++ drop (i + 1) chain) keys (around_set chain p i s at)
    (around_among keys chain p i s at among) in
    let a = length-append (take i chain) (drop (i + 1) chain) in
    let b = length-append (take i chain) (p ∷ drop (i + 1) chain) in
    let c : length (take i chain ++ p ∷ drop (i + 1) chain) ≡ length chain =
    ap (λ (z : List Pair). length z) (cut_around chain p i at) in
    omega (arith, few, a, b, c)

-- with all points between them they are no more than the rest
pub between_few : (S left right middle : List Pair) → IsBetween S left right middle
    → ((t : Pair) → Contains (left ++ right) t → Contains S t) → length (left ++ middle) + length right ≤ length S
between_few S left right middle k among =
    let few : length (left ++ middle ++ right) ≤ length S = set_few (left ++ middle ++ right) S k.ordered whence in
    let a = length-append (left ++ middle) right in omega (arith, few, a)
  where
    whence : (t : Pair) → Contains (left ++ middle ++ right) t → Contains S t
    whence t m =
        elim (Contains-append_cases (left ++ middle) right t m) [
          | inr j ↦ among t (Contains-append_right left right t j)
          | inl j ↦ elim (Contains-append_cases left middle t j)
              [ inl n ↦ among t (Contains-append_left left right t n) | inr n ↦ k.among t n ]
        ]

-- the points before p, all points between its neighbours, and the points after it, without some inner ones, are a
-- candidate list of keys; each of keys is inner to the list, and none is p
pub take_off_new : (side : Side) (keys chain middle new : List Pair) (p : Pair) (i : ℕ) → IsPointSet chain
    → IsPositionOf chain p (Ok i) → ((t : Pair) → Contains chain t → (t ≡ p) ⊎ Contains keys t)
    → ((u : Pair) → Contains keys u → IsInner side chain u × ¬ (u ≡ p))
    → IsBetween keys (take i chain) (drop (i + 1) chain) middle
    → IsThinned side (take i chain ++ middle ++ drop (i + 1) chain) new → IsCandidateListOf side keys new
take_off_new side keys chain middle new p i cs at left_or inner k h =
    record { ordered = h.ordered; among = λ t m. whence t (h.among t m); inner = λ u m. h.inner u (go u m) }
  where
    ahead : All (IsBefore p) (drop (i + 1) chain)
    ahead = found_after chain p i cs at

    parts : take i chain ++ p ∷ drop (i + 1) chain ≡ chain
    parts = cut_around chain p i at

    whence : (t : Pair) → Contains (take i chain ++ middle ++ drop (i + 1) chain) t → Contains keys t
    whence t m =
        elim (Contains-append_cases (take i chain ++ middle) (drop (i + 1) chain) t m) [
          | inr j ↦ around_among keys chain p i cs at left_or t
              (Contains-append_right (take i chain) (drop (i + 1) chain) t j)
          | inl j ↦ elim (Contains-append_cases (take i chain) middle t j) [
            | inl n ↦ around_among keys chain p i cs at left_or t
                (Contains-append_left (take i chain) (drop (i + 1) chain) t n)
            | inr n ↦ k.among t n
          ]
        ]

    in_middle : (u : Pair) → Contains middle u → IsInner side (take i chain ++ middle ++ drop (i + 1) chain) u
    in_middle u m = inner_left side (take i chain ++ middle) (drop (i + 1) chain) u
        (inner_right side (take i chain) middle u (member_inner side middle u m))

    to_right : (u : Pair) → IsInner side (drop (i + 1) chain) u
        → IsInner side (take i chain ++ middle ++ drop (i + 1) chain) u
    to_right u n = inner_right side (take i chain ++ middle) (drop (i + 1) chain) u n

    in_right : (u : Pair) (right : List Pair) → drop (i + 1) chain ≡ right → Contains keys u
        → IsInnerFrom side p right u → IsInner side (take i chain ++ middle ++ drop (i + 1) chain) u
    in_right u [] is m n = elim n [ ]
    in_right u (y ∷ rest) is m (inl z) = to_right u (subst (λ (x : List Pair). IsInner side x u) (sym is) (inl z))
    in_right u (y ∷ rest) is m (inr (inl (pu, uy, n))) =
        in_middle u (k.all u m
        (All-weaker (λ t. IsBefore t p) (λ t. IsBefore t u) (λ t b. before_trans t p u b pu) (take i chain) at.2)
        (subst (All (IsBefore u)) (sym is) (All-cons (IsBefore u) y rest uy
        (All-weaker (IsBefore y) (IsBefore u) (λ t b. before_trans u y t uy b) rest
        (AllPairs-head y rest
        (subst IsPointSet is (set_right (take i chain) (drop (i + 1) chain) (around_set chain p i cs at))))))))
    in_right u (y ∷ rest) is m (inr (inr n)) =
        to_right u (subst (λ (x : List Pair). IsInner side x u) (sym is) (inr n))

    go : (u : Pair) → Contains keys u → IsInner side (take i chain ++ middle ++ drop (i + 1) chain) u
    go u m =
        let returned = inner u m in
        elim (inner_cut side (take i chain) p (drop (i + 1) chain) u
        (subst (λ (z : List Pair). IsInner side z u) (sym parts) returned.0)) [
          | inl n ↦ inner_left side (take i chain ++ middle) (drop (i + 1) chain) u
              (inner_left side (take i chain) middle u n)
          | inr (inl (d, ends, (du, up, n))) ↦ in_middle u (k.all u m
              (all_of (λ t. IsBefore t u) (take i chain) (λ t j. after_ends d (take i chain) t u
              (set_left (take i chain) (drop (i + 1) chain) (around_set chain p i cs at)) ends j du))
              (All-weaker (IsBefore p) (IsBefore u) (λ t b. before_trans u p t up b) (drop (i + 1) chain) ahead))
          | inr (inr (inl z)) ↦ absurd (returned.1 z)
          | inr (inr (inr n)) ↦ in_right u (drop (i + 1) chain) refl m n
        ]

-- each point of a set without p is inner to a candidate list of the set, and none is p
pub inner_still : (side : Side) (keys S candidates : List Pair) (p : Pair) → IsPointSet S → keys ≡ without_point p S
    → ((u : Pair) → Contains S u → IsInner side candidates u) → (u : Pair) → Contains keys u
    → IsInner side candidates u × ¬ (u ≡ p)
inner_still side keys S candidates p s e inner u m =
    let in_S = (members_without p u S s).0 (subst (λ (z : List Pair). Contains z u) e m) in (inner u in_S.0, in_S.1)

-- the test of the bend at an index decides whether p is over the edge there
pub over_edge : (side : Side) (chain : List Pair) (p a b : Pair) (i : ℕ) (v : ℤ) → 0 < i → i < length chain
    → a ≡ get_or chain (i - 1) a → b ≡ get_or chain i b → v ≡ orient_on side a p b → IsWithin widest_side v
    → IsTrue (le_z (to_z w128 (of_z w128 v)) (pos 0)) ↔ IsOverEdge side chain i p
over_edge side chain p a b i v some l ea eb ev size =
    let before : a ≡ point_at chain (i - 1) = ea ∙ get_or_free chain (i - 1) a origin (omega (arith, l)) in
    let behind : b ≡ point_at chain i = eb ∙ get_or_free chain i b origin l in
    let e : v ≡ orient_on side (point_at chain (i - 1)) p (point_at chain i) =
    ev ∙ ap (λ (z : Pair). orient_on side z p b) before ∙ ap (λ (z : Pair). orient_on side (point_at chain (i - 1)) p z) behind in
    let t = below_test v (orient_on side (point_at chain (i - 1)) p (point_at chain i)) e (fits_side v size) in
    (λ k. (some, l, t.0 k), λ o. t.1 o.2)
