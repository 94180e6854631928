-- The effect of one pass over points in order on a chain.
use Rattle.std.proofs.lemmas.Grind.{common_steps}
use Rattle.std.proofs.Common.{◌≡◌, ℕ, pos, ◌≤ℤ◌, inl, inr, refl, sym, ap, ◌∙◌, subst, List, arith, zero, suc, []}
use Rattle.std.proofs.Common.{◌∷◌, ◌++◌, ◌<◌, ◌+◌, ◌-◌, length, get_or, take, length-append}
use Rattle.std.specs.List.{All, Contains}
use Rattle.std.proofs.lemmas.Int.{ints}
use Rattle.std.proofs.lemmas.List.Elements.{All-head, All-tail, Contains-append_left, Contains-append_right}
use Rattle.std.proofs.lemmas.List.Elements.{Contains-append_cases}
use Rattle.lattice.specs.Covers.{IsPointSet}
use Rattle.lattice.specs.Plane.{Pair, orient, IsBefore}
use Rattle.lattice.proofs.Order.{before_trans}
use Rattle.hull_geometry.specs.Monotone.{IsInwards, IsInnerFrom, IsInner, EndsInwards}
use Rattle.lattice.specs.Orientations.{orient_on}
use Rattle.lattice.specs.declared.side.Side.{Side}
use Rattle.lattice.specs.declared.side.Side.TheVariants.{Lower, Upper}
use Rattle.hull_geometry.proofs.ChangedSets.{set-insert}
use Rattle.hull_geometry.proofs.Orientation.{orient_swap, orient-cycle}
use Rattle.hull_geometry.proofs.PointSets.{set_right}
use Rattle.hull_geometry.proofs.PointLists.{AllPairs-cons, AllPairs-head, AllPairs-tail, all_append_right, left_part}
use Rattle.hull_geometry.proofs.PointLists.{right_part, append_none, append_twice}
use Rattle.hull_geometry.proofs.SameSide.{side_trans}
use Rattle.lattice.proofs.LineCrossings.{orient_other}

-- if the middle one of three points in order does not lie outwards, it lies inwards of the segment between the others
middle : (side : Side) (a b c : Pair) → IsBefore a b → IsBefore b c → orient_on side a b c ≤ℤ pos 0 → IsInwards side a c b
middle Lower a b c ab bc h = (ab, bc, let e = orient_swap a c b in omega (arith, ints))
middle Upper a b c ab bc h = grind (arith, common_steps, ab, orient-cycle, orient_other, ints)

-- a point inwards of the first of two segments lies inwards of the long one
first_inwards : (side : Side) (a b c u : Pair) → IsBefore a b → IsBefore b c → orient_on side a b c ≤ℤ pos 0
    → IsInwards side a b u → IsInwards side a c u
first_inwards Lower a b c u ab bc h (au, ub, k) = (
  au,
  before_trans u b c ub bc,
  side_trans a c b u (inl (before_trans a b c ab bc, ab, au))
      (let e = orient_swap a c b in omega (arith, ints)) k,
)
first_inwards Upper a b c u ab bc h (au, ub, k) = (
  au,
  before_trans u b c ub bc,
  let r : pos 0 ≤ℤ orient a u c =
      side_trans a u b c (inl (au, ab, before_trans a b c ab bc))
      (let e = orient_other a b u in let f = orient_swap a b u in omega (arith, ints))
      (let e = orient_other a b c in omega (arith, ints)) in
      let e = orient_other a c u in
      let f = orient_swap a c u in
      omega (arith, ints),
)

-- a point inwards of the second of two segments lies inwards of the long one
second_inwards : (side : Side) (a b c u : Pair) → IsBefore a b → IsBefore b c → orient_on side a b c ≤ℤ pos 0
    → IsInwards side b c u → IsInwards side a c u
second_inwards Lower a b c u ab bc h (bu, uc, k) = (
  before_trans a b u ab bu,
  uc,
  let r : pos 0 ≤ℤ orient c u a = side_trans c u b a (inr (uc, bc, before_trans a b c ab bc))
      (let e = orient-cycle b c u in let f = orient-cycle u b c in omega (arith, ints))
      (let e = orient_swap c b a in let f = orient-cycle a b c in omega (arith, ints)) in
      let e = orient-cycle a c u in
      let f = orient-cycle u a c in
      omega (arith, ints),
)
second_inwards Upper a b c u ab bc h (bu, uc, k) = (
  before_trans a b u ab bu,
  uc,
  side_trans c a b u (inr (before_trans a b c ab bc, bc, uc))
      (let e = orient-cycle a b c in let f = orient_other a b c in omega (arith, ints)) k,
)

-- a point inner to the last two segments lies inwards of the long one
last_two : (side : Side) (a b c u : Pair) → IsBefore a b → IsBefore b c → orient_on side a b c ≤ℤ pos 0
    → IsInnerFrom side a (b ∷ c ∷ []) u → IsInnerFrom side a (c ∷ []) u
last_two side a b c u ab bc h (inl e) = inr (inl (subst (IsInwards side a c) (sym e) (middle side a b c ab bc h)))
last_two side a b c u ab bc h (inr (inl k)) = inr (inl (first_inwards side a b c u ab bc h k))
last_two side a b c u ab bc h (inr (inr (inl e))) = inl e
last_two side a b c u ab bc h (inr (inr (inr (inl k)))) = inr (inl (second_inwards side a b c u ab bc h k))
last_two side a b c u ab bc h (inr (inr (inr (inr k)))) = elim k [ ]

-- the same, after more of the chain
behind_more : (side : Side) (x : Pair) (front : List Pair) (a b c u : Pair) → IsBefore a b → IsBefore b c
    → orient_on side a b c ≤ℤ pos 0 → IsInnerFrom side x (front ++ a ∷ b ∷ c ∷ []) u
    → IsInnerFrom side x (front ++ a ∷ c ∷ []) u
behind_more side x [] a b c u ab bc h (inl e) = inl e
behind_more side x [] a b c u ab bc h (inr (inl k)) = inr (inl k)
behind_more side x [] a b c u ab bc h (inr (inr k)) = inr (inr (last_two side a b c u ab bc h k))
behind_more side x (y ∷ ys) a b c u ab bc h (inl e) = inl e
behind_more side x (y ∷ ys) a b c u ab bc h (inr (inl k)) = inr (inl k)
behind_more side x (y ∷ ys) a b c u ab bc h (inr (inr k)) = inr (inr (behind_more side y ys a b c u ab bc h k))

-- a point inner to a chain is inner to it without its last point but one, if that one lies inwards
without_inward : (side : Side) (front : List Pair) (a b c u : Pair) → IsBefore a b → IsBefore b c
    → orient_on side a b c ≤ℤ pos 0 → IsInner side (front ++ a ∷ b ∷ c ∷ []) u → IsInner side (front ++ a ∷ c ∷ []) u
without_inward side [] a b c u ab bc h (inl e) = inl e
without_inward side [] a b c u ab bc h (inr k) = inr (last_two side a b c u ab bc h k)
without_inward side (x ∷ xs) a b c u ab bc h (inl e) = inl e
without_inward side (x ∷ xs) a b c u ab bc h (inr k) = inr (behind_more side x xs a b c u ab bc h k)

-- a set without one of its points is a set
pub set_less : (xs : List Pair) (b : Pair) (ys : List Pair) → IsPointSet (xs ++ b ∷ ys) → IsPointSet (xs ++ ys)
set_less [] b ys s = AllPairs-tail b ys s
set_less (x ∷ xs) b ys s =
    let h : All (IsBefore x) (xs ++ b ∷ ys) = AllPairs-head x (xs ++ b ∷ ys) s in
    AllPairs-cons x (xs ++ ys)
    (all_append_right (IsBefore x) xs ys (left_part (IsBefore x) xs (b ∷ ys) h)
    (All-tail (IsBefore x) b ys (right_part (IsBefore x) xs (b ∷ ys) h)))
    (set_less xs b ys (AllPairs-tail x (xs ++ b ∷ ys) s))

-- a set with a point added after all of it is a set
pub set_longer : (xs : List Pair) (c : Pair) → IsPointSet xs → All (λ t. IsBefore t c) xs → IsPointSet (xs ++ c ∷ [])
set_longer xs c s h = set-insert c xs [] (subst IsPointSet (append_none xs) s) h (λ k d l. absurd (omega arith))

-- one point is removed from the end of a chain
module _ {side : Side} {chain : List Pair} {c : Pair} (e : EndsInwards side chain c) where
  -- the chain and c end with a, b and c
  longer : chain ++ c ∷ [] ≡ e.front ++ e.a ∷ e.b ∷ c ∷ []
  longer = ap (λ (z : List Pair). z ++ c ∷ []) e.whole ∙ append_twice e.front (e.a ∷ e.b ∷ []) (c ∷ [])

  -- the shorter chain and c end with a and c
  shorter : take (length chain - 1) chain ++ c ∷ [] ≡ e.front ++ e.a ∷ c ∷ []
  shorter = ap (λ (z : List Pair). z ++ c ∷ []) e.kept ∙ append_twice e.front (e.a ∷ []) (c ∷ [])

  -- the last three points are in order
  last_three : IsPointSet (chain ++ c ∷ []) → IsPointSet (e.a ∷ e.b ∷ c ∷ [])
  last_three s = set_right e.front (e.a ∷ e.b ∷ c ∷ []) (subst IsPointSet longer s)

  -- the shorter chain and c are a set
  pub popped_set : IsPointSet (chain ++ c ∷ []) → IsPointSet (take (length chain - 1) chain ++ c ∷ [])
  popped_set s = subst IsPointSet (sym shorter)
      (subst IsPointSet (append_twice e.front (e.a ∷ []) (c ∷ []))
      (set_less (e.front ++ e.a ∷ []) e.b (c ∷ [])
      (subst IsPointSet (longer ∙ sym (append_twice e.front (e.a ∷ []) (e.b ∷ c ∷ []))) s)))

  -- a point that was inner stays inner
  pub popped_inner : IsPointSet (chain ++ c ∷ []) → (u : Pair) → IsInner side (chain ++ c ∷ []) u
      → IsInner side (take (length chain - 1) chain ++ c ∷ []) u
  popped_inner s u k =
      let three = last_three s in
      let ab : IsBefore e.a e.b = All-head (IsBefore e.a) e.b (c ∷ []) (AllPairs-head e.a (e.b ∷ c ∷ []) three) in
      let bc : IsBefore e.b c =
      All-head (IsBefore e.b) c [] (AllPairs-head e.b (c ∷ []) (AllPairs-tail e.a (e.b ∷ c ∷ []) three)) in
      subst (λ (z : List Pair). IsInner side z u) (sym shorter)
      (without_inward side e.front e.a e.b c u ab bc e.inwards
      (subst (λ (z : List Pair). IsInner side z u) longer k))

  -- its points were points of the chain
  pub popped_among : (t : Pair) → Contains (take (length chain - 1) chain) t → Contains chain t
  popped_among t m = grind (arith, common_steps, append_twice)

  -- the chain gets shorter
  pub popped_short : length (take (length chain - 1) chain) < length chain
  popped_short =
      let k : length (take (length chain - 1) chain) ≡ length (e.front ++ e.a ∷ []) = ap length e.kept in
      let w : length chain ≡ length (e.front ++ e.a ∷ e.b ∷ []) = ap length e.whole in
      let m = length-append e.front (e.a ∷ []) in
      let n = length-append e.front (e.a ∷ e.b ∷ []) in
      omega (arith, k, w, m, n)

-- a member of a list that is part of a chain, with a new end, is one of the chain or that end
pub with_end : (part chain : List Pair) (c : Pair) → ((t : Pair) → Contains part t → Contains chain t) → (t : Pair)
    → Contains (part ++ c ∷ []) t → Contains (chain ++ c ∷ []) t
with_end part chain c h t m =
    elim (Contains-append_cases part (c ∷ []) t m)
    [ inl k ↦ Contains-append_left chain (c ∷ []) t (h t k) | inr k ↦ Contains-append_right chain (c ∷ []) t k ]

-- the first i + 1 points are the first i and the one at i, by recursion
take_suc : (S : List Pair) (i : ℕ) (d : Pair) → i < length S → take (suc i) S ≡ take i S ++ get_or S i d ∷ []
take_suc [] i d l = absurd (omega arith)
take_suc (x ∷ xs) zero d l = refl
take_suc (x ∷ xs) (suc i) d l = ap (λ (z : List Pair). x ∷ z) (take_suc xs i d (omega arith))

-- the first i + 1 points are the first i and the one at i
pub take_next : (S : List Pair) (i : ℕ) (p : Pair) → i < length S → p ≡ get_or S i p → take (i + 1) S ≡ take i S ++ p ∷ []
take_next S i p l e = let n : i + 1 ≡ suc i = omega arith in
    ap (λ (k : ℕ). take k S) n ∙ take_suc S i p l ∙ ap (λ (z : Pair). take i S ++ z ∷ []) (sym e)
