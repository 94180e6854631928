-- A set of points covers a point, or a line has the whole set strictly on one side and the point on the other.
use Rattle.std.proofs.Common.{◌≡◌, ℤ, pos, ◌≤ℤ◌, ◌<ℤ◌, ◌⊎◌, inl, inr, refl, sym, ap, subst, List, arith, [], ◌∷◌}
use Rattle.std.proofs.Common.{◌++◌, ◌+ℤ◌}
use Rattle.std.proofs.lemmas.Int.{ints}
use Rattle.std.specs.List.{All, Contains}
use Rattle.std.proofs.lemmas.List.Elements.{All-contains, All-weaker, All-cons, All-head, All-tail, All-append}
use Rattle.std.proofs.lemmas.List.Elements.{Contains-append_left, Contains-append_right}
use Rattle.lattice.specs.Covers.{IsPointSet, Covers, Member}
use Rattle.lattice.specs.Plane.{Pair, orient, IsBefore}
use Rattle.lattice.specs.Signs.{le_or_lt}
use Rattle.lattice.proofs.Order.{before_trans, before_total}
use Rattle.lattice.proofs.Numbers.{nn_opposite, above_opposite}
use Rattle.lattice.specs.declared.side.Side.{Side}
use Rattle.lattice.specs.declared.side.Side.TheVariants.{Lower, Upper}
use Rattle.hull_geometry.specs.Edges.{IsAlong}
use Rattle.hull_geometry.specs.Hands.{IsMore}
use Rattle.hull_geometry.specs.Tangents.{IsTangent, IsLeftTangent, IsRightTangent}
use Rattle.hull_geometry.specs.declared.hand.Hand.{Hand}
use Rattle.hull_geometry.specs.declared.hand.Hand.TheVariants.{Left, Right}
use Rattle.hull_geometry.proofs.CoveredByEdges.{covered_by_edges}
use Rattle.hull_geometry.proofs.NotCovered.{Separated}
use Rattle.hull_geometry.proofs.OneSided.{past_separated}
use Rattle.hull_geometry.proofs.Orientation.{orient_swap}
use Rattle.hull_geometry.proofs.PointLists.{AllPairs-head, AllPairs-tail, append_none, later}
use Rattle.hull_geometry.proofs.SameSide.{OneSide, more_beside}
use Rattle.hull_geometry.proofs.Separators.{separated_by_wedge, wedge_before, wedge_behind}
use Rattle.hull_geometry.proofs.Sightings.{more_irrefl, tangent_of}

-- a relation that can be decided for each two points
module _ (B : Pair → Pair → Type 0) (irreflexive : (x : Pair) → ¬ (B x x))
    (returned : (x y : Pair) → B x y ⊎ ¬ (B x y)) where
  -- if the relation is transitive on the points of a list, no point is better than some one of them
  best_there : (P : Pair → Type 0) → ((u v w : Pair) → P u → P v → P w → B u v → B v w → B u w)
      → (t : Pair) (ts : List Pair) → All P (t ∷ ts) → (b : Pair) × Contains (t ∷ ts) b × All (λ u. ¬ (B u b)) (t ∷ ts)
  best_there P transitive t [] h =
      (t, (0, omega arith, refl), All-cons (λ u. ¬ (B u t)) t [] (irreflexive t) (λ k d l. absurd (omega arith)))
  best_there P transitive t (x ∷ xs) h =
      let r = best_there P transitive x xs (All-tail P t (x ∷ xs) h) in
      let pt : P t = All-head P t (x ∷ xs) h in
      let pr : P r.0 = All-contains P (x ∷ xs) r.0 (All-tail P t (x ∷ xs) h) r.1 in
      elim (returned t r.0) [
        | inl k ↦ (
          t,
          (0, omega arith, refl),
          All-cons (λ u. ¬ (B u t)) t (x ∷ xs) (irreflexive t)
              (λ i d l m. r.2 i d l (transitive _ t r.0 (All-tail P t (x ∷ xs) h i d l) pt pr m k)),
        )
        | inr n ↦ (r.0, later t r.0 (x ∷ xs) r.1, All-cons (λ u. ¬ (B u r.0)) t (x ∷ xs) n r.2)
      ]

-- whether a bend is above 0, or is 0 and a number below another, can be decided
nearer_returned : (orient_on near far : ℤ)
    → ((pos 0 <ℤ orient_on) ⊎ ((orient_on ≡ pos 0) × (near <ℤ far))) ⊎ ¬ ((pos 0 <ℤ orient_on) ⊎ ((orient_on ≡ pos 0) × (near <ℤ far)))
nearer_returned orient_on near far =
    elim (le_or_lt orient_on (pos 0)) [
      | inr h ↦ inl (inl h)
      | inl h ↦ elim (le_or_lt far near) [
        | inl k ↦ inr (no_less h k)
        | inr k ↦ elim (le_or_lt (pos 0) orient_on) [
          | inl m ↦ inl (inr (omega (arith, ints), k))
          | inr m ↦ inr (not_outwards m)
        ]
      ]
    ]
  where
    no_less : orient_on ≤ℤ pos 0 → far ≤ℤ near → ¬ ((pos 0 <ℤ orient_on) ⊎ ((orient_on ≡ pos 0) × (near <ℤ far)))
    no_less h k (inl b) = omega (arith, ints)
    no_less h k (inr b) = omega (arith, ints, b.1)

    not_outwards : orient_on <ℤ pos 0 → ¬ ((pos 0 <ℤ orient_on) ⊎ ((orient_on ≡ pos 0) × (near <ℤ far)))
    not_outwards h (inl b) = omega (arith, ints)
    not_outwards h (inr b) = omega (arith, ints, b.0)

-- of points on one side of q one is farthest on a hand
farthest_on : (hand : Hand) (q : Pair) (P : Pair → Type 0) → ((u v w : Pair) → P u → P v → P w → OneSide q u v w)
    → (t : Pair) (ts : List Pair) → All P (t ∷ ts) → (b : Pair) × IsTangent hand (t ∷ ts) q b
farthest_on hand q P beside t ts h =
    let r = best_there (IsMore hand q) (more_irrefl hand q) (λ u v. nearer_returned _ _ _) P
    (λ u v w pu pv pw. more_beside hand q u v w (beside u v w pu pv pw)) t ts h in
    (r.0, tangent_of hand (t ∷ ts) q r.0 r.1 r.2)

-- a set split by q: the points before q, q if it is there, and the points after it
pub record SplitSet (S : List Pair) (q : Pair) : Type 0 where
  pub behind : List Pair
  pub ahead : List Pair
  pub all_behind : All (λ t. IsBefore t q) behind
  pub all_ahead : All (IsBefore q) ahead
  pub whole : Contains S q ⊎ (S ≡ behind ++ ahead)

-- any point splits a list in order
pub separated_at : (S : List Pair) (q : Pair) → IsPointSet S → SplitSet S q
separated_at [] q s = record {
  behind = [];
  ahead = [];
  all_behind = λ k d l. absurd (omega arith);
  all_ahead =
      λ k d l. absurd (omega arith);
  whole = inr refl;
}
separated_at (t ∷ ts) q s =
    elim (before_total t q) [
      | inl b ↦
          let r : SplitSet ts q = separated_at ts q (AllPairs-tail t ts s) in
          record {
            behind = t ∷ r.behind;
            ahead = r.ahead;
            all_behind =
                All-cons (λ u. IsBefore u q) t r.behind b r.all_behind;
            all_ahead = r.all_ahead;
            whole =
                behind_too r.behind r.ahead r.whole;
          }
      | inr (inl e) ↦ record {
        behind = [];
        ahead = [];
        all_behind = λ k d l. absurd (omega arith);
        all_ahead =
            λ k d l. absurd (omega arith);
        whole = inl (0, omega arith, e);
      }
      | inr (inr b) ↦
          record {
            behind = [];
            ahead = t ∷ ts;
            all_behind = λ k d l. absurd (omega arith);
            all_ahead =
                All-cons (IsBefore q) t ts b
                (All-weaker (IsBefore t) (IsBefore q) (λ u c. before_trans q t u b c) ts (AllPairs-head t ts s));
            whole = inr refl;
          }
    ]
  where
    behind_too : (xs ys : List Pair) → Contains ts q ⊎ (ts ≡ xs ++ ys) → Contains (t ∷ ts) q ⊎ (t ∷ ts ≡ (t ∷ xs) ++ ys)
    behind_too xs ys (inl m) = inl (later t q ts m)
    behind_too xs ys (inr e) = inr (ap (λ (z : List Pair). t ∷ z) e)

-- t lies within the wedge at q from r to l
abbrev InWedge : Pair → Pair → Pair → Pair → Type 0
InWedge q l r t = pos 0 <ℤ (orient q r t +ℤ orient q t l)

-- if the leftmost of the points before q along a chain and the rightmost of those after it leave q outside, all of them
-- lie within a wedge at q
within_wedge : (side : Side) (q l r : Pair) (F G : List Pair) → All (λ t. IsAlong side t q) F → All (IsAlong side q) G
    → IsLeftTangent F q l → IsRightTangent G q r → orient q l r <ℤ pos 0
    → All (InWedge q l r) F × All (InWedge q l r) G
within_wedge side q l r F G f g left right h = (
  λ k e i. wedge_before side q l r _ lq qr (f k e i) rl (nn_opposite _ _ (orient_swap q _ l) (left.1 k e i).0),
  λ k e i. wedge_behind side q l r _ lq qr (g k e i) rl (right.1 k e i).0,
)
  where
    lq : IsAlong side l q
    lq = All-contains (λ t. IsAlong side t q) F l f left.0

    qr : IsAlong side q r
    qr = All-contains (IsAlong side q) G r g right.0

    rl : pos 0 <ℤ orient q r l
    rl = above_opposite _ _ (orient_swap q r l) h

-- the outermost points before q and after it, by their sides of q, cover q or separate it
round_returned : (q b a : Pair) (bs cs : List Pair) → All (λ t. IsBefore t q) (b ∷ bs) → All (IsBefore q) (a ∷ cs)
    → Covers ((b ∷ bs) ++ (a ∷ cs)) q ⊎ Separated ((b ∷ bs) ++ (a ∷ cs)) q
round_returned q b a bs cs hb ha =
    let L : List Pair = b ∷ bs in
    let R : List Pair = a ∷ cs in
    let before = λ (hand : Hand). farthest_on hand q (λ t. IsBefore t q) (λ u v w pu pv pw. inr (pu, pv, pw)) b bs hb in
    let after = λ (hand : Hand). farthest_on hand q (IsBefore q) (λ u v w pu pv pw. inl (pu, pv, pw)) a cs ha in
    let low : Pair × Pair = ((before Left).0, (after Right).0) in
    let high : Pair × Pair = ((after Left).0, (before Right).0) in
    elim (le_or_lt (pos 0) (orient q low.0 low.1)) [
      | inr h ↦
          let w = within_wedge Lower q low.0 low.1 L R hb ha (before Left).1 (after Right).1 h in
          inr (separated_by_wedge (L ++ R) q low.0 low.1 (All-append (InWedge q low.0 low.1) L R w.0 w.1))
      | inl h ↦ elim (le_or_lt (pos 0) (orient q high.0 high.1)) [
        | inr k ↦
            let w = within_wedge Upper q high.0 high.1 R L ha hb (after Left).1 (before Right).1 k in
            inr (separated_by_wedge (L ++ R) q high.0 high.1 (All-append (InWedge q high.0 high.1) L R w.1 w.0))
        | inl k ↦ inl (covered_by_edges (L ++ R) q low.0 low.1 high.0 high.1
            (Contains-append_left L R low.0 (before Left).1.0) (Contains-append_right L R low.1 (after Right).1.0)
            (Contains-append_right L R high.0 (after Left).1.0) (Contains-append_left L R high.1 (before Right).1.0)
            (All-contains (λ t. IsBefore t q) L low.0 hb (before Left).1.0) (All-contains (IsBefore q) R low.1 ha (after Right).1.0)
            (All-contains (IsBefore q) R high.0 ha (after Left).1.0) (All-contains (λ t. IsBefore t q) L high.1 hb (before Right).1.0)
            h k)
      ]
    ]

-- points before q and points after it cover q or are separated from it
sides_returned : (q : Pair) (L R : List Pair) → All (λ t. IsBefore t q) L → All (IsBefore q) R
    → Covers (L ++ R) q ⊎ Separated (L ++ R) q
sides_returned q [] R hb ha = inr (past_separated Upper R q ha)
sides_returned q (b ∷ bs) [] hb ha =
    inr (subst (λ (z : List Pair). Separated z q) (append_none (b ∷ bs)) (past_separated Lower (b ∷ bs) q hb))
sides_returned q (b ∷ bs) (a ∷ cs) hb ha = round_returned q b a bs cs hb ha

-- a set of points covers a point or is separated from it
pub covers_or_separated : (S : List Pair) (q : Pair) → IsPointSet S → Covers S q ⊎ Separated S q
covers_or_separated S q s =
    let r : SplitSet S q = separated_at S q s in
    elim r.whole [
      | inl m ↦ inl (Member m)
      | inr e ↦ subst (λ (z : List Pair). Covers z q ⊎ Separated z q) (sym e)
          (sides_returned q r.behind r.ahead r.all_behind r.all_ahead)
    ]
