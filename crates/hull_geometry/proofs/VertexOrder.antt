-- No three extreme points are in one line, so the vertex after a vertex is determined.
use Rattle.std.proofs.Common.{◌≡◌, ℤ, pos, ◌≤ℤ◌, neg_ℤ, inl, inr, refl, sym, ap, ◌∙◌, subst, List, arith, suc, [], ◌∷◌}
use Rattle.std.proofs.Common.{◌≢◌}
use Rattle.std.specs.List.{All, AllPairs}
use Rattle.std.proofs.lemmas.Int.{ints}
use Rattle.std.proofs.lemmas.List.Elements.{All-contains, All-tail}
use Rattle.lattice.specs.Covers.{IsExtreme, OnSegment}
use Rattle.lattice.specs.Plane.{Pair, orient, IsBefore}
use Rattle.lattice.specs.Vertices.{IsLeftOf, GoesRound}
use Rattle.hull_geometry.proofs.ChangedSets.{in_without}
use Rattle.hull_geometry.proofs.CoveredByEdges.{on_segment}
use Rattle.lattice.proofs.Order.{before_irrefl, before_total}
use Rattle.hull_geometry.proofs.Orientation.{orient_swap, orient_swap_zero, orient-cycle}

-- no extreme point is between two others on their line
not_between : (S : List Pair) (a x b : Pair) → IsExtreme S a → IsExtreme S x → IsExtreme S b → orient x a b ≡ pos 0
    → IsBefore a x → IsBefore x b → ⊥
not_between S a x b ea ex eb z h k =
    ex.1 (OnSegment a b (in_without x a S (λ e. before_irrefl x (subst (λ (y : Pair). IsBefore y x) e h)) ea.0)
    (in_without x b S (λ e. before_irrefl x (subst (IsBefore x) e k)) eb.0) (on_segment a b x h k z))

-- three extreme points are not in one line
pub not_in_line : (S : List Pair) (u v w : Pair) → IsExtreme S u → IsExtreme S v → IsExtreme S w → u ≢ v → u ≢ w → v ≢ w
    → orient u v w ≡ pos 0 → ⊥
not_in_line S u v w eu ev ew uv uw vw z =
    let zw : orient w u v ≡ pos 0 = sym (orient-cycle u v w) ∙ z in
    let zv : orient v w u ≡ pos 0 = sym (orient-cycle w u v) ∙ zw in
    elim (before_total u v) [
      | inr (inl e) ↦ uv e
      | inl a ↦ elim (before_total v w) [
        | inr (inl e) ↦ vw e
        | inl b ↦ not_between S u v w eu ev ew (orient_swap_zero v w u zv) a b
        | inr (inr b) ↦ elim (before_total u w) [
          | inr (inl e) ↦ uw e
          | inl c ↦ not_between S u w v eu ew ev zw c b
          | inr (inr c) ↦ not_between S w u v ew eu ev (orient_swap_zero u v w z) c a
        ]
      ]
      | inr (inr a) ↦ elim (before_total u w) [
        | inr (inl e) ↦ uw e
        | inl b ↦ not_between S v u w ev eu ew z a b
        | inr (inr b) ↦ elim (before_total v w) [
          | inr (inl e) ↦ vw e
          | inl c ↦ not_between S v w u ev ew eu (orient_swap_zero w u v zw) c b
          | inr (inr c) ↦ not_between S w v u ew ev eu zv c a
        ]
      ]
    ]

-- two extreme points that may come after u in a vertex list are not different
pub next_unique : (S : List Pair) (u v w : Pair) → IsExtreme S u → IsExtreme S v → IsExtreme S w → u ≢ v → u ≢ w
    → IsLeftOf S u v → IsLeftOf S u w → ¬ (¬ (v ≡ w))
next_unique S u v w eu ev ew uv uw hv hw n =
    let a : pos 0 ≤ℤ orient u v w = All-contains (λ t. pos 0 ≤ℤ orient u v t) S w hv ew.0 in
    let b : pos 0 ≤ℤ orient u w v = All-contains (λ t. pos 0 ≤ℤ orient u w t) S v hw ev.0 in
    not_in_line S u v w eu ev ew uv uw n (squeeze _ _ (orient_swap u v w) a b)
  where
    squeeze : (x y : ℤ) → x ≡ neg_ℤ y → pos 0 ≤ℤ x → pos 0 ≤ℤ y → x ≡ pos 0
    squeeze x y e h k = omega (arith, ints)

-- two extreme points that may come after u in a vertex list are equal
pub next_same : (S : List Pair) (u v w : Pair) → IsExtreme S u → IsExtreme S v → IsExtreme S w → u ≢ v → u ≢ w
    → IsLeftOf S u v → IsLeftOf S u w → v ≡ w
next_same S u v w eu ev ew uv uw hv hw =
    elim (before_total v w) [
      | inr (inl e) ↦ e
      | inl b ↦ absurd (next_unique S u v w eu ev ew uv uw hv hw
          (λ e. before_irrefl w (subst (λ (y : Pair). IsBefore y w) e b)))
      | inr (inr b) ↦ absurd (next_unique S u v w eu ev ew uv uw hv hw (λ e. before_irrefl w (subst (IsBefore w) e b)))
    ]

-- from u along `rest` back to `first`, extreme points that are different
pub record IsArc (S : List Pair) (first u : Pair) (rest : List Pair) : Type 0 where
  pub round : GoesRound S first u rest
  pub extreme : All (IsExtreme S) (u ∷ rest)
  pub distinct : AllPairs (λ a b. a ≢ b) (u ∷ rest)
  pub apart : All (λ t. first ≢ t) (u ∷ rest)

-- an arc from its second point on is an arc
arc_tail : (S : List Pair) (first u v : Pair) (rest : List Pair) → IsArc S first u (v ∷ rest) → IsArc S first v rest
arc_tail S first u v rest a = record {
  round = a.round.1;
  extreme = All-tail (IsExtreme S) u (v ∷ rest) a.extreme;
  distinct = λ i j d h l. a.distinct (suc i) (suc j) d (omega (arith, h)) (omega (arith, l));
  apart = All-tail (λ t. first ≢ t) u (v ∷ rest) a.apart;
}

-- the first two points of an arc are different
arc_apart : (S : List Pair) (first u v : Pair) (rest : List Pair) → IsArc S first u (v ∷ rest) → u ≢ v
arc_apart S first u v rest a = a.distinct 0 1 u (omega arith) (omega arith)

-- an arc that is closed at u does not go on
closed : (S : List Pair) (first u y : Pair) (ys : List Pair) → IsExtreme S first → IsArc S first u []
    → IsArc S first u (y ∷ ys) → ⊥
closed S first u y ys f a b =
    b.apart 1 u (omega arith)
    (next_same S u first y (b.extreme 0 u (omega arith)) f (b.extreme 1 u (omega arith))
    (λ e. b.apart 0 u (omega arith) (sym e)) (arc_apart S first u y ys b) a.round b.round.0)

-- an arc that begins at a point other than the first is determined
pub same_arc : (S : List Pair) (first u : Pair) (xs ys : List Pair) → IsExtreme S first → IsArc S first u xs
    → IsArc S first u ys → xs ≡ ys
same_arc S first u [] [] f a b = refl
same_arc S first u [] (y ∷ ys) f a b = absurd (closed S first u y ys f a b)
same_arc S first u (x ∷ xs) [] f a b = absurd (closed S first u x xs f b a)
same_arc S first u (x ∷ xs) (y ∷ ys) f a b =
    let e : x ≡ y = next_same S u x y (a.extreme 0 u (omega arith)) (a.extreme 1 u (omega arith))
    (b.extreme 1 u (omega arith)) (arc_apart S first u x xs a) (arc_apart S first u y ys b) a.round.0 b.round.0 in
    let rest : xs ≡ ys =
    same_arc S first y xs ys f (subst (λ (z : Pair). IsArc S first z xs) e (arc_tail S first u x xs a))
    (arc_tail S first u y ys b) in
    ap (λ (z : Pair). z ∷ xs) e ∙ ap (λ (z : List Pair). y ∷ z) rest
