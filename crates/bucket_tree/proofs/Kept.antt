-- Bridges that stay valid when their sets change at one point.
use Rattle.std.proofs.Common.{◌≡◌, ◌∙◌, ◌⊎◌, ℕ, ◌<◌, false, Bool, refl, sym, ap, subst, inl, inr, List, ◌++◌, length}
use Rattle.std.proofs.Common.{Box}
use Rattle.std.specs.List.{Contains}
use Rattle.std.proofs.lemmas.List.Elements.{Contains-append_left, Contains-append_right}
use Rattle.lattice.specs.Bridges.{IsBridge}
use Rattle.lattice.specs.Covers.{IsPointSet, with_point, without_point}
use Rattle.lattice.specs.Plane.{Pair, IsBefore}
use Rattle.lattice.specs.Standing.{IsInnerToEdge, WithoutPoint}
use Rattle.hull_geometry.specs.CandidateLists.{IsCandidateList}
use Rattle.hull_set.proofs.HeldMultiplicities.{same_or_other}
use Rattle.lattice.specs.declared.side.Side.{Side}
use Rattle.lattice.proofs.Order.{before_trans, before_irrefl, before_not, before_apart, after_apart}
use Rattle.lattice.proofs.Standing.{stands}
use Rattle.hull_geometry.specs.Monotone.{IsInwards}
use Rattle.hull_geometry.specs.Positions.{first_of, last_of}
use Rattle.hull_geometry.proofs.Fringed.{under_is_inner, start_inner, end_inner}
use Rattle.hull_geometry.proofs.PointSets.{set_apart}
use Rattle.hull_geometry.proofs.SetLaws.{with_point_law, without_point_law}
use Rattle.hull_buckets.specs.Buckets.{IsCovered}
use Rattle.bucket_tree.proofs.SetEnds.{by_last, by_first, last_among, first_among}
use Rattle.bridge_search.specs.Trees.{On}
use Rattle.hull_geometry.proofs.Fringed.{of_candidate_lists}
use Rattle.lattice.specs.declared.side.Side.TheVariants.{Lower, Upper}
use Rattle.bucket_tree.proofs.NodeCandidateLists.{node_candidates}
use Rattle.bucket_tree.proofs.NodePoints.{some_below}
use Rattle.bucket_tree.specs.Changes.{HasEdgesAfter, AreKept, HasEnds, IsClearOf, IsBridgeBetween, IsAfter, IsUnaffectedOver, ClosesBy}
use Rattle.bucket_tree.specs.Changes.{is_affected, edge_on}
use Rattle.bucket_tree.specs.Nodes.{tree_of, points_below, ends_in, AreInRow, IsWellBuilt}
use Rattle.bucket_tree.specs.declared.node.Ends.{Ends}
use Rattle.bucket_tree.specs.declared.node.Fork.{Fork}
use Rattle.bucket_tree.specs.declared.node.Node.{Node}
use Rattle.bucket_tree.specs.declared.node.Node as node
use Rattle.bucket_tree.specs.declared.renewal.Affected.{Affected}

-- T has the points of S except for p, which may have been added or removed
pub record DiffersAt (p : Pair) (S T : List Pair) : Type 0 where
  pub had : (t : Pair) → Contains T t → Contains S t ⊎ (t ≡ p)
  pub has : (t : Pair) → Contains S t → ¬ (t ≡ p) → Contains T t

-- no point was added or removed
pub differs_not : (p : Pair) (S : List Pair) → DiffersAt p S S
differs_not p S = record { had = λ t i. inl i; has = λ t i n. i }

-- p was added
pub differs_with : (p : Pair) (S : List Pair) → IsPointSet S → DiffersAt p S (with_point p S)
differs_with p S s = record {
  had = λ t i. elim (((with_point_law S p s).1 t).0 i) [ inl e ↦ inr e | inr k ↦ inl k ];
  has = λ t i n. ((with_point_law S p s).1 t).1 (inr i);
}

-- p was removed
pub differs_without : (p : Pair) (S : List Pair) → IsPointSet S → DiffersAt p S (without_point p S)
differs_without p S s = record {
  had = λ t i. inl (((without_point_law S p s).1 t).0 i).0;
  has = λ t i n. ((without_point_law S p s).1 t).1 (i, n);
}

-- a bridge of which p is clear stays valid
pub still : (side : Side) (p : Pair) (l r m n : List Pair) (e : Pair × Pair)
    → IsBridge side (Contains l) (Contains r) e.0 e.1 → DiffersAt p l m → DiffersAt p r n → IsClearOf side e p
    → IsBridge side (Contains m) (Contains n) e.0 e.1
still side p l r m n e b d f c =
    stands side (Contains l) (Contains r) (Contains m) (Contains n) e.0 e.1 b (d.has e.0 b.from_left c.0)
    (f.has e.1 b.to_right c.1)
    (λ t i. elim (d.had t i) [ inl k ↦ inl k | inr q ↦ inr (subst (IsInnerToEdge side e.0 e.1) (sym q) c.2) ])
    (λ t i. elim (f.had t i) [ inl k ↦ inl k | inr q ↦ inr (subst (IsInnerToEdge side e.0 e.1) (sym q) c.2) ])

-- what is under an edge is clear of it
pub clear_covered : (side : Side) (p : Pair) (e : Pair × Pair) → IsInwards side e.0 e.1 p → IsClearOf side e p
clear_covered side p e k =
    let uv : IsBefore e.0 e.1 = before_trans e.0 p e.1 k.0 k.1 in (
      before_apart e.0 p k.0,
      after_apart e.1 p k.1,
      under_is_inner side e.0 e.1 e.0 e.1 p uv k (start_inner side e.0 e.1 uv) (end_inner side e.0 e.1 uv),
    )

-- a set without a point that is under two others is a candidate list of it
candidates_without : (side : Side) (S : List Pair) (u a b : Pair) → Contains S a → Contains S b → IsInwards side a b u
    → IsCandidateList side (WithoutPoint u (Contains S)) (Contains S)
candidates_without side S u a b i j k = record {
  among = λ t h. h.1;
  under = λ t h. elim (same_or_other t u) [
    | inl e ↦ inr (
      a,
      b,
      (before_apart a u k.0, i),
      (after_apart b u k.1, j),
      subst (IsInwards side a b) (sym e) k,
    )
    | inr n ↦ inl (n, h)
  ];
}

-- all of a set is a candidate list of it
all_candidates : (side : Side) (S : List Pair) → IsCandidateList side (Contains S) (Contains S)
all_candidates side S = record { among = λ t h. h; under = λ t h. inl h }

-- so it ends no bridge in the first of two sets
no_start : (side : Side) (l r : List Pair) (u v a b : Pair) → IsPointSet (l ++ r)
    → IsBridge side (Contains l) (Contains r) u v → Contains l a → Contains l b → IsInwards side a b u → ⊥
no_start side l r u v a b s h i j k =
    ((of_candidate_lists side (WithoutPoint u (Contains l)) (Contains l) (Contains r) (Contains r) u v
    (candidates_without side l u a b i j k) (all_candidates side r) (λ p q x y. set_apart l r p q s x y)).1 h).from_left.0 refl

-- nor in the second
no_end : (side : Side) (l r : List Pair) (u v a b : Pair) → IsPointSet (l ++ r)
    → IsBridge side (Contains l) (Contains r) u v → Contains r a → Contains r b → IsInwards side a b v → ⊥
no_end side l r u v a b s h i j k =
    ((of_candidate_lists side (Contains l) (Contains l) (WithoutPoint v (Contains r)) (Contains r) u v
    (all_candidates side l) (candidates_without side r v a b i j k) (λ p q x y. set_apart l r p q s x y)).1 h).to_right.0 refl

-- points that cover p on a side were there before
covering : (side : Side) (p : Pair) (S T : List Pair) → DiffersAt p S T → IsCovered side p T → IsCovered side p S
covering side p S T d c = (c.0, c.1, first, second, c.4)
  where
    first : Contains S c.0
    first = elim (d.had c.0 c.2) [ inl k ↦ k | inr q ↦ absurd (before_apart c.0 p c.4.0 q) ]

    second : Contains S c.1
    second = elim (d.had c.1 c.3) [ inl k ↦ k | inr q ↦ absurd (after_apart c.1 p c.4.1 q) ]

-- if p is covered in the first of two concatenated lists, their bridge is clear of it
pub clear_left : (side : Side) (p : Pair) (l r m : List Pair) (e : Pair × Pair) → IsPointSet (l ++ r)
    → IsBridge side (Contains l) (Contains r) e.0 e.1 → DiffersAt p l m → IsCovered side p m → IsClearOf side e p
clear_left side p l r m e s b d c =
    let k = covering side p l m d c in (
      λ q. no_start side l r e.0 e.1 k.0 k.1 s b k.2 k.3 (subst (IsInwards side k.0 k.1) (sym q) k.4),
      λ q. before_not k.1 p (subst (IsBefore k.1) q (set_apart l r k.1 e.1 s k.3 b.to_right)) k.4.1,
      under_is_inner side e.0 e.1 k.0 k.1 p (set_apart l r e.0 e.1 s b.from_left b.to_right) k.4
          (b.inner_left k.0 k.2, b.tie_left k.0 k.2) (b.inner_left k.1 k.3, b.tie_left k.1 k.3),
    )

-- or in the second
pub clear_right : (side : Side) (p : Pair) (l r n : List Pair) (e : Pair × Pair) → IsPointSet (l ++ r)
    → IsBridge side (Contains l) (Contains r) e.0 e.1 → DiffersAt p r n → IsCovered side p n → IsClearOf side e p
clear_right side p l r n e s b d c =
    let k = covering side p r n d c in (
      λ q. before_not p k.0 (subst (λ z. IsBefore z k.0) q (set_apart l r e.0 k.0 s b.from_left k.2)) k.4.0,
      λ q. no_end side l r e.0 e.1 k.0 k.1 s b k.2 k.3 (subst (IsInwards side k.0 k.1) (sym q) k.4),
      under_is_inner side e.0 e.1 k.0 k.1 p (set_apart l r e.0 e.1 s b.from_left b.to_right) k.4
          (b.inner_right k.0 k.2, b.tie_right k.0 k.2) (b.inner_right k.1 k.3, b.tie_right k.1 k.3),
    )

-- ---- forks

-- two forks with the same edges on both sides have them on each
pub same_edges : (f g : Fork) → g.lower ≡ f.lower → g.upper ≡ f.upper → (side : Side) → edge_on side g ≡ edge_on side f
same_edges f g l u Lower = l
same_edges f g l u Upper = u

-- a fork whose edges are those of another is stale like that one
pub edges_as : (p : Pair) (sides : Affected) (l r : Node) (f g : Fork)
    → ((side : Side) → is_affected side sides ≡ false → IsBridgeBetween side l r (edge_on side f))
    → ((side : Side) → IsClearOf side (edge_on side f) p → IsBridgeBetween side l r (edge_on side f))
    → ((side : Side) → edge_on side g ≡ edge_on side f)
    → ((side : Side) → is_affected side sides ≡ false → IsBridgeBetween side l r (edge_on side g))
    × ((side : Side) → IsClearOf side (edge_on side g) p → IsBridgeBetween side l r (edge_on side g))
edges_as p sides l r f g unaffected clear same = (
  λ side o. subst (IsBridgeBetween side l r) (sym (same side)) (unaffected side o),
  λ side z. subst (IsBridgeBetween side l r) (sym (same side))
      (clear side (subst (λ e. IsClearOf side e p) (same side) z)),
)

pub after_as : (p : Pair) (sides : Affected) (l r : Node) (f g : Fork)
    → ((side : Side) → is_affected side sides ≡ false → IsBridgeBetween side l r (edge_on side f))
    → ((side : Side) → IsClearOf side (edge_on side f) p → IsBridgeBetween side l r (edge_on side f))
    → ((side : Side) → edge_on side g ≡ edge_on side f) → HasEnds l r g → IsAfter p sides l r g
after_as p sides l r f g unaffected clear same ends =
    let e = edges_as p sides l r f g unaffected clear same in
    record { ends = ends; unaffected = e.0; clear = e.1 }

-- ---- sides

-- both chains are unaffected by p if each is
pub closing : (p : Pair) (S : List Pair) (sides : Affected) → (sides.lower ≡ false → IsCovered Lower p S)
    → (sides.upper ≡ false → IsCovered Upper p S) → IsUnaffectedOver p sides S
closing p S sides l u Lower e = l e
closing p S sides l u Upper e = u e

-- what covers p without it still covers it after it was removed
pub unaffected_without : (p : Pair) (S : List Pair) (sides : Affected) → IsPointSet S → IsUnaffectedOver p sides S
    → IsUnaffectedOver p sides (without_point p S)
unaffected_without p S sides s c side e =
    let k = c side e in (
      k.0,
      k.1,
      ((without_point_law S p s).1 k.0).1 (k.2, before_apart k.0 p k.4.0),
      ((without_point_law S p s).1 k.1).1 (k.3, after_apart k.1 p k.4.1),
      k.4,
    )

-- a fork makes a chain unaffected that was already, or on which its points cover p
pub closes_by : (p : Pair) (before after : Affected) (S : List Pair)
    → (after.lower ≡ false → (before.lower ≡ false) ⊎ IsCovered Lower p S)
    → (after.upper ≡ false → (before.upper ≡ false) ⊎ IsCovered Upper p S) → ClosesBy p before after S
closes_by p before after S l u Lower e = l e
closes_by p before after S l u Upper e = u e

-- what is under an edge of two parts is covered by their points
pub covered_by : (side : Side) (p : Pair) (l r : Node) (e : Pair × Pair) → IsInwards side e.0 e.1 p
    → (IsClearOf side e p → IsBridgeBetween side l r e) → IsCovered side p (points_below l ++ points_below r)
covered_by side p l r e k b =
    let h = b (clear_covered side p e k) in (
      e.0,
      e.1,
      Contains-append_left (points_below l) (points_below r) e.0 h.from_left,
      Contains-append_right (points_below l) (points_below r) e.1 h.to_right,
      k,
    )

-- the same by a fork that is one change stale
pub covered_at : (side : Side) (p : Pair) (sides : Affected) (f : Fork) → HasEdgesAfter p sides f
    → (n : Bool) → (n ≡ false) ⊎ IsInwards side (edge_on side f).0 (edge_on side f).1 p
    → (n ≡ false) ⊎ IsCovered side p (points_below f.left ++ points_below f.right)
covered_at side p sides f h n (inl k) = inl k
covered_at side p sides f h n (inr k) = inr (covered_by side p f.left f.right (edge_on side f) k (h.clear side))

-- what covers p in a part covers it in both
pub unaffected_within : (p : Pair) (before after : Affected) (S T : List Pair) → ((t : Pair) → Contains S t → Contains T t)
    → IsUnaffectedOver p before S → ClosesBy p before after T → IsUnaffectedOver p after T
unaffected_within p before after S T within c h side e = elim (h side e) [
  | inl o ↦ let i = c side o in (i.0, i.1, within i.0 i.2, within i.1 i.3, i.4)
  | inr i ↦ i
]

-- ---- stored edges

-- the edges that a fork stores are the bridges of all points below its halves
pub stored : (n : Node) (h : ℕ) (f : Box Fork _) → n ≡ node.Fork h f → IsWellBuilt n → (side : Side)
    → IsBridgeBetween side f.value.left f.value.right (edge_on side f.value)
stored n h f e w side = go side
  where
    b : IsWellBuilt (node.Fork h f)
    b = subst IsWellBuilt e w

    of_points : (side : Side) (u v : Pair) → IsBridge side (On (tree_of f.value.left)) (On (tree_of f.value.right)) u v
        → IsBridge side (Contains (points_below f.value.left)) (Contains (points_below f.value.right)) u v
    of_points side u v = (of_candidate_lists side (On (tree_of f.value.left)) (Contains (points_below f.value.left))
        (On (tree_of f.value.right)) (Contains (points_below f.value.right)) u v
        (node_candidates side f.value.left b.buckets.0) (node_candidates side f.value.right b.buckets.1)
        (λ p q i j. set_apart (points_below f.value.left) (points_below f.value.right) p q b.ordered i j)).0

    go : (side : Side) → IsBridgeBetween side f.value.left f.value.right (edge_on side f.value)
    go Lower = of_points Lower f.value.lower.0 f.value.lower.1 b.bridged.2
    go Upper = of_points Upper f.value.upper.0 f.value.upper.1 b.bridged.1

-- so they are those of the halves that are taken from it
pub stored_apart : (n : Node) (h : ℕ) (f : Box Fork _) (l r : Node) (g : Fork) → n ≡ node.Fork h f → IsWellBuilt n
    → l ≡ f.value.left → r ≡ f.value.right → g.lower ≡ f.value.lower → g.upper ≡ f.value.upper → (side : Side)
    → IsBridgeBetween side l r (edge_on side g)
stored_apart n h f l r g e w a b c d side =
    subst (λ z. IsBridgeBetween side z r (edge_on side g)) (sym a)
    (subst (λ z. IsBridgeBetween side f.value.left z (edge_on side g)) (sym b)
    (subst (IsBridgeBetween side f.value.left f.value.right) (sym (same side)) (stored n h f e w side)))
  where
    same : (side : Side) → edge_on side g ≡ edge_on side f.value
    same Lower = c
    same Upper = d

-- the bridge of all points below two nodes in a row is that of their vertices
pub of_vertices : (side : Side) (l r : Node) (e : Pair × Pair) → AreInRow l r → IsBridgeBetween side l r e
    → IsBridge side (On (tree_of l)) (On (tree_of r)) e.0 e.1
of_vertices side l r e w b = (of_candidate_lists side (On (tree_of l)) (Contains (points_below l)) (On (tree_of r))
    (Contains (points_below r)) e.0 e.1 (node_candidates side l w.left_built.buckets)
    (node_candidates side r w.right_built.buckets)
    (λ p q i j. set_apart (points_below l) (points_below r) p q w.in_order i j)).1 b

-- ---- the ends of a part

-- the last point stays if p is before it
last_stays : (p : Pair) (S T : List Pair) → IsPointSet S → IsPointSet T → 0 < length S → 0 < length T
    → DiffersAt p S T → IsBefore p (last_of S) → last_of S ≡ last_of T
last_stays p S T s t l m d b =
    elim (by_last T (last_of S) t (d.has (last_of S) (last_among S l) (after_apart (last_of S) p b))) [
      | inl e ↦ e
      | inr k ↦ absurd (elim (d.had (last_of T) (last_among T m)) [
        | inl i ↦ elim (by_last S (last_of T) s i) [
          | inl e ↦ before_irrefl (last_of T) (subst (λ z. IsBefore z (last_of T)) (sym e) k)
          | inr c ↦ before_not (last_of S) (last_of T) k c
        ]
        | inr q ↦ before_not (last_of S) (last_of T) k (subst (λ z. IsBefore z (last_of S)) (sym q) b)
      ])
    ]

-- the first point stays if p is after it
first_stays : (p : Pair) (S T : List Pair) → IsPointSet S → IsPointSet T → 0 < length S → 0 < length T
    → DiffersAt p S T → IsBefore (first_of S) p → first_of S ≡ first_of T
first_stays p S T s t l m d b =
    elim (by_first T (first_of S) t (d.has (first_of S) (first_among S l) (before_apart (first_of S) p b))) [
      | inl e ↦ e
      | inr k ↦ absurd (elim (d.had (first_of T) (first_among T m)) [
        | inl i ↦ elim (by_first S (first_of T) s i) [
          | inl e ↦ before_irrefl (first_of S) (subst (λ z. IsBefore z (first_of S)) e k)
          | inr c ↦ before_not (first_of T) (first_of S) k c
        ]
        | inr q ↦ before_not (first_of T) (first_of S) k (subst (IsBefore (first_of S)) (sym q) b)
      ])
    ]

-- so a part that changed keeps each end that p is on the inner side of
pub ends_kept : (p : Pair) (n m : Node) (e : Ends) → IsWellBuilt n → IsWellBuilt m
    → DiffersAt p (points_below n) (points_below m) → e ≡ ends_in (points_below n) → AreKept p e (points_below m)
ends_kept p n m e v w d is = (
  λ b. first ∙ first_stays p (points_below n) (points_below m) v.ordered w.ordered (some_below n v.buckets)
      (some_below m w.buckets) d (subst (λ z. IsBefore z p) first b),
  λ b. last ∙ last_stays p (points_below n) (points_below m) v.ordered w.ordered (some_below n v.buckets)
      (some_below m w.buckets) d (subst (IsBefore p) last b),
)
  where
    first : e.first ≡ first_of (points_below n)
    first = ap (λ (z : Ends). z.first) is

    last : e.last ≡ last_of (points_below n)
    last = ap (λ (z : Ends). z.last) is
