-- A point that was added to one of two halves: a bridge of which it is not clear ends at it, and the other end is searched alone.
use Rattle.std.proofs.Common.{◌≡◌, ◌∙◌, ◌⊎◌, Bool, true, false, cond, refl, sym, ap, subst, inl, inr, arith}
use Rattle.std.specs.Prelude.{not, pos, ◌≤ℤ◌, ◌<ℤ◌}
use Rattle.std.specs.List.{Contains}
use Rattle.lattice.specs.Bridges.{IsAllBefore, IsBridge, IsInner, IsNotBeyond}
use Rattle.lattice.specs.Covers.{with_point, without_point}
use Rattle.lattice.specs.Orientations.{orient_on}
use Rattle.lattice.specs.Plane.{Pair, IsBefore, orient}
use Rattle.lattice.specs.Signs.{le_or_lt}
use Rattle.lattice.specs.Standing.{WithPoint, IsInnerToEdge}
use Rattle.lattice.specs.declared.side.Side.{Side}
use Rattle.lattice.specs.declared.side.Side.TheVariants.{Lower, Upper}
use Rattle.lattice.proofs.Numbers.{less_not_le, np_by, zero_between}
use Rattle.lattice.proofs.Order.{before_total, before_apart, after_apart, before_irrefl, before_not}
use Rattle.lattice.proofs.UniqueBridge.{one_bridge, one_lower_bridge}
use Rattle.bridge_search.specs.Trees.{Leaf, On}
use Rattle.hull_geometry.specs.Monotone.{IsInwards}
use Rattle.hull_geometry.specs.Positions.{first_of, last_of}
use Rattle.hull_geometry.proofs.Fringed.{all_inner, ends_there, of_candidate_lists}
use Rattle.hull_geometry.proofs.Orientations.{orient_on_end, orient_on_start}
use Rattle.hull_geometry.proofs.PointSets.{set_apart}
use Rattle.hull_geometry.proofs.SetLaws.{with_point_law, without_point_law}
use Rattle.hull_geometry.proofs.Touching.{straight}
use Rattle.bucket_tree.specs.Changes.{AreInnerTo, IsBridgeBetween, IsClearOf, IsEndOf, IsEndUnlessClear, IsSameBut, change_of, edge_on}
use Rattle.bucket_tree.specs.Counts.{Alters, Comes}
use Rattle.bucket_tree.specs.Nodes.{tree_of, points_below, ends_in, AreInRow, IsWellBuilt}
use Rattle.bucket_tree.specs.OtherEnds.{IsAfterPoint, IsBeforePoint, IsEndFrom, IsEndTo, IsEndFromWithin, IsEndToWithin}
use Rattle.bucket_tree.specs.declared.node.Ends.{Ends}
use Rattle.bucket_tree.specs.declared.node.Fork.{Fork}
use Rattle.bucket_tree.specs.declared.node.Node.{Node}
use Rattle.bucket_tree.specs.declared.renewal.Change.{Change}
use Rattle.bucket_tree.proofs.EdgeEnds.{end_not_inwards, start_not_inwards, to_orient_on}
use Rattle.bucket_tree.proofs.NodeCandidateLists.{node_candidates}
use Rattle.bucket_tree.proofs.NodeRows.{vertices_in_row}
use Rattle.bucket_tree.proofs.SetEnds.{by_first, by_last}
use Rattle.bucket_tree.proofs.SomeBridge.{some_bridge}

-- ---- not clear of an edge

-- a point outwards of the line of an edge is not clear of it
pub outwards_not_clear : (side : Side) (e : Pair × Pair) (p : Pair) → ¬ (pos 0 ≤ℤ orient_on side e.0 e.1 p)
    → ¬ IsClearOf side e p
outwards_not_clear side e p h c = h (to_orient_on side e.0 e.1 p c.2.0)

-- a point that is not inwards of the line of an edge, and not between its ends, is not clear of it
pub beyond_not_clear : (side : Side) (e : Pair × Pair) (p : Pair) → ¬ (pos 0 <ℤ orient_on side e.0 e.1 p)
    → ¬ (IsBefore e.0 p × IsBefore p e.1) → ¬ IsClearOf side e p
beyond_not_clear side e p h n c = elim (before_total e.0 p) [
  | inl k ↦ elim (before_total p e.1) [
    | inl m ↦ n (k, m)
    | inr m ↦ elim m [ inl q ↦ c.1 (sym q) | inr m ↦ (c.2.1 on_line).1 m ]
  ]
  | inr k ↦ elim k [ inl q ↦ c.0 q | inr k ↦ (c.2.1 on_line).0 k ]
]
  where
    on_line : orient e.0 e.1 p ≡ pos 0
    on_line = elim (le_or_lt (orient_on side e.0 e.1 p) (pos 0)) [
      | inl k ↦ straight side e.0 e.1 p (zero_between _ (to_orient_on side e.0 e.1 p c.2.0) k)
      | inr k ↦ absurd (h k)
    ]

-- a point that is clear of an edge, but not inwards of its line, is on it, between its ends
pub clear_on_line : (side : Side) (e : Pair × Pair) (p : Pair) → ¬ (pos 0 <ℤ orient_on side e.0 e.1 p) → IsClearOf side e p
    → IsInwards side e.0 e.1 p
clear_on_line side e p h c = elim (before_total e.0 p) [
  | inl k ↦ elim (before_total p e.1) [
    | inl m ↦ (k, m, to_orient_on side e.0 e.1 p c.2.0)
    | inr m ↦ absurd (beyond_not_clear side e p h (λ b. beyond b.1 m) c)
  ]
  | inr k ↦ absurd (beyond_not_clear side e p h (λ b. short b.0 k) c)
]
  where
    beyond : IsBefore p e.1 → ¬ ((p ≡ e.1) ⊎ IsBefore e.1 p)
    beyond b m = elim m [ inl q ↦ before_apart p e.1 b q | inr k ↦ before_not p e.1 b k ]

    short : IsBefore e.0 p → ¬ ((e.0 ≡ p) ⊎ IsBefore p e.0)
    short b m = elim m [ inl q ↦ before_apart e.0 p b q | inr k ↦ before_not e.0 p b k ]

-- a point inwards of the line of an edge is no end of it
pub inwards_apart : (side : Side) (e : Pair × Pair) (p : Pair) → pos 0 <ℤ orient_on side e.0 e.1 p → ¬ (e.0 ≡ p) × ¬ (e.1 ≡ p)
inwards_apart side e p h = (
  λ q. on_line (subst (λ z. orient_on side e.0 e.1 z ≡ pos 0) q (orient_on_start side e.0 e.1)),
  λ q. on_line (subst (λ z. orient_on side e.0 e.1 z ≡ pos 0) q (orient_on_end side e.0 e.1)),
)
  where
    on_line : ¬ (orient_on side e.0 e.1 p ≡ pos 0)
    on_line q = less_not_le (pos 0) (orient_on side e.0 e.1 p) h (np_by _ (pos 0) q (omega arith))

-- ---- the other end

-- two sets have one bridge on a side
pub unique : (side : Side) (l r : Pair → Type 0) (p q a b : Pair) → IsAllBefore l r → IsBridge side l r p q
    → IsBridge side l r a b → (p ≡ a) × (q ≡ b)
unique Lower l r p q a b o h k = one_lower_bridge l r p q a b o h k
unique Upper l r p q a b o h k = one_bridge l r p q a b o h k

-- the bridge of two sets is the bridge from its first end alone
from_end : (side : Side) (l r : Pair → Type 0) (p q : Pair) → IsBridge side l r p q → IsBridge side (On (Leaf p)) r p q
from_end side l r p q b = record {
  from_left = refl;
  to_right = b.to_right;
  inner_left = λ t e. subst (λ z. IsInner side (orient p q z)) (sym e) (b.inner_left p b.from_left);
  inner_right = b.inner_right;
  tie_left = λ t e. subst (λ z. orient p q z ≡ pos 0 → IsNotBeyond p q z) (sym e) (b.tie_left p b.from_left);
  tie_right = b.tie_right;
}

-- and the bridge to its second end alone
to_end : (side : Side) (l r : Pair → Type 0) (p q : Pair) → IsBridge side l r p q → IsBridge side l (On (Leaf q)) p q
to_end side l r p q b = record {
  from_left = b.from_left;
  to_right = refl;
  inner_left = b.inner_left;
  inner_right = λ t e. subst (λ z. IsInner side (orient p q z)) (sym e) (b.inner_right q b.to_right);
  tie_left = b.tie_left;
  tie_right = λ t e. subst (λ z. orient p q z ≡ pos 0 → IsNotBeyond p q z) (sym e) (b.tie_right q b.to_right);
}

-- the bridge of the vertices below two nodes is that of all points below them
pub of_points : (side : Side) (l r : Node) (e : Pair × Pair) → AreInRow l r
    → IsBridge side (On (tree_of l)) (On (tree_of r)) e.0 e.1 → IsBridgeBetween side l r e
of_points side l r e w b = (of_candidate_lists side (On (tree_of l)) (Contains (points_below l)) (On (tree_of r))
    (Contains (points_below r)) e.0 e.1 (node_candidates side l w.left_built.buckets)
    (node_candidates side r w.right_built.buckets)
    (λ p q i j. set_apart (points_below l) (points_below r) p q w.in_order i j)).0 b

-- all vertices of the second half are after each point of the first
pub after_first : (l r : Node) (p : Pair) → AreInRow l r → Contains (points_below l) p → IsAfterPoint p (tree_of r)
after_first l r p w i x q e j = subst (λ z. IsBefore z q) (sym e) (set_apart (points_below l) (points_below r) p q w.in_order i
    ((node_candidates Lower r w.right_built.buckets).among q j))

-- all vertices of the first half are before each point of the second
pub before_second : (l r : Node) (p : Pair) → AreInRow l r → Contains (points_below r) p → IsBeforePoint (tree_of l) p
before_second l r p w i q x j e = subst (IsBefore q) (sym e) (set_apart (points_below l) (points_below r) q p w.in_order
    ((node_candidates Lower l w.left_built.buckets).among q j) i)

-- if the bridge of two halves begins at p, its end is that of the bridge from p
pub with_end_from : (side : Side) (l r : Node) (p q : Pair) → AreInRow l r
    → ((e : Pair × Pair) → IsBridgeBetween side l r e → e.0 ≡ p) → IsEndFrom side p (tree_of r) q
    → IsBridge side (On (tree_of l)) (On (tree_of r)) p q
with_end_from side l r p q w f h =
    let o = vertices_in_row l r w in
    let b = some_bridge side (tree_of l) (tree_of r) w.left_built.bridged w.right_built.bridged o in
    let k : IsBridge side (On (tree_of l)) (On (tree_of r)) p b.1 =
    subst (λ z. IsBridge side (On (tree_of l)) (On (tree_of r)) z b.1)
    (f (b.0, b.1) (of_points side l r (b.0, b.1) w b.2)) b.2 in
    let same = unique side (On (Leaf p)) (On (tree_of r)) p b.1 p q
    (λ x t e i. subst (λ z. IsBefore z t) (sym e) (o p t k.from_left i))
    (from_end side (On (tree_of l)) (On (tree_of r)) p b.1 k) h in
    subst (IsBridge side (On (tree_of l)) (On (tree_of r)) p) same.1 k

-- if it ends at p, its start is that of the bridge to p
pub with_end_to : (side : Side) (l r : Node) (p q : Pair) → AreInRow l r
    → ((e : Pair × Pair) → IsBridgeBetween side l r e → e.1 ≡ p) → IsEndTo side (tree_of l) p q
    → IsBridge side (On (tree_of l)) (On (tree_of r)) q p
with_end_to side l r p q w f h =
    let o = vertices_in_row l r w in
    let b = some_bridge side (tree_of l) (tree_of r) w.left_built.bridged w.right_built.bridged o in
    let k : IsBridge side (On (tree_of l)) (On (tree_of r)) b.0 p =
    subst (IsBridge side (On (tree_of l)) (On (tree_of r)) b.0)
    (f (b.0, b.1) (of_points side l r (b.0, b.1) w b.2)) b.2 in
    let same = unique side (On (tree_of l)) (On (Leaf p)) b.0 p q p
    (λ t x i e. subst (IsBefore t) (sym e) (o t p i k.to_right))
    (to_end side (On (tree_of l)) (On (tree_of r)) b.0 p k) h in
    subst (λ z. IsBridge side (On (tree_of l)) (On (tree_of r)) z p) same.0 k

-- if the other end of each bridge is not before a point, nor is that of the bridge from p
pub end_not_before : (side : Side) (l r : Node) (p q d : Pair) → AreInRow l r
    → ((e : Pair × Pair) → IsBridgeBetween side l r e → (e.0 ≡ p) × ¬ IsBefore e.1 d) → IsEndFrom side p (tree_of r) q
    → ¬ IsBefore q d
end_not_before side l r p q d w f h =
    (f (p, q) (of_points side l r (p, q) w (with_end_from side l r p q w (λ e k. (f e k).0) h))).1

-- if it is not after a point, nor is that of the bridge to p
pub start_not_after : (side : Side) (l r : Node) (p q d : Pair) → AreInRow l r
    → ((e : Pair × Pair) → IsBridgeBetween side l r e → (e.1 ≡ p) × ¬ IsBefore d e.0) → IsEndTo side (tree_of l) p q
    → ¬ IsBefore d q
start_not_after side l r p q d w f h =
    (f (q, p) (of_points side l r (q, p) w (with_end_to side l r p q w (λ e k. (f e k).0) h))).1

-- no vertex below a node is before its first point
pub not_before_first : (n : Node) (q first : Pair) → IsWellBuilt n → first ≡ first_of (points_below n) → On (tree_of n) q
    → ¬ IsBefore q first
not_before_first n q first w d i b =
    elim (by_first (points_below n) q w.ordered ((node_candidates Lower n w.buckets).among q i)) [
      | inl s ↦ before_irrefl q (subst (IsBefore q) (d ∙ sym s) b)
      | inr s ↦ before_not q first b (subst (λ z. IsBefore z q) (sym d) s)
    ]

-- nor after its last
pub not_after_last : (n : Node) (q last : Pair) → IsWellBuilt n → last ≡ last_of (points_below n) → On (tree_of n) q
    → ¬ IsBefore last q
not_after_last n q last w e i b =
    elim (by_last (points_below n) q w.ordered ((node_candidates Lower n w.buckets).among q i)) [
      | inl s ↦ before_irrefl q (subst (λ z. IsBefore z q) (e ∙ sym s) b)
      | inr s ↦ before_not last q b (subst (IsBefore q) (sym e) s)
    ]

-- so each is within both
pub in_bounds : (n : Node) (q : Pair) (e : Ends) → IsWellBuilt n → e ≡ ends_in (points_below n) → On (tree_of n) q
    → IsNotBeyond e.first e.last q
in_bounds n q e w is i = (
  not_before_first n q e.first w (ap (λ (z : Ends). z.first) is) i,
  not_after_last n q e.last w (ap (λ (z : Ends). z.last) is) i,
)

-- the end among the vertices of a node is not after its last point
pub within_from : (side : Side) (p : Pair) (n : Node) (first last : Pair) → IsWellBuilt n → last ≡ last_of (points_below n)
    → ((q : Pair) → IsEndFrom side p (tree_of n) q → ¬ IsBefore q first) → IsEndFromWithin side p (tree_of n) first last
within_from side p n first last w e f q k = (f q k, not_after_last n q last w e k.to_right)

-- and the start not before its first one
pub within_to : (side : Side) (n : Node) (p first last : Pair) → IsWellBuilt n → first ≡ first_of (points_below n)
    → ((q : Pair) → IsEndTo side (tree_of n) p q → ¬ IsBefore last q) → IsEndToWithin side (tree_of n) p first last
within_to side n p first last w e f q k = (not_before_first n q first w e k.from_left, f q k)

-- the end of the bridge from a point of the first half is not after the old end, if all points are inner to the old edge
pub back_not_after : (side : Side) (l r : Node) (e : Pair × Pair) (s q : Pair) → AreInRow l r → AreInnerTo side l r e
    → Contains (points_below r) e.1 → On (tree_of l) s → IsEndFrom side s (tree_of r) q → ¬ IsBefore e.1 q
back_not_after side l r e s q w a i j h b =
    let here = (node_candidates side l w.left_built.buckets).among s j in
    let there = (node_candidates side r w.right_built.buckets).among q h.to_right in
    let inner = all_inner side (On (tree_of r)) (Contains (points_below r)) s q (node_candidates side r w.right_built.buckets)
    (set_apart (points_below l) (points_below r) s q w.in_order here there)
    (λ t k. (h.inner_right t k, h.tie_right t k)) e.1 i in
    end_not_inwards side e.0 e.1 s q a.ordered
    (set_apart (points_below l) (points_below r) s e.1 w.in_order here i, b, to_orient_on side s q e.1 inner.0)
    (a.left s here) (a.right q there)

-- the start of the bridge to a point of the second half is not before the old start
pub back_not_before : (side : Side) (l r : Node) (e : Pair × Pair) (s q : Pair) → AreInRow l r → AreInnerTo side l r e
    → Contains (points_below l) e.0 → On (tree_of r) s → IsEndTo side (tree_of l) s q → ¬ IsBefore q e.0
back_not_before side l r e s q w a i j h b =
    let here = (node_candidates side r w.right_built.buckets).among s j in
    let there = (node_candidates side l w.left_built.buckets).among q h.from_left in
    let inner = all_inner side (On (tree_of l)) (Contains (points_below l)) q s (node_candidates side l w.left_built.buckets)
    (set_apart (points_below l) (points_below r) q s w.in_order there here)
    (λ t k. (h.inner_left t k, h.tie_left t k)) e.0 i in
    start_not_inwards side e.0 e.1 q s a.ordered
    (b, set_apart (points_below l) (points_below r) e.0 s w.in_order i here, to_orient_on side q s e.0 inner.0)
    (a.left q there) (a.right s here)

-- if the bridge from a point to the second half and the bridge to its end from the first are one, it is the bridge of both
pub one_by_both : (side : Side) (l r : Pair → Type 0) (p q : Pair) → IsBridge side l (On (Leaf q)) p q
    → IsBridge side (On (Leaf p)) r p q → IsBridge side l r p q
one_by_both side l r p q h k = record {
  from_left = h.from_left;
  to_right = k.to_right;
  inner_left = h.inner_left;
  inner_right = k.inner_right;
  tie_left = h.tie_left;
  tie_right = k.tie_right;
}

-- ---- the point that was added

-- a bridge of two sets is one of the same points under other names
same_sets : (side : Side) (l k r s : Pair → Type 0) (p q : Pair) → ((t : Pair) → l t → k t) → ((t : Pair) → k t → l t)
    → ((t : Pair) → r t → s t) → ((t : Pair) → s t → r t) → IsBridge side l r p q → IsBridge side k s p q
same_sets side l k r s p q lk kl rs sr b = record {
  from_left = lk p b.from_left;
  to_right = rs q b.to_right;
  inner_left = λ t i. b.inner_left t (kl t i);
  inner_right = λ t i. b.inner_right t (sr t i);
  tie_left = λ t i. b.tie_left t (kl t i);
  tie_right = λ t i. b.tie_right t (sr t i);
}

-- a point that was added to a half is an end of the new bridge, unless it is clear of the old one
pub ends_at : (left : Bool) (side : Side) (p : Pair) (l r m : Node) (e : Pair × Pair) → AreInRow l r
    → AreInRow (cond left m l) (cond left r m) → IsBridgeBetween side l r e → ¬ Contains (points_below (cond left l r)) p
    → points_below m ≡ with_point p (points_below (cond left l r))
    → IsEndUnlessClear (change_of left true) side p (cond left m l) (cond left r m) e
ends_at true side p l r m e row new b absent g n = (here, λ d k. (there d k, away d k))
  where
    law : (t : Pair) → Contains (points_below m) t → WithPoint p (Contains (points_below l)) t
    law t i = ((with_point_law (points_below l) p row.left_built.ordered).1 t).0 (subst (λ z. Contains z t) g i)

    back : (t : Pair) → WithPoint p (Contains (points_below l)) t → Contains (points_below m) t
    back t i = subst (λ z. Contains z t) (sym g) (((with_point_law (points_below l) p row.left_built.ordered).1 t).1 i)

    here : Contains (points_below m) p
    here = back p (inl refl)

    out : ¬ IsInnerToEdge side e.0 e.1 p
    out i = n (
      λ q. absent (subst (Contains (points_below l)) q b.from_left),
      after_apart e.1 p (set_apart (points_below m) (points_below r) p e.1 new.in_order here b.to_right),
      i,
    )

    widened : (d : Pair × Pair) → IsBridgeBetween side m r d
        → IsBridge side (WithPoint p (Contains (points_below l))) (Contains (points_below r)) d.0 d.1
    widened d k = same_sets side (Contains (points_below m)) (WithPoint p (Contains (points_below l)))
        (Contains (points_below r)) (Contains (points_below r)) d.0 d.1 law back (λ t i. i) (λ t i. i) k

    there : (d : Pair × Pair) → IsBridgeBetween side m r d → d.0 ≡ p
    there d k = (ends_there side (Contains (points_below l)) (Contains (points_below r)) e.0 e.1 p d.0 d.1
        (λ x y i j. set_apart (points_below l) (points_below r) x y row.in_order i j) b out).0 (widened d k)

    away : (d : Pair × Pair) → IsBridgeBetween side m r d → ¬ IsBefore d.1 e.1
    away d k i = end_not_inwards side d.0 d.1 e.0 e.1
        (set_apart (points_below m) (points_below r) d.0 d.1 new.in_order k.from_left k.to_right) (
          set_apart (points_below l) (points_below r) e.0 d.1 row.in_order b.from_left k.to_right,
          i,
          to_orient_on side e.0 e.1 d.1 (b.inner_right d.1 k.to_right),
        )
        (k.inner_left e.0 (back e.0 (inr b.from_left)), k.tie_left e.0 (back e.0 (inr b.from_left)))
        (k.inner_right e.1 b.to_right, k.tie_right e.1 b.to_right)
ends_at false side p l r m e row new b absent g n = (here, λ d k. (there d k, away d k))
  where
    law : (t : Pair) → Contains (points_below m) t → WithPoint p (Contains (points_below r)) t
    law t i = ((with_point_law (points_below r) p row.right_built.ordered).1 t).0 (subst (λ z. Contains z t) g i)

    back : (t : Pair) → WithPoint p (Contains (points_below r)) t → Contains (points_below m) t
    back t i = subst (λ z. Contains z t) (sym g) (((with_point_law (points_below r) p row.right_built.ordered).1 t).1 i)

    here : Contains (points_below m) p
    here = back p (inl refl)

    out : ¬ IsInnerToEdge side e.0 e.1 p
    out i = n (
      before_apart e.0 p (set_apart (points_below l) (points_below m) e.0 p new.in_order b.from_left here),
      λ q. absent (subst (Contains (points_below r)) q b.to_right),
      i,
    )

    widened : (d : Pair × Pair) → IsBridgeBetween side l m d
        → IsBridge side (Contains (points_below l)) (WithPoint p (Contains (points_below r))) d.0 d.1
    widened d k = same_sets side (Contains (points_below l)) (Contains (points_below l)) (Contains (points_below m))
        (WithPoint p (Contains (points_below r))) d.0 d.1 (λ t i. i) (λ t i. i) law back k

    there : (d : Pair × Pair) → IsBridgeBetween side l m d → d.1 ≡ p
    there d k = (ends_there side (Contains (points_below l)) (Contains (points_below r)) e.0 e.1 p d.0 d.1
        (λ x y i j. set_apart (points_below l) (points_below r) x y row.in_order i j) b out).1 (widened d k)

    away : (d : Pair × Pair) → IsBridgeBetween side l m d → ¬ IsBefore e.0 d.0
    away d k i = start_not_inwards side d.0 d.1 e.0 e.1
        (set_apart (points_below l) (points_below m) d.0 d.1 new.in_order k.from_left k.to_right) (
          i,
          set_apart (points_below l) (points_below r) d.0 e.1 row.in_order k.from_left b.to_right,
          to_orient_on side e.0 e.1 d.0 (b.inner_left d.0 k.from_left),
        )
        (k.inner_left e.0 b.from_left, k.tie_left e.0 b.from_left)
        (k.inner_right e.1 (back e.1 (inr b.to_right)), k.tie_right e.1 (back e.1 (inr b.to_right)))

-- if no point was added to a half, all are inner to the old bridge, of which the end in the other half is there
pub stays_at : (left : Bool) (side : Side) (p : Pair) (l r m : Node) (e : Pair × Pair) → AreInRow l r → IsBridgeBetween side l r e
    → ((t : Pair) → Contains (points_below m) t → Contains (points_below (cond left l r)) t)
    → IsEndUnlessClear (change_of left false) side p (cond left m l) (cond left r m) e
stays_at true side p l r m e row b had n = (
  b.to_right,
  record {
    ordered = set_apart (points_below l) (points_below r) e.0 e.1 row.in_order b.from_left b.to_right;
    left = λ t i. (b.inner_left t (had t i), b.tie_left t (had t i));
    right = λ t i. (b.inner_right t i, b.tie_right t i);
  },
)
stays_at false side p l r m e row b had n = (
  b.from_left,
  record {
    ordered = set_apart (points_below l) (points_below r) e.0 e.1 row.in_order b.from_left b.to_right;
    left = λ t i. (b.inner_left t i, b.tie_left t i);
    right = λ t i. (b.inner_right t (had t i), b.tie_right t (had t i));
  },
)

-- so it is if p was removed
pub lost_at : (left : Bool) (side : Side) (p : Pair) (l r m : Node) (e : Pair × Pair) → AreInRow l r → IsBridgeBetween side l r e
    → points_below m ≡ without_point p (points_below (cond left l r))
    → IsEndUnlessClear (change_of left false) side p (cond left m l) (cond left r m) e
lost_at true side p l r m e row b g = stays_at true side p l r m e row b
    (λ t i. (((without_point_law (points_below l) p row.left_built.ordered).1 t).0 (subst (λ z. Contains z t) g i)).0)
lost_at false side p l r m e row b g = stays_at false side p l r m e row b
    (λ t i. (((without_point_law (points_below r) p row.right_built.ordered).1 t).0 (subst (λ z. Contains z t) g i)).0)

-- the same by the change, which may have been refused; the edge goes by another name
pub ends_after : (left refused : Bool) (side : Side) (p : Pair) (l r m : Node) (e d : Pair × Pair) (change : Change)
    → AreInRow l r → AreInRow (cond left m l) (cond left r m) → IsBridgeBetween side l r e
    → ¬ Contains (points_below (cond left l r)) p → Alters (Comes refused) p (cond left l r) m
    → change ≡ change_of left (not refused) → d ≡ e
    → IsEndUnlessClear change side p (cond left m l) (cond left r m) d
ends_after left true side p l r m e d change row new b absent g c s =
    subst (λ z. IsEndUnlessClear z side p (cond left m l) (cond left r m) d) (sym c)
    (subst (IsEndUnlessClear (change_of left false) side p (cond left m l) (cond left r m)) (sym s)
    (stays_at left side p l r m e row b (λ t i. subst (λ z. Contains z t) g.0 i)))
ends_after left false side p l r m e d change row new b absent g c s =
    subst (λ z. IsEndUnlessClear z side p (cond left m l) (cond left r m) d) (sym c)
    (subst (IsEndUnlessClear (change_of left true) side p (cond left m l) (cond left r m)) (sym s)
    (ends_at left side p l r m e row new b absent g.0))

-- ---- forks

-- a fork of which only the upper edge differs has the end below
pub end_moved : (change : Change) (p : Pair) (f g : Fork) → IsSameBut Upper f g
    → IsEndUnlessClear change Lower p f.left f.right f.lower → IsEndUnlessClear change Lower p g.left g.right g.lower
end_moved change p f g s h n = subst (λ z. IsEndOf change Lower p z g.right g.lower) (sym s.left)
    (subst (λ z. IsEndOf change Lower p f.left z g.lower) (sym s.right)
    (subst (IsEndOf change Lower p f.left f.right) (sym s.other) (h (subst (λ z. ¬ IsClearOf Lower z p) s.other n))))

-- a point that is an end unless it is clear of a fork's edge is so for a fork with the same edges
pub end_as : (change : Change) (p : Pair) (l r : Node) (f g : Fork) → ((side : Side) → edge_on side g ≡ edge_on side f)
    → ((side : Side) → IsEndUnlessClear change side p l r (edge_on side f))
    → (side : Side) → IsEndUnlessClear change side p l r (edge_on side g)
end_as change p l r f g same h side = subst (IsEndUnlessClear change side p l r) (sym (same side)) (h side)
