-- A point that is added to one of two subtrees in a row, or removed from it: the first one if the word is true, otherwise the second.
use Rattle.std.proofs.Common.{◌≡◌, ◌∙◌, ℕ, ◌+◌, ◌≤◌, ◌<◌, max, Bool, true, false, cond, refl, sym, ap, subst, arith}
use Rattle.std.proofs.Common.{List, ◌++◌, length, Box, None, Some}
use Rattle.std.specs.List.{Contains}
use Rattle.std.proofs.lemmas.List.Elements.{All-weaker}
use Rattle.lattice.specs.Bridges.{IsBridge}
use Rattle.lattice.specs.Covers.{IsPointSet, without_point}
use Rattle.lattice.specs.Plane.{Pair, IsBefore}
use Rattle.lattice.specs.declared.side.Side.{Side}
use Rattle.lattice.proofs.Order.{before_apart, after_apart}
use Rattle.hull_buckets.specs.Buckets.{IsCovered}
use Rattle.hull_geometry.specs.Positions.{first_of}
use Rattle.hull_geometry.proofs.PointLists.{append_none}
use Rattle.hull_geometry.proofs.SetLaws.{ordered_with, ordered_without}
use Rattle.hull_set.specs.declared.TheConstants.{POINT_LIMIT}
use Rattle.leaf_trees.proofs.Rows.{with_left, with_right, with_length, without_left, without_right, without_short}
use Rattle.bucket_tree.specs.Changes.{IsBridgeBetween, IsClearOf, IsUnaffectedOver, edge_on, is_affected}
use Rattle.bucket_tree.specs.Counts.{multiplicity_at, Alters, HasLost, IsCounted, Kind, Comes, Goes, altered}
use Rattle.bucket_tree.specs.Nodes.{points_below, multiplicities_below, node_height, AreInRow, IsWellBuilt}
use Rattle.bucket_tree.specs.declared.node.Ends.{Ends}
use Rattle.bucket_tree.specs.declared.node.Fork.{Fork as Below}
use Rattle.bucket_tree.specs.declared.node.Node.{Node, Fork}
use Rattle.bucket_tree.specs.declared.renewal.Affected.{Affected}
use Rattle.bucket_tree.proofs.Gained.{all_after, all_before, held_row}
use Rattle.bucket_tree.proofs.Kept.{DiffersAt, differs_not, differs_with, differs_without, still, clear_left}
use Rattle.bucket_tree.proofs.Kept.{clear_right}
use Rattle.bucket_tree.proofs.Lost.{counted_none, without_only}
use Rattle.bucket_tree.proofs.NodePoints.{some_below}
use Rattle.bucket_tree.proofs.NodeRows.{in_row, halves_row}

-- whether p belongs to the part, by the first point of the second one
abbrev pub BelongsTo : Bool → Pair → Pair → Type 0
BelongsTo true p first = IsBefore p first
BelongsTo false p first = ¬ IsBefore p first

-- ---- lists

-- with one of two lists altered both are altered
pub altered_in : (left : Bool) (kind : Kind) (p : Pair) (xs ys : List Pair) → IsPointSet (xs ++ ys) → 0 < length ys
    → BelongsTo left p (first_of ys)
    → cond left (altered kind p xs) xs ++ cond left ys (altered kind p ys) ≡ altered kind p (xs ++ ys)
altered_in true (Comes false) p xs ys s l b = sym (with_left p xs ys (all_after p xs ys s b))
altered_in true (Comes true) p xs ys s l b = refl
altered_in true Goes p xs ys s l b = sym (without_left p xs ys (all_after p xs ys s b))
altered_in false (Comes false) p xs ys s l b = sym (with_right p xs ys (all_before p xs ys s l b))
altered_in false (Comes true) p xs ys s l b = refl
altered_in false Goes p xs ys s l b = sym (without_right p xs ys (all_before p xs ys s l b))

-- the points stay in order
altered_set : (kind : Kind) (p : Pair) (S : List Pair) → IsPointSet S → IsPointSet (altered kind p S)
altered_set (Comes false) p S s = ordered_with p S s
altered_set (Comes true) p S s = s
altered_set Goes p S s = ordered_without p S s

-- and differ only at p
altered_differs : (kind : Kind) (p : Pair) (S : List Pair) → IsPointSet S → DiffersAt p S (altered kind p S)
altered_differs (Comes false) p S s = differs_with p S s
altered_differs (Comes true) p S s = differs_not p S
altered_differs Goes p S s = differs_without p S s

-- a set has capacity for the change
abbrev pub HasSpaceFor : Kind → Pair → List Pair → Type 0
HasSpaceFor (Comes refused) p S = ¬ Contains S p × (length S < POINT_LIMIT)
HasSpaceFor Goes p S = length S ≤ POINT_LIMIT

-- so they are no more than it may have
altered_few : (kind : Kind) (p : Pair) (S : List Pair) → HasSpaceFor kind p S → length (altered kind p S) ≤ POINT_LIMIT
altered_few (Comes false) p S h = omega (arith, h.1, with_length p S h.0)
altered_few (Comes true) p S h = omega (arith, h.1)
altered_few Goes p S h = omega (arith, h, without_short p S)

-- multiplicities that the change does not concern are the same before and after it
counted_beside : (kind : Kind) (p q : Pair) (a b c before after : ℕ) → IsCounted kind p q a b → before ≡ a + c
    → after ≡ b + c → IsCounted kind p q before after
counted_beside (Comes false) p q a b c before after h e f = omega (arith, h, e, f)
counted_beside (Comes true) p q a b c before after h e f = omega (arith, h, e, f)
counted_beside Goes p q a b c before after h e f = omega (arith, h, e, f)

-- ---- nodes

-- a changed node differs only at p
pub differs : (kind : Kind) (p : Pair) (n m : Node) → IsPointSet (points_below n) → Alters kind p n m
    → DiffersAt p (points_below n) (points_below m)
differs kind p n m s h =
    subst (DiffersAt p (points_below n)) (sym h.0) (altered_differs kind p (points_below n) s)

-- a node whose points are those of two parts in a row, to one of which p belongs
pub record IsAt (left : Bool) (p : Pair) (n l r : Node) : Type 0 where
  pub row : AreInRow l r
  pub points : points_below n ≡ points_below l ++ points_below r
  pub multiplicities : multiplicities_below n ≡ multiplicities_below l ++ multiplicities_below r
  pub here : BelongsTo left p (first_of (points_below r))

-- by the first point of the second subtree, as it is stored
pub at : (left : Bool) (p : Pair) (n l r : Node) (first : Pair) → AreInRow l r
    → points_below n ≡ points_below l ++ points_below r → multiplicities_below n ≡ multiplicities_below l ++ multiplicities_below r
    → first ≡ first_of (points_below r) → BelongsTo left p first → IsAt left p n l r
at left p n l r first row points multiplicity e b =
    record { row = row; points = points; multiplicities = multiplicity; here = subst (BelongsTo left p) e b }

-- the multiplicity of p in the node is that in the subtree
pub same_at : (left : Bool) (p : Pair) (n l r : Node) → IsAt left p n l r → multiplicity_at n p ≡ multiplicity_at (cond left l r) p
same_at true p n l r i =
    let z = counted_none (points_below r) (multiplicities_below r) p
    (All-weaker (IsBefore p) (λ t. ¬ (t ≡ p)) (λ t k. after_apart t p k) (points_below r)
    (all_after p (points_below l) (points_below r) i.row.in_order i.here)) in
    omega (arith, held_row n l r p i.row.left_built.buckets i.points i.multiplicities, z)
same_at false p n l r i =
    let z = counted_none (points_below l) (multiplicities_below l) p
    (All-weaker (λ t. IsBefore t p) (λ t. ¬ (t ≡ p)) (λ t k. before_apart t p k) (points_below l)
    (all_before p (points_below l) (points_below r) i.row.in_order (some_below r i.row.right_built.buckets) i.here)) in
    omega (arith, held_row n l r p i.row.left_built.buckets i.points i.multiplicities, z)

-- with the part changed the points of both are the node's, changed
points_with : (left : Bool) (kind : Kind) (p : Pair) (n l r m : Node) → IsAt left p n l r
    → Alters kind p (cond left l r) m
    → points_below (cond left m l) ++ points_below (cond left r m) ≡ altered kind p (points_below n)
points_with true kind p n l r m i h = ap (λ z. z ++ points_below r) h.0
    ∙ altered_in true kind p (points_below l) (points_below r) i.row.in_order
    (some_below r i.row.right_built.buckets) i.here
    ∙ ap (altered kind p) (sym i.points)
points_with false kind p n l r m i h = ap (λ z. points_below l ++ z) h.0
    ∙ altered_in false kind p (points_below l) (points_below r) i.row.in_order
    (some_below r i.row.right_built.buckets) i.here
    ∙ ap (altered kind p) (sym i.points)

-- so they are in a row
pub row_with : (left : Bool) (kind : Kind) (p : Pair) (n l r m : Node) → IsAt left p n l r → IsWellBuilt m
    → Alters kind p (cond left l r) m → AreInRow (cond left m l) (cond left r m)
row_with left kind p n l r m i w h =
    in_row (cond left m l) (cond left r m) (first left) (second left)
    (subst IsPointSet (sym (points_with left kind p n l r m i h))
    (altered_set kind p (points_below n) (subst IsPointSet (sym i.points) i.row.in_order)))
  where
    first : (left : Bool) → IsWellBuilt (cond left m l)
    first true = w
    first false = i.row.left_built

    second : (left : Bool) → IsWellBuilt (cond left r m)
    second true = i.row.right_built
    second false = w

-- they are no more than a set may have
pub few_with : (left : Bool) (kind : Kind) (p : Pair) (n l r m : Node) → IsAt left p n l r
    → Alters kind p (cond left l r) m → HasSpaceFor kind p (points_below n)
    → length (points_below (cond left m l) ++ points_below (cond left r m)) ≤ POINT_LIMIT
few_with left kind p n l r m i h space =
    subst (λ (z : List Pair). length z ≤ POINT_LIMIT) (sym (points_with left kind p n l r m i h))
    (altered_few kind p (points_below n) space)

-- and a node over both has changed as the part
pub alters_with : (left : Bool) (kind : Kind) (p : Pair) (n l r m whole : Node) → IsAt left p n l r → IsWellBuilt m
    → points_below whole ≡ points_below (cond left m l) ++ points_below (cond left r m)
    → multiplicities_below whole ≡ multiplicities_below (cond left m l) ++ multiplicities_below (cond left r m)
    → Alters kind p (cond left l r) m → Alters kind p n whole
alters_with left kind p n l r m whole i w e f h =
    (e ∙ points_with left kind p n l r m i h, λ q. counts left e f h q)
  where
    counts : (left : Bool) → points_below whole ≡ points_below (cond left m l) ++ points_below (cond left r m)
        → multiplicities_below whole ≡ multiplicities_below (cond left m l) ++ multiplicities_below (cond left r m)
        → Alters kind p (cond left l r) m → (q : Pair) → IsCounted kind p q (multiplicity_at n q) (multiplicity_at whole q)
    counts true e f h q = counted_beside kind p q (multiplicity_at l q) (multiplicity_at m q) (multiplicity_at r q) _ _ (h.1 q)
        (held_row n l r q i.row.left_built.buckets i.points i.multiplicities) (held_row whole m r q w.buckets e f)
    counts false e f h q = counted_beside kind p q (multiplicity_at r q) (multiplicity_at m q) (multiplicity_at l q) _ _ (h.1 q)
        (omega (arith, held_row n l r q i.row.left_built.buckets i.points i.multiplicities))
        (omega (arith, held_row whole l m q i.row.left_built.buckets e f))

-- if the subtree has lost its only point, the other one is the rest
pub lost_with_none : (left : Bool) (p : Pair) (n l r : Node) → IsAt left p n l r → HasLost p (cond left l r) None
    → node_height n ≡ max (node_height l) (node_height r) + 1 → HasLost p n (Some (cond left r l))
lost_with_none true p n l r i h high = (
  i.row.right_built,
  ap (λ z. z ++ points_below r) (sym (ap (without_point p) h.0 ∙ without_only p))
      ∙ altered_in true Goes p (points_below l) (points_below r) i.row.in_order
      (some_below r i.row.right_built.buckets) i.here
      ∙ ap (without_point p) (sym i.points),
  λ q. omega (arith, held_row n l r q i.row.left_built.buckets i.points i.multiplicities, h.1 q),
  (omega (arith, high, h.2), omega (arith, high, h.2)),
)
lost_with_none false p n l r i h high = (
  i.row.left_built,
  append_none (points_below l) ∙ ap (λ z. points_below l ++ z) (sym (ap (without_point p) h.0 ∙ without_only p))
      ∙ altered_in false Goes p (points_below l) (points_below r) i.row.in_order
      (some_below r i.row.right_built.buckets) i.here
      ∙ ap (without_point p) (sym i.points),
  λ q. omega (arith, held_row n l r q i.row.left_built.buckets i.points i.multiplicities, h.1 q),
  (omega (arith, high, h.2), omega (arith, high, h.2)),
)

-- a fork has a point in the half in which it is
pub count_in : (left : Bool) (n : Node) (h : ℕ) (f : Box Below _) (p : Pair) → n ≡ Fork h f → IsWellBuilt n
    → BelongsTo left p f.value.right_ends.first → multiplicity_at n p ≡ multiplicity_at (cond left f.value.left
    f.value.right) p
count_in left n h f p e w b = same_at left p n f.value.left f.value.right
    (at left p n f.value.left f.value.right f.value.right_ends.first (halves_row n h f e w) (ap points_below e)
    (ap multiplicities_below e) (ap (λ (z : Ends). z.first) (subst IsWellBuilt e w).labelled.1) b)

-- ---- bridges

-- a bridge of which p is clear stays valid, if one subtree changed at p
pub still_with : (left : Bool) (side : Side) (p : Pair) (l r m : Node) (e : Pair × Pair) → IsBridgeBetween side l r e
    → DiffersAt p (points_below (cond left l r)) (points_below m) → IsClearOf side e p
    → IsBridgeBetween side (cond left m l) (cond left r m) e
still_with true side p l r m e b d z = still side p (points_below l) (points_below r) (points_below m) (points_below r)
    e b d (differs_not p (points_below r)) z
still_with false side p l r m e b d z =
    still side p (points_below l) (points_below r) (points_below l) (points_below m)
    e b (differs_not p (points_below l)) d z

-- if p is covered in that subtree, the bridge is clear of it
clear_with : (left : Bool) (side : Side) (p : Pair) (l r m : Node) (e : Pair × Pair) → AreInRow l r
    → IsBridgeBetween side l r e → DiffersAt p (points_below (cond left l r)) (points_below m)
    → IsCovered side p (points_below m) → IsClearOf side e p
clear_with true side p l r m e row = clear_left side p (points_below l) (points_below r) (points_below m) e row.in_order
clear_with false side p l r m e row =
    clear_right side p (points_below l) (points_below r) (points_below m) e row.in_order

-- and it stays valid if nothing changed
same_with : (left : Bool) (side : Side) (l r m : Node) (e : Pair × Pair)
    → points_below m ≡ points_below (cond left l r) → IsBridgeBetween side l r e
    → IsBridgeBetween side (cond left m l) (cond left r m) e
same_with true side l r m e h b =
    subst (λ z. IsBridge side (Contains z) (Contains (points_below r)) e.0 e.1) (sym h) b
same_with false side l r m e h b =
    subst (λ z. IsBridge side (Contains (points_below l)) (Contains z) e.0 e.1) (sym h) b

-- whether p was refused
abbrev pub is_refused : Kind → Bool
is_refused (Comes refused) = refused
is_refused Goes = false

-- so on an unaffected chain the bridge stays valid
pub unaffected_with : (left : Bool) (kind : Kind) (p : Pair) (l r m : Node) (sides : Affected) (f : Below) → AreInRow l r
    → ((side : Side) → IsBridgeBetween side l r (edge_on side f)) → Alters kind p (cond left l r) m
    → DiffersAt p (points_below (cond left l r)) (points_below m)
    → (is_refused kind ≡ false → IsUnaffectedOver p sides (points_below m)) → (side : Side)
    → is_affected side sides ≡ false → IsBridgeBetween side (cond left m l) (cond left r m) (edge_on side f)
unaffected_with left (Comes true) p l r m sides f row b h d c side o =
    same_with left side l r m (edge_on side f) h.0 (b side)
unaffected_with left (Comes false) p l r m sides f row b h d c side o = still_with left side p l r m (edge_on side f)
    (b side) d (clear_with left side p l r m (edge_on side f) row (b side) d (c refl side o))
unaffected_with left Goes p l r m sides f row b h d c side o = still_with left side p l r m (edge_on side f)
    (b side) d (clear_with left side p l r m (edge_on side f) row (b side) d (c refl side o))
