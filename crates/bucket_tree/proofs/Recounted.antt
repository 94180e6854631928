-- A point whose multiplicity changes.
use Rattle.std.proofs.Common.{Bool, true, false, cond, ◌≡◌, ℕ, zero, suc, ◌+◌, ◌<◌, refl, sym, ap, ◌∙◌, subst, List, []}
use Rattle.std.proofs.Common.{◌∷◌}
use Rattle.std.proofs.Common.{◌++◌}
use Rattle.std.proofs.Common.{length, arith}
use Rattle.std.proofs.Common.{Ok, get_or, Box}
use Rattle.std.specs.Box.{with_value}
use Rattle.std.specs.List.{remove}
use Rattle.std.specs.Prelude.{slice_set}
use Rattle.lattice.specs.Covers.{IsPointSet}
use Rattle.lattice.specs.Plane.{Pair}
use Rattle.lattice.specs.declared.side.Side.{Side}
use Rattle.lattice.specs.declared.side.Side.TheVariants.{Lower, Upper}
use Rattle.bridge_search.specs.Trees.{IsBridged, Leaf as LeafTree, Fork as ForkTree}
use Rattle.hull_geometry.specs.Positions.{IsPositionOf, origin, point_at}
use Rattle.hull_buckets.specs.Buckets.{BucketValue, mask_on}
use Rattle.hull_buckets.specs.Slices.{width_of, left_slice, right_slice, end_of_slice, start_of_slice}
use Rattle.hull_buckets.specs.Slices.{tree_by, tree_to, tree_of_slice, all_of}
use Rattle.hull_buckets.specs.Masks.{lowest_of}
use Rattle.bucket_tree.specs.Counts.{counted, multiplicity_at, IsSameButMultiplicities, IsRecounted}
use Rattle.leaf_trees.specs.Entries.{several}
use Rattle.bucket_tree.specs.declared.node.Fork.{Fork as Below}
use Rattle.bucket_tree.specs.declared.node.Node.{Node, Leaf, Fork}
use Rattle.bucket_tree.specs.Nodes.{tree_of, tree_of_bucket, points_below, multiplicities_below, node_height, ends_in}
use Rattle.bucket_tree.specs.Nodes.{AreInRow, IsWellBuilt}
use Rattle.bucket_tree.proofs.BuiltLeaves.{leaf_built}
use Rattle.bucket_tree.proofs.Gained.{held_row}
use Rattle.bucket_tree.proofs.Lost.{counted_remove, count_at}
use Rattle.bucket_tree.specs.Halves.{with_half}
use Rattle.bucket_tree.proofs.Parts.{BelongsTo, count_in}
use Rattle.bucket_tree.proofs.NodeRows.{halves_row}

-- ---- a bucket

-- with another count at an index
counted_set : (S : List Pair) (T : List ℕ) (i n : ℕ) (q : Pair) → length T ≡ length S → i < length S
    → counted S (slice_set T i n) q ≡ counted (remove S i) (remove T i) q + several n (point_at S i) q
counted_set [] T i n q e l = absurd (omega (arith, l))
counted_set (x ∷ xs) [] i n q e l = absurd (omega (arith, e))
counted_set (x ∷ xs) (t ∷ ts) zero n q e l = omega arith
counted_set (x ∷ xs) (t ∷ ts) (suc i) n q e l =
    let r = counted_set xs ts i n q (omega (arith, e)) (omega (arith, l)) in omega (arith, r)

-- only the multiplicity of the point there changes
pub counted_over : (S P : List Pair) (T U : List ℕ) (i n : ℕ) (p q : Pair) → IsPointSet S → length T ≡ length S
    → IsPositionOf S p (Ok i) → P ≡ S → U ≡ slice_set T i n
    → counted P U q + several (counted S T p) p q ≡ counted S T q + several n p q
counted_over S P T U i n p q s e at f g =
    let a = counted_remove S T i q e at.0 in
    let b = ap (λ z. counted z U q) f ∙ ap (λ z. counted S z q) g ∙ counted_set S T i n q e at.0 in
    let c = ap (λ z. several (get_or T i 0) z q) (at.1 origin) in
    let d = ap (λ z. several n z q) (at.1 origin) in
    let k = ap (λ z. several z p q) (count_at S T i p s e at) in
    omega (arith, a, b, c, d, k)

-- the half of a bucket does not depend on the multiplicities
same_to : (a b : BucketValue) → a.points ≡ b.points → ((side : Side) → mask_on side a ≡ mask_on side b) → (n slice : ℕ)
    → tree_to n a slice ≡ tree_to n b slice
same_to a b p m zero slice = ap (λ z. LeafTree (point_at z (lowest_of slice))) p
same_to a b p m (suc n) slice =
    let l = same_to a b p m n (left_slice slice) in
    let r = same_to a b p m n (right_slice slice) in
    λ i. tree_by (width_of slice) (LeafTree (point_at (p i) (lowest_of slice)))
    (ForkTree (
      point_at (p i) (end_of_slice (m Upper i) (left_slice slice)),
      point_at (p i) (start_of_slice (m Upper i) (right_slice
          slice)),
    ) (
      point_at (p i) (end_of_slice (m Lower i) (left_slice slice)),
      point_at (p i) (start_of_slice (m Lower i) (right_slice
          slice)),
    )
    (l i) (r i))

same_half : (a b : BucketValue) → a.points ≡ b.points → ((side : Side) → mask_on side a ≡ mask_on side b)
    → tree_of_bucket a ≡ tree_of_bucket b
same_half a b p m =
    same_to a b p m (width_of (all_of a)) (all_of a) ∙ ap (tree_of_slice b) (rw (m Upper, m Lower) refl)

-- so for a leaf
pub recounted_leaf : (multiplicity : ℕ) (p : Pair) (n : Node) (b c : Box BucketValue _) (v : BucketValue) → n ≡ Leaf b
    → c.value ≡ v → IsSameButMultiplicities b.value v
    → ((q : Pair) → counted v.points v.multiplicities q + several (counted b.value.points b.value.multiplicities p) p q
    ≡ counted b.value.points b.value.multiplicities q + several multiplicity p q) → IsRecounted multiplicity p n (Leaf c)
recounted_leaf multiplicity p n b c v e f h k = rw e (record {
  built = leaf_built c v f h.bucket;
  same_tree = ap tree_of_bucket f ∙ same_half v b.value h.points h.vertices;
  same_points = ap (λ (z : BucketValue). z.points) f ∙ h.points;
  same_height = refl;
  held = λ q. ap (λ (z : BucketValue). counted z.points z.multiplicities q
      + several (counted b.value.points b.value.multiplicities p) p q) f ∙ k q;
})

-- ---- a fork

-- a node is built as another over the same points
record IsLike (n m : Node) : Type 0 where
  built : IsWellBuilt m
  tree : tree_of m ≡ tree_of n
  points : points_below m ≡ points_below n
  height : node_height m ≡ node_height n

-- a part that was not changed
like_itself : (n : Node) → IsWellBuilt n → IsLike n n
like_itself n w = record { built = w; tree = refl; points = refl; height = refl }

-- a part that was recounted
like_recounted : (multiplicity : ℕ) (p : Pair) (n m : Node) → IsRecounted multiplicity p n m → IsLike n m
like_recounted multiplicity p n m r =
    record { built = r.built; tree = r.same_tree; points = r.same_points; height = r.same_height }

-- so a fork over both is like the one that was
fork_like : (n : Node) (h : ℕ) (f : Box Below _) (l r : Node) → n ≡ Fork h f → IsWellBuilt n → IsLike f.value.left l
    → IsLike f.value.right r → IsLike n (Fork h (with_value f (with_half false (with_half true f.value l) r)))
fork_like n h f l r e w u v =
    let g = subst IsWellBuilt e w in
    record {
      built = record {
        ordered = subst IsPointSet (sym points) g.ordered;
        bridged = subst IsBridged (sym tree) g.bridged;
        balanced = (
          (omega (arith, g.balanced.0, u.height, v.height), omega (arith, g.balanced.0, u.height, v.height)),
          u.built.balanced,
          v.built.balanced,
        );
        labelled = (
          g.labelled.0 ∙ ap ends_in (sym u.points),
          g.labelled.1 ∙ ap ends_in (sym v.points),
          omega (arith, g.labelled.2, u.height, v.height),
          u.built.labelled,
          v.built.labelled,
        );
        buckets = (u.built.buckets, v.built.buckets);
      };
      tree = tree ∙ sym (ap tree_of e);
      points = points ∙ sym (ap points_below e);
      height = omega (arith, ap node_height e, u.height, v.height);
    }
  where
    points : points_below l ++ points_below r ≡ points_below f.value.left ++ points_below f.value.right
    points = ap (λ z. z ++ points_below r) u.points ∙ ap (λ z. points_below f.value.left ++ z) v.points

    tree : ForkTree f.value.upper f.value.lower (tree_of l) (tree_of r)
        ≡ ForkTree f.value.upper f.value.lower (tree_of f.value.left) (tree_of f.value.right)
    tree = ap (λ z. ForkTree f.value.upper f.value.lower z (tree_of r)) u.tree
        ∙ ap (λ z. ForkTree f.value.upper f.value.lower (tree_of f.value.left) z) v.tree

-- a point of one half, of a fork that is read through a reference
pub recounted_in : (left : Bool) (multiplicity : ℕ) (p : Pair) (n : Node) (h : ℕ) (f : Box Below _) (v : Below) (k : Node)
    → v ≡ f.value → n ≡ Fork h f → IsWellBuilt n → BelongsTo left p f.value.right_ends.first
    → IsRecounted multiplicity p (cond left v.left v.right) k
    → IsRecounted multiplicity p n (Fork h (with_value f (with_half left v k)))
recounted_in left multiplicity p n h f v k u e w b r =
    subst (λ z. IsRecounted multiplicity p n (Fork h (with_value f (with_half left z k)))) (sym u)
    (let s = subst (λ (z : Below). IsRecounted multiplicity p (cond left z.left z.right) k) u r in
    let like = whole left s in
    record {
      built = like.built;
      same_tree = like.tree;
      same_points = like.points;
      same_height = like.height;
      held = λ q. let c = counts left s q in
          omega (arith, c.1, c.2, ap (λ z. several z p q) (count_in left n h f p e w b), s.held q);
    })
  where
    row : AreInRow f.value.left f.value.right
    row = halves_row n h f e w

    whole : (left : Bool) → IsRecounted multiplicity p (cond left f.value.left f.value.right) k
        → IsLike n (Fork h (with_value f (with_half left f.value k)))
    whole true s = fork_like n h f k f.value.right e w (like_recounted multiplicity p f.value.left k s)
        (like_itself f.value.right row.right_built)
    whole false s = fork_like n h f f.value.left k e w (like_itself f.value.left row.left_built)
        (like_recounted multiplicity p f.value.right k s)

    all : (q : Pair) → multiplicity_at n q ≡ multiplicity_at f.value.left q + multiplicity_at f.value.right q
    all q = held_row n f.value.left f.value.right q row.left_built.buckets (ap points_below e) (ap multiplicities_below e)

    counts : (left : Bool) → IsRecounted multiplicity p (cond left f.value.left f.value.right) k → (q : Pair)
        → (other : ℕ) × (multiplicity_at (Fork h (with_value f (with_half left f.value k))) q ≡ multiplicity_at k q + other)
        × (multiplicity_at n q ≡ multiplicity_at (cond left f.value.left f.value.right) q + other)
    counts true s q = (
      multiplicity_at f.value.right q,
      held_row (Fork h (with_value f (with_half true f.value k))) k f.value.right q s.built.buckets refl refl,
      all q,
    )
    counts false s q =
        let b = held_row (Fork h (with_value f (with_half false f.value k))) f.value.left k q
        row.left_built.buckets refl refl in
        (multiplicity_at f.value.left q, omega (arith, b), omega (arith, all q))
