-- Two nodes in a row, by their vertices.
use Rattle.std.proofs.Common.{◌≡◌, ℕ, ◌≤◌, ◌+◌, List, ◌++◌, sym, ap, ◌∙◌, subst, arith, Box}
use Rattle.lattice.specs.Bridges.{IsAllBefore}
use Rattle.lattice.specs.declared.side.Side.TheVariants.{Lower}
use Rattle.bridge_search.specs.Trees.{On, height_of}
use Rattle.hull_buckets.proofs.SliceBridges.{bucket_low}
use Rattle.lattice.specs.Covers.{IsPointSet}
use Rattle.lattice.specs.Plane.{Pair}
use Rattle.hull_geometry.proofs.PointLists.{append_twice}
use Rattle.hull_geometry.proofs.PointSets.{set_apart, set_left, set_right}
use Rattle.bucket_tree.specs.declared.node.Fork.{Fork as Below}
use Rattle.bucket_tree.specs.declared.node.Node.{Node, Leaf, Fork', Fork, Taken}
use Rattle.bucket_tree.specs.Nodes.{tree_of, points_below, node_height, HasBuckets, IsWellBuilt, AreInRow}
use Rattle.bucket_tree.proofs.NodeCandidateLists.{node_candidates}

-- all vertices of the one are before all of the other
pub vertices_in_row : (l r : Node) → AreInRow l r → IsAllBefore (On (tree_of l)) (On (tree_of r))
vertices_in_row l r w p q i j = set_apart (points_below l) (points_below r) p q w.in_order
    ((node_candidates Lower l w.left_built.buckets).among p i) ((node_candidates Lower r w.right_built.buckets).among q j)

-- the vertices' half is at most 6 higher than the tree of forks
pub vertices_low : (n : Node) → HasBuckets n → height_of (tree_of n) ≤ node_height n + 6
vertices_low (Leaf b) h = bucket_low b.value h
vertices_low (Fork' height i left right right_ends upper left_ends lower) h =
    omega (arith, vertices_low left h.0, vertices_low right h.1)
vertices_low Taken h = absurd h

-- ---- rows of lists

-- the front of a row whose second part is two
pub front : (xs ys us vs : List Pair) → IsPointSet (xs ++ ys) → ys ≡ us ++ vs → IsPointSet (xs ++ us)
front xs ys us vs h e = set_left (xs ++ us) vs
    (subst IsPointSet (sym (append_twice xs us vs)) (subst (λ z. IsPointSet (xs ++ z)) e h))

-- the back of a row whose first part is two
pub back : (xs ys us vs : List Pair) → IsPointSet (xs ++ ys) → xs ≡ us ++ vs → IsPointSet (vs ++ ys)
back xs ys us vs h e = set_right us (vs ++ ys)
    (subst IsPointSet (append_twice us vs ys) (subst (λ z. IsPointSet (z ++ ys)) e h))

-- the second of two with what is after them
pub with_back : (xs ys us vs s : List Pair) → IsPointSet (xs ++ ys) → xs ≡ us ++ vs → s ≡ vs ++ ys
    → IsPointSet (us ++ s)
with_back xs ys us vs s h e f = subst (λ z. IsPointSet (us ++ z)) (sym f)
    (subst IsPointSet (append_twice us vs ys) (subst (λ z. IsPointSet (z ++ ys)) e h))

-- the first of two with what is before them
pub with_front : (xs ys us vs s : List Pair) → IsPointSet (xs ++ ys) → ys ≡ us ++ vs → s ≡ xs ++ us
    → IsPointSet (s ++ vs)
with_front xs ys us vs s h e f = subst (λ z. IsPointSet (z ++ vs)) (sym f)
    (subst IsPointSet (sym (append_twice xs us vs)) (subst (λ z. IsPointSet (xs ++ z)) e h))

-- two of three, and the same three
pub regrouped : (xs ys us vs s : List Pair) → xs ≡ us ++ vs → s ≡ vs ++ ys → us ++ s ≡ xs ++ ys
regrouped xs ys us vs s e f = ap (λ z. us ++ z) f ∙ sym (append_twice us vs ys) ∙ ap (λ z. z ++ ys) (sym e)

-- ---- halves

-- the halves of a fork are in a row
pub halves_row : (n : Node) (h : ℕ) (f : Box Below _) → n ≡ Fork h f → IsWellBuilt n
    → AreInRow f.value.left f.value.right
halves_row n h f e w =
    let b = subst IsWellBuilt e w in
    record {
      left_built = record {
        ordered = set_left (points_below f.value.left) (points_below f.value.right) b.ordered;
        bridged = b.bridged.3;
        balanced = b.balanced.1;
        labelled = b.labelled.3;
        buckets = b.buckets.0;
      };
      right_built = record {
        ordered = set_right (points_below f.value.left) (points_below f.value.right) b.ordered;
        bridged = b.bridged.4;
        balanced = b.balanced.2;
        labelled = b.labelled.4;
        buckets = b.buckets.1;
      };
      in_order = b.ordered;
    }

-- two well-built nodes whose points are in a row
pub in_row : (l r : Node) → IsWellBuilt l → IsWellBuilt r → IsPointSet (points_below l ++ points_below r) → AreInRow l r
in_row l r bl br o = record { left_built = bl; right_built = br; in_order = o }
