-- The invariant of a tree with a limit, and that a change preserves it.
use Rattle.std.proofs.lemmas.Grind.{common_steps}
use Rattle.std.proofs.Common.{◌≡◌, ℕ, ◌+◌, ◌-◌, ◌<◌, ap, ◌∙◌, List, length, arith, Some, None, subst}
use Rattle.std.specs.Prelude.{Option}
use Rattle.std.specs.List.{Contains}
use Rattle.lattice.specs.Plane.{Pair}
use Rattle.lattice.specs.Covers.{with_point, without_point}
use Rattle.bridge_search.specs.Trees.{Tree}
use Rattle.bridge_search.specs.Leaves.{points_of}
use Rattle.bridge_search.proofs.Leaves.{points_in_order, size_is_length}
use Rattle.hull_geometry.proofs.PointLists.{AllPairs-none}
use Rattle.hull_tree.specs.declared.node.Node.{Node}
use Rattle.hull_tree.specs.Nodes.{tree_of, IsWellBuilt}
use Rattle.hull_tree.specs.Changes.{points_below}
use Rattle.hull_tree.specs.Roots.{points_of_root, IsWellBuiltRoot}
use Rattle.hull_tree.specs.Sets.{IsLimited, IsSound, IsWhole}
use Rattle.leaf_trees.proofs.Rows.{with_length, without_length}
use Rattle.hull_tree.proofs.Heights.{at_most_28}

-- such a tree is sound
pub sound : (root : Option Node) (count limit : ℕ) → IsLimited root count limit → IsSound root
sound None count limit h = record { built = tt; in_order = AllPairs-none; low = omega arith }
sound (Some n) count limit h = record {
  built = h.built;
  in_order = points_in_order (tree_of n) h.built.bridged;
  low = at_most_28 (tree_of n) h.built.balanced (omega (arith, h.counted, h.space, h.high));
}

-- one point more, below the limit
pub limited_with : (n m : Node) (p : Pair) (count limit : ℕ) → IsLimited (Some n) count limit → IsWellBuilt m
    → points_below m ≡ with_point p (points_below n) → ¬ (Contains (points_below n) p) → count < limit
    → IsLimited (Some m) (count + 1) limit
limited_with n m p count limit h b e a l =
    let k : length (points_below m) ≡ length (points_below n) + 1 =
    ap (λ (z : List Pair). length z) e ∙ with_length p (points_below n) a in
    record { built = b; counted = omega (arith, h.counted, k); space = omega (arith, l); low = h.low; high = h.high }

-- one point less
pub limited_without : (n : Node) (root : Option Node) (p : Pair) (count limit : ℕ) → IsLimited (Some n) count limit
    → IsWellBuiltRoot root → points_of_root root ≡ without_point p (points_below n) → Contains (points_below n) p
    → IsLimited root (count - 1) limit
limited_without n root p count limit h b e m =
    let k : length (points_of_root root) + 1 ≡ length (points_below n) =
    ap (λ (z : List Pair). length z + 1) e
    ∙ without_length p (points_below n) (points_in_order (tree_of n) h.built.bridged) m in
    record {
      built = b;
      counted = omega (arith, h.counted, k);
      space = omega (arith, h.space);
      low = h.low;
      high = h.high;
    }

-- the half that its root is has all its points
pub whole : (root : Option Node) (n : Node) (u : Tree) (count limit : ℕ) → IsLimited root count limit → root ≡ Some n
    → u ≡ tree_of n → IsWhole (record { limit = limit; root = root }) u
whole root n u count limit h r e = grind (arith, common_steps, points_of_root, points_of, size_is_length)

-- a tree that is not nothing is well built
pub built_root : (root : Option Node) (n : Node) (count limit : ℕ) → IsLimited root count limit → root ≡ Some n
    → IsWellBuilt n
built_root root n count limit h r = subst IsWellBuiltRoot r h.built
