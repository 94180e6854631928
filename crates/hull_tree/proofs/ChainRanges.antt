-- The entries from a start on, over the halves of a fork.
use Rattle.std.proofs.Common.{◌≡◌, ◌∙◌, sym, ap, subst, ℕ, List, [], ◌++◌}
use Rattle.std.proofs.Common.{take, append_assoc, Some}
use Rattle.std.specs.List.{All}
use Rattle.lattice.specs.Plane.{Pair, IsBefore}
use Rattle.bridge_search.specs.Trees.{last_of}
use Rattle.bridge_search.proofs.Ends.{last_by}
use Rattle.bridge_search.proofs.Leaves.{on_of_contains}
use Rattle.hull_geometry.proofs.PointLists.{all_of}
use Rattle.hull_tree.specs.declared.node.Node as node
use Rattle.hull_tree.specs.declared.node.Halves as halves
use Rattle.hull_tree.specs.Nodes.{tree_of, below_of, left_half, right_half, before_split, IsWellBuilt}
use Rattle.hull_tree.specs.Changes.{points_below}
use Rattle.hull_tree.specs.Loaded.{entries_below}
use Rattle.leaf_trees.specs.ChainRanges.{entries_from}
use Rattle.leaf_trees.proofs.ChainRanges.{early, from_append, none_from, take_more}
use Rattle.hull_tree.proofs.NodeEntries.{listed_halves, points_of_entries}
use Rattle.hull_tree.proofs.HalfRows.{over_halves}

-- a node whose last point is before the start has none
pub none_below : (s : Pair) (n : node.Node) → IsWellBuilt n → IsBefore (last_of (tree_of n)) s
    → entries_from s (entries_below n) ≡ []
none_below s n h b =
    none_from s (entries_below n) (subst (All (λ p. IsBefore p s)) (sym (points_of_entries n))
    (all_of (λ p. IsBefore p s) (points_below n) (λ p i.
    early p (last_of (tree_of n)) s (last_by (tree_of n) h.bridged p (on_of_contains (tree_of n) p i)) b)))

-- what was there, the left half's and then the right half's are what was there and the fork's
pub both_halves : (s : Pair) (m : ℕ) (n : node.Node) (h : halves.Halves) (old : List (Pair × ℕ)) → below_of n ≡ Some h
    → take m (take m (old ++ entries_from s (entries_below (left_half h))) ++ entries_from s (entries_below (right_half h)))
    ≡ take m (old ++ entries_from s (entries_below n))
both_halves s m n h old b =
    let l = entries_from s (entries_below (left_half h)) in
    let r = entries_from s (entries_below (right_half h)) in
    take_more m (old ++ l) r
    ∙ ap (λ (z : List (Pair × ℕ)). take m z) (append_assoc old l r
    ∙ ap (λ (z : List (Pair × ℕ)). old ++ z) (sym (ap (λ z. entries_from s z) (listed_halves n h b).entries
    ∙ from_append s (entries_below (left_half h)) (entries_below (right_half h)))))

-- and only those of the right half if the left half is before the start
pub right_alone : (s : Pair) (m : ℕ) (n : node.Node) (h : halves.Halves) (old : List (Pair × ℕ)) → IsWellBuilt n
    → below_of n ≡ Some h → IsBefore (before_split h) s
    → take m (old ++ entries_from s (entries_below (right_half h))) ≡ take m (old ++ entries_from s (entries_below n))
right_alone s m n h old w b k =
    let o = over_halves n h w b in
    let none : entries_from s (entries_below (left_half h)) ≡ [] =
    none_below s (left_half h) o.separated.row.left_built (subst (λ (z : Pair). IsBefore z s) o.separated.ends_left k) in
    let r = entries_from s (entries_below (right_half h)) in
    ap (λ (z : List (Pair × ℕ)). take m (old ++ z))
    (sym (ap (λ z. entries_from s z) (listed_halves n h b).entries
    ∙ from_append s (entries_below (left_half h)) (entries_below (right_half h))
    ∙ ap (λ (z : List (Pair × ℕ)). z ++ r) none))
