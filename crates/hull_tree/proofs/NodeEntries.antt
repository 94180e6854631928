-- The points below a node, each with its multiplicity, as entries.
use Rattle.std.proofs.lemmas.Grind.{common_steps}
use Rattle.std.proofs.Common.{◌≡◌, ℕ, ◌+◌, refl, sym, ◌∙◌, ap, subst, List, [], ◌++◌, length, arith, Option, Some, None}
use Rattle.std.specs.List.{All}
use Rattle.std.proofs.lemmas.List.{map-append}
use Rattle.std.proofs.lemmas.List.Elements.{All-append, All-cons}
use Rattle.std.proofs.lemmas.List.Sums.{sum_by-append}
use Rattle.std.proofs.lemmas.Map.Entries.{length-keys_of}
use Rattle.lattice.specs.Plane.{Pair}
use Rattle.lattice.specs.Covers.{IsPointSet}
use Rattle.bridge_search.proofs.Leaves.{points_in_order}
use Rattle.hull_set.proofs.HeldMultiplicities.{same_held}
use Rattle.leaf_trees.specs.Entries.{several, IsMultiplicity, points_listed, multiplicity_listed, held_listed, AreEntries}
use Rattle.leaf_trees.proofs.AddedSets.{no_entries, none_listed}
use Rattle.hull_tree.specs.declared.node.Node as node
use Rattle.hull_tree.specs.declared.node.Halves as halves
use Rattle.hull_tree.specs.Nodes.{tree_of, below_of, left_half, right_half, multiplicity_below, IsLabelled, IsWellBuilt}
use Rattle.hull_tree.specs.Changes.{points_below, height_at, height_within}
use Rattle.hull_tree.specs.Roots.{held_by, IsWellBuiltRoot}
use Rattle.hull_tree.specs.Loaded.{entries_below, entries_of_root}
use Rattle.hull_tree.proofs.HalfRows.{same_below}

-- the points of the entries are those of the tree
pub points_of_entries : (n : node.Node) → points_listed (entries_below n) ≡ points_below n
points_of_entries (node.Node' upper lower height near multiplicity node.None') = refl
points_of_entries (node.Node' upper lower height near multiplicity
    (node.Some' i (halves.Halves' left right last_left right_first))) =
    map-append (λ (e : Pair × ℕ). e.0) (entries_below left) (entries_below right)
    ∙ ap (λ (z : List Pair). z ++ points_listed (entries_below right)) (points_of_entries left)
    ∙ ap (λ (z : List Pair). points_below left ++ z) (points_of_entries right)

-- and as many
pub length_of_entries : (n : node.Node) → length (entries_below n) ≡ length (points_below n)
length_of_entries n = sym (length-keys_of (entries_below n)) ∙ ap (λ (z : List Pair). length z) (points_of_entries n)

-- each with the same multiplicity
pub multiplicity_of_entries : (n : node.Node) (q : Pair) → multiplicity_listed (entries_below n) q ≡ multiplicity_below n q
multiplicity_of_entries (node.Node' upper lower height near multiplicity node.None') q = omega arith
multiplicity_of_entries (node.Node' upper lower height near multiplicity
    (node.Some' i (halves.Halves' left right last_left right_first))) q =
    omega (
      arith,
      sum_by-append (λ (e : Pair × ℕ). several e.1 e.0 q) (entries_below left) (entries_below right),
      multiplicity_of_entries left q,
      multiplicity_of_entries right q,
    )

-- as often as a point may be
held_of_entries : (n : node.Node) → IsLabelled n → All (λ (e : Pair × ℕ). IsMultiplicity e.1) (entries_below n)
held_of_entries (node.Node' upper lower height near multiplicity node.None') l =
    All-cons (λ (e : Pair × ℕ). IsMultiplicity e.1) (upper.0, multiplicity) [] l.1 (λ k d l. absurd (omega arith))
held_of_entries (node.Node' upper lower height near multiplicity
    (node.Some' i (halves.Halves' left right last_left right_first))) l =
    All-append (λ (e : Pair × ℕ). IsMultiplicity e.1) (entries_below left) (entries_below right)
    (held_of_entries left l.3) (held_of_entries right l.4)

-- what a node has by its two halves
pub record IsListedOver (n : node.Node) (h : halves.Halves) : Type 0 where
  pub entries : entries_below n ≡ entries_below (left_half h) ++ entries_below (right_half h)
  pub points : points_below n ≡ points_below (left_half h) ++ points_below (right_half h)
  pub height : height_at n ≡ height_within h + 1

-- the entries of a fork are those of its halves in a row
pub listed_halves : (n : node.Node) (h : halves.Halves) → below_of n ≡ Some h → IsListedOver n h
unfolding node.out-Node halves.out-Halves denote.Hole.Carrier.out
listed_halves (node.Node' upper lower height near multiplicity node.None') h e = absurd (cc)
listed_halves (node.Node' upper lower height near multiplicity
    (node.Some' i (halves.Halves' left right last_left right_first))) h e = grind (arith, common_steps, near, last_left, same_below)

-- so they are entries
pub entries_are : (n : node.Node) → IsWellBuilt n → AreEntries (entries_below n)
entries_are n h = record {
  in_order = subst IsPointSet (sym (points_of_entries n)) (points_in_order (tree_of n) h.bridged);
  held = held_of_entries n h.labelled;
}

-- which hold what the tree holds
pub entries_hold : (n : node.Node) → held_listed (entries_below n) ≡ held_by (Some n)
entries_hold n =
    same_held (points_listed (entries_below n)) (points_below n) (λ q. multiplicity_listed (entries_below n) q) (multiplicity_below n)
    (points_of_entries n) (λ q. multiplicity_of_entries n q)

-- what is below a well-built root is listed by entries
pub root_entries : (root : Option node.Node) → IsWellBuiltRoot root → AreEntries (entries_of_root root)
root_entries None w = no_entries
root_entries (Some n) w = entries_are n w

-- which hold what it holds
pub root_entries_hold : (root : Option node.Node) → held_listed (entries_of_root root) ≡ held_by root
root_entries_hold None = none_listed
root_entries_hold (Some n) = entries_hold n
