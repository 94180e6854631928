-- The proof that a node is labelled is unique, as a ghost field requires.
use Rattle.std.specs.Prelude.{◌≡◌, ◌≤◌, ℕ}
use Rattle.std.proofs.Math.Nat.{ℕ_set}
use native.Mathlib.Bridge.{le_prop}
use mathlib.Core.Bool.{Bool-set}
use Rattle.lattice.specs.Plane.{Pair}
use Rattle.bridge_search.specs.Trees.{Fork, first_of, last_of, height_of}
use Rattle.bridge_search.specs.OneWay.{point_set}
use Rattle.bridge_search.specs.Near.{is_near, are_near}
use Rattle.hull_set.specs.declared.TheConstants.{MULTIPLICITY_LIMIT}
use Rattle.hull_tree.specs.declared.node.Node as node
use Rattle.hull_tree.specs.declared.node.Halves as halves
use Rattle.hull_tree.specs.Nodes.{tree_of, IsLabelled}

-- that two points are the same has one proof
same_point : (p q : Pair) → IsProp (p ≡ q)
same_point p q = point_set p q

-- that two numbers are the same has one proof
same_number : (m n : ℕ) → IsProp (m ≡ n)
same_number m n = ℕ_set m n

-- that a number is at most another has one proof
at_most_prop : (m n : ℕ) → IsProp (m ≤ n)
at_most_prop m n = le_prop

-- that a node is labelled has one proof
pub IsLabelled-prop : (n : node.Node) → IsProp (IsLabelled n)
IsLabelled-prop (node.Node' upper lower height near multiplicity node.None') =
    let h : IsProp (height ≡ 0) = same_number height 0 in
    let a : IsProp (1 ≤ multiplicity) = at_most_prop 1 multiplicity in
    let b : IsProp (multiplicity ≤ MULTIPLICITY_LIMIT) = at_most_prop multiplicity MULTIPLICITY_LIMIT in
    let n : IsProp (near ≡ is_near upper.0) = Bool-set near (is_near upper.0) in
    hlevel (h, a, b, n)
IsLabelled-prop (node.Node' upper lower height near multiplicity
    (node.Some' i (halves.Halves' left right last_left right_first))) =
    let a : IsProp (last_left ≡ last_of (tree_of left)) = same_point last_left (last_of (tree_of left)) in
    let b : IsProp (right_first ≡ first_of (tree_of right)) = same_point right_first (first_of (tree_of right)) in
    let c : IsProp (height ≡ height_of (Fork upper lower (tree_of left) (tree_of right))) =
    same_number height (height_of (Fork upper lower (tree_of left) (tree_of right))) in
    let k : IsProp (IsLabelled left) = IsLabelled-prop left in
    let l : IsProp (IsLabelled right) = IsLabelled-prop right in
    let n : IsProp (near ≡ are_near (Fork upper lower (tree_of left) (tree_of right))) =
    Bool-set near (are_near (Fork upper lower (tree_of left) (tree_of right))) in
    hlevel (a, b, c, k, l, n)
