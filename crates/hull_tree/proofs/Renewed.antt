-- A fork that has its bridges and its height anew.
use Rattle.std.proofs.Common.{arith}
use Rattle.std.proofs.lemmas.Grind.{common_steps}
use Rattle.std.specs.Prelude.{◌&&◌}
use Rattle.std.proofs.Common.{◌≡◌, ℕ, Bool, ◌+◌, ◌≤◌, max, refl, sym, subst, Some, ◌⊎◌, inl, inr}
use Rattle.lattice.specs.Plane.{Pair}
use Rattle.lattice.specs.Bridges.{IsUpperBridge, IsLowerBridge}
use Rattle.bridge_search.specs.Trees.{Tree, On, left_of, right_of}
use Rattle.hull_tree.specs.declared.node.Node as node
use Rattle.hull_tree.specs.declared.node.Halves as halves
use Rattle.hull_tree.specs.Nodes.{tree_of, keeping, below_of, left_half, right_half, IsWellBuilt, DifferByAtMost}
use Rattle.hull_tree.specs.Changes.{height_at, left_height, right_height, IsSeparated, AreSeparated}
use Rattle.hull_tree.specs.Turns.{IsCostAtMost, IsForkCost, IsDearerByAtMost}
use Rattle.hull_tree.proofs.Costs.{by_fork, costs_more}
use Rattle.bridge_search.specs.Near.{are_near}
use Rattle.hull_tree.proofs.HalfRows.{same_below}
use Rattle.hull_tree.proofs.PointRows.{all_before_of_set}

-- what a node has in its box is below it
pub rolled_below : (e f : Pair × Pair) (k : ℕ) (c : Bool) (n : ℕ) (b : _)
    → below_of (node.roll-Node record { upper = e; lower = f; height = k; near = c; multiplicity = n; below = Some b })
    ≡ Some b.value
unfolding node.roll-Node node.out-Node denote.Hole.Carrier.out denote.Hole.Carrier.roll
rolled_below e f k c n b = refl

-- what is known of the halves h of the fork n that is yet to be renewed
pub record IsUnder (n : node.Node) (h : halves.Halves) : Type 0 where
  pub separated : AreSeparated h
  pub left : left_of (tree_of n) ≡ tree_of (left_half h)
  pub right : right_of (tree_of n) ≡ tree_of (right_half h)

-- the halves of a fork that is yet to be renewed
pub under_fork : (n : node.Node) (h : halves.Halves) → IsSeparated n → below_of n ≡ Some h → IsUnder n h
unfolding node.out-Node halves.out-Halves denote.Hole.Carrier.out
under_fork (node.Node' upper lower height near multiplicity node.None') h p e = absurd (cc)
under_fork (node.Node' upper lower height near multiplicity
    (node.Some' i (halves.Halves' left right last_left right_first))) h p e = grind (arith, common_steps, near, last_left, same_below)

-- a fork over two halves that store the points at their split is still to be renewed
pub separated_fork : (n : node.Node) (h : halves.Halves) → below_of n ≡ Some h → AreSeparated h → IsSeparated n
unfolding node.out-Node halves.out-Halves denote.Hole.Carrier.out
separated_fork (node.Node' upper lower height near multiplicity node.None') h e p = absurd (cc)
separated_fork (node.Node' upper lower height near multiplicity
    (node.Some' i (halves.Halves' left right last_left right_first))) h e p = grind (arith, common_steps, same_below)

-- with its bridges and its height it is well built
pub renewed_well : (n : node.Node) (h : halves.Halves) (e f : Pair × Pair) (k : ℕ) (c : Bool) → IsSeparated n
    → below_of n ≡ Some h → DifferByAtMost 1 (left_height n) (right_height n)
    → IsUpperBridge (On (tree_of (left_half h))) (On (tree_of (right_half h))) e.0 e.1
    → IsLowerBridge (On (tree_of (left_half h))) (On (tree_of (right_half h))) f.0 f.1
    → k ≡ max (height_at (left_half h)) (height_at (right_half h)) + 1
    → c ≡ (are_near (tree_of (left_half h)) && are_near (tree_of (right_half h)))
    → IsWellBuilt (keeping n e f k c)
unfolding node.out-Node halves.out-Halves denote.Hole.Carrier.out
renewed_well (node.Node' upper lower height near multiplicity node.None') h e f k c p is d u w a t = absurd (cc)
renewed_well (node.Node' upper lower height near multiplicity
    (node.Some' i (halves.Halves' left right last_left right_first))) h e f k c p is d u w a t =
    let b : halves.Halves' left right last_left right_first ≡ h = same_below is in
    record {
      bridged = (
        all_before_of_set (tree_of left) (tree_of right) p.row.in_order,
        subst (λ (z : halves.Halves). IsUpperBridge (On (tree_of (left_half z)))
            (On (tree_of (right_half z))) e.0 e.1) (sym b) u,
        subst (λ (z : halves.Halves). IsLowerBridge (On (tree_of (left_half z)))
            (On (tree_of (right_half z))) f.0 f.1) (sym b) w,
        p.row.left_built.bridged,
        p.row.right_built.bridged,
      );
      balanced = (d, p.row.left_built.balanced, p.row.right_built.balanced);
      labelled = (
        p.ends_left,
        p.starts_right,
        subst (λ (z : halves.Halves). k ≡ max (height_at (left_half z)) (height_at (right_half z)) + 1) (sym b) a,
        p.row.left_built.labelled,
        p.row.right_built.labelled,
        subst (λ (z : halves.Halves). c
            ≡ (are_near (tree_of (left_half z)) && are_near (tree_of (right_half z)))) (sym b) t,
      );
    }

-- the points of its halves cost the turns of its two searches more
pub dearer_on_both : (n : node.Node) (h : halves.Halves) (e f : Pair × Pair) (k : ℕ) (t : Bool) (a : ℕ) → IsSeparated n
    → below_of n ≡ Some h → IsForkCost e f (tree_of (left_half h)) (tree_of (right_half h)) a
    → IsDearerByAtMost (left_of (tree_of n)) (tree_of (keeping n e f k t)) a
    × IsDearerByAtMost (right_of (tree_of n)) (tree_of (keeping n e f k t)) a
unfolding node.out-Node halves.out-Halves denote.Hole.Carrier.out
dearer_on_both (node.Node' upper lower height near multiplicity node.None') h e f k t a p is c = absurd (cc)
dearer_on_both (node.Node' upper lower height near multiplicity
    (node.Some' i (halves.Halves' left right last_left right_first))) h e f k t a p is c =
    let b : halves.Halves' left right last_left right_first ≡ h = same_below is in
    by_fork e f (tree_of left) (tree_of right) a
    (subst (λ (z : halves.Halves). IsForkCost e f (tree_of (left_half z)) (tree_of (right_half z)) a) (sym b) c)

-- if p is below one of the halves, and the fork over them was renewed, the turns below and those of the renewal are at least the cost of the forks
-- above p
pub cost_through : (n : node.Node) (h : halves.Halves) (v : Tree) (p : Pair) (m a k : ℕ) → below_of n ≡ Some h
    → AreSeparated h → IsCostAtMost (tree_of (left_half h)) p m ⊎ IsCostAtMost (tree_of (right_half h)) p m
    → IsDearerByAtMost (left_of (tree_of n)) v a → IsDearerByAtMost (right_of (tree_of n)) v a → m + a ≤ k
    → IsCostAtMost v p k
cost_through n h v p m a k e d c x y l =
    let u : IsUnder n h = under_fork n h (separated_fork n h e d) e in
    elim c [
      | inl i ↦ costs_more (tree_of (left_half h)) v p m a k i (subst (λ z. IsDearerByAtMost z v a) u.left x) l
      | inr i ↦ costs_more (tree_of (right_half h)) v p m a k i (subst (λ z. IsDearerByAtMost z v a) u.right y) l
    ]
