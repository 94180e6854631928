-- entries cut in the middle are entries, and the nodes over both halves are in a row and fit one another
use Rattle.std.proofs.Common.{◌≡◌, ◌≤◌, ◌+◌, ◌/◌, length, arith, subst, max}
use Rattle.std.specs.Prelude.{ℕ}
use Rattle.leaf_trees.specs.Heights.{greatest_height}
use Rattle.hull_tree.specs.declared.node.Halves as halves
use Rattle.hull_tree.specs.Nodes.{DifferByAtMost}
use Rattle.hull_tree.specs.Changes.{height_at}
use Rattle.hull_tree.specs.Loaded.{IsHalvings}
use Rattle.hull_tree.proofs.Halvings.{over_halves}
use Rattle.hull_tree.proofs.LoadedRows.{entries_front, entries_back, row_over, low_over, over_both}
use Rattle.hull_tree.proofs.load.+node_over.Goals as goal

pub node_over-requires : goal.node_over-requires
node_over-requires t c =
    let d = c.split_at.ensures.front_len in (
      omega (arith, c.decreases, c.requires.some, c.if-entries-eq1.false),
      (
        rw c.split_at.ensures.front (entries_front _ _ c.requires.entries),
        (omega (arith, c.requires.some, c.if-entries-eq1.false), omega (arith, c.requires.few)),
      ),
    )

pub node_over-requires-2 : goal.node_over-requires-2
node_over-requires-2 t c =
    let d = c.split_at.ensures.back_len in (
      omega (arith, c.decreases, c.requires.some, c.if-entries-eq1.false),
      (
        rw c.split_at.ensures.back (entries_back _ _ c.requires.entries),
        (omega (arith, c.requires.some, c.if-entries-eq1.false), omega (arith, c.requires.few)),
      ),
    )

-- what both halves and their numbers say of the heights
fit : (n m k a b : ℕ) → m ≡ n / 2 → k + n / 2 ≡ n → 2 ≤ n → IsHalvings m a → IsHalvings k b
    → DifferByAtMost 1 a b × IsHalvings n (max a b + 1)
fit n m k a b e d l h g =
    let f = over_halves m k a b (omega (arith)) (omega (arith)) (omega arith) h g in
    let s : m + k ≡ n = omega arith in
    (f.0, subst (λ z. IsHalvings z (max a b + 1)) s f.1)

pub join-requires-clause-separated : goal.join-requires-clause-separated
unfolding halves.roll-Halves halves.out-Halves denote.Hole.Carrier.out denote.Hole.Carrier.roll
join-requires-clause-separated t c =
    let l = rw c.split_at.ensures.front at c.in_ok-left.ensures in
    let r = rw c.split_at.ensures.back at c.in_ok-right.ensures in
    record {
      row = row_over _ _ _ _ c.requires.entries l r;
      ends_left = rw c.in-Ok.ensures.ok c.last_of-last_left.ensures;
      starts_right = rw c.in-Ok.ensures.ok c.first_of-right_first.ensures;
    }

pub join-requires-clause-balanced : goal.join-requires-clause-balanced
join-requires-clause-balanced t c =
    (fit (length c.args.entries.now) _ _ _ _ c.split_at.ensures.front_len c.split_at.ensures.back_len
    (omega (arith, c.requires.some, c.if-entries-eq1.false)) c.in_ok-left.ensures.height c.in_ok-right.ensures.height).0

pub join-requires-clause-low : goal.join-requires-clause-low
join-requires-clause-low t c =
    let a : height_at c.in_ok-left.left ≤ greatest_height =
    low_over _ _ c.in_ok-left.ensures (omega (arith, c.requires.few, c.split_at.ensures.front_len)) in
    let b : height_at c.in_ok-right.right ≤ greatest_height =
    low_over _ _ c.in_ok-right.ensures (omega (arith, c.requires.few, c.split_at.ensures.back_len)) in
    omega arith

pub returns : goal.returns
returns t c =
    let l = rw c.split_at.ensures.front at c.in_ok-left.ensures in
    let r = rw c.split_at.ensures.back at c.in_ok-right.ensures in
    let f = fit (length c.args.entries.now) _ _ _ _ c.split_at.ensures.front_len c.split_at.ensures.back_len
    (omega (arith, c.requires.some, c.if-entries-eq1.false)) c.in_ok-left.ensures.height
    c.in_ok-right.ensures.height in
    over_both _ _ _ _ _ l r c.join.ensures.built c.join.ensures.points c.join.ensures.multiplicities
    (rw c.join.ensures.height f.1)
