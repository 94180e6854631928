-- the half that the point leaves is well built without it, and so is the fork over it once it is rebalanced
use Rattle.std.proofs.Common.{arith, refl, sym, ◌∙◌, subst, inl, inr, ◌≡◌, ◌⊎◌, Some}
use Rattle.bridge_search.specs.Trees.{Leaf}
use Rattle.bridge_search.proofs.Leaves.{on_of_contains}
use Rattle.hull_tree.specs.declared.node.Halves as halves
use Rattle.hull_tree.specs.Nodes.{tree_of, below_of, left_half, right_half}
use Rattle.hull_tree.proofs.HalfRows.{IsOver, over_halves}
use Rattle.hull_tree.proofs.Multiplicities.{once_left, once_right}
use Rattle.hull_tree.proofs.SplitPoints.{fork_of, last_left, first_left, separated_drop_left, separated_drop_right}
use Rattle.hull_tree.proofs.SplitPoints.{points_drop_left, points_drop_right, rest_below}
use Rattle.lattice.proofs.Tests.{passed, failed}
use Rattle.hull_tree.proofs.change.+remove.Goals as goal

pub remove-returns-then-is_half-clause-built : goal.remove-returns-then-is_half-clause-built
remove-returns-then-is_half-clause-built t c =
    (rest_below _ _ _ _ _ c.requires.built (rw (c.in-Some.is, c.deref_mut.ensures.value) refl)
    (c.deref.ensures ∙ sym c.deref_mut.ensures.value)
    (passed _ _ c.if-is_half.true c.is_half.ensures) c.other_half.ensures.right c.other_half.ensures.left
    c.requires.once).built

pub remove-returns-then-is_half-clause-points : goal.remove-returns-then-is_half-clause-points
remove-returns-then-is_half-clause-points t c =
    (rest_below _ _ _ _ _ c.requires.built (rw (c.in-Some.is, c.deref_mut.ensures.value) refl)
    (c.deref.ensures ∙ sym c.deref_mut.ensures.value)
    (passed _ _ c.if-is_half.true c.is_half.ensures) c.other_half.ensures.right c.other_half.ensures.left
    c.requires.once).points

pub remove-returns-then-is_half-clause-multiplicities : goal.remove-returns-then-is_half-clause-multiplicities
remove-returns-then-is_half-clause-multiplicities t c =
    (rest_below _ _ _ _ _ c.requires.built (rw (c.in-Some.is, c.deref_mut.ensures.value) refl)
    (c.deref.ensures ∙ sym c.deref_mut.ensures.value)
    (passed _ _ c.if-is_half.true c.is_half.ensures) c.other_half.ensures.right c.other_half.ensures.left
    c.requires.once).multiplicities

pub remove-remove_below-below-requires : goal.remove-remove_below-below-requires
remove-remove_below-below-requires t c =
    let i : below_of c.args.node.now ≡ Some c.deref_mut-2.result.now =
    rw (c.in-Some.is, c.deref_mut-2.ensures.value) refl in
    let o : IsOver c.args.node.now c.deref_mut-2.result.now = over_halves _ _ c.requires.built i in
    let e : c.deref.result.now ≡ c.deref_mut-2.result.now = c.deref.ensures ∙ sym c.deref_mut-2.ensures.value in
    let n = subst (λ z. ¬ ((tree_of (left_half z) ≡ Leaf c.args.p) ⊎ (tree_of (right_half z) ≡ Leaf c.args.p))) e
    (failed _ _ c.if-is_half.false c.is_half.ensures) in (
      omega (arith, c.decreases, o.height),
      (
        o.separated,
        (
          sym (o.multiplicities c.args.p) ∙ c.requires.once,
          ((λ h. n (inl h)), ((λ h. n (inr h)), omega (arith, o.height, c.requires.low))),
        ),
      ),
    )

pub remove_below-remove-turns-requires : goal.remove_below-remove-turns-requires
remove_below-remove-turns-requires t c =
    let i = once_left _ _ _ _ _ c.requires.separated (passed _ _ c.if-before.true c.before-2.ensures) c.requires.once in (
      omega (arith, c.decreases),
      (
        c.requires.separated.row.left_built,
        (fork_of _ _ (on_of_contains _ _ i.1) c.requires.more_left, (i.0, omega (arith, c.requires.low))),
      ),
    )

pub remove_below-remove-turns-requires-else-before : goal.remove_below-remove-turns-requires-else-before
remove_below-remove-turns-requires-else-before t c =
    let i = once_right _ _ _ _ _ c.requires.separated
    (failed _ _ c.if-before.false c.before-2.ensures) c.requires.once in (
      omega (arith, c.decreases),
      (
        c.requires.separated.row.right_built,
        (fork_of _ _ (on_of_contains _ _ i.1) c.requires.more_right, (i.0, omega (arith, c.requires.low))),
      ),
    )

pub remove_below-draw_back_last-requires : goal.remove_below-draw_back_last-requires
unfolding halves.roll-Halves halves.out-Halves denote.Hole.Carrier.out denote.Hole.Carrier.roll
remove_below-draw_back_last-requires t c n =
    c.requires.separated.ends_left
    ∙ last_left _ _ _ c.requires.separated.row.left_built.bridged c.remove-turns.ensures.built.bridged
    c.remove-turns.ensures.points (λ e. n (c.requires.separated.ends_left ∙ e))

pub remove_below-draw_back_first-requires : goal.remove_below-draw_back_first-requires
unfolding halves.roll-Halves halves.out-Halves denote.Hole.Carrier.out denote.Hole.Carrier.roll
remove_below-draw_back_first-requires t c n =
    c.requires.separated.starts_right
    ∙ first_left _ _ _ c.requires.separated.row.right_built.bridged c.remove-turns-else-before.ensures.built.bridged
    c.remove-turns-else-before.ensures.points (λ e. n (c.requires.separated.starts_right ∙ e))

pub remove_below-returns-then-before-clause-separated : goal.remove_below-returns-then-before-clause-separated
unfolding halves.roll-Halves halves.out-Halves denote.Hole.Carrier.out denote.Hole.Carrier.roll
remove_below-returns-then-before-clause-separated t c =
    separated_drop_left _ _ c.remove-turns.new.node _ _ _ _ _ _ _ c.requires.separated
    (passed _ _ c.if-before.true c.before-2.ensures) c.remove-turns.ensures.built c.remove-turns.ensures.points
    c.draw_back_last.ensures.left c.draw_back_last.ensures.right c.draw_back_last.ensures.last
    c.draw_back_last.ensures.first

pub remove_below-returns-then-before-clause-points : goal.remove_below-returns-then-before-clause-points
unfolding halves.roll-Halves halves.out-Halves denote.Hole.Carrier.out denote.Hole.Carrier.roll
remove_below-returns-then-before-clause-points t c =
    points_drop_left _ _ c.remove-turns.new.node _ _ _ _ _ c.requires.separated
    (passed _ _ c.if-before.true c.before-2.ensures) c.remove-turns.ensures.points c.draw_back_last.ensures.left
    c.draw_back_last.ensures.right

pub remove_below-returns-else-before-clause-separated : goal.remove_below-returns-else-before-clause-separated
unfolding halves.roll-Halves halves.out-Halves denote.Hole.Carrier.out denote.Hole.Carrier.roll
remove_below-returns-else-before-clause-separated t c =
    separated_drop_right _ _ c.remove-turns-else-before.new.node _ _ _ _ _ _ _ c.requires.separated
    (failed _ _ c.if-before.false c.before-2.ensures) c.remove-turns-else-before.ensures.built
    c.remove-turns-else-before.ensures.points c.draw_back_first.ensures.left c.draw_back_first.ensures.right
    c.draw_back_first.ensures.last c.draw_back_first.ensures.first

pub remove_below-returns-else-before-clause-points : goal.remove_below-returns-else-before-clause-points
unfolding halves.roll-Halves halves.out-Halves denote.Hole.Carrier.out denote.Hole.Carrier.roll
remove_below-returns-else-before-clause-points t c =
    points_drop_right _ _ c.remove-turns-else-before.new.node _ _ _ _ _ c.requires.separated
    (failed _ _ c.if-before.false c.before-2.ensures) c.remove-turns-else-before.ensures.points
    c.draw_back_first.ensures.left c.draw_back_first.ensures.right
