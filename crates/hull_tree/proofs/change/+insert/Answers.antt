-- the half to which the point is added is well built with it, and so is the fork over it once it is rebalanced
use Rattle.std.proofs.Common.{arith, refl, sym, ap, ◌∙◌, subst, inl, inr, ◌≡◌, Some, ◌++◌}
use Rattle.std.specs.List.{Contains}
use Rattle.std.proofs.lemmas.List.Elements.{Contains-append_right}
use Rattle.lattice.specs.Plane.{IsBefore}
use Rattle.bridge_search.specs.Trees.{first_of}
use Rattle.hull_tree.specs.Nodes.{tree_of, below_of, left_half, right_half}
use Rattle.hull_tree.specs.Changes.{points_below}
use Rattle.hull_tree.specs.declared.node.Halves as halves
use Rattle.hull_tree.proofs.HalfRows.{IsOver, over_halves, change_left, change_right}
use Rattle.hull_tree.proofs.ChangedRows.{added}
use Rattle.hull_tree.proofs.SplitPoints.{separated_add_left, separated_add_right}
use Rattle.hull_tree.proofs.Renewed.{cost_through, rolled_below}
use Rattle.lattice.proofs.Tests.{passed, failed}
use Rattle.hull_tree.proofs.change.+insert.Goals as goal

pub insert-insert_below-below-requires : goal.insert-insert_below-below-requires
insert-insert_below-below-requires t c =
    let i : below_of c.args.node.now ≡ Some c.deref_mut.result.now =
    rw (c.in-Some.is, c.deref_mut.ensures.value) refl in
    let o : IsOver c.args.node.now c.deref_mut.result.now = over_halves _ _ c.requires.built i in (
      omega (arith, c.decreases, o.height),
      (
        o.separated,
        (subst (λ z. ¬ (Contains z c.args.p)) o.points c.requires.absent, omega (arith, o.height, c.requires.low)),
      ),
    )

pub insert-returns-in-Some-clause-cost : goal.insert-returns-in-Some-clause-cost
insert-returns-in-Some-clause-cost t c =
    cost_through _ c.insert_below-below.new.halves _ _ _ _ _
    (rolled_below _ _ _ _ _ _) c.insert_below-below.ensures.separated c.insert_below-below.ensures.cost
    c.rebalance.ensures.cost_left c.rebalance.ensures.cost_right (omega arith)

pub insert_below-insert-requires-else-before : goal.insert_below-insert-requires-else-before
insert_below-insert-requires-else-before t c = (
  omega (arith, c.decreases),
  (
    c.requires.separated.row.right_built,
    (λ h. c.requires.absent (Contains-append_right _ _ _ h), omega (arith, c.requires.low)),
  ),
)

pub insert_below-returns-then-before-clause-separated : goal.insert_below-returns-then-before-clause-separated
unfolding halves.roll-Halves halves.out-Halves denote.Hole.Carrier.out denote.Hole.Carrier.roll
insert_below-returns-then-before-clause-separated t c =
    separated_add_left _ _ _ _ _ _ _ c.requires.separated
    (passed _ _ c.if-before.true c.before-2.ensures) c.insert.ensures.built c.insert.ensures.points
    c.reach.ensures.moved c.reach.ensures.kept

pub insert_below-returns-then-before-clause-points : goal.insert_below-returns-then-before-clause-points
unfolding halves.roll-Halves halves.out-Halves denote.Hole.Carrier.out denote.Hole.Carrier.roll
insert_below-returns-then-before-clause-points t c =
    let b = subst (IsBefore c.args.p) c.requires.separated.starts_right (passed _ _ c.if-before.true c.before-2.ensures) in
    ap (λ z. z ++ points_below (right_half c.args.halves.now)) c.insert.ensures.points
    ∙ sym (change_left added _ _ _ c.requires.separated.row b)

pub insert_below-returns-then-before-clause-cost : goal.insert_below-returns-then-before-clause-cost
unfolding halves.roll-Halves halves.out-Halves denote.Hole.Carrier.out denote.Hole.Carrier.roll
insert_below-returns-then-before-clause-cost t c = inl c.insert.ensures.cost

pub insert_below-returns-else-before-clause-separated : goal.insert_below-returns-else-before-clause-separated
unfolding halves.roll-Halves halves.out-Halves denote.Hole.Carrier.out denote.Hole.Carrier.roll
insert_below-returns-else-before-clause-separated t c =
    separated_add_right _ _ _ _ _ _ c.requires.separated
    (failed _ _ c.if-before.false c.before-2.ensures) c.insert-else-before.ensures.built
    c.insert-else-before.ensures.points

pub insert_below-returns-else-before-clause-points : goal.insert_below-returns-else-before-clause-points
unfolding halves.roll-Halves halves.out-Halves denote.Hole.Carrier.out denote.Hole.Carrier.roll
insert_below-returns-else-before-clause-points t c =
    let b : ¬ IsBefore c.args.p (first_of (tree_of (right_half c.args.halves.now))) =
    λ i. failed _ _ c.if-before.false c.before-2.ensures
    (subst (IsBefore c.args.p) (sym c.requires.separated.starts_right) i) in
    ap (λ z. points_below (left_half c.args.halves.now) ++ z) c.insert-else-before.ensures.points
    ∙ sym (change_right added _ _ _ c.requires.separated.row b)

pub insert_below-returns-else-before-clause-cost : goal.insert_below-returns-else-before-clause-cost
unfolding halves.roll-Halves halves.out-Halves denote.Hole.Carrier.out denote.Hole.Carrier.roll
insert_below-returns-else-before-clause-cost t c = inr c.insert-else-before.ensures.cost
