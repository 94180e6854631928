-- by the difference of the heights, one of three ways makes the fork: as it is, or a rotation to either side
use Rattle.std.proofs.Common.{refl, ◌≡◌, Some}
use Rattle.hull_tree.specs.Nodes.{below_of}
use Rattle.hull_tree.proofs.Renewed.{IsUnder, under_fork}
use Rattle.hull_tree.proofs.rotation.rebalance.Goals.{then-on_left-on_right-2, else-on_left-on_right-2}
use Rattle.hull_tree.proofs.rotation.rebalance.Goals as goal

pub returns-clause-cost_left : goal.returns-clause-cost_left
returns-clause-cost_left c =
    let b : below_of c.args.node.now ≡ Some c.deref_mut.result.now =
    rw (← c.take.ensures.value, c.in-Some-take.is, c.deref_mut.ensures.value) refl in
    let u : IsUnder c.args.node.now c.deref_mut.result.now = under_fork _ _ c.requires.separated b in
    elim c.if-on_left-on_right-2.branch [
      | then-on_left-on_right-2 w ↦
          rw (u.left, ← c.take_halves-left.ensures.left, w.whole-is) w.rotate_right.ensures.cost_left
      | else-on_left-on_right-2 w ↦
          rw (u.left, ← c.take_halves-left.ensures.left, w.whole-is) w.rotate_left.ensures.cost_left
    ]

pub returns-clause-cost_right : goal.returns-clause-cost_right
returns-clause-cost_right c =
    let b : below_of c.args.node.now ≡ Some c.deref_mut.result.now =
    rw (← c.take.ensures.value, c.in-Some-take.is, c.deref_mut.ensures.value) refl in
    let u : IsUnder c.args.node.now c.deref_mut.result.now = under_fork _ _ c.requires.separated b in
    elim c.if-on_left-on_right-2.branch [
      | then-on_left-on_right-2 w ↦
          rw (u.right, ← c.take_halves-left.ensures.right, w.whole-is) w.rotate_right.ensures.cost_right
      | else-on_left-on_right-2 w ↦
          rw (u.right, ← c.take_halves-left.ensures.right, w.whole-is) w.rotate_left.ensures.cost_right
    ]
