-- the point at the split determines in which half the point can be; the other half stays
use Rattle.std.proofs.Common.{refl, ◌≡◌, ◌∙◌, sym, Some}
use Rattle.hull_tree.specs.declared.node.Node as node
use Rattle.hull_tree.specs.Nodes.{below_of}
use Rattle.hull_tree.proofs.HalfRows.{IsOver, over_halves}
use Rattle.hull_tree.proofs.Multiplicities.{all_left, all_right, leaf_raised}
use Rattle.leaf_trees.proofs.Multiplicities.{same_point}
use Rattle.lattice.proofs.Tests.{passed, failed}
use Rattle.hull_tree.proofs.change.+raise.Goals as goal

pub returns-then-before-clause-was : goal.returns-then-before-clause-was
returns-then-before-clause-was t c =
    let i : below_of c.args.node.now ≡ Some c.in-Some.halves.value = rw c.in-Some.is refl in
    let o : IsOver c.args.node.now c.in-Some.halves.value = over_halves _ _ c.requires i in
    let b = rw c.deref.ensures at (passed _ _ c.if-before.true c.before-in-Some.ensures) in
    rw c.deref_mut.ensures.value at c.raise.ensures.was ∙ sym (o.multiplicities _ ∙ all_left _ _ _ _ _ o.separated b)

pub returns-else-before-clause-was : goal.returns-else-before-clause-was
returns-else-before-clause-was t c =
    let i : below_of c.args.node.now ≡ Some c.in-Some.halves.value = rw c.in-Some.is refl in
    let o : IsOver c.args.node.now c.in-Some.halves.value = over_halves _ _ c.requires i in
    let b = rw c.deref.ensures at (failed _ _ c.if-before.false c.before-in-Some.ensures) in
    rw c.deref_mut-else-before.ensures.value at c.raise-else-before.ensures.was
    ∙ sym (o.multiplicities _ ∙ all_right _ _ _ _ _ o.separated b)

pub returns-then-multiplicity-lt-MULTIPLICITY_LIMIT-clause-raised : goal.returns-then-multiplicity-lt-MULTIPLICITY_LIMIT-clause-raised
unfolding node.roll-Node node.out-Node denote.Hole.Carrier.out denote.Hole.Carrier.roll
returns-then-multiplicity-lt-MULTIPLICITY_LIMIT-clause-raised t c =
    λ h g q. leaf_raised c.args.node.now c.args.p q c.in-None.is
    (same_point c.args.p (node.out-Node c.args.node.now).upper.0 c.ne.ensures c.if-ne.false)
