-- the point at the split determines in which half the point can be
use Rattle.std.proofs.Common.{refl, ◌≡◌, ◌∙◌, sym, Some}
use Rattle.hull_tree.specs.Nodes.{below_of}
use Rattle.hull_tree.proofs.HalfRows.{IsOver, over_halves}
use Rattle.hull_tree.proofs.Multiplicities.{all_left, all_right}
use Rattle.lattice.proofs.Tests.{passed, failed}
use Rattle.hull_tree.proofs.change.+find_multiplicity.Goals as goal

pub returns-then-before : goal.returns-then-before
returns-then-before t c =
    let i : below_of c.args.node.now ≡ Some c.in-Some.halves.value = rw c.in-Some.is refl in
    let o : IsOver c.args.node.now c.in-Some.halves.value = over_halves _ _ c.requires i in
    let b = rw c.deref.ensures at (passed _ _ c.if-before.true c.before-in-Some.ensures) in
    rw c.deref-then-before.ensures at c.find_multiplicity.ensures ∙ sym (o.multiplicities _ ∙ all_left _ _ _ _ _ o.separated b)

pub returns-else-before : goal.returns-else-before
returns-else-before t c =
    let i : below_of c.args.node.now ≡ Some c.in-Some.halves.value = rw c.in-Some.is refl in
    let o : IsOver c.args.node.now c.in-Some.halves.value = over_halves _ _ c.requires i in
    let b = rw c.deref.ensures at (failed _ _ c.if-before.false c.before-in-Some.ensures) in
    rw c.deref-else-before.ensures at c.find_multiplicity-else-before.ensures ∙ sym (o.multiplicities _ ∙ all_right _ _ _ _ _ o.separated b)
