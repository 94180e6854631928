-- what is true of the halves of a well-built fork is true of the halves that are taken out
use Rattle.std.proofs.Common.{refl, ◌≡◌, Some}
use Rattle.hull_tree.specs.Nodes.{below_of}
use Rattle.hull_tree.proofs.HalfRows.{over_halves}
use Rattle.hull_tree.proofs.joining.take_apart.Goals as goal

pub returns-clause-separated : goal.returns-clause-separated
returns-clause-separated c =
    let b : below_of c.args.node ≡ Some c.deref_mut.result.now = rw (c.in-Some.is, c.deref_mut.ensures.value) refl in
    rw (
      c.take_halves-left.ensures.left,
      c.take_halves-left.ensures.right,
      c.take_halves-left.ensures.last,
      c.take_halves-left.ensures.first,
    ) (over_halves _ _ c.requires.built b).separated
