-- the last point of the one is before the first of the other, so the bridges can be searched
use Rattle.lattice.specs.Plane.{IsBefore}
use Rattle.bridge_search.proofs.Ends.{all_before}
use Rattle.lattice.proofs.Tests.{passed}
use Rattle.set_tests.proofs.questions.shapes.join.Goals as goal

pub upper_bridge-requires : goal.upper_bridge-requires
upper_bridge-requires g c =
    all_before (g.A.Half.tree c.args.left) (g.A.Half.tree c.args.right) (g.met.A.Half.bridged c.args.left)
    (g.met.A.Half.bridged c.args.right)
    (rw (c.last.ensures, c.first.ensures) at
    (passed c.before-2.result (IsBefore c.last.result c.first.result) c.if-not-before.false c.before-2.ensures))

pub lower_bridge-requires : goal.lower_bridge-requires
lower_bridge-requires g c =
    all_before (g.A.Half.tree c.args.left) (g.A.Half.tree c.args.right) (g.met.A.Half.bridged c.args.left)
    (g.met.A.Half.bridged c.args.right)
    (rw (c.last.ensures, c.first.ensures) at
    (passed c.before-2.result (IsBefore c.last.result c.first.result) c.if-not-before.false c.before-2.ensures))

pub invariant_of-result-clause-bridged : goal.invariant_of-result-clause-bridged
invariant_of-result-clause-bridged g c = (
  all_before (g.A.Half.tree c.args.left) (g.A.Half.tree c.args.right) (g.met.A.Half.bridged c.args.left)
      (g.met.A.Half.bridged c.args.right)
      (rw (c.last.ensures, c.first.ensures) at
      (passed c.before-2.result (IsBefore c.last.result c.first.result) c.if-not-before.false c.before-2.ensures)),
  c.upper_bridge.ensures,
  c.lower_bridge.ensures,
  g.met.A.Half.bridged c.args.left,
  g.met.A.Half.bridged c.args.right,
)
