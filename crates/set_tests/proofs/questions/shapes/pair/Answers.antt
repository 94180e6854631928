-- the edge from one point to another is both bridges of the two
use Rattle.lattice.specs.Plane.{IsBefore}
use Rattle.hull_questions.proofs.SmallTrees.{small_bridged}
use Rattle.lattice.proofs.Tests.{passed}
use Rattle.set_tests.proofs.questions.shapes.pair.Goals as goal

pub invariant_of-result : goal.invariant_of-result
invariant_of-result c =
    record {
      bridged = small_bridged c.args.left c.args.right
          (passed c.before-2.result (IsBefore c.args.left c.args.right) c.if-not-before.false c.before-2.ensures);
    }
