-- the last point of the one half is before the first of the other, so all its points are
use Rattle.lattice.specs.Plane.{IsBefore}
use Rattle.bridge_search.proofs.Ends.{all_before}
use Rattle.lattice.proofs.Tests.{passed}
use Rattle.set_tests.proofs.tree.turns.both_found.Goals as goal

pub both_bridges-requires : goal.both_bridges-requires
both_bridges-requires g c =
    all_before (g.H.Half.tree c.args.u) (g.H.Half.tree c.args.w) (g.met.H.Half.bridged c.args.u)
    (g.met.H.Half.bridged c.args.w)
    (rw (c.last.ensures, c.first.ensures) at
    (passed c.before-2.result (IsBefore c.last.result c.first.result) c.if-before.true c.before-2.ensures))
