-- the last point of the one is before the first of the other, so all of the one is before all of the other
use Rattle.lattice.specs.Plane.{IsBefore}
use Rattle.bridge_search.proofs.Ends.{all_before}
use Rattle.lattice.proofs.Tests.{passed}
use Rattle.bridge_search.proofs.listed.bridges.Goals as goal

pub upper_bridge-requires : goal.upper_bridge-requires
upper_bridge-requires g c =
    all_before (g.H.Half.tree c.args.u) (g.H.Half.tree c.args.w) (g.met.H.Half.bridged c.args.u)
    (g.met.H.Half.bridged c.args.w)
    (rw (c.last.ensures, c.first.ensures) at
    (passed c.before-2.result (IsBefore c.last.result c.first.result) c.if-before.true c.before-2.ensures))

pub lower_bridge-requires : goal.lower_bridge-requires
lower_bridge-requires g c =
    all_before (g.H.Half.tree c.args.u) (g.H.Half.tree c.args.w) (g.met.H.Half.bridged c.args.u)
    (g.met.H.Half.bridged c.args.w)
    (rw (c.last.ensures, c.first.ensures) at
    (passed c.before-2.result (IsBefore c.last.result c.first.result) c.if-before.true c.before-2.ensures))

pub both_bridges-upper-requires : goal.both_bridges-upper-requires
both_bridges-upper-requires g c =
    all_before (g.H.Half.tree c.args.u) (g.H.Half.tree c.args.w) (g.met.H.Half.bridged c.args.u)
    (g.met.H.Half.bridged c.args.w)
    (rw (c.last.ensures, c.first.ensures) at
    (passed c.before-2.result (IsBefore c.last.result c.first.result) c.if-before.true c.before-2.ensures))

pub returns-then-eq : goal.returns-then-eq
returns-then-eq g c = (
  all_before (g.H.Half.tree c.args.u) (g.H.Half.tree c.args.w) (g.met.H.Half.bridged c.args.u)
      (g.met.H.Half.bridged c.args.w)
      (rw (c.last.ensures, c.first.ensures) at
      (passed c.before-2.result (IsBefore c.last.result c.first.result) c.if-before.true c.before-2.ensures)),
  c.upper_bridge.ensures,
  c.lower_bridge.ensures,
  g.met.H.Half.bridged c.args.u,
  g.met.H.Half.bridged c.args.w,
)
