-- the bridge decides in which half the range is, or whether it goes over the bridge
use Rattle.hull_questions.proofs.Stretched.{chain_range_left, chain_range_right, chain_range_across}
use Rattle.lattice.proofs.Tests.{passed, failed}
use Rattle.hull_questions.proofs.chain_ranges.range_shape_of.Goals as goal

pub returns-then-not-before-2 : goal.returns-then-not-before-2
returns-then-not-before-2 g c =
    chain_range_left (g.H.Half.tree c.args.half) c.in-Some.bridge.0 c.in-Some.bridge.1 c.args.from c.args.to
    (g.met.H.Half.bridged c.args.half) c.in-Some.ensures c.requires
    (failed c.before-3.result _ c.if-not-before-2.true c.before-3.ensures)

pub returns-then-not-before-3 : goal.returns-then-not-before-3
returns-then-not-before-3 g c =
    chain_range_right (g.H.Half.tree c.args.half) c.in-Some.bridge.0 c.in-Some.bridge.1 c.args.from c.args.to
    (g.met.H.Half.bridged c.args.half) c.in-Some.ensures c.requires
    (failed c.before-else-not-before-2.result _ c.if-not-before-3.true c.before-else-not-before-2.ensures)

pub returns-else-not-before-3 : goal.returns-else-not-before-3
returns-else-not-before-3 g c =
    chain_range_across (g.H.Half.tree c.args.half) c.in-Some.bridge.0 c.in-Some.bridge.1 c.args.from c.args.to
    (g.met.H.Half.bridged c.args.half) c.in-Some.ensures c.requires
    (passed c.before-3.result _ c.if-not-before-2.false c.before-3.ensures)
    (passed c.before-else-not-before-2.result _ c.if-not-before-3.false c.before-else-not-before-2.ensures)
