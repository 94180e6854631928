-- the first edge; then each, if it is thinner
use Rattle.std.proofs.Common.{arith}
use Rattle.hull_polygon.proofs.LeastWidths.{least_of, side_nn, strip_of, thinnest_first, thinnest_more}
use Rattle.hull_polygon.proofs.Made.{separated_is_polygon}
use Rattle.hull_polygon.proofs.strips.thinnest.Goals as goal

pub loop-i-init : goal.loop-i-init
loop-i-init c = λ S o. thinnest_first S c.args.vertices.now _ o c.requires.two (c.strip_at-best.ensures S o)

pub thinner-best-requires-clause-first : goal.thinner-best-requires-clause-first
thinner-best-requires-clause-first c =
    let (S, o) = separated_is_polygon c.args.vertices.now c.args.last c.requires.separated in
    side_nn S _ (c.loop-i.invariant S o).0

pub thinner-best-requires-clause-second : goal.thinner-best-requires-clause-second
thinner-best-requires-clause-second c =
    let (S, o) = separated_is_polygon c.args.vertices.now c.args.last c.requires.separated in
    side_nn S _
    (strip_of S c.args.vertices.now c.loop-i.i _ o c.requires.two c.loop-i-test.true (c.strip_at.ensures S o))

pub loop-i-preserved : goal.loop-i-preserved
loop-i-preserved c = λ S o.
    thinnest_more S c.args.vertices.now c.loop-i.i c.loop-i.best c.strip_at.result c.thinner-best.result o c.requires.two
    c.loop-i-test.true (c.loop-i.invariant S o) (c.strip_at.ensures S o) c.thinner-best.ensures

pub returns : goal.returns
returns c = λ S o.
    let V = c.args.vertices.now in
    let best = c.loop-i.invariant S o in
    least_of S V c.args.last c.loop-i.best o c.requires.separated c.requires.two
    (best.0, λ i l. best.1 i (omega (arith, l, c.loop-i-test.false)))
