-- each step of the loop goes into the half whose slab is that of both; of one point the slab follows at once
use Rattle.bridge_search.specs.Trees.{Tree}
use Rattle.hull_questions.proofs.ChainEdges.{edge_here}
use Rattle.hull_questions.proofs.SlabParts.{IsSlabPart, slab_left, slab_right}
use Rattle.hull_questions.specs.declared.slabs.Slab.TheVariants.{Edge}
use Rattle.lattice.proofs.Tests.{passed, failed}
use Rattle.hull_questions.proofs.slabs.slab_of.Goals as goal

pub loop-edge-preserved-then-before : goal.loop-edge-preserved-then-before
loop-edge-preserved-then-before g c =
    let t : Tree = g.H.Half.tree c.loop-edge.part in
    let k : IsSlabPart c.args.q t (g.H.Half.tree c.left-part.result) =
    rw c.left-part.ensures
    (slab_left t c.args.q c.in-Some.edge.0 c.in-Some.edge.1
    (g.met.H.Half.bridged c.loop-edge.part) c.in-Some.ensures
    (passed c.before-in-Some.result _ c.if-before.true c.before-in-Some.ensures)) in
    λ s m. c.loop-edge.invariant s (k.lifts s m)

pub returns-then-before-2 : goal.returns-then-before-2
returns-then-before-2 g c =
    let t : Tree = g.H.Half.tree c.loop-edge.part in
    c.loop-edge.invariant (Edge c.in-Some.edge)
    (edge_here t c.args.q c.in-Some.edge.0 c.in-Some.edge.1 (g.met.H.Half.bridged c.loop-edge.part) c.in-Some.ensures
    (failed c.before-in-Some.result _ c.if-before.false c.before-in-Some.ensures)
    (passed c.before-else-before.result _ c.if-before-2.true c.before-else-before.ensures))

pub loop-edge-preserved : goal.loop-edge-preserved
loop-edge-preserved g c =
    let t : Tree = g.H.Half.tree c.loop-edge.part in
    let k : IsSlabPart c.args.q t (g.H.Half.tree c.right-part.result) =
    rw c.right-part.ensures
    (slab_right t c.args.q c.in-Some.edge.0 c.in-Some.edge.1
    (g.met.H.Half.bridged c.loop-edge.part) c.in-Some.ensures
    (failed c.before-else-before.result _ c.if-before-2.false c.before-else-before.ensures)) in
    λ s m. c.loop-edge.invariant s (k.lifts s m)
