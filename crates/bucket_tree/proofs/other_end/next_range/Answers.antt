-- an edge beyond the bounds decides which half has the end; else an orientation does
use Rattle.std.proofs.Common.{sym}
use Rattle.bucket_tree.proofs.Gained.{failed, passed}
use Rattle.bucket_tree.proofs.OtherEnds.{skip_left, skip_right, to_left_half, to_right_half}
use Rattle.bucket_tree.proofs.other_end.next_range.Goals as goal

pub returns-then-not-before : goal.returns-then-not-before
returns-then-not-before g c =
    rw c.left.ensures
    (skip_left c.args.end c.args.p (g.H.Half.tree c.args.range.half) c.in_ok-edge.edge.0 c.in_ok-edge.edge.1
    c.args.range.first c.args.range.last (g.met.H.Half.bridged c.args.range.half) c.requires.beside
    (sym c.in_ok-edge.ensures) c.requires.within (failed c.before-2.result c.before-2.ensures.1 c.if-not-before.true))

pub returns-then-not-before-2 : goal.returns-then-not-before-2
returns-then-not-before-2 g c =
    rw c.right.ensures
    (skip_right c.args.end c.args.p (g.H.Half.tree c.args.range.half) c.in_ok-edge.edge.0 c.in_ok-edge.edge.1
    c.args.range.first c.args.range.last (g.met.H.Half.bridged c.args.range.half) c.requires.beside
    (sym c.in_ok-edge.ensures) c.requires.within (failed c.before-3.result c.before-3.ensures.1 c.if-not-before-2.true))

pub returns-then-is_to_the_right : goal.returns-then-is_to_the_right
returns-then-is_to_the_right g c =
    rw c.right-then-is_to_the_right.ensures
    (to_right_half c.args.end c.args.p (g.H.Half.tree c.args.range.half) c.in_ok-edge.edge.0 c.in_ok-edge.edge.1
    c.args.range.first c.args.range.last (g.met.H.Half.bridged c.args.range.half) c.requires.beside
    (sym c.in_ok-edge.ensures) c.requires.within
    (passed c.is_to_the_right.result c.is_to_the_right.ensures.0 c.if-is_to_the_right.true))

pub returns-else-is_to_the_right : goal.returns-else-is_to_the_right
returns-else-is_to_the_right g c =
    rw c.left-else-is_to_the_right.ensures
    (to_left_half c.args.end c.args.p (g.H.Half.tree c.args.range.half) c.in_ok-edge.edge.0 c.in_ok-edge.edge.1
    c.args.range.first c.args.range.last (g.met.H.Half.bridged c.args.range.half) c.requires.beside
    (sym c.in_ok-edge.ensures) c.requires.within
    (failed c.is_to_the_right.result c.is_to_the_right.ensures.1 c.if-is_to_the_right.false))
