-- the bounds met, or one point is left
use Rattle.std.proofs.Common.{◌∙◌, sym}
use Rattle.hull_set.proofs.HeldMultiplicities.{returned_other, returned_same}
use Rattle.bucket_tree.proofs.OtherEnds.{bounds_met, one_left}
use Rattle.bucket_tree.proofs.other_end.upper_end.Goals as goal

pub returns-then-eq-clause-end : goal.returns-then-eq-clause-end
returns-then-eq-clause-end g c =
    bounds_met c.args.end c.args.p (g.H.Half.tree c.args.half) (g.H.Half.tree c.loop-next.range.half)
    c.loop-next.range.first c.loop-next.range.last c.loop-next.turns (g.met.H.Half.bridged c.loop-next.range.half)
    c.loop-next.invariant
    (returned_same c.loop-next.range.first c.loop-next.range.last (sym c.eq.ensures ∙ c.if-eq.true))

pub returns-clause-end : goal.returns-clause-end
returns-clause-end g c =
    rw c.first.ensures
    (one_left c.args.end c.args.p (g.H.Half.tree c.args.half) (g.H.Half.tree c.loop-next.range.half)
    c.loop-next.range.first c.loop-next.range.last c.loop-next.turns (g.met.H.Half.bridged c.loop-next.range.half)
    c.loop-next.invariant c.in_default.ensures
    (returned_other c.loop-next.range.first c.loop-next.range.last (sym c.eq.ensures ∙ c.if-eq.false)))
