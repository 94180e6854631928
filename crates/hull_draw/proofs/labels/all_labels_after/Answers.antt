-- The label of a mark that has one comes before those of the marks after it; another mark has none.
use Rattle.std.proofs.Common.{sym, ◌∙◌}
use Rattle.text_io.proofs.Chains.{chained_end, chained_more, chained_same}
use Rattle.hull_draw.proofs.MarkLabels.{label_cons, label_passed, label_none}
use Rattle.hull_draw.proofs.labels.all_labels_after.Goals as goal

pub loop-mark-preserved-then-has_label : goal.loop-mark-preserved-then-has_label
loop-mark-preserved-then-has_label g c = chained_more c.loop-mark.invariant
    (label_cons c.args.size c.args.frame.now c.loop-mark.last c.label_place-place.result c.in-Some.mark.now
    c.in-Some.after.now _ c.label_place-place.ensures (sym c.has_label.ensures ∙ c.if-has_label.true)
    c.in-Some.ensures.cases.0)
    c.label_after-done.ensures

pub loop-mark-preserved : goal.loop-mark-preserved
loop-mark-preserved g c = chained_same c.loop-mark.invariant
    (label_passed c.args.size c.args.frame.now c.loop-mark.last c.label_place-place.result c.in-Some.mark.now
    c.in-Some.after.now _ c.label_place-place.ensures (sym c.has_label.ensures ∙ c.if-has_label.false)
    c.in-Some.ensures.cases.0)

pub returns : goal.returns
returns g c =
    chained_end _ _ _ _ _ _ _ _ c.loop-mark.invariant (label_none _ _ _ _ c.in_default.ensures.cases)
