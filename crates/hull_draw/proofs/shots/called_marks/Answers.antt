-- The mark of a call's point, if it names one, comes after those so far.
use Rattle.std.proofs.Common.{◌++◌, ◌∙◌, sym, ap, List, append_assoc, append-nil}
use Rattle.hull_draw.specs.declared.marks.Mark.{Mark}
use Rattle.hull_draw.specs.Films.{called_marks}
use Rattle.hull_draw.proofs.ManyScenes.{called_point, called_no_point, called_none}
use Rattle.hull_draw.proofs.shots.called_marks.Goals as goal

pub loop-line-preserved-in_ok-push : goal.loop-line-preserved-in_ok-push
loop-line-preserved-in_ok-push c =
    ap (λ (ms : List Mark). ms ++ called_marks c.in-Some.after.now) c.in_ok-push.ensures.items
    ∙ append_assoc c.loop-line.marks.items _ _
    ∙ ap (λ (ms : List Mark). c.loop-line.marks.items ++ ms)
    (sym (called_point c.in-Some.line.now _ c.in-Some.after.now _
    (sym c.call_point.ensures ∙ c.in-Some-call_point.is) c.in-Some.ensures.cases.0))
    ∙ c.loop-line.invariant

pub loop-line-preserved : goal.loop-line-preserved
loop-line-preserved c =
    ap (λ (ms : List Mark). c.loop-line.marks.items ++ ms)
    (sym (called_no_point c.in-Some.line.now c.in-Some.after.now _
    (sym c.call_point.ensures ∙ c.in_default-call_point.is) c.in-Some.ensures.cases.0))
    ∙ c.loop-line.invariant

pub returns : goal.returns
returns c = sym (append-nil _)
    ∙ ap (λ (ms : List Mark). c.loop-line.marks.items ++ ms) (sym (called_none _ c.in_default.ensures.cases))
    ∙ c.loop-line.invariant
