-- The line of a call comes before those of the calls after it.
use Rattle.text_io.proofs.Chains.{chained_end, chained_more}
use Rattle.hull_text.proofs.Reports.{answers_cons, answers_no_call, answers_no_answer}
use Rattle.hull_text.proofs.write.report.answers_after.Goals as goal

pub loop-call-preserved : goal.loop-call-preserved
loop-call-preserved g c =
    chained_more c.loop-call.invariant
    (answers_cons _ _ _ _ _ _ _ c.in-Some-Some.ensures.cases.0 c.in-Some-Some.ensures'.cases.0)
    c.answer_line_after-done.ensures

pub returns-in_default : goal.returns-in_default
returns-in_default g c =
    chained_end _ _ _ _ _ _ _ _ c.loop-call.invariant (answers_no_answer _ _ _ c.in_default.ensures'.cases)

pub returns-in_default-2 : goal.returns-in_default-2
returns-in_default-2 g c =
    chained_end _ _ _ _ _ _ _ _ c.loop-call.invariant (answers_no_call _ _ _ c.in_default.ensures.cases)
