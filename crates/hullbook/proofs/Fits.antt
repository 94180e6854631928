-- The results of a run fit together for its report: an answer for each call, and a count for each worker.
use Rattle.std.proofs.Common.{◌≡◌, ◌+◌, ◌-◌, ◌∙◌, ◌++◌, ℕ, List, [], length, get_or, ap, arith, length-append}
use Rattle.std.specs.Prelude.{Err, Ok}
use Rattle.std.proofs.lemmas.List.{length-map, length-replicate}
use Rattle.std.proofs.Math.ListN.{get_or-map}
use Rattle.hull_set.specs.declared.set.HullSet.{Ghosts}
use Rattle.hull_book.specs.Answers.{Answer}
use Rattle.hull_book.specs.Books.{BookValue}
use Rattle.hull_book.specs.Journals.{JournalValue}
use Rattle.hull_book.specs.Ledgers.{LedgerValue}
use Rattle.hull_book.specs.Scripts.{ScriptValue, calls_of}
use Rattle.hull_book.specs.declared.head.BookHead.{BookHead}
use Rattle.hull_book.specs.declared.line.Line.{Line}
use Rattle.hull_pool.specs.Answers.{AnswersValue, no_answers}
use Rattle.hull_pool.specs.Runs.{answers_of}
use Rattle.hull_pool.specs.Work.{fulls, replies_of}
use Rattle.hull_text.specs.ReportText.{IsReport}
use Rattle.hullbook.specs.Outcomes.{IsRunOn}

-- the answers are as many as the replies and the times that the journal was full
as_many : (served : List Line) (more : ℕ) → length (replies_of served ++ fulls more) ≡ length served + more
as_many served more =
    omega (
      arith,
      length-append (replies_of served) (fulls more),
      length-map {B = Answer} served (λ (line : Line). Ok line.reply),
      length-replicate {A = Answer} more (Err (record {})),
    )

-- the answers of a run are as many as its calls
pub run_fits : {S : Type 0} (K : Ghosts S) (opened : BookValue S) (script : ScriptValue)
    (answers : List (List Answer)) (counts : List ℕ) (journal : JournalValue) → opened.head.workers ≡ script.workers
    → IsRunOn K opened script answers counts journal → IsReport script answers counts
run_fits K opened script answers counts journal workers run = record {
  answers_each = ap (λ (z : List (List Answer)). length z) run.answers_are
      ∙ (length-map run.after.answers (λ (a : AnswersValue). a.answers) ∙ (run.ran.1.answers ∙ workers));
  ledgers_each = ap (λ (z : List ℕ). length z) run.counts_are
      ∙ (length-map run.after.ledgers (λ (l : LedgerValue). l.count)
      ∙ (run.ran.1.ledgers.number ∙ (ap (λ (h : BookHead). h.workers) run.ran.1.head ∙ workers)));
  answered = λ k l.
      let worked = run.ran.1.each k (omega (arith, l, workers)) in
      let own : get_or answers k [] ≡ (answers_of run.after k).answers =
      ap (λ (z : List (List Answer)). get_or z k []) run.answers_are
      ∙ get_or-map (λ (a : AnswersValue). a.answers) run.after.answers k no_answers in
      let new : get_or answers k [] ≡ replies_of worked.served ++ fulls (length (calls_of k script.phases) - length worked.served) =
      own ∙ (worked.answers
      ∙ ap (λ (z : List Answer). z ++ replies_of worked.served ++ fulls (length (calls_of k script.phases) - length worked.served))
      (run.none k l)) in
      let few = worked.few in
      omega (
        arith,
        ap (λ (z : List Answer). length z) new,
        as_many worked.served (length (calls_of k script.phases) - length worked.served),
        few,
      );
}
