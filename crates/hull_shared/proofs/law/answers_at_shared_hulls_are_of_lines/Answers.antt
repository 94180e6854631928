-- the law of the lock, at the book of a shared hull
use Rattle.std.proofs.Common.{◌≡◌, ◌∙◌, ℕ, Bool, List, [], ◌∷◌, ◌++◌, sym}
use Rattle.std.proofs.Common.{arith}
use Rattle.std.proofs.lemmas.Grind.{common_steps}
use Rattle.hull_book.specs.declared.marked_line.MarkedLine.{MarkedLine}
use Rattle.hull_book.specs.Marks.{with_mark}
use Rattle.hull_set.specs.declared.call.Call.{Call}
use Rattle.hull_pool.proofs.Responses.{after_hand_on, long_replied, no_longer}
use Rattle.ticket_lock.specs.Linearizable.{journal_after}
use Rattle.hull_shared.specs.SharedHullBooks.{IsServed}
use Rattle.hull_shared.specs.Locks.{boxed_head, says_shared_hull}
use Rattle.hull_shared.specs.Responses.{IsAnsweredWhenFull}
use Rattle.hull_shared.specs.declared.answer.SharedHullAnswer.{SharedHullAnswer}
use Rattle.hull_shared.specs.declared.answer.SharedHullAnswer.TheVariants.{Written, Unwritten, Full}
use Rattle.hull_shared.specs.declared.book.SharedHullHead.{SharedHullHead}
use Rattle.hull_shared.proofs.law.answers_at_shared_hulls_are_of_lines.Goals as goal

-- a call that added a line was answered with the reply of the line
replied : (head : SharedHullHead) (drains : Bool) (t k : ℕ) (call : Call) (found after : List MarkedLine) (answer : SharedHullAnswer)
    (l : MarkedLine) → IsServed head drains t k call found after answer → after ≡ found ++ l ∷ []
    → (l.line.seat ≡ k) × (l.line.call ≡ call) × (answer ≡ Written l.line.reply)
replied head drains t k call found after (Written reply) l served adds = grind (arith, common_steps, long_replied)
replied head drains t k call found after Full l served adds =
    absurd (no_longer found l (sym served.0.adds ∙ adds))
replied head drains t k call found after (Unwritten reply) l served adds =
    absurd (no_longer found l (sym served.same ∙ adds))

-- a call that added no line found no space, or was a question
refused : (head : SharedHullHead) (drains : Bool) (t k : ℕ) (call : Call) (found after : List MarkedLine) (answer : SharedHullAnswer)
    → IsServed head drains t k call found after answer → after ≡ found → IsAnsweredWhenFull head call found answer
refused head drains t k call found after (Written reply) served same =
    no_longer found (with_mark drains t served.adds.0) (sym same ∙ served.adds.1)
refused head drains t k call found after Full served same = tt
refused head drains t k call found after (Unwritten reply) served same =
    (served.answers, served.question, served.allowed)

pub returns : goal.returns
returns c = λ n b w u es calls answers opened runs are.
    let ran = c.partitioned_schedules_are_linearizable.ensures n b w u es opened runs in (
      ran.0.legal,
      record {
        sequential = ran.1;
        replies = λ k i r p l x. let s = are r k x.ends.0 x.ends.1 in
            replied (boxed_head b) s.0 s.1 k (calls r) (journal_after says_shared_hull b es r) (says_shared_hull.lines x.ends.0) (answers r)
            l s.2 (sym (after_hand_on says_shared_hull b es r k x.ends.0 x.ends.1) ∙ x.adds);
        fulls = λ k i r f. let s = are r k f.full.0 f.full.1 in
            refused (boxed_head b) s.0 s.1 k (calls r) (journal_after says_shared_hull b es r) (says_shared_hull.lines f.full.0) (answers r)
            s.2 (sym (after_hand_on says_shared_hull b es r k f.full.0 f.full.1) ∙ f.same);
      },
    )
