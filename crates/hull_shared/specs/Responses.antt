-- Linearizability (Herlihy and Wing, 1990) of the calls on a shared hull, including questions that are answered
-- without a line.
use Rattle.std.specs.Prelude.{◌≡◌, ℕ, Bool, true, List}
use mathlib.Core.Option.{some}
use lib.ListN.{get_elem?}
use Rattle.hull_book.specs.History.{IsLegal, held_after}
use Rattle.hull_book.specs.LongBooks.{IsQuestion}
use Rattle.hull_book.specs.Marks.{plain}
use Rattle.hull_book.specs.declared.marked_line.MarkedLine.{MarkedLine}
use Rattle.hull_set.specs.Replies.{Answers}
use Rattle.hull_set.specs.declared.call.Call.{Call}
use Rattle.hull_set.specs.declared.rules.Rules.TheVariants.{Counted}
use Rattle.ticket_lock.specs.Forms.{partitioned_form}
use Rattle.ticket_lock.specs.Linearizable as lock
use Rattle.ticket_lock.specs.Linearizable.{FoundFull, IsSequentialHistory, journal_after}
use Rattle.ticket_lock.specs.Schedule.{Opened, Runs}
use Rattle.ticket_lock.specs.World.{Event, World, hands_on}
use Rattle.hull_shared.specs.SharedHullBooks.{IsServed}
use Rattle.hull_shared.specs.Locks.{SharedHullBoxed, boxed_head, lines_at, says_shared_hull, whole_of}
use Rattle.hull_shared.specs.declared.answer.SharedHullAnswer.{SharedHullAnswer}
use Rattle.hull_shared.specs.declared.answer.SharedHullAnswer.TheVariants.{Written, Unwritten, Full}
use Rattle.hull_shared.specs.declared.book.SharedHullHead.{SharedHullHead}

-- each hand_on, the event at r, ended a call that was served (`IsServed`): the call `calls r`, with the answer
-- `answers r`, at the journal that the events before it had left
abbrev pub AreServed : SharedHullBoxed → List (Event SharedHullBoxed) → (ℕ → Call) → (ℕ → SharedHullAnswer) → Type 0
AreServed b es calls answers = (r k : ℕ) (c : SharedHullBoxed) → get_elem? es r ≡ some (hands_on k c)
    → (drains : Bool) × (t : ℕ) × IsServed (boxed_head b) drains t k (calls r) (journal_after says_shared_hull b es r) (lines_at c)
    (answers r)

-- The answer of a call that found the book full: that there was no space; or, if it was a question and the shared
-- hull answers questions then, a reply that is allowed at the points that the lines found had left.
abbrev pub IsAnsweredWhenFull : SharedHullHead → Call → List MarkedLine → SharedHullAnswer → Type 0
IsAnsweredWhenFull head call found (Written reply) = ⊥
IsAnsweredWhenFull head call found Full = Unit {0}
IsAnsweredWhenFull head call found (Unwritten reply) = (head.answers ≡ true) × IsQuestion call
    × Answers Counted (held_after (plain found)) head.book.journal.limit call reply

-- The lines are a sequential history of the calls that the events made: each call that has a line was answered with
-- the reply of that line, which is in its seat's name and has that call. `IsAnsweredWhenFull` describes the answer of
-- each other call.
pub record Agree (b : SharedHullBoxed) (es : List (Event SharedHullBoxed)) (calls : ℕ → Call) (answers : ℕ → SharedHullAnswer)
    (lines : List MarkedLine) : Type 0 where
  pub sequential : IsSequentialHistory says_shared_hull b es lines
  pub replies : (k i r p : ℕ) (l : MarkedLine) → lock.Call says_shared_hull b es k i r p l
      → (l.line.seat ≡ k) × (l.line.call ≡ calls r) × (answers r ≡ Written l.line.reply)
  pub fulls : (k i r : ℕ) → FoundFull says_shared_hull b es k i r
      → IsAnsweredWhenFull (boxed_head b) (calls r) (journal_after says_shared_hull b es r) (answers r)

-- Every list of such steps leaves a whole journal that is a legal history, with which the answers agree.
abbrev pub AnswersAtSharedHullsAreOfLines : Type 0
AnswersAtSharedHullsAreOfLines = (n : ℕ) (b : SharedHullBoxed) (w u : World SharedHullBoxed SharedHullHead MarkedLine)
    (es : List (Event SharedHullBoxed)) (calls : ℕ → Call) (answers : ℕ → SharedHullAnswer)
    → Opened says_shared_hull partitioned_form n b w → Runs says_shared_hull partitioned_form es w u → AreServed b es calls answers
    → IsLegal (whole_of u.current).head.journal (whole_of u.current).lines
    × Agree b es calls answers (lines_at u.current)
