-- Linearizability (Herlihy and Wing, 1990) of the calls on a shared book: each seat's calls and answers are those of its lines, in one order for all
-- seats.
use Rattle.std.specs.Prelude.{◌≡◌, ℕ, ◌<◌, Bool, List, Ok, Err, box_value}
use mathlib.Core.Option.{some}
use lib.ListN.{get_elem?}
use Rattle.hull_set.specs.declared.call.Call.{Call}
use Rattle.hull_set.specs.declared.set.HullSet.{Ghosts}
use Rattle.hull_book.specs.declared.head.BookHead.{BookHead}
use Rattle.hull_book.specs.declared.line.Line.{Line}
use Rattle.hull_book.specs.declared.marked_line.MarkedLine.{MarkedLine}
use Rattle.hull_book.specs.Answers.{Answer}
use Rattle.hull_book.specs.Books.{says_boxed}
use Rattle.hull_book.specs.History.{IsLegal}
use Rattle.ticket_lock.specs.declared.chronicle.Chronicle as chronicle
use Rattle.ticket_lock.specs.World.{World, Event, hands_on}
use Rattle.ticket_lock.specs.Forms.{partitioned_form}
use Rattle.ticket_lock.specs.Schedule.{Opened, Runs}
use Rattle.ticket_lock.specs.Linearizable as lock
use Rattle.ticket_lock.specs.Linearizable.{journal_after, FoundFull, IsSequentialHistory}
use Rattle.hull_book.specs.Kinds.{Kind}
use Rattle.hull_pool.specs.Crews.{Boxed}
use Rattle.hull_book.specs.Served.{HasServed, HasServedLong}

module _ {B H L : Type 0} (says : chronicle.Ghosts B H L) (line_of : L → Line) where
  -- The lines are a sequential history of the calls that the events made on a book of either kind: each call that has a line got the reply of that
  -- line, which is in its seat's name and has that call; each other found the journal full, and got that answer
  pub record Agree (b : B) (es : List (Event B)) (calls : ℕ → Call) (answers : ℕ → Answer)
      (lines : List L) : Type 0 where
    pub sequential : IsSequentialHistory says b es lines
    pub replies : (k i r p : ℕ) (l : L) → lock.Call says b es k i r p l
        → ((line_of l).seat ≡ k) × ((line_of l).call ≡ calls r) × (answers r ≡ Ok (line_of l).reply)
    pub fulls : (k i r : ℕ) → FoundFull says b es k i r → answers r ≡ Err (record {})

module _ {S : Type 0} (K : Ghosts S) where
  -- Each hand on, the event at r, ended a call that was served (`HasServed`, as `serve_and_hand_on` serves one): the call `calls r`, with the answer
  -- `answers r`, at the journal that the events before it had left
  abbrev pub AreServed : Boxed S → List (Event (Boxed S)) → (ℕ → Call) → (ℕ → Answer) → Type 0
  AreServed b es calls answers = (r k : ℕ) (c : Boxed S) → get_elem? es r ≡ some (hands_on k c)
      → (t : ℕ) × HasServed (box_value b).head.journal t k (calls r) (journal_after (says_boxed K) b es r)
      (box_value c).lines (answers r)

  -- The lines are a legal history, with which the answers agree (`Agree`), and a call that found the journal full comes
  -- after every line
  pub record Respond (b : Boxed S) (es : List (Event (Boxed S))) (calls : ℕ → Call) (answers : ℕ → Answer)
      (lines : List Line) : Type 0 where
    pub legal : IsLegal (box_value b).head.journal lines
    pub agree : Agree (says_boxed K) (λ line. line) b es calls answers lines
    pub fulls_last : (k i r j a s p : ℕ) (line : Line) → FoundFull (says_boxed K) b es k i r
        → lock.Call (says_boxed K) b es j a s p line → s < r

  -- Every list of steps of the lock that runs, in which each seat that held the book served a call, leaves a journal whose order explains every
  -- answer
  abbrev pub AnswersAreOfLines : Type 0
  AnswersAreOfLines = (n : ℕ) (b : Boxed S) (w u : World (Boxed S) BookHead Line) (es : List (Event (Boxed S)))
      (calls : ℕ → Call) (answers : ℕ → Answer) → Opened (says_boxed K) partitioned_form n b w
      → Runs (says_boxed K) partitioned_form es w u → AreServed b es calls answers
      → Respond b es calls answers (box_value u.current).lines

-- The same for books of a kind that may be drained, if `head_of` is the head of the book
module _ {S B H : Type 0} (kind : Kind S B H MarkedLine) (head_of : H → BookHead) where
  -- each hand on ended a call that was served, and that took lines out or did not
  abbrev pub AreServedLong : B → List (Event B) → (ℕ → Call) → (ℕ → Answer) → Type 0
  AreServedLong b es calls answers = (r k : ℕ) (c : B) → get_elem? es r ≡ some (hands_on k c)
      → (drains : Bool) × (t : ℕ) × HasServedLong (head_of (kind.says.head b)).journal drains t k (calls r)
      (journal_after kind.says b es r) (kind.says.lines c) (answers r)

  -- every list of such steps leaves a whole journal that is a legal history, with which the answers agree
  abbrev pub LongAnswersAreOfLines : Type 0
  LongAnswersAreOfLines = (n : ℕ) (b : B) (w u : World B H MarkedLine) (es : List (Event B)) (calls : ℕ → Call)
      (answers : ℕ → Answer) → Opened kind.says partitioned_form n b w → Runs kind.says partitioned_form es w u
      → AreServedLong b es calls answers
      → IsLegal (kind.whole u.current).head.journal (kind.whole u.current).lines
      × Agree kind.says (λ l. l.line) b es calls answers (kind.says.lines u.current)
