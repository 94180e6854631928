-- The results of calls.
use Rattle.std.specs.Prelude.{◌≡◌, ◌≤◌, ℕ, Bool, false, true, List, map, Vec, Option, Some, None, Result, Ok, Err}
use Rattle.hull_set.specs.declared.reply.Reply.{Reply}
use Rattle.hull_book.specs.Journals.{JournalValue}
use Rattle.hull_book.specs.declared.report.JournalFull.{JournalFull}
use Rattle.hull_book.specs.declared.after_call.AfterCall.{AfterCall}
use Rattle.hull_book.specs.declared.after_call.AfterCall.TheVariants.{Keep, Discard, Drain}

-- a reply, or that the journal is full
abbrev pub Answer : Type 0
Answer = Result Reply JournalFull

-- the answers in these vectors
abbrev pub answers_in : {A : Type 0} → List (Vec Answer A) → List (List Answer)
answers_in vectors = map (λ v. v.items) vectors

-- whether a call takes the book's lines out, or discards them
abbrev pub drains : AfterCall → Bool
drains Keep = false
drains Discard = true
drains (Drain space) = true

-- if lines are taken out, there is storage for at least this many
abbrev pub HasSpace : AfterCall → ℕ → Type 0
HasSpace (Drain space) n = n ≤ space
HasSpace _ n = Unit {0}

-- if lines are taken out, this is returned, otherwise nothing
abbrev pub HandsOut : {A : Type 0} → AfterCall → A → Option A → Type 0
HandsOut (Drain space) segment out = out ≡ Some segment
HandsOut _ segment out = out ≡ None

-- on a book that may be drained: a reply and the segment, if lines were taken out, or what should have become of them
abbrev pub LongAnswer : Type 0
LongAnswer = Result (Reply × Option JournalValue) AfterCall

-- only the result of the call itself
abbrev pub answer_of : LongAnswer → Answer
answer_of (Ok (reply, segment)) = Ok reply
answer_of (Err then) = Err (record {})
