-- The result of a run of phases, over all calls of each worker.
use Rattle.std.specs.Prelude.{◌≡◌, ◌+◌, ◌<◌, ◌≤◌, ℕ, min, List, [], length, slice_index_or}
use Rattle.std.specs.List.{All}
use mathlib.Core.List.{IsPrefix}
use Rattle.hull_book.specs.Books.{BookValue, IsLawful}
use Rattle.hull_book.specs.Ledgers.{AreLedgers}
use Rattle.hull_book.specs.Scripts.{PhaseValue, calls_in_all, calls_of}
use Rattle.hull_set.specs.declared.call.Call.{Call}
use Rattle.hull_book.specs.declared.limits.TheConstants.{TEXT_LINE_LIMIT}
use Rattle.hull_pool.specs.Answers.{AnswersValue, WorkersValue, no_answers}
use Rattle.hull_pool.specs.Work.{HasWorked, capacity_of, workers_of}
use Rattle.hull_set.specs.declared.set.HullSet.{Ghosts}

-- the calls of a worker in a phase
abbrev pub job : PhaseValue → ℕ → List Call
job phase k = slice_index_or phase k []

-- the answers of a worker
abbrev pub answers_of : WorkersValue → ℕ → AnswersValue
answers_of w k = slice_index_or w.answers k no_answers

-- The workers may run these phases on the book: it is lawful, the ledgers are its own, each phase has a list of calls for each worker, none has more
-- calls than a text has lines, and there is capacity for an answer to each.
pub record MayRunAll {S : Type 0} (K : Ghosts S) (b : BookValue S) (w : WorkersValue)
    (phases : List PhaseValue) : Type 0 where
  pub lawful : IsLawful K b
  pub ledgers : AreLedgers b w.ledgers
  pub answers : length w.answers ≡ workers_of b
  pub jobs : All (λ phase. length phase ≡ workers_of b) phases
  pub few : (k : ℕ) → k < workers_of b → length (calls_of k phases) ≤ TEXT_LINE_LIMIT
  pub space : (k : ℕ) → k < workers_of b → length (calls_of k phases) ≤ (answers_of w k).space

-- The phases were run. The book is lawful, with the same head; its journal is the earlier one and then new lines, as many as there are calls or, if
-- that is less, as many as the journal had space for; the new lines of each worker are a prefix of its calls over the phases in their order, and its
-- new answers are their replies and then that the journal is full; the ledgers are the book's own.
pub record HasRunAll {S : Type 0} (K : Ghosts S) (b : BookValue S) (w : WorkersValue) (phases : List PhaseValue)
    (c : BookValue S) (v : WorkersValue) : Type 0 where
  pub lawful : IsLawful K c
  pub head : c.head ≡ b.head
  pub begins : IsPrefix b.lines c.lines
  pub as_many : length c.lines ≡ min (length b.lines + calls_in_all phases) (capacity_of b)
  pub each : (k : ℕ) → k < workers_of b
      → HasWorked k (capacity_of b) (length (calls_of k phases)) (calls_of k phases) b.lines c.lines
      (answers_of w k).answers (answers_of v k).answers
  pub ledgers : AreLedgers c v.ledgers
  pub answers : length v.answers ≡ workers_of b
  pub space : (k : ℕ) → k < workers_of b → (answers_of v k).space + length (calls_of k phases) ≡ (answers_of w k).space
