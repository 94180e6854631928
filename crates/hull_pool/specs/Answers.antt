-- The answers of workers as contracts see them.
use Rattle.std.specs.Prelude.{◌≡◌, ◌<◌, ◌≤◌, slice_index_or, ℕ, ◌-◌, List, [], map, Vec, vec_capacity, length}
use Rattle.hull_book.specs.Answers.{Answer}
use Rattle.hull_book.specs.Ledgers.{LedgerValue}
use Rattle.hull_book.specs.Scripts.{PhaseValue, calls_of}

-- the answers of one worker so far, and the capacity that is reserved for more
pub record AnswersValue : Type 0 where
  pub answers : List Answer
  pub space : ℕ

-- the answers and the ledger of each worker, in the order of their numbers
pub record WorkersValue : Type 0 where
  pub answers : List AnswersValue
  pub ledgers : List LedgerValue

-- the value of a vector of answers
abbrev pub shown : {A : Type 0} → Vec Answer A → AnswersValue
shown v = record { answers = v.items; space = vec_capacity v - length v.items }

-- no answers, and no capacity for any
abbrev pub no_answers : AnswersValue
no_answers = record { answers = []; space = 0 }

-- the value of the workers with these answers and ledgers
abbrev pub shown_workers : {A : Type 0} → List (Vec Answer A) → List LedgerValue → WorkersValue
shown_workers answers ledgers = record { answers = map (λ v. shown v) answers; ledgers = ledgers }

-- there is no answer yet, and each worker has capacity for an answer to each of its calls
pub record HasSpaceFor (workers : ℕ) (phases : List PhaseValue) (answers : List AnswersValue) : Type 0 where
  pub number : length answers ≡ workers
  pub none : (k : ℕ) → k < workers → (slice_index_or answers k no_answers).answers ≡ []
  pub space : (k : ℕ) → k < workers → length (calls_of k phases) ≤ (slice_index_or answers k no_answers).space
