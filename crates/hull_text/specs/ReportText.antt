-- The text of a report.
use Rattle.std.specs.Prelude.{◌≡◌, ◌<◌, ℕ, suc, List, [], ◌∷◌, ◌++◌, length, codes, decimal, sum, slice_index_or}
use Rattle.hull_book.specs.Journals.{JournalValue}
use Rattle.hull_book.specs.Scripts.{PhaseValue, ScriptValue, calls_of}
use Rattle.hull_text.specs.Spelling.{line_text}
use Rattle.hull_book.specs.Answers.{Answer}
use Rattle.hull_text.specs.Answers.{answers_text}

-- for each worker from k on, a line for each of its calls
unfoldable pub workers_text : ℕ → List PhaseValue → List (List Answer) → List ℕ
workers_text k phases [] = []
workers_text k phases (answers ∷ more) = answers_text k (calls_of k phases) answers ++ workers_text (suc k) phases more

-- the line of a worker's ledger
abbrev pub ledger_line : ℕ → ℕ → List ℕ
ledger_line worker count = line_text (codes "ledger" ∷ decimal worker ∷ decimal count ∷ [])

-- for each worker from k on, a line for its ledger
unfoldable pub ledgers_text : ℕ → List ℕ → List ℕ
ledgers_text k [] = []
ledgers_text k (count ∷ counts) = ledger_line k count ++ ledgers_text (suc k) counts

-- the line of a sum of ledgers, and of the length and capacity of a journal
abbrev pub sum_line : ℕ → ℕ → ℕ → List ℕ
sum_line sum lines capacity =
    line_text (codes "sum" ∷ decimal sum ∷ codes "journal" ∷ decimal lines ∷ codes "capacity" ∷ decimal capacity ∷ [])

-- the text of a report
abbrev pub report_text : ScriptValue → List (List Answer) → List ℕ → JournalValue → List ℕ
report_text script answers ledgers journal =
    workers_text 0 script.phases answers ++ ledgers_text 0 ledgers
    ++ sum_line (sum ledgers) (length journal.lines) journal.head.capacity

-- There is an answer for each call of each worker.
abbrev pub AreAnswered : ℕ → List PhaseValue → List (List Answer) → Type 0
AreAnswered workers phases answers = (k : ℕ) → k < workers
    → length (slice_index_or answers k []) ≡ length (calls_of k phases)

-- The pieces of a report fit together: a list of answers and a ledger for each worker, and an answer for each call.
pub record IsReport (script : ScriptValue) (answers : List (List Answer)) (ledgers : List ℕ) : Type 0 where
  pub answers_each : length answers ≡ script.workers
  pub ledgers_each : length ledgers ≡ script.workers
  pub answered : AreAnswered script.workers script.phases answers
