-- The result of running a script, and the text that is written about it.
use Rattle.std.specs.Prelude.{◌≡◌, ◌<◌, ℕ, Bool, false, true, cond, List, [], map, Option, None, Result, Ok, Err}
use Rattle.text_io.specs.Passage.{Passage, HasTaken, HasTakenFront, IsSound}
use Rattle.hull_book.specs.Books.{BookValue, opened_book}
use Rattle.hull_set.specs.declared.set.HullSet.{Ghosts}
use Rattle.bucket_tree.specs.Sets.{bucket_set}
use Rattle.bucket_tree.specs.Sets as buckets
use Rattle.hull_tree.specs.Sets.{hull_tree}
use Rattle.hull_tree.specs.Sets as trees
use Rattle.hull_book.specs.Journals.{JournalValue}
use Rattle.hull_book.specs.Scripts.{ScriptValue}
use Rattle.hull_book.specs.Answers.{Answer}
use Rattle.hull_pool.specs.Answers.{WorkersValue}
use Rattle.hull_pool.specs.Runs.{answers_of}
use Rattle.hull_pool.specs.Scripts.{Runs}
use Rattle.hull_text.specs.ReportText.{report_text}
use Rattle.hull_text.specs.JournalText.{written_text}
use Rattle.hull_text.specs.JournalGrammar.{IsJournalText}
use Rattle.hull_text.specs.ScriptGrammar.{ReadsKnownScript}
use Rattle.hull_text.specs.Stopped.{HasRefused, HasStopped}
use Rattle.hullbook.specs.Reads.{IsSomeScript}
use Rattle.hullbook.specs.declared.options.Options.{Options}
use Rattle.hullbook.specs.declared.run.RunFault.{RunFault}
use Rattle.hullbook.specs.declared.run.RunFault.TheVariants.{Text, Memory, Write}

-- an empty tree that searches each bridge, and an empty tree over buckets
abbrev pub empty_tree : ℕ → trees.LimitedTree
empty_tree limit = record { limit = limit; root = None }

abbrev pub empty_buckets : ℕ → buckets.LimitedTree
empty_buckets limit = record { limit = limit; root = None }

-- the book over a set that a run begins with
abbrev pub opening : {S : Type 0} → S → Options → ℕ → BookValue S
opening set o workers = opened_book set o.first o.limit o.capacity workers

-- the journal of a book
abbrev pub journal_of : {S : Type 0} → BookValue S → JournalValue
journal_of {S = S} b = record { head = b.head.journal; lines = b.lines }

-- The workers of the script ran all its phases on this book: these are their answers, the counts of the closed book's
-- ledgers, and its journal.
pub record IsRunOn {S : Type 0} (K : Ghosts S) (opened : BookValue S) (script : ScriptValue)
    (answers : List (List Answer)) (counts : List ℕ) (journal : JournalValue) : Type 0 where
  pub before : WorkersValue
  pub after : WorkersValue
  pub closed : BookValue S
  pub none : (k : ℕ) → k < script.workers → (answers_of before k).answers ≡ []
  pub ran : Runs K opened before script.phases closed after
  pub answers_are : answers ≡ map (λ a. a.answers) after.answers
  pub counts_are : counts ≡ map (λ l. l.count) after.ledgers
  pub journal_is : journal ≡ journal_of closed

-- the run of a script on a book that was opened with these options: over the tree that searches each bridge, or over
-- buckets for a run with `--buckets`
abbrev pub IsRun : Bool → ScriptValue → Options → List (List Answer) → List ℕ → JournalValue → Type 0
IsRun bucketed script o answers counts journal =
    (bucketed ≡ false
    → IsRunOn hull_tree (opening (empty_tree o.limit) o script.workers) script answers counts journal)
    × (bucketed ≡ true
    → IsRunOn bucket_set (opening (empty_buckets o.limit) o script.workers) script answers counts journal)

-- the journal if it is requested, and else the report
abbrev pub output_text : Bool → ScriptValue → List (List Answer) → List ℕ → JournalValue → List ℕ
output_text asked script answers counts journal =
    cond asked (written_text journal) (report_text script answers counts journal)

-- if the journal is requested, the text is one of this journal
abbrev pub IsJournalWhereAsked : Bool → List ℕ → JournalValue → Type 0
IsJournalWhereAsked asked text journal = asked ≡ true → IsJournalText text journal

-- The bytes, if they are known, were read as a script, it was run, and this holds of the text of the run. If they are
-- not known some script was read nevertheless.
pub record HasRun (bucketed : Bool) (o : Options) (bytes : Option (List ℕ)) (Holds : List ℕ → Type 0) : Type 0 where
  pub script : ScriptValue
  pub answers : List (List Answer)
  pub counts : List ℕ
  pub journal : JournalValue
  pub reads : ReadsKnownScript bytes (Ok script)
  pub runs : IsRun bucketed script o answers counts journal
  pub holds : Holds (output_text o.journal script answers counts journal)
  pub said : IsJournalWhereAsked o.journal (output_text o.journal script answers counts journal) journal

-- what a run with this outcome has read and written
abbrev pub EndsRun : Bool → Options → Passage → Passage → Result Unit RunFault → Type 0
EndsRun bucketed o input output (Ok done) = IsSound input × HasRun bucketed o input.before (HasTaken output)
EndsRun bucketed o input output (Err (Text f)) = HasStopped ReadsKnownScript input output f
EndsRun bucketed o input output (Err Memory) = HasRefused (IsSomeScript input.before) input output
EndsRun bucketed o input output (Err Write) = IsSound input × HasRun bucketed o input.before (HasTakenFront output)
