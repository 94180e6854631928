-- The text that a run or a check may have read: one of its kind.
use Rattle.std.specs.Prelude.{List, ℕ, Option, Ok}
use Rattle.hull_book.specs.History.{AsksInReplay}
use Rattle.hull_book.specs.Journals.{JournalValue}
use Rattle.hull_book.specs.Scripts.{ScriptValue}
use Rattle.hull_text.specs.ScriptGrammar.{ReadsKnownScript}
use Rattle.hull_text.specs.JournalGrammar.{ReadsKnownJournal}

-- the bytes, if they are known, are a text of some script
abbrev pub IsSomeScript : Option (List ℕ) → Type 0
IsSomeScript bytes = (script : ScriptValue) × ReadsKnownScript bytes (Ok script)

-- the bytes, if they are known, are a text of some journal, whose replay reaches a call that may take memory
abbrev pub IsJournalThatAsks : Option (List ℕ) → Type 0
IsJournalThatAsks bytes =
    (journal : JournalValue) × ReadsKnownJournal bytes (Ok journal) × AsksInReplay journal.head journal.lines
