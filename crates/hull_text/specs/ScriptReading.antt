-- How the reading of a script continues from what was read so far.
use Rattle.std.specs.Prelude.{◌≡◌, ◌⊎◌, ◌≤◌, ◌<◌, ◌+◌, ℕ, List, Result, Ok, Err, length}
use Rattle.hull_book.specs.declared.limits.TheConstants.{TEXT_LINE_LIMIT}
use Rattle.hull_book.specs.Scripts.{ScriptValue}
use Rattle.hull_text.specs.declared.fault.TextFault.{TextFault}
use Rattle.hull_text.specs.Item.{Item}
use Rattle.hull_text.specs.Fault.{IsOutside, NoFaultBefore}
use Rattle.hull_text.specs.ScriptText.{items_of, pieces, with_front}
use Rattle.hull_text.specs.ScriptValue.{script_of, workers_in}

-- the items of a text of which these were read, and this is left from line n on
unfoldable pub reading : List Item → ℕ → List ℕ → Result (List Item) TextFault
reading items n rest = with_front items (items_of n (pieces rest))

-- The answer of a reader for a script with these items or this fault; it may answer a fault from outside as well, in a
-- line before which there is no fault.
abbrev pub AnswersItems : Result ScriptValue TextFault → Result (List Item) TextFault → Type 0
AnswersItems (Ok v) read = (items : List Item) × (read ≡ Ok items) × (v ≡ script_of items)
AnswersItems (Err f) read = (IsOutside f × NoFaultBefore f.line read) ⊎ (read ≡ Err f)

-- the answer of a reader that has these items and continues at line n
abbrev pub AnswersScript : List Item → ℕ → List ℕ → Result ScriptValue TextFault → Type 0
AnswersScript items n text answer = AnswersItems answer (reading items n text)

-- the state of a reader of scripts
pub record IsDraft (items : List Item) (line : ℕ) : Type 0 where
  pub low : 1 ≤ line
  pub high : line ≤ TEXT_LINE_LIMIT + 1
  pub few : length items < line
  pub workers : workers_in items ≤ 64
