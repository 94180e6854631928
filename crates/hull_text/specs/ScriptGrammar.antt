-- The grammar of scripts, and their first fault.
use Rattle.std.specs.Prelude.{◌≡◌, ◌⊎◌, ◌≤◌, ◌+◌, ℕ, List, [], ◌∷◌, ◌++◌, length, codes, decimal, Option}
use Rattle.std.specs.Prelude.{Some, None, Result}
use Rattle.std.specs.List.{join_with_byte}
use Rattle.hull_book.specs.declared.limits.TheConstants.{TEXT_LINE_LIMIT}
use Rattle.hull_book.specs.Scripts.{ScriptValue}
use Rattle.hull_text.specs.declared.fault.TextFault.{TextFault}
use Rattle.hull_text.specs.Fault.{HasFault}
use Rattle.hull_text.specs.Version.{newest}
use Rattle.hull_text.specs.Item.{Item}
use Rattle.hull_text.specs.Spelling.{IsCall, call_fields}
use Rattle.hull_text.specs.ScriptLine.{script_line_of}
use Rattle.hull_text.specs.ScriptText.{kept, text_lines}
use Rattle.hull_text.specs.ScriptValue.{script_of}
use Rattle.hull_text.specs.Reading.{AnswersAll, Reads}

-- The line spells this item, or none.
abbrev pub IsScriptLine : List ℕ → Option Item → Type 0
IsScriptLine line None = (line ≡ []) ⊎ ((rest : List ℕ) × (line ≡ 35 ∷ rest))
IsScriptLine line (Some None) = line ≡ codes "join"
IsScriptLine line (Some (Some order)) =
    (line ≡ join_with_byte 32 (decimal order.0 ∷ call_fields order.1)) × (order.0 ≤ 63) × IsCall newest order.1

-- The lines spell these items.
abbrev pub AreScriptLines : List (List ℕ) → List Item → Type 0
AreScriptLines [] items = items ≡ []
AreScriptLines (line ∷ lines) items =
    (said : Option Item) × (rest : List Item) × IsScriptLine line said × AreScriptLines lines rest
    × (items ≡ kept said rest)

-- The bytes are a text of the script.
pub record IsScriptText (bytes : List ℕ) (script : ScriptValue) : Type 0 where
  pub items : List Item
  pub lines : AreScriptLines (text_lines bytes) items
  pub count : length (text_lines bytes) ≤ TEXT_LINE_LIMIT
  pub value : script ≡ script_of items

-- A line after so many others has this fault: its own first one from the left, or that it is one line too many.
abbrev pub HasLineFault : ℕ → List ℕ → ℕ → Type 0
HasLineFault before line number = HasFault TEXT_LINE_LIMIT before (script_line_of line) number

-- The first fault of the bytes: all lines before it are right.
pub record IsScriptFault (bytes : List ℕ) (f : TextFault) : Type 0 where
  pub before : List (List ℕ)
  pub line : List ℕ
  pub after : List (List ℕ)
  pub whole : text_lines bytes ≡ before ++ line ∷ after
  pub items : List Item
  pub right : AreScriptLines before items
  pub place : f.line ≡ length before + 1
  pub fault : HasLineFault (length before) line f.number

-- The possible answers of a reader of scripts for the bytes: a script whose text they are, their first fault, or a
-- fault from outside in a line before which they have none.
abbrev pub ReadsScript : List ℕ → Result ScriptValue TextFault → Type 0
ReadsScript bytes answer = Reads (IsScriptText bytes) (IsScriptFault bytes) answer

-- The same for bytes that may be unknown. They must be fewer than 2^63.
abbrev pub ReadsKnownScript : Option (List ℕ) → Result ScriptValue TextFault → Type 0
ReadsKnownScript known answer = AnswersAll ReadsScript known answer
