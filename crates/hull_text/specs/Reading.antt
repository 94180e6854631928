-- How the reading of a text continues, line by line, independent of the pieces in which it comes.
use Rattle.std.specs.Prelude.{◌≡◌, ◌⊎◌, ◌<◌, ◌≤◌, ◌+◌, ◌^◌, ◌==◌, ℕ, List, [], ◌∷◌, ◌++◌, length, Option, Some, None}
use Rattle.std.specs.Prelude.{Result, Ok, Err, false, if◌then◌else◌}
use Rattle.std.specs.List.{All}
use Rattle.hull_text.specs.declared.fault.TextFault.{TextFault}
use Rattle.hull_text.specs.declared.fault.FaultKind.TheVariants.{NoMemory}
use Rattle.hull_text.specs.Fault.{IsOutside, fault_number}
use Rattle.hull_text.specs.ScriptText.{last_line, text_lines}

-- a line, or a part of one
abbrev pub HasNoNewline : List ℕ → Type 0
HasNoNewline line = All (λ b. (b == 10) ≡ false) line

-- how many lines end in a text
abbrev pub newlines : List ℕ → ℕ
newlines [] = 0
newlines (b ∷ bs) = if b == 10 then newlines bs + 1 else newlines bs

-- the possible answers of a reader if this text is left
abbrev pub Outlook : Type 0 → Type 1
Outlook V = List ℕ → Result V TextFault → Type 0

-- A reader's possible answers with `left` left are possible with `text` left: the text was read as far as `left`.
abbrev pub ReadsOn : {V : Type 0} → Outlook V → Outlook V → List ℕ → List ℕ → Type 0
ReadsOn {V = V} old new text left = (rest : List ℕ) (answer : Result V TextFault) → new (left ++ rest) answer
    → old (text ++ rest) answer

-- The text has this fault, for any text after it.
abbrev pub FailsIn : {V : Type 0} → Outlook V → List ℕ → TextFault → Type 0
FailsIn old text f = (rest : List ℕ) → old (text ++ rest) (Err f)

-- The answer is right for the bytes that the reader had, if they are known and fewer than 2^63.
abbrev pub AnswersAll : {V : Type 0} → Outlook V → Option (List ℕ) → Result V TextFault → Type 0
AnswersAll start None answer = Unit {0}
AnswersAll start (Some bytes) answer = length bytes < 2 ^ 63 → start bytes answer

-- The possible answers of a reader, by the values whose text the bytes are and by their first faults: such a value,
-- such a fault, or one from outside in a line before which they have none.
abbrev pub Reads : {V : Type 0} → (V → Type 0) → (TextFault → Type 0) → Result V TextFault → Type 0
Reads IsText IsFault (Ok v) = IsText v
Reads IsText IsFault (Err f) =
    (IsOutside f × ((first : TextFault) → IsFault first → f.line ≤ first.line)) ⊎ IsFault f

-- The line that was being read: one more than the newlines that were taken, if the bytes are known.
abbrev pub IsLineBeingRead : Option (List ℕ) → Option (List ℕ) → ℕ → Type 0
IsLineBeingRead None left line = Unit {0}
IsLineBeingRead (Some bytes) None line = ⊥
IsLineBeingRead (Some bytes) (Some left) line = (taken : List ℕ) × (bytes ≡ taken ++ left) × (line ≡ 1 + newlines taken)

-- A line of the bytes that were taken, if the bytes are known: one that begins in them, or, if they are the whole
-- text, the line after its last.
abbrev pub IsLineTaken : Option (List ℕ) → Option (List ℕ) → ℕ → Type 0
IsLineTaken None left line = Unit {0}
IsLineTaken (Some bytes) None line = ⊥
IsLineTaken (Some bytes) (Some left) line =
    (taken : List ℕ) × (bytes ≡ taken ++ left) × (1 ≤ line)
    × ((line ≤ 1 + newlines taken) ⊎ ((left ≡ []) × (line ≡ 1 + length (text_lines bytes))))

-- The line of a fault that is reported at the end of a text, of which this part is left from the beginning of line n
-- on: the line after the last if memory was refused, and else line n.
abbrev pub line_at_end : ℕ → List ℕ → TextFault → ℕ
line_at_end n part f = if f.number == fault_number NoMemory then n + length (last_line part) else n
