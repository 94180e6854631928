-- The items of a whole script, or its first fault.
use Rattle.std.specs.Prelude.{ℕ, suc, ◌==◌, List, [], ◌∷◌, ◌++◌, Option, Some, None, Result, Ok, Err, nat_le}
use Rattle.std.specs.Prelude.{if◌then◌else◌}
use Rattle.std.specs.List.{slice_split}
use Rattle.hull_book.specs.declared.limits.TheConstants.{TEXT_LINE_LIMIT}
use Rattle.hull_text.specs.declared.fault.FaultKind.{FaultKind}
use Rattle.hull_text.specs.declared.fault.FaultKind.TheVariants.{Form}
use Rattle.hull_text.specs.declared.fault.TextFault.{TextFault}
use Rattle.hull_text.specs.Item.{Item}
use Rattle.hull_text.specs.Fault.{fault_at}
use Rattle.hull_text.specs.Field.{◌>>=◌}
use Rattle.hull_text.specs.ScriptLine.{script_line_of}

-- the fault of line n is in that line
abbrev pub at_line : {A : Type 0} → ℕ → Result A FaultKind → Result A TextFault
at_line n (Ok x) = Ok x
at_line n (Err kind) = Err (fault_at n kind)

-- line n of a text; a line after the last that a text may have is a fault
unfoldable pub numbered : {A : Type 0} → ℕ → Result A FaultKind → Result A TextFault
numbered n read = if nat_le n TEXT_LINE_LIMIT then at_line n read else Err (fault_at n Form)

-- the item of a line, before those of the lines after it
abbrev pub kept : Option Item → List Item → List Item
kept None items = items
kept (Some item) items = item ∷ items

-- the last piece of a script is a line if it is not empty
abbrev pub last_items : ℕ → List ℕ → Result (List Item) TextFault
last_items n [] = Ok []
last_items n (b ∷ bs) = numbered n (script_line_of (b ∷ bs)) >>= λ i. Ok (kept i [])

-- the pieces of a script between its newlines, the first of them line n
unfoldable pub items_of : ℕ → List (List ℕ) → Result (List Item) TextFault
items_of n [] = Ok []
items_of n (line ∷ []) = last_items n line
items_of n (line ∷ next ∷ lines) =
    numbered n (script_line_of line) >>= λ i. items_of (suc n) (next ∷ lines) >>= λ is. Ok (kept i is)

-- the pieces of a text between its newlines
abbrev pub pieces : List ℕ → List (List ℕ)
pieces bytes = slice_split (λ b. b == 10) bytes

-- an empty last piece is no line
abbrev pub last_line : List ℕ → List (List ℕ)
last_line [] = []
last_line (b ∷ bs) = (b ∷ bs) ∷ []

-- the pieces without an empty last one
abbrev pub without_last_empty : List (List ℕ) → List (List ℕ)
without_last_empty [] = []
without_last_empty (piece ∷ []) = last_line piece
without_last_empty (piece ∷ next ∷ pieces) = piece ∷ without_last_empty (next ∷ pieces)

-- the lines of a text; the last may end without a newline
abbrev pub text_lines : List ℕ → List (List ℕ)
text_lines bytes = without_last_empty (pieces bytes)

-- the items of a whole script, or its first fault
abbrev pub script_items : List ℕ → Result (List Item) TextFault
script_items bytes = items_of 1 (pieces bytes)

-- the items before those that are not read yet
abbrev pub with_front : List Item → Result (List Item) TextFault → Result (List Item) TextFault
with_front front read = read >>= λ is. Ok (front ++ is)
