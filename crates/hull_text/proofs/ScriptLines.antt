-- Reading a script line by line.
use Rattle.std.proofs.lemmas.Grind.{common_steps}
use Rattle.std.proofs.Common.{◌≡◌, ◌<◌, ◌+◌, ℕ, suc, List, [], ◌∷◌, ◌++◌, length, Option, Some, None, Result, Ok, Err}
use Rattle.std.proofs.Common.{refl, ap, ◌∙◌, arith, add-one, append_assoc, inl, inr}
use Rattle.std.specs.Prelude.{◌==◌, MatchResult}
use Rattle.std.proofs.lemmas.List.{append-nil}
use Rattle.std.proofs.lemmas.List.Splits.{slice_split_at, slice_split_none, length-slice_split}
use Rattle.hull_book.specs.Scripts.{ScriptValue}
use Rattle.hull_text.specs.declared.fault.TextFault.{TextFault}
use Rattle.hull_text.specs.Item.{Item}
use Rattle.hull_text.specs.ScriptLine.{script_line_of}
use Rattle.hull_text.specs.Field.{◌>>=◌}
use Rattle.hull_text.specs.ScriptText.{numbered, kept, last_items, items_of, pieces, with_front, script_items}
use Rattle.hull_text.specs.ScriptValue.{script_of}
use Rattle.hull_text.specs.Reading.{HasNoNewline, ReadsOn, FailsIn}
use Rattle.hull_text.specs.ScriptReading.{reading, AnswersScript}
use Rattle.hull_text.proofs.FaultPlaces.{reading_goes_on}

-- The item of a line comes before those of the lines after it.
kept_front : (s : Option Item) (js : List Item) → kept s js ≡ kept s [] ++ js
kept_front None js = refl
kept_front (Some i) js = refl

-- Reading a line keeps its item.
regroup : (items : List Item) (r : Result (Option Item) TextFault) (q : Result (List Item) TextFault)
    → with_front items (r >>= λ s. q >>= λ js. Ok (kept s js)) ≡ (r >>= λ s. with_front (items ++ kept s []) q)
regroup items (Err e) q = refl
regroup items (Ok s) (Err e) = refl
regroup items (Ok s) (Ok js) = grind (arith, common_steps, kept_front, append_assoc, kept)

-- A line that is not the last.
items_cons : (n : ℕ) (line : List ℕ) (lines : List (List ℕ)) → 0 < length lines
    → items_of n (line ∷ lines)
    ≡ (numbered n (script_line_of line) >>= λ s. items_of (suc n) lines >>= λ js. Ok (kept s js))
unfolding items_of
items_cons n line [] some = absurd (omega arith)
items_cons n line (next ∷ lines) some = refl

-- A line is read, and then the text after its newline.
newline : (items : List Item) (n : ℕ) (line rest : List ℕ) → HasNoNewline line
    → reading items n (line ++ 10 ∷ rest)
    ≡ (numbered n (script_line_of line) >>= λ s. reading (items ++ kept s []) (suc n) rest)
unfolding reading
newline items n line rest whole =
    let cut : pieces (line ++ 10 ∷ rest) ≡ line ∷ pieces rest =
    slice_split_at (λ (b : ℕ). b == 10) line 10 rest whole refl in
    let some : 0 < length (pieces rest) = omega (arith, length-slice_split (λ (b : ℕ). b == 10) rest) in
    ap (λ (ps : List (List ℕ)). with_front items (items_of n ps)) cut
    ∙ ap (λ (r : Result (List Item) TextFault). with_front items r) (items_cons n line (pieces rest) some)
    ∙ regroup items (numbered n (script_line_of line)) (items_of (suc n) (pieces rest))

-- A line with an item, or with none.
pub script_on : (items more : List Item) (n next : ℕ) (line : List ℕ) (s : Option Item) → HasNoNewline line
    → Ok s ≡ numbered n (script_line_of line) → more ≡ items ++ kept s [] → next ≡ n + 1
    → ReadsOn (AnswersScript items n) (AnswersScript more next) (line ++ 10 ∷ []) []
script_on items more n next line s whole e kept_is next_is = grind (arith, common_steps, reading, newline, add-one, append_assoc)

-- A line with a fault.
pub script_fault : (items : List Item) (n : ℕ) (line : List ℕ) (f : TextFault) → HasNoNewline line
    → Err f ≡ numbered n (script_line_of line) → FailsIn (AnswersScript items n) (line ++ 10 ∷ []) f
script_fault items n line f whole e = grind (arith, common_steps, reading, newline, append_assoc)

-- Refused memory.
pub script_refused : (items : List Item) (n : ℕ) (text : List ℕ) (f : TextFault) → f.number ≡ 10 → f.line ≡ n
    → FailsIn (AnswersScript items n) text f
script_refused items n text f e place =
    λ rest. inl (inr e, reading_goes_on items f.line n (text ++ rest) (omega (arith, place)))

-- Memory was refused after a text that has no fault.
pub refused_at_end : (items all : List Item) (n : ℕ) (text : List ℕ) (f : TextFault) → reading items n text ≡ Ok all
    → f.number ≡ 10 → AnswersScript items n text (Err f)
refused_at_end items all n text f e h = inl (inr h, rw e tt)

-- The last piece of a text.
last_piece : (items : List Item) (n : ℕ) (line : List ℕ) → HasNoNewline line
    → reading items n line ≡ with_front items (last_items n line)
unfolding reading items_of
last_piece items n line whole =
    ap (λ (ps : List (List ℕ)). with_front items (items_of n ps)) (slice_split_none (λ (b : ℕ). b == 10) line whole)

-- It is a line if it is not empty.
last_line : (items : List Item) (n : ℕ) (line : List ℕ) → 0 < length line
    → with_front items (last_items n line) ≡ (numbered n (script_line_of line) >>= λ s. Ok (items ++ kept s []))
last_line items n [] some = absurd (omega arith)
last_line items n (b ∷ bs) some = step (numbered n (script_line_of (b ∷ bs)))
  where
    step : (r : Result (Option Item) TextFault)
        → with_front items (r >>= λ s. Ok (kept s [])) ≡ (r >>= λ s. Ok (items ++ kept s []))
    step (Ok s) = refl
    step (Err e) = refl

-- A text ends after a newline.
pub end_empty : (items : List Item) (n : ℕ) (line : List ℕ) → length line ≡ 0 → reading items n line ≡ Ok items
end_empty items n [] none =
    last_piece items n [] (λ k d lt. absurd (omega arith)) ∙ ap (λ (l : List Item). Ok l) (append-nil items)
end_empty items n (b ∷ bs) none = absurd (omega (arith, none))

-- A text ends within a line with an item, or with none.
pub end_line : (items : List Item) (n : ℕ) (line : List ℕ) (s : Option Item) → HasNoNewline line → 0 < length line
    → Ok s ≡ numbered n (script_line_of line) → reading items n line ≡ Ok (items ++ kept s [])
end_line items n line s whole some e = last_piece items n line whole ∙ last_line items n line some ∙ rw (← e) refl

-- A text ends within a line with a fault.
pub end_fault : (items : List Item) (n : ℕ) (line : List ℕ) (f : TextFault) → HasNoNewline line → 0 < length line
    → Err f ≡ numbered n (script_line_of line) → reading items n line ≡ Err f
end_fault items n line f whole some e = last_piece items n line whole ∙ last_line items n line some ∙ rw (← e) refl

-- At the start nothing was read.
pub at_start : (bytes : List ℕ) → reading [] 1 bytes ≡ script_items bytes
unfolding reading
at_start bytes = front_none (script_items bytes)
  where
    front_none : (r : Result (List Item) TextFault) → with_front [] r ≡ r
    front_none (Ok js) = refl
    front_none (Err e) = refl

-- The answer of a reader at a text's end is right if it is the script of all items.
pub answers_end : (items all : List Item) (n : ℕ) (line : List ℕ) (answer : Result ScriptValue TextFault)
    → reading items n line ≡ Ok all → MatchResult answer (λ script. script ≡ script_of all) (λ f. f.number ≡ 10)
    → AnswersScript items n line answer
answers_end items all n line (Ok v) e h = (all, e, h)
answers_end items all n line (Err f) e h = inl (inr h, rw e tt)
