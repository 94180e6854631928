-- The blocks of a known text.
use Rattle.std.proofs.Common.{◌≡◌, ◌⊎◌, ◌<◌, ◌≤◌, ◌+◌, ℕ, List, [], ◌∷◌, ◌++◌, length, Option, Some, None, Bool}
use Rattle.std.proofs.Common.{true, false, cond, Result, Ok, Err, IfErr, refl, sym, ap, subst, ◌∙◌, arith, append_assoc}
use Rattle.std.proofs.Common.{inl, inr}
use Rattle.std.specs.Io.KnownBytes.{Consumes, IsAtEnd}
use Rattle.std.specs.List.{onto_first}
use Rattle.std.proofs.lemmas.List.{append-nil, length-append}
use Rattle.std.proofs.lemmas.List.Splits.{slice_split_none}
use Rattle.std.specs.Prelude.{◌==◌}
use Rattle.hull_text.specs.declared.fault.TextFault.{TextFault}
use Rattle.hull_text.specs.ScriptText.{last_line, pieces, text_lines, without_last_empty}
use Rattle.hull_text.specs.Reading.{Outlook, ReadsOn, HasNoNewline, IsLineTaken}
use Rattle.hull_text.specs.Reading.{line_at_end, newlines}
use Rattle.hull_text.proofs.Lines.{newlines_none}

-- the state of a reader that keeps a part of a line, and the bytes that it took
pub record Taken {V : Type 0} (start now : Outlook V) (bytes rest kept : List ℕ) (line n : ℕ) : Type 0 where
  pub text : List ℕ
  pub whole : bytes ≡ text ++ rest
  pub on : ReadsOn start now text kept
  pub lines : line ≡ 1 + newlines text
  pub ends : (front : List ℕ) × (text ≡ front ++ kept)
  pub long : n ≤ length text

-- Of the text a, which is b from here on, n bytes or more were taken.
abbrev pub Known : {V : Type 0} → Outlook V → Outlook V → Option (List ℕ) → Option (List ℕ) → List ℕ → ℕ → ℕ → Type 0
Known start now None b kept line n = Unit {0}
Known start now (Some bytes) None kept line n = ⊥
Known start now (Some bytes) (Some rest) kept line n = Taken start now bytes rest kept line n

-- Newlines of two texts add up.
newlines_append : (a b : List ℕ) → newlines (a ++ b) ≡ newlines a + newlines b
newlines_append [] b = omega arith
newlines_append (x ∷ xs) b = step (x == 10) (newlines (xs ++ b)) (newlines xs) (newlines b) (newlines_append xs b)
  where
    step : (c : Bool) (whole front back : ℕ) → whole ≡ front + back
        → cond c (whole + 1) whole ≡ cond c (front + 1) front + back
    step true whole front back e = omega (arith, e)
    step false whole front back e = omega (arith, e)

-- A block was taken.
pub known_feed : {V : Type 0} (start now next : Outlook V) (a b c : Option (List ℕ)) (kept left piece : List ℕ)
    (line after n : ℕ) → Known start now a b kept line n → Consumes b c piece → 0 < length piece
    → ReadsOn now next (kept ++ piece) left → after ≡ line + newlines piece
    → (front : List ℕ) × (kept ++ piece ≡ front ++ left) → Known start next a c left after (n + 1)
known_feed start now next None b c kept left piece line after n k p some on lines tail = tt
known_feed start now next (Some bytes) None c kept left piece line after n k p some on lines tail = absurd k
known_feed start now next (Some bytes) (Some rest) None kept left piece line after n k p some on lines tail = absurd p
known_feed start now next (Some bytes) (Some rest)
    (Some more) kept left piece line after n k p some on lines tail = record {
      text = k.text ++ piece;
      whole = k.whole ∙ ap (λ (t : List ℕ). k.text ++ t) p ∙ sym (append_assoc k.text piece more);
      on = λ tail answer h.
          subst (λ (t : List ℕ). start t answer) (sym (append_assoc k.text piece tail))
          (k.on (piece ++ tail) answer
          (subst (λ (t : List ℕ). now t answer) (append_assoc kept piece tail) (on tail answer h)));
      lines = omega (arith, newlines_append k.text piece, k.lines, lines);
      ends = (
        k.ends.0 ++ tail.0,
        ap (λ (t : List ℕ). t ++ piece) k.ends.1 ∙ append_assoc k.ends.0 kept piece
            ∙ ap (λ (t : List ℕ). k.ends.0 ++ t) tail.1 ∙ sym (append_assoc k.ends.0 tail.0 left),
      );
      long = omega (arith, k.long, length-append k.text piece);
    }

-- ---- the line of a fault

-- A line of a block that was taken.
pub line_fed : {V : Type 0} (start now : Outlook V) (a b c : Option (List ℕ)) (kept piece : List ℕ) (line at n : ℕ)
    → Known start now a b kept line n → Consumes b c piece → line ≤ at → at ≤ line + newlines piece
    → IsLineTaken a c at
line_fed start now None b c kept piece line at n k p low high = tt
line_fed start now (Some bytes) None c kept piece line at n k p low high = absurd k
line_fed start now (Some bytes) (Some rest) None kept piece line at n k p low high = absurd p
line_fed start now (Some bytes) (Some rest) (Some more) kept piece line at n k p low high = (
  k.text ++ piece,
  k.whole ∙ ap (λ (t : List ℕ). k.text ++ t) p ∙ sym (append_assoc k.text piece more),
  omega (arith, k.lines, low),
  inl (omega (arith, newlines_append k.text piece, k.lines, high)),
)

-- The line at which the reading continues.
pub line_here : {V : Type 0} (start now : Outlook V) (a b : Option (List ℕ)) (kept : List ℕ) (line n : ℕ)
    → Known start now a b kept line n → IsLineTaken a b line
line_here start now None b kept line n k = tt
line_here start now (Some bytes) None kept line n k = absurd k
line_here start now (Some bytes) (Some rest) kept line n k =
    (k.text, k.whole, omega (arith, k.lines), inl (omega (arith, k.lines)))

-- A text that ends within a line has this many lines.
lines_within : (front part : List ℕ) → HasNoNewline part → 0 < length part
    → length (text_lines (front ++ part)) ≡ newlines front + 1
lines_within [] part whole some = rw (slice_split_none (λ (b : ℕ). b == 10) part whole) (one part some)
  where
    one : (part : List ℕ) → 0 < length part → length (without_last_empty (part ∷ [])) ≡ 0 + 1
    one [] some = absurd (omega arith)
    one (b ∷ bs) some = refl
lines_within (b ∷ bs) part whole some =
    step (b == 10) (pieces (bs ++ part)) (newlines bs) (lines_within bs part whole some)
  where
    step : (c : Bool) (ps : List (List ℕ)) (n : ℕ) → length (without_last_empty ps) ≡ n + 1
        → length (without_last_empty (cond c ([] ∷ ps) (onto_first b ps))) ≡ cond c (n + 1) n + 1
    step true [] n e = absurd (omega (arith, e))
    step true (p ∷ ps) n e = omega (arith, e)
    step false [] n e = absurd (omega (arith, e))
    step false ([] ∷ []) n e = absurd (omega (arith, e))
    step false ((x ∷ xs) ∷ []) n e = e
    step false (p ∷ next ∷ ps) n e = e

-- The line of a fault that is reported at the end of the text.
line_ended : {V : Type 0} (start now : Outlook V) (a b c : Option (List ℕ)) (kept none : List ℕ) (line more at n : ℕ)
    → Known start now a b kept line n → Consumes b c none → none ≡ [] → IsAtEnd c → HasNoNewline kept
    → (more ≡ 0) ⊎ ((0 < length kept) × (more ≡ 1)) → at ≡ line + more → IsLineTaken a c at
line_ended start now None b c kept none line more at n k p empty end whole h is = tt
line_ended start now (Some bytes) None c kept none line more at n k p empty end whole h is = absurd k
line_ended start now (Some bytes) (Some rest) None kept none line more at n k p empty end whole h is = absurd p
line_ended start now (Some bytes) (Some rest) (Some left) kept none line more at n k p empty end whole h is =
    let same : rest ≡ left = p ∙ ap (λ (t : List ℕ). t ++ left) empty in
    let all : bytes ≡ k.text = k.whole ∙ ap (λ (t : List ℕ). k.text ++ t) (same ∙ end) ∙ append-nil k.text in (
      k.text,
      k.whole ∙ ap (λ (t : List ℕ). k.text ++ t) same,
      omega (arith, k.lines, is),
      elim h [
        | inl e ↦ inl (omega (arith, k.lines, is, e))
        | inr e ↦
            let lines = ap (λ (t : List ℕ). length (text_lines t)) (all ∙ k.ends.1)
            ∙ lines_within k.ends.0 kept whole e.0 in
            inr (
              end,
              omega (
                arith,
                k.lines,
                is,
                e.1,
                lines,
                ap newlines k.ends.1,
                newlines_append k.ends.0 kept,
                newlines_none kept whole,
              ),
            )
      ],
    )

-- an empty part is no line, another is one
one_or_none : (part : List ℕ) → (length (last_line part) ≡ 0) ⊎ ((0 < length part) × (length (last_line part) ≡ 1))
one_or_none [] = inl refl
one_or_none (b ∷ bs) = inr (omega arith, refl)

-- A fault that is reported at the end of the text is in a line of it, or after it.
pub lines_at_end : {V : Type 0} (start now : Outlook V) (a b c : Option (List ℕ)) (kept none : List ℕ) (line n : ℕ)
    (answer : Result V TextFault) → Known start now a b kept line n → Consumes b c none → none ≡ [] → IsAtEnd c
    → HasNoNewline kept
    → IfErr answer (λ f. f.line ≡ line_at_end line kept f) → IfErr answer (λ f. IsLineTaken a c f.line)
lines_at_end start now a b c kept none line n (Ok v) k p empty end whole h = tt
lines_at_end start now a b c kept none line n (Err f) k p empty end whole h = step (f.number == 10) h
  where
    step : (t : Bool) → f.line ≡ cond t (line + length (last_line kept)) line → IsLineTaken a c f.line
    step true h = line_ended start now a b c kept none line (length (last_line kept)) f.line n k p empty end whole
        (one_or_none kept) h
    step false h = line_ended start now a b c kept none line 0 f.line n k p empty end whole (inl refl)
        (omega (arith, h))
