-- Lines of a text.
use Rattle.std.proofs.lemmas.Grind.{common_steps}
use Rattle.std.proofs.Common.{◌≡◌, ◌<◌, ◌+◌, ℕ, zero, suc, List, [], ◌∷◌, ◌++◌, length, get_or, take, drop, false, refl}
use Rattle.std.proofs.Common.{sym, ap, subst, ◌∙◌, arith, append_assoc, Some, None, Err}
use Rattle.std.specs.Prelude.{◌==◌}
use Rattle.std.proofs.lemmas.Bool.{eqb-true, ne_eqb}
use Rattle.std.proofs.lemmas.List.Elements.{All-cons, All-nil}
use Rattle.memchr.specs.Find.{IsFirstByte, is_byte}
use Rattle.hull_text.specs.declared.fault.TextFault.{TextFault}
use Rattle.hull_text.specs.Reading.{HasNoNewline, Outlook, ReadsOn, FailsIn, newlines}

-- If the first newline is after some bytes, these are the first line.
pub newline_at : (text : List ℕ) (i : ℕ) → i < length text → get_or text i 0 ≡ 10
    → ((k : ℕ) → k < i → get_or text k 0 ≡ 10 → ⊥)
    → HasNoNewline (take i text) × (text ≡ take i text ++ 10 ∷ drop 1 (drop i text))
newline_at [] i lt here before = absurd (omega arith)
newline_at (b ∷ bs) zero lt here before = (All-nil (λ b. (b == 10) ≡ false), ap (λ (x : ℕ). x ∷ bs) here)
newline_at (b ∷ bs) (suc i) lt here before =
    let ne : (b == 10) ≡ false = ne_eqb b 10 (before 0 (omega arith)) in
    let more = newline_at bs i (omega arith) here (λ k h. before (suc k) (omega arith)) in
    (All-cons (λ b. (b == 10) ≡ false) b (take i bs) ne more.0, ap (λ (x : List ℕ). b ∷ x) more.1)

-- If no newline is left, the rest is a part of a line.
pub newline_none : (text : List ℕ) → ((k : ℕ) → k < length text → get_or text k 0 ≡ 10 → ⊥) → HasNoNewline text
newline_none [] none = All-nil (λ b. (b == 10) ≡ false)
newline_none (b ∷ bs) none =
    All-cons (λ b. (b == 10) ≡ false) b bs (ne_eqb b 10 (none 0 (omega arith)))
    (newline_none bs (λ k h. none (suc k) (omega arith)))

-- If the search for a newline found one, the first line is before it.
pub first_newline : (text : List ℕ) (i : ℕ) → IsFirstByte (is_byte 10) text (Some i)
    → HasNoNewline (take i text) × (text ≡ take i text ++ 10 ∷ drop 1 (drop i text))
first_newline text i found =
    newline_at text i found.0.high (eqb-true (get_or text i 0) 10 found.1)
    (λ k lt e. found.0.before k (omega arith) lt (rw e refl))

-- If it found none, the text is a part of a line.
pub no_newline : (text : List ℕ) → IsFirstByte (is_byte 10) text None → HasNoNewline text
no_newline text none = newline_none text (λ k lt e. none k (omega arith) lt (rw e refl))

-- A text that begins with a line: the parts of the line, its newline, and the text after it.
around : (kept line after left rest : List ℕ) → left ≡ line ++ 10 ∷ after
    → (kept ++ line ++ 10 ∷ []) ++ (after ++ rest) ≡ kept ++ left ++ rest
around kept line after left rest e = grind (arith, common_steps, append_assoc)

-- One more line was taken.
pub reads_on_line : {V : Type 0} (start mid new : Outlook V) (text kept line after left empty : List ℕ)
    → ReadsOn start mid text (kept ++ left) → left ≡ line ++ 10 ∷ after → empty ≡ []
    → ReadsOn mid new (kept ++ line ++ 10 ∷ []) [] → ReadsOn start new text (empty ++ after)
reads_on_line start mid new text kept line after left empty on e none more = grind (arith, common_steps, around)

-- The rest is still the end of the text.
pub tail_on_line : (all kept line after left empty : List ℕ) → (front : List ℕ) × (all ≡ front ++ (kept ++ left))
    → left ≡ line ++ 10 ∷ after → empty ≡ [] → (front : List ℕ) × (all ≡ front ++ (empty ++ after))
tail_on_line all kept line after left empty h e none = (
  h.0 ++ kept ++ line ++ 10 ∷ [],
  h.1 ∙ ap (λ (t : List ℕ). h.0 ++ (kept ++ t)) e ∙ regroup h.0 kept line after
      ∙ ap (λ (t : List ℕ). (h.0 ++ kept ++ line ++ 10 ∷ []) ++ (t ++ after)) (sym none),
)
  where
    regroup : (front kept line after : List ℕ)
        → front ++ (kept ++ (line ++ 10 ∷ after)) ≡ (front ++ kept ++ line ++ 10 ∷ []) ++ after
    regroup front kept line after = simp append_assoc

-- A line that was taken has a fault.
pub fails_on_line : {V : Type 0} (start mid : Outlook V) (text kept line after left : List ℕ) (f : TextFault)
    → ReadsOn start mid text (kept ++ left) → left ≡ line ++ 10 ∷ after
    → FailsIn mid (kept ++ line ++ 10 ∷ []) f → FailsIn start text f
fails_on_line start mid text kept line after left f on e more = λ rest.
    on rest (Err f) (subst (λ (t : List ℕ). mid t (Err f)) (around kept line after left rest e) (more (after ++ rest)))

-- A part of a line has no newline.
pub newlines_none : (text : List ℕ) → HasNoNewline text → newlines text ≡ 0
newlines_none [] whole = refl
newlines_none (b ∷ bs) whole = rw (whole 0 0 (omega arith)) (newlines_none bs (λ k d lt. whole (suc k) d (omega arith)))

-- A line ends with one newline.
pub newlines_line : (line after : List ℕ) → HasNoNewline line → newlines (line ++ 10 ∷ after) ≡ newlines after + 1
newlines_line [] after whole = refl
newlines_line (b ∷ bs) after whole =
    rw (whole 0 0 (omega arith)) (newlines_line bs after (λ k d lt. whole (suc k) d (omega arith)))
