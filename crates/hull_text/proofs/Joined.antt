-- Fields as bytes, joined by spaces and cut apart again.
use Rattle.std.proofs.Common.{◌≡◌, ◌<◌, ◌≤◌, ◌+◌, ◌-◌, ◌*◌, ◌^◌, ℕ, suc, List, [], ◌∷◌, ◌++◌, Some, Bool, true}
use Rattle.std.proofs.Common.{false, cond, not, decimal, refl, sym, ap, ◌∙◌, arith}
use Rattle.std.specs.Prelude.{◌==◌, ◌&&◌, nat_le, ℤ, pos, negsuc}
use Rattle.std.specs.Fmt.{signed_decimal}
use Rattle.std.specs.List.{slice_split, join_with_byte}
use Rattle.std.proofs.lemmas.List.{append-nil}
use Rattle.std.proofs.lemmas.Bool.Decides.{nat_tests}
use Rattle.hull_text.specs.declared.version.Version.{Version}
use Rattle.hull_text.specs.Version.{coordinate_limit}
use Rattle.hull_text.specs.Number.{is_digit, digits_after, number_of}
use Rattle.hull_text.specs.Form.{has_form_after}
use Rattle.hull_text.specs.Spelling.{IsSized}
use Rattle.hull_text.specs.Reading.{HasNoNewline}
use Rattle.std.proofs.lemmas.Bool.{eqb-true, ne_eqb}
use Rattle.std.proofs.lemmas.List.Elements.{All-cons, All-nil}
use Rattle.hull_text.proofs.Numbers.{guard_some, guard_not, digit_low, text_number}
use Rattle.hull_text.proofs.Versions.{limit_small}

-- bytes from 33 to 126
abbrev pub is_plain : List ℕ → Bool
is_plain [] = true
is_plain (b ∷ bs) = (nat_le 33 b && nat_le b 126) && is_plain bs

-- both parts of a conjunction hold
both : (a b : Bool) → (a && b) ≡ true → (a ≡ true) × (b ≡ true)
both true b e = (refl, e)
both false b e = absurd cc

-- a digit is a byte of a field
digit_plain : (b : ℕ) → 48 ≤ b → b ≤ 57 → (nat_le 33 b && nat_le b 126) ≡ true
digit_plain b low high = grind (arith, nat_tests)

-- digits are bytes of a field
digits_plain : (cs : List ℕ) (m n : ℕ) → digits_after m cs ≡ Some n → is_plain cs ≡ true
unfolding digits_after
digits_plain [] m n e = refl
digits_plain (c ∷ cs) m n e =
    let g = guard_some (is_digit c) (digits_after (m * 10 + (c - 48)) cs) n e in
    let d = digit_low c g.0 in
    rw (digit_plain c d.0 d.1) (digits_plain cs (m * 10 + (c - 48)) n g.1)

-- a field: at least one byte, and none of them a space
abbrev pub is_field : List ℕ → Bool
is_field [] = false
is_field (b ∷ bs) = is_plain (b ∷ bs)

-- these are fields
abbrev pub are_fields : List (List ℕ) → Bool
are_fields [] = true
are_fields (f ∷ fs) = is_field f && are_fields fs

-- these are the fields of a line: at least one
abbrev pub is_line : List (List ℕ) → Bool
is_line [] = false
is_line (f ∷ fs) = is_field f && are_fields fs

-- the bytes of a field
field_plain : (f : List ℕ) → is_field f ≡ true → is_plain f ≡ true
field_plain [] e = refl
field_plain (b ∷ bs) e = e

-- an unsigned number is a field
number_field : (f : List ℕ) (n : ℕ) → number_of f ≡ Some n → is_field f ≡ true
unfolding number_of
number_field [] n e = absurd cc
number_field (b ∷ []) n e = digits_plain (b ∷ []) 0 n e
number_field (b ∷ c ∷ bs) n e =
    digits_plain (b ∷ c ∷ bs) 0 n (guard_not (b == 48) (digits_after 0 (b ∷ c ∷ bs)) n e).1

-- The text of a number is a field.
pub decimal_field : (n : ℕ) → n < 10 ^ 64 → is_field (decimal n) ≡ true
decimal_field n small = number_field (decimal n) n (text_number n small)

-- The text of a signed number is a field.
pub signed_field : (v : Version) (z : ℤ) → IsSized (coordinate_limit v) z → is_field (signed_decimal z) ≡ true
signed_field v (pos n) fits = decimal_field n (omega (arith, limit_small v, fits))
signed_field v (negsuc n) fits =
    field_plain (decimal (suc n)) (decimal_field (suc n) (omega (arith, limit_small v, fits)))

-- Two lists of fields are one.
pub fields_append : (fs gs : List (List ℕ)) → are_fields fs ≡ true → are_fields gs ≡ true → are_fields (fs ++ gs) ≡ true
fields_append [] gs h k = k
fields_append (f ∷ fs) gs h k =
    let p = both (is_field f) (are_fields fs) h in
    rw p.0 (fields_append fs gs p.1 k)

-- A byte of a field is no space.
no_space : (b : ℕ) → (nat_le 33 b && nat_le b 126) ≡ true → (b == 32) ≡ false
no_space b e = grind (arith, nat_tests)

-- the test for the form passes over a field
form_skip : (s : Bool) (f rest : List ℕ) → is_field f ≡ true → has_form_after s (f ++ rest) ≡ has_form_after false rest
form_skip s [] rest plain = absurd cc
form_skip s (b ∷ []) rest plain =
    let p = both (nat_le 33 b && nat_le b 126) true plain in
    rw (no_space b p.0, p.0) refl
form_skip s (b ∷ c ∷ bs) rest plain =
    let p = both (nat_le 33 b && nat_le b 126) (is_plain (c ∷ bs)) plain in
    rw (no_space b p.0, p.0) (form_skip false (c ∷ bs) rest p.1)

-- Fields that are joined by spaces have the form of a line.
pub joined_form : (fs : List (List ℕ)) → is_line fs ≡ true → has_form_after true (join_with_byte 32 fs) ≡ true
joined_form [] h = absurd cc
joined_form (f ∷ []) h = ap (has_form_after true) (sym (append-nil f)) ∙ form_skip true f [] (both (is_field f) true h).0
joined_form (f ∷ g ∷ gs) h =
    let p = both (is_field f) (are_fields (g ∷ gs)) h in
    form_skip true f (32 ∷ join_with_byte 32 (g ∷ gs)) p.0 ∙ joined_form (g ∷ gs) p.1

-- the fields of a text
abbrev pub cut : List ℕ → List (List ℕ)
cut text = slice_split (λ b. b == 32) text

-- a field and a space are cut off
split_skip : (f rest : List ℕ) → is_plain f ≡ true → cut (f ++ 32 ∷ rest) ≡ f ∷ cut rest
split_skip [] rest plain = refl
split_skip (b ∷ bs) rest plain =
    let p = both (nat_le 33 b && nat_le b 126) (is_plain bs) plain in
    rw (no_space b p.0, split_skip bs rest p.1) refl

-- the last field is cut off
split_last : (f : List ℕ) → is_plain f ≡ true → cut f ≡ f ∷ []
split_last [] plain = refl
split_last (b ∷ bs) plain =
    let p = both (nat_le 33 b && nat_le b 126) (is_plain bs) plain in
    rw (no_space b p.0, split_last bs p.1) refl

-- Fields that were joined are cut apart again.
pub split_joined : (fs : List (List ℕ)) → is_line fs ≡ true → cut (join_with_byte 32 fs) ≡ fs
split_joined [] h = absurd cc
split_joined (f ∷ []) h = split_last f (field_plain f (both (is_field f) true h).0)
split_joined (f ∷ g ∷ gs) h =
    let p = both (is_field f) (are_fields (g ∷ gs)) h in
    split_skip f (join_with_byte 32 (g ∷ gs)) (field_plain f p.0)
    ∙ ap (λ (r : List (List ℕ)). f ∷ r) (split_joined (g ∷ gs) p.1)

-- what has the form of a line has no newline
formed_whole : (s : Bool) (line : List ℕ) → has_form_after s line ≡ true → HasNoNewline line
formed_whole s [] e = All-nil (λ b. (b == 10) ≡ false)
formed_whole s (b ∷ bs) e = step (b == 32) refl e (λ t h. formed_whole t bs h)
  where
    above : (b : ℕ) → (nat_le 33 b && nat_le b 126) ≡ true → (b == 10) ≡ false
    above b e = grind (arith, nat_tests)

    step : (t : Bool) → (b == 32) ≡ t
        → cond t (not s && has_form_after true bs) (nat_le 33 b && nat_le b 126 && has_form_after false bs) ≡ true
        → ((t : Bool) → has_form_after t bs ≡ true → HasNoNewline bs) → HasNoNewline (b ∷ bs)
    step true t h rest =
        let p = both (not s) (has_form_after true bs) h in
        All-cons (λ b. (b == 10) ≡ false) b bs (ne_eqb b 10 (λ same. omega (arith, same, eqb-true b 32 t)))
        (rest true p.1)
    step false t h rest =
        let p = both (nat_le 33 b && nat_le b 126) (has_form_after false bs) h in
        All-cons (λ b. (b == 10) ≡ false) b bs (above b p.0) (rest false p.1)

-- Fields that are joined have no newline.
pub joined_whole : (fs : List (List ℕ)) → is_line fs ≡ true → HasNoNewline (join_with_byte 32 fs)
joined_whole fs h = formed_whole true (join_with_byte 32 fs) (joined_form fs h)
