-- A line of a script is read as a value exactly if it is spelled as that value.
use Rattle.std.proofs.lemmas.Grind.{common_steps}
use Rattle.std.proofs.Common.{◌≡◌, ◌≤◌, ℕ, List, [], ◌∷◌, ◌++◌, Option, Some, None, true, false, cond, not, Ok, decimal}
use Rattle.std.proofs.Common.{codes, refl, sym, ap, subst, ◌∙◌, arith, inl, inr}
use Rattle.std.specs.Prelude.{◌==◌}
use Rattle.std.specs.List.{join_with_byte}
use Rattle.std.specs.Str.{bytes_eq}
use Rattle.std.proofs.lemmas.Bool.{eqb-true, ne_eqb}
use Rattle.std.proofs.lemmas.List.{append-nil}
use Rattle.std.proofs.lemmas.List.Splits.{join_with_byte-slice_split}
use Rattle.hull_set.specs.declared.call.Call.{Call}
use Rattle.hull_text.specs.declared.fault.FaultKind.TheVariants.{Form}
use Rattle.hull_text.specs.Version.{newest}
use Rattle.hull_text.specs.Item.{Item}
use Rattle.hull_text.specs.Number.{number_of}
use Rattle.hull_text.specs.Form.{has_form, has_form_after}
use Rattle.hull_text.specs.Field.{◌>>=◌, Field, seat_at, ended}
use Rattle.hull_text.specs.Call.{call_at}
use Rattle.hull_text.specs.ScriptLine.{served_at, script_line_of}
use Rattle.hull_text.specs.Spelling.{IsCall, call_fields}
use Rattle.hull_text.specs.ScriptGrammar.{IsScriptLine}
use Rattle.hull_text.proofs.Numbers.{text_number}
use Rattle.hull_text.proofs.Binds.{chosen, bind_ok, ok_is, guard_err, word_is}
use Rattle.hull_text.proofs.Fields.{first_digit, seats}
use Rattle.hull_text.proofs.Calls.{calls}
use Rattle.hull_text.proofs.Joined.{cut, decimal_field, is_line, joined_form, split_joined}
use Rattle.hull_text.proofs.Formats.{alone}

-- No field is left after the last one.
pub ended_ok : {X : Type 0} (x y : X) (fs : List Field) → ended x fs ≡ Ok y → (fs ≡ []) × (x ≡ y)
ended_ok x y [] e = (refl, ok_is x y e)
ended_ok x y (f ∷ fs) e = absurd cc

-- A served call that is read is spelled by its fields.
served_takes : (fs : List Field) (s : Option Item) → served_at fs ≡ Ok s
    → (order : ℕ × Call) × (s ≡ Some (Some order)) × (fs ≡ decimal order.0 ∷ call_fields order.1) × (order.0 ≤ 63)
    × IsCall newest order.1
unfolding served_at
served_takes fs s e =
    let a = bind_ok (seat_at fs) (λ w. call_at newest w.1 >>= λ c. ended (Some (Some (w.0, c.0))) c.1) s e in
    let b = bind_ok (call_at newest a.0.1) (λ c. ended (Some (Some (a.0.0, c.0))) c.1) s a.2 in
    let d = ended_ok (Some (Some (a.0.0, b.0.0))) s b.0.1 b.2 in
    let p = seats.takes fs a.0 a.1 in
    let t = (calls newest).takes a.0.1 b.0 b.1 in (
      (a.0.0, b.0.0),
      sym d.1,
      p.0 ∙ ap (λ (r : List Field). decimal a.0.0 ∷ r)
          (t.0 ∙ ap (λ (r : List Field). call_fields b.0.0 ++ r) d.0 ∙ append-nil (call_fields b.0.0)),
      p.1,
      t.1,
    )

-- A served call that is spelled is read.
served_again : (w : ℕ) (c : Call) → w ≤ 63 → IsCall newest c
    → served_at (decimal w ∷ call_fields c) ≡ Ok (Some (Some (w, c)))
unfolding served_at
served_again w c low fits = rw (seats.again w (call_fields c) low, alone (calls newest) c fits) refl

-- The value of a line is spelled by it.
pub line_takes : (line : List ℕ) (s : Option Item) → script_line_of line ≡ Ok s → IsScriptLine line s
unfolding script_line_of
line_takes [] s e = subst (IsScriptLine []) (ok_is None s e) (inl refl)
line_takes (b ∷ bs) s e = elim (chosen (b == 35) (Ok None) _ (Ok s) e) [
  | inl h ↦ subst (IsScriptLine (b ∷ bs)) (ok_is None s h.1) (inr (bs, ap (λ (x : ℕ). x ∷ bs) (eqb-true b 35 h.0)))
  | inr h ↦
      let g = guard_err (not (has_form (b ∷ bs)))
      (cond (bytes_eq (b ∷ bs) (codes "join")) (Ok (Some None)) (served_at (cut (b ∷ bs)))) Form s h.1 in
      elim (chosen (bytes_eq (b ∷ bs) (codes "join")) (Ok (Some None)) (served_at (cut (b ∷ bs))) (Ok s) g.1) [
        | inl k ↦ subst (IsScriptLine (b ∷ bs)) (ok_is (Some None) s k.1) (word_is (b ∷ bs) (codes "join") k.0)
        | inr k ↦
            let t = served_takes (cut (b ∷ bs)) s k.1 in
            subst (IsScriptLine (b ∷ bs)) (sym t.1)
            (sym (join_with_byte-slice_split 32 (b ∷ bs)) ∙ ap (join_with_byte 32) t.2, t.3, t.4)
      ]
]

-- A line that begins with a digit and has the form is a call
digit_line : (line : List ℕ) (b : ℕ) (bs : List ℕ) → line ≡ b ∷ bs → 48 ≤ b → b ≤ 57 → has_form_after true line ≡ true
    → script_line_of line ≡ served_at (cut line)
unfolding script_line_of has_form
digit_line line b bs is low high form = grind (arith, common_steps, has_form_after, true, false, ne_eqb)

-- A number's text begins with a digit.
pub first_of : (f : List ℕ) (n : ℕ) → number_of f ≡ Some n
    → (b : ℕ) × (bs : List ℕ) × (f ≡ b ∷ bs) × (48 ≤ b) × (b ≤ 57)
unfolding number_of
first_of [] n e = absurd cc
first_of (b ∷ bs) n e =
    let d = first_digit b bs n e in
    (b, bs, refl, d.0, d.1)

-- Joined fields begin as the first does.
pub joined_first : (f : List ℕ) (fs : List (List ℕ)) (b : ℕ) (bs : List ℕ) → f ≡ b ∷ bs
    → (rest : List ℕ) × (join_with_byte 32 (f ∷ fs) ≡ b ∷ rest)
joined_first f [] b bs e = (bs, e)
joined_first f (g ∷ gs) b bs e =
    (bs ++ 32 ∷ join_with_byte 32 (g ∷ gs), ap (λ (t : List ℕ). t ++ 32 ∷ join_with_byte 32 (g ∷ gs)) e)

-- A call that is spelled is read.
call_line : (w : ℕ) (c : Call) → w ≤ 63 → IsCall newest c
    → script_line_of (join_with_byte 32 (decimal w ∷ call_fields c)) ≡ Ok (Some (Some (w, c)))
call_line w c low fits =
    let fs = decimal w ∷ call_fields c in
    let fields : is_line fs ≡ true = rw (decimal_field w (omega arith)) ((calls newest).fields c fits) in
    let first = first_of (decimal w) w (text_number w (omega arith)) in
    let begins = joined_first (decimal w) (call_fields c) first.0 first.1 first.2 in
    digit_line (join_with_byte 32 fs) first.0 begins.0 begins.1 first.3 first.4 (joined_form fs fields)
    ∙ ap served_at (split_joined fs fields) ∙ served_again w c low fits

-- the line that ends a phase
join_line : script_line_of (codes "join") ≡ Ok (Some None)
unfolding script_line_of has_form
join_line = refl

-- A spelled line is read.
pub line_again : (line : List ℕ) (s : Option Item) → IsScriptLine line s → script_line_of line ≡ Ok s
unfolding script_line_of
line_again line None h = grind (arith, common_steps)
line_again line (Some None) h = ap script_line_of h ∙ join_line
line_again line (Some (Some order)) h = ap script_line_of h.0 ∙ call_line order.0 order.1 h.1 h.2
