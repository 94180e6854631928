-- The bytes are read as items exactly if their lines spell these, and else have a first fault.
use Rattle.std.proofs.lemmas.Grind.{common_steps}
use Rattle.std.proofs.Common.{◌≡◌, ◌≤◌, ◌+◌, ℕ, suc, List, [], ◌∷◌, ◌++◌, length, Option}
use Rattle.std.proofs.Common.{Result, Ok, Err, refl, sym, ap, subst, ◌∙◌, add-zero, zero-add, arith, inl, inr}
use Rattle.std.proofs.lemmas.List.{length-append}
use Rattle.hull_book.specs.Scripts.{ScriptValue}
use Rattle.hull_text.specs.declared.fault.TextFault.{TextFault}
use Rattle.hull_text.specs.Item.{Item}
use Rattle.hull_text.specs.ScriptLine.{script_line_of}
use Rattle.hull_text.specs.Field.{◌>>=◌}
use Rattle.hull_text.specs.ScriptText.{numbered, kept, items_of, pieces, script_items}
use Rattle.hull_text.specs.ScriptText.{without_last_empty}
use Rattle.hull_text.specs.ScriptValue.{script_of}
use Rattle.hull_text.specs.Reading.{AnswersAll}
use Rattle.hull_text.specs.ScriptReading.{AnswersScript, reading}
use Rattle.hull_text.specs.ScriptGrammar.{ReadsScript, ReadsKnownScript, AreScriptLines, IsScriptText}
use Rattle.hull_text.specs.ScriptGrammar.{HasLineFault, IsScriptFault}
use Rattle.hull_text.proofs.Binds.{bind_err, bind_ok, made_err, ok_is}
use Rattle.hull_text.proofs.NumberedLines.{FaultFrom, here, later, numbered_again, numbered_err, numbered_ok}
use Rattle.hull_text.proofs.NumberedLines.{numbered_stop}
use Rattle.hull_text.proofs.Grammars.{Grammar, fault_answered, known_then}
use Rattle.hull_text.proofs.ScriptLines.{at_start}
use Rattle.hull_text.proofs.ScriptSpelled.{line_takes, line_again}

-- The items that are read are those of the lines.
items_take : (n : ℕ) (ps : List (List ℕ)) (items : List Item) → n ≤ 33554433 → items_of n ps ≡ Ok items
    → AreScriptLines (without_last_empty ps) items × (n + length (without_last_empty ps) ≤ 33554433)
unfolding items_of
items_take n [] items le e = (sym (ok_is [] items e), omega arith)
items_take n ([] ∷ []) items le e = (sym (ok_is [] items e), omega arith)
items_take n ((b ∷ bs) ∷ []) items le e =
    let a = bind_ok (numbered n (script_line_of (b ∷ bs))) (λ s. Ok (kept s [])) items e in
    let t = numbered_ok n (script_line_of (b ∷ bs)) a.0 a.1 in
    ((a.0, [], line_takes (b ∷ bs) a.0 t.0, refl, sym (ok_is (kept a.0 []) items a.2)), omega (arith, t.1))
items_take n (line ∷ next ∷ lines) items le e =
    let a = bind_ok (numbered n (script_line_of line))
    (λ s. items_of (suc n) (next ∷ lines) >>= λ is. Ok (kept s is)) items e in
    let b = bind_ok (items_of (suc n) (next ∷ lines)) (λ is. Ok (kept a.0 is)) items a.2 in
    let t = numbered_ok n (script_line_of line) a.0 a.1 in
    let rest = items_take (suc n) (next ∷ lines) b.0 (omega (arith, t.1)) b.1 in
    ((a.0, b.0, line_takes line a.0 t.0, rest.0, sym (ok_is (kept a.0 b.0) items b.2)), omega (arith, rest.1))

-- The items of the lines are read.
items_again : (n : ℕ) (ps : List (List ℕ)) (items : List Item) → AreScriptLines (without_last_empty ps) items
    → n + length (without_last_empty ps) ≤ 33554433
    → items_of n ps ≡ Ok items
unfolding items_of
items_again n [] items h le = ap (λ (x : List Item). Ok x) (sym h)
items_again n ([] ∷ []) items h le = ap (λ (x : List Item). Ok x) (sym h)
items_again n ((b ∷ bs) ∷ []) items h le =
    rw (numbered_again n (script_line_of (b ∷ bs)) h.0 (line_again (b ∷ bs) h.0 h.2) (omega arith))
    (ap (λ (x : List Item). Ok x) (ap (kept h.0) (sym h.3) ∙ sym h.4))
items_again n (line ∷ next ∷ lines) items h le =
    let rest : items_of (suc n) (next ∷ lines) ≡ Ok h.1 = items_again (suc n) (next ∷ lines) h.1 h.3 (omega arith) in
    rw (numbered_again n (script_line_of line) h.0 (line_again line h.0 h.2) (omega arith), rest)
    (ap (λ (x : List Item). Ok x) (sym h.4))

-- The items that are read make the script whose text the bytes are.
script_taken : (bytes : List ℕ) (items : List Item) → script_items bytes ≡ Ok items
    → IsScriptText bytes (script_of items)
script_taken bytes items e =
    let t = items_take 1 (pieces bytes) items (omega arith) e in
    record { items = items; lines = t.0; count = omega (arith, t.1); value = refl }

-- A text of a script is read.
script_again : (bytes : List ℕ) (script : ScriptValue) (s : IsScriptText bytes script)
    → script_items bytes ≡ Ok s.items
script_again bytes script s = items_again 1 (pieces bytes) s.items s.lines (omega (arith, s.count))

-- ---- faults

-- the first of these lines with a fault, if m others precede them
abbrev FaultOf : TextFault → ℕ → List (List ℕ) → Type 0
FaultOf f m lines = FaultFrom AreScriptLines (λ n line after. (f.line ≡ suc n) × HasLineFault n line f.number) m lines

-- The fault that is read is that of the first line with one.
items_fault : (m : ℕ) (ps : List (List ℕ)) (f : TextFault) → m ≤ 33554432 → items_of (suc m) ps ≡ Err f
    → FaultOf f m (without_last_empty ps)
unfolding items_of
items_fault m [] f le e = absurd cc
items_fault m ([] ∷ []) f le e = absurd cc
items_fault m ((b ∷ bs) ∷ []) f le e =
    here m (b ∷ bs) [] refl (numbered_err 33554432 m (suc m) (script_line_of (b ∷ bs)) f (omega arith) le
    (made_err (λ s. kept s []) (numbered (suc m) (script_line_of (b ∷ bs))) f e))
items_fault m (line ∷ next ∷ lines) f le e =
    elim (bind_err (numbered (suc m) (script_line_of line))
    (λ s. items_of (suc (suc m)) (next ∷ lines) >>= λ is. Ok (kept s is)) f e) [
      | inl h ↦
          here m line (without_last_empty (next ∷ lines)) refl
          (numbered_err 33554432 m (suc m) (script_line_of line) f (omega arith) le h)
      | inr h ↦
          let t = numbered_ok (suc m) (script_line_of line) h.0 h.1 in
          later m line (without_last_empty (next ∷ lines)) (kept h.0)
          (λ before items right. (h.0, items, line_takes line h.0 t.0, right, refl))
          (items_fault (suc m) (next ∷ lines) f (omega (arith, t.1))
          (made_err (kept h.0) (items_of (suc (suc m)) (next ∷ lines)) f h.2))
    ]

-- The fault that is read is the first one of the bytes.
script_fault_is : (bytes : List ℕ) (f : TextFault) → script_items bytes ≡ Err f → IsScriptFault bytes f
script_fault_is bytes f e = grind (arith, common_steps, items_fault, pieces, zero-add)

-- ---- the first fault of the bytes is read

-- the fault of the first line is the one that is read
first_stop : (m : ℕ) (p line : List ℕ) (f : TextFault) → p ≡ line → f.line ≡ suc (m + 0)
    → HasLineFault (m + 0) line f.number → numbered (suc m) (script_line_of p) ≡ Err f
first_stop m p line f e place h =
    rw e (numbered_stop 33554432 m (suc m) (script_line_of line) f (omega arith) (rw (add-zero m) at place)
    (rw (add-zero m) at h))

-- the first of equal lists
first_is : {A : Type 0} (x y : A) (xs ys : List A) → x ∷ xs ≡ y ∷ ys → x ≡ y
first_is x y xs ys e = cc

-- the others of equal lists
others_are : {A : Type 0} (x y : A) (xs ys : List A) → x ∷ xs ≡ y ∷ ys → xs ≡ ys
others_are x y xs ys e = cc

-- A piece after right lines has the fault.
items_stop : (m : ℕ) (ps before : List (List ℕ)) (line : List ℕ) (after : List (List ℕ)) (items : List Item)
    (f : TextFault) → without_last_empty ps ≡ before ++ line ∷ after → AreScriptLines before items
    → f.line ≡ suc (m + length before) → HasLineFault (m + length before) line f.number → items_of (suc m) ps ≡ Err f
unfolding items_of
items_stop m [] before line after items f whole right place h =
    absurd (omega (arith, ap length whole, length-append before (line ∷ after)))
items_stop m ([] ∷ []) before line after items f whole right place h =
    absurd (omega (arith, ap length whole, length-append before (line ∷ after)))
items_stop m ((b ∷ bs) ∷ []) [] line after items f whole right place h =
    rw (first_stop m (b ∷ bs) line f (first_is (b ∷ bs) line [] after whole) place h) refl
items_stop m ((b ∷ bs) ∷ []) (l ∷ before) line after items f whole right place h =
    absurd (omega (arith, ap length whole, length-append before (line ∷ after)))
items_stop m (p ∷ next ∷ ps) [] line after items f whole right place h =
    rw (first_stop m p line f (first_is p line (without_last_empty (next ∷ ps)) after whole) place h) refl
items_stop m (p ∷ next ∷ ps) (l ∷ before) line after items f whole right place h =
    let same : m + length (l ∷ before) ≡ suc m + length before = omega arith in
    let said : script_line_of p ≡ Ok right.0 =
    ap script_line_of (first_is p l (without_last_empty (next ∷ ps)) (before ++ line ∷ after) whole)
    ∙ line_again l right.0 right.2 in
    let more = items_stop (suc m) (next ∷ ps) before line after right.1 f
    (others_are p l (without_last_empty (next ∷ ps)) (before ++ line ∷ after) whole) right.3 (omega (arith, place))
    (subst (λ (k : ℕ). HasLineFault k line f.number) same h) in
    rw (
      numbered_again (suc m) (script_line_of p) right.0 said
          (omega (arith, few (m + length (l ∷ before)) h)),
      more,
    ) refl
  where
    few : (k : ℕ) → HasLineFault k line f.number → k ≤ 33554432
    few k (inl h) = omega (arith, h.0)
    few k (inr h) = omega (arith, h.0)

-- The first fault of the bytes is the one that is read.
script_fault_again : (bytes : List ℕ) (f : TextFault) → IsScriptFault bytes f → script_items bytes ≡ Err f
script_fault_again bytes f s =
    let none : length s.before ≡ 0 + length s.before = omega arith in
    items_stop 0 (pieces bytes) s.before s.line s.after s.items f s.whole s.right
    (omega (arith, s.place)) (subst (λ (n : ℕ). HasLineFault n s.line f.number) none s.fault)

-- The texts of scripts have a grammar.
pub scripts : Grammar script_of script_items IsScriptText IsScriptFault
scripts = record {
  takes = script_taken;
  again = λ bytes script s. (s.items, s.value, script_again bytes script s);
  fails = script_fault_is;
  fails_again = script_fault_again;
}

-- The answer of a reader of items is right for the bytes.
pub reads_known : (known : Option (List ℕ)) (items : List Item) (n : ℕ) (answer : Result ScriptValue TextFault)
    → items ≡ [] → n ≡ 1 → AnswersAll (AnswersScript items n) known answer → ReadsKnownScript known answer
reads_known known items n answer none first h =
    known_then (AnswersScript items n) ReadsScript answer answer known
    (λ bytes a. step bytes answer (rw (none, first) at a)) h
  where
    step : (bytes : List ℕ) (answer : Result ScriptValue TextFault) → AnswersScript [] 1 bytes answer
        → ReadsScript bytes answer
    step bytes (Ok v) h = subst (λ (script : ScriptValue). IsScriptText bytes script) (sym h.2)
        (script_taken bytes h.0 (sym (at_start bytes) ∙ h.1))
    step bytes (Err f) h = fault_answered scripts bytes f (reading [] 1 bytes) (at_start bytes) h
