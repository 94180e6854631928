-- Grammars of texts: the values whose text the bytes are and their first faults, by what reading gives.
use Rattle.std.proofs.Common.{arith}
use Rattle.std.proofs.lemmas.Grind.{common_steps}
use Rattle.std.proofs.Common.{◌≡◌, ◌⊎◌, ◌≤◌, ℕ, List, Option, Some, None, Result, Ok, Err, refl, sym, ap, ◌∙◌, inl, inr}
use Rattle.hull_text.specs.declared.fault.TextFault.{TextFault}
use Rattle.hull_text.specs.Fault.{IsOutside, IsServed, NoFaultBefore}
use Rattle.hull_text.specs.Reading.{AnswersAll, Outlook, Reads}
use Rattle.hull_text.proofs.Binds.{err_is, no_fault, ok_is}

-- A grammar: a value that is read is the value of a text, and bytes that are no text have the fault that is read.
pub record Grammar {X V : Type 0} (value : X → V) (read : List ℕ → Result X TextFault) (IsText : List ℕ → V → Type 0)
    (IsFault : List ℕ → TextFault → Type 0) : Type 0 where
  pub takes : (bytes : List ℕ) (x : X) → read bytes ≡ Ok x → IsText bytes (value x)
  pub again : (bytes : List ℕ) (v : V) → IsText bytes v → (x : X) × (v ≡ value x) × (read bytes ≡ Ok x)
  pub fails : (bytes : List ℕ) (f : TextFault) → read bytes ≡ Err f → IsFault bytes f
  pub fails_again : (bytes : List ℕ) (f : TextFault) → IsFault bytes f → read bytes ≡ Err f

module _ {X V : Type 0} {value : X → V} {read : List ℕ → Result X TextFault} {IsText : List ℕ → V → Type 0}
    {IsFault : List ℕ → TextFault → Type 0} (grammar : Grammar value read IsText IsFault) (bytes : List ℕ) where
  -- The bytes are the text of one value.
  pub one_value : (v w : V) → IsText bytes v → IsText bytes w → v ≡ w
  one_value v w s t = grind (arith, common_steps, ok_is)

  -- They have one first fault.
  pub one_fault : (f g : TextFault) → IsFault bytes f → IsFault bytes g → f ≡ g
  one_fault f g s t = err_is {A = X} f g (sym (grammar.fails_again bytes f s) ∙ grammar.fails_again bytes g t)

  -- Bytes that are a text have no fault.
  pub no_text_fails : (v : V) (f : TextFault) → IsText bytes v → IsFault bytes f → ⊥
  no_text_fails v f s t = grind (arith, common_steps, no_fault)

  -- Bytes that are no text have a fault.
  pub text_or_fault : ((v : V) × IsText bytes v) ⊎ ((f : TextFault) × IsFault bytes f)
  text_or_fault = step (read bytes) refl
    where
      step : (r : Result X TextFault) → read bytes ≡ r → ((v : V) × IsText bytes v) ⊎ ((f : TextFault) × IsFault bytes f)
      step (Ok x) e = inl (value x, grammar.takes bytes x e)
      step (Err f) e = inr (f, grammar.fails bytes f e)

  -- Two readers for which device and memory did not fail answer the same.
  pub one_answer : (a b : Result V TextFault) → Reads (IsText bytes) (IsFault bytes) a
      → Reads (IsText bytes) (IsFault bytes) b → IsServed a → IsServed b → a ≡ b
  one_answer (Ok v) (Ok w) s t own other = ap (λ (u : V). Ok u) (one_value v w s t)
  one_answer (Ok v) (Err g) s (inl t) own other = absurd (other t.0)
  one_answer (Ok v) (Err g) s (inr t) own other = absurd (no_text_fails v g s t)
  one_answer (Err f) b (inl s) t own other = absurd (own s.0)
  one_answer (Err f) (Ok w) (inr s) t own other = absurd (no_text_fails w f t s)
  one_answer (Err f) (Err g) (inr s) (inl t) own other = absurd (other t.0)
  one_answer (Err f) (Err g) (inr s) (inr t) own other = ap (λ (h : TextFault). Err h) (one_fault f g s t)

  -- A fault in an answer is the one that is read, or it is from outside and none is read before it.
  pub fault_answered : (f : TextFault) (r : Result X TextFault) → r ≡ read bytes
      → (IsOutside f × NoFaultBefore f.line r) ⊎ (r ≡ Err f) → Reads (IsText bytes) (IsFault bytes) (Err f)
  fault_answered f r same (inl o) = inl (o.0, λ g s. not_before g (same ∙ grammar.fails_again bytes g s))
    where
      not_before : (g : TextFault) → r ≡ Err g → f.line ≤ g.line
      not_before g e = rw e at o.1
  fault_answered f r same (inr e) = inr (grammar.fails bytes f (sym same ∙ e))

-- An answer that is right for all bytes is right for bytes that may be unknown.
pub known_then : {V W : Type 0} (P : Outlook V) (Q : Outlook W) (a : Result V TextFault) (b : Result W TextFault)
    (known : Option (List ℕ)) → ((bytes : List ℕ) → P bytes a → Q bytes b) → AnswersAll P known a → AnswersAll Q known b
known_then P Q a b None then h = tt
known_then P Q a b (Some bytes) then h = λ small. then bytes (h small)
