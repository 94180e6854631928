-- Lines of a text by their numbers: the value of one, and the first with a fault.
use Rattle.std.proofs.lemmas.Grind.{common_steps}
use Rattle.std.proofs.Common.{◌≡◌, ◌<◌, ◌≤◌, ◌+◌, ℕ, suc, List, [], ◌∷◌, ◌++◌, length, Result, Ok, Err, refl, ap}
use Rattle.std.proofs.Common.{◌∙◌, add-zero, arith, inl, inr}
use Rattle.std.specs.Prelude.{nat_le}
use Rattle.hull_text.specs.declared.fault.FaultKind.{FaultKind}
use Rattle.hull_text.specs.declared.fault.FaultKind.TheVariants.{Form}
use Rattle.hull_text.specs.declared.fault.TextFault.{TextFault}
use Rattle.hull_text.specs.Fault.{HasFault, fault_at, fault_number}
use Rattle.hull_text.specs.ScriptText.{at_line, numbered}
use Rattle.hull_text.proofs.Binds.{chosen, err_is, guard_ok, low_le, le_test, over_test, ok_is, test_over}

-- A line was read.
pub at_line_ok : {A : Type 0} (n : ℕ) (r : Result A FaultKind) (x : A) → at_line n r ≡ Ok x → r ≡ Ok x
at_line_ok n (Ok y) x e = ap (λ z. Ok z) (ok_is y x e)
at_line_ok n (Err f) x e = absurd cc

-- A fault of a line has its kind and its number.
pub at_line_err : {A : Type 0} (n : ℕ) (r : Result A FaultKind) (f : TextFault) → at_line n r ≡ Err f
    → (kind : FaultKind) × (r ≡ Err kind) × (fault_at n kind ≡ f)
at_line_err n (Ok x) f e = absurd cc
at_line_err {A = A} n (Err kind) f e = (kind, refl, err_is {A = A} (fault_at n kind) f e)

-- Up to the limit of lines a line is read unchanged.
pub numbered_is : {A : Type 0} (n : ℕ) (r : Result A FaultKind) → n ≤ 33554432 → numbered n r ≡ at_line n r
unfolding numbered
numbered_is n r le = rw (le_test n 33554432 le) refl

-- Above it any line is a fault.
pub numbered_over : {A : Type 0} (n : ℕ) (r : Result A FaultKind) → 33554432 < n → numbered n r ≡ Err (fault_at n Form)
unfolding numbered
numbered_over n r lt = rw (over_test n 33554432 lt) refl

-- A line that is read is no line too many.
pub numbered_ok : {A : Type 0} (n : ℕ) (r : Result A FaultKind) (x : A) → numbered n r ≡ Ok x
    → (r ≡ Ok x) × (n ≤ 33554432)
unfolding numbered
numbered_ok n r x e = grind (arith, common_steps, guard_ok, nat_le, at_line, at_line_ok, low_le)

-- A line that is no line too many is read.
pub numbered_again : {A : Type 0} (n : ℕ) (r : Result A FaultKind) (x : A) → r ≡ Ok x → n ≤ 33554432
    → numbered n r ≡ Ok x
numbered_again n r x e le = numbered_is n r le ∙ rw e refl

-- ---- faults

-- The kind and the line of a fault make it.
pub fault_made : (n : ℕ) (kind : FaultKind) (f : TextFault) → f.line ≡ n → f.number ≡ fault_number kind
    → fault_at n kind ≡ f
fault_made n kind f place number = rw (← place, ← number) refl

module _ {A : Type 0} (most before n : ℕ) (r : Result A FaultKind) (f : TextFault)
    (place : n + most ≡ before + 33554433) where
  -- A fault that is read is that of the line.
  pub numbered_err : before ≤ most → numbered n r ≡ Err f → (f.line ≡ n) × HasFault most before r f.number
  unfolding numbered
  numbered_err low e = grind (arith, common_steps, chosen, nat_le, at_line, fault_at, at_line_err, low_le, err_is, test_over)

  -- The fault of the line is the one that is read.
  pub numbered_stop : f.line ≡ n → HasFault most before r f.number → numbered n r ≡ Err f
  numbered_stop at_line (inl h) = grind (arith, common_steps, numbered_over, fault_made, at_line)
  numbered_stop at_line (inr h) = grind (arith, common_steps, numbered_is, fault_made, at_line)

-- The first of these pieces with a fault, if so many precede them: those before it are right.
pub record FaultFrom {X : Type 0} (Right : List (List ℕ) → List X → Type 0)
    (HasIt : ℕ → List ℕ → List (List ℕ) → Type 0) (m : ℕ) (ps : List (List ℕ)) : Type 0 where
  pub before : List (List ℕ)
  pub piece : List ℕ
  pub after : List (List ℕ)
  pub whole : ps ≡ before ++ piece ∷ after
  pub said : List X
  pub right : Right before said
  pub fault : HasIt (m + length before) piece after

module _ {X : Type 0} {Right : List (List ℕ) → List X → Type 0} {HasIt : ℕ → List ℕ → List (List ℕ) → Type 0} (m : ℕ)
    (piece : List ℕ) (ps : List (List ℕ)) where
  -- The first piece has the fault.
  pub here : Right [] [] → HasIt m piece ps → FaultFrom Right HasIt m (piece ∷ ps)
  here right h = grind (arith, common_steps, add-zero)

  -- A later piece has it.
  pub later : (more : List X → List X)
      → ((before : List (List ℕ)) (said : List X) → Right before said → Right (piece ∷ before) (more said))
      → FaultFrom Right HasIt (suc m) ps → FaultFrom Right HasIt m (piece ∷ ps)
  later more right t = grind (arith, common_steps, suc)
