-- The state after a call that writes a text.
use Rattle.std.specs.Prelude.{◌≡◌, ◌<◌, ◌≤◌, ◌+◌, ℕ, List, ◌++◌, Option, Result, Ok, Err, OnOk, IsOk}
use Rattle.std.specs.Io.KnownBytes.{Appends}

-- If the result is a success, the device's bytes have grown by the text, and no call failed. Else exactly one call failed,
-- and the bytes have grown by a prefix of the text.
abbrev pub WritesText : {E : Type 0} → Option (List ℕ) → Option (List ℕ) → ℕ → ℕ → Result Unit E → List ℕ → Type 0
WritesText old new before after (Ok x) text = Appends old new text × (after ≡ before)
WritesText old new before after (Err e) text =
    ((front : List ℕ) × (back : List ℕ) × (text ≡ front ++ back) × Appends old new front) × (before < after)
    × (after ≤ before + 1)

-- A piece was written after an earlier outcome, from any start and for any text. If the outcome is a success, no call
-- failed, and none had failed before.
pub record WritesAfter {S E : Type 0} (contents : S → Option (List ℕ)) (failed : S → ℕ) (done outcome : Result Unit E)
    (old new : S) (piece : List ℕ) : Type 0 where
  pub wrote : (start : Option (List ℕ)) (count : ℕ) (text : List ℕ)
      → WritesText start (contents old) count (failed old) done text
      → WritesText start (contents new) count (failed new) outcome (text ++ piece)
  pub kept : OnOk outcome (failed new ≡ failed old)
  pub was : OnOk outcome (IsOk done)
