-- The state of a device before and after a call, and the bytes that passed.
use Rattle.std.specs.Prelude.{◌≡◌, ℕ, List, Option, Ok, Err}
use Rattle.text_io.specs.Write.{WritesText}

-- The bytes that a reader had left or a writer had taken, before and after, and how often the device had failed.
pub record Passage : Type 0 where
  pub before : Option (List ℕ)
  pub since : Option (List ℕ)
  pub failed : ℕ
  pub failed_since : ℕ

-- from one state of a device to a later one
abbrev pub passage : {S : Type 0} → (S → Option (List ℕ)) → (S → ℕ) → S → S → Passage
passage bytes failed old new =
    record { before = bytes old; since = bytes new; failed = failed old; failed_since = failed new }

-- no call of the device failed
abbrev pub IsSound : Passage → Type 0
IsSound p = p.failed_since ≡ p.failed

-- nothing was written, and no call failed
abbrev pub IsUntouched : Passage → Type 0
IsUntouched p = (p.since ≡ p.before) × IsSound p

-- the text was written, and no call failed
abbrev pub HasTaken : Passage → List ℕ → Type 0
HasTaken p text = WritesText {E = Unit {0}} p.before p.since p.failed p.failed_since (Ok tt) text

-- a prefix of the text was written, and one call failed
abbrev pub HasTakenFront : Passage → List ℕ → Type 0
HasTakenFront p text = WritesText {E = Unit {0}} p.before p.since p.failed p.failed_since (Err tt) text
