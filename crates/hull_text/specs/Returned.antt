-- The program's knowledge of a field that should be a number.
use Rattle.std.specs.Prelude.{◌≡◌, ℕ, ◌≤◌, Option, Some, None}
use Rattle.hull_text.specs.declared.read.number.Number.{Number}
use Rattle.hull_text.specs.declared.read.number.Number.TheVariants.{Unspelled, Value, Huge}

-- what a number of the program means for the number that a field spells
abbrev pub ReturnsNumber : ℕ → Number ℕ → Option ℕ → Type 0
ReturnsNumber bound Unspelled spelled = spelled ≡ None
ReturnsNumber bound (Value v) spelled = spelled ≡ Some v
ReturnsNumber bound Huge spelled = (n : ℕ) × (bound ≤ n) × (spelled ≡ Some n)
