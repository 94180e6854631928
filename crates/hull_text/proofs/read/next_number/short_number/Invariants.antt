-- The bytes so far are digits of the value, and none of them is a space.
use Rattle.std.proofs.Common.{◌≡◌, ◌<◌, ◌^◌, ℕ, Some, get_or, take}
use Rattle.hull_text.specs.Number.{digits_after}
use Rattle.hull_text.proofs.read.next_number.short_number.Given as goal

abbrev pub invariant-loop-i : goal.invariant-loop-i
invariant-loop-i l = record {
  digits : digits_after 0 (take l.i l.text) ≡ Some l.value;
  low : l.value < 10 ^ 18;
  before : (k : ℕ) → k < l.i → get_or l.text k 0 ≡ 32 → ⊥;
}
