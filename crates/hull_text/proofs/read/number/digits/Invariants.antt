-- The value so far is the number of the digits so far; the rest is read after them.
use Rattle.std.proofs.Common.{◌≡◌, ◌^◌, ℕ, length}
use Rattle.hull_text.specs.Number.{Returns, digits_after}
use Rattle.hull_text.proofs.read.number.digits.Given as goal

abbrev pub invariant-loop-rest : goal.invariant-loop-rest
invariant-loop-rest l = (n : ℕ) × Returns (2 ^ 64) l.value n × (digits_after 0 l.field ≡ digits_after n l.rest)

abbrev pub decreases-loop-rest : goal.decreases-loop-rest
decreases-loop-rest l = length l.rest
