-- How a count of failures changes.
use Rattle.std.specs.Prelude.{◌≡◌, ◌+◌, ◌-◌, ◌^◌, ℕ, zero, suc, min, Result, MatchResult}

-- One failure more. At its greatest value the count stays.
abbrev pub raised : ℕ → ℕ
raised n = min (n + 1) (2 ^ 64 - 1)

-- A write that took some bytes of a piece of this length is a failure if it took none of a piece that has some.
abbrev pub CountsTaken : ℕ → ℕ → ℕ → ℕ → Type 0
CountsTaken zero zero old new = new ≡ old
CountsTaken zero (suc length) old new = new ≡ raised old
CountsTaken (suc taken) length old new = new ≡ old

-- The effect of a write of a piece of this length on the count.
abbrev pub CountsWrite : {E : Type 0} → Result ℕ E → ℕ → ℕ → ℕ → Type 0
CountsWrite outcome length old new =
    MatchResult outcome (λ taken. CountsTaken taken length old new) (λ _. new ≡ raised old)

-- The effect of any other call on the count: it rises if the call fails.
abbrev pub CountsFailure : {T E : Type 0} → Result T E → ℕ → ℕ → Type 0
CountsFailure outcome old new = MatchResult outcome (λ _. new ≡ old) (λ _. new ≡ raised old)
