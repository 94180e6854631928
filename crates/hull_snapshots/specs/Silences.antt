-- Why a publisher is silent.
use Rattle.std.specs.Prelude.{◌≡◌, ◌≢◌, ◌≤◌, ℕ, Option, Some, None}
use Rattle.published_snapshots.specs.declared.TheConstants.{NUMBER_LIMIT}
use Rattle.hull_snapshots.specs.declared.silence.Silence.{Silence}
use Rattle.hull_snapshots.specs.declared.silence.Silence.TheVariants.{AtLimit}

-- Why a publisher is silent that has recorded n lines: they are as many as can have a number; or, in the other
-- variant, there is evidence that another thread changed what only this publisher may change. Only a step that found
-- it changed makes such evidence.
abbrev pub IsWhySilent : Option Silence → ℕ → Type 0
IsWhySilent why n = (why ≢ None) × (why ≡ Some AtLimit → NUMBER_LIMIT ≤ n)
