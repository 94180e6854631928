-- The items that lines of a script spell.
use Rattle.std.specs.Prelude.{ℕ, Option}
use Rattle.hull_set.specs.declared.call.Call.{Call}

-- a worker and its call, or none if the phase ends and another begins
abbrev pub Item : Type 0
Item = Option (ℕ × Call)
