-- The indices of the farthest points.
use Rattle.std.specs.Prelude.{ℕ, ◌<◌}
use Rattle.outer_points.specs.declared.extremes.Extremes.{Extremes}

-- they are indices of the first n points
abbrev pub AreBelow : ℕ → Extremes → Type 0
AreBelow n e =
    (e.first < n) × (e.low_left.at < n) × (e.low.at < n) × (e.low_right.at < n) × (e.last < n) × (e.high_right.at < n)
    × (e.high.at < n) × (e.high_left.at < n)
