-- The task of an accepted command line: its numbers are within their limits, and a film has no line and no bridges.
use Rattle.std.specs.Prelude.{◌≡◌, ◌≤◌, None, true, false}
use Rattle.hulldraw.specs.declared.options.Task.{Task}

-- the side of the picture is 240 to 10,000 points of the screen, and a film is of the whole journal, without bridges
pub record IsWithinLimits (task : Task) : Type 0 where
  pub low : 240 ≤ task.options.size
  pub high : task.options.size ≤ 10000
  pub whole : task.film ≡ true → task.options.line ≡ None
  pub plain : task.film ≡ true → task.options.bridges ≡ false
