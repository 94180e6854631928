-- The greatest number of turns of a change.
use Rattle.std.specs.Prelude.{ℕ, zero, suc, ◌+◌, ◌*◌}

-- that of a node with this many forks above its deepest bucket: the search under a bucket that is split, and at each
-- fork above it the searches of its bridges and of a rotation
abbrev pub most_turns : ℕ → ℕ
most_turns zero = 24
most_turns (suc h) = most_turns h + (16 * suc h + 96)
