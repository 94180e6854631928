-- The greatest height of a tree.
use Rattle.std.specs.Prelude.{ℕ}

-- a balanced tree of as many points as a set may have is no higher
abbrev pub greatest_height : ℕ
greatest_height = 28
