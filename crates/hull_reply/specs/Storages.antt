-- The storage that a value of a type needs.
use Rattle.std.specs.Prelude.{ℕ}
use denote.Param.{layout}
use denote.RattleType.{RattleType}
use prog.Memory.{align, size}

-- its size in bytes
abbrev pub storage_size : RattleType → ℕ
storage_size R = size (layout R)

-- its alignment in bytes
abbrev pub storage_alignment : RattleType → ℕ
storage_alignment R = align (layout R)
