-- The devices of this crate as contracts see them.
use Rattle.std.specs.Prelude.{ℕ, List, Bool}

-- a device, and how often it failed
pub record WithProgress (T : Type 0) : Type 0 where
  pub device : T
  pub failures : ℕ

-- A reader over known bytes: the bytes that are left, the most that it returns at once, the calls so far, and the
-- call at which it fails (0 for none).
pub record Cut : Type 0 where
  pub rest : List ℕ
  pub size : ℕ
  pub calls : ℕ
  pub failing : ℕ

-- A writer that keeps what it takes: those bytes, its capacity, the most that it takes at once, the calls so far, the
-- call at which it fails or takes nothing (0 for none), and which of the two.
pub record Filled : Type 0 where
  pub bytes : List ℕ
  pub space : ℕ
  pub size : ℕ
  pub calls : ℕ
  pub failing : ℕ
  pub refusing : Bool
