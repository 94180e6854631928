-- The consequences of the result of a test.
use Rattle.std.proofs.Common.{◌≡◌, Bool, true, false}
use Rattle.std.specs.Prelude.{◌↔◌}
use Rattle.std.specs.Bool.{IsTrue}

-- if a test returned true, its statement holds
pub passed : (r : Bool) (P : Type 0) → r ≡ true → (IsTrue r ↔ P) → P
passed r P e h = h.0 e

-- if a test returned false, its statement does not hold
pub failed : (r : Bool) (P : Type 0) → r ≡ false → (IsTrue r ↔ P) → P → ⊥
failed r P e h p = let t : r ≡ true = h.1 p in cc
