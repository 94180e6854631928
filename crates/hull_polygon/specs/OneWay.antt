-- That a list is a round has one proof: a ghost field requires that.
use Rattle.std.specs.Prelude.{ℕ, ◌<◌, List}
use native.Mathlib.Bridge.{le_prop}
use Rattle.lattice.specs.Plane.{Pair}
use Rattle.lattice.specs.OneWay.{lt_prop, before_prop}
use Rattle.hull_polygon.specs.Rounds.{IsRound, IsSeparated}

-- a strict comparison of natural numbers has one proof
less_prop : (m n : ℕ) → IsProp (m < n)
less_prop m n = le_prop

-- that a list is a round has one proof
round_prop : (V : List Pair) (last : ℕ) → IsProp (IsRound V last)
round_prop V last = hlevel (before_prop, lt_prop, less_prop)

-- that a list is split at an index has one proof
pub IsSeparated-prop : (V : List Pair) (last : ℕ) → IsProp (IsSeparated V last)
IsSeparated-prop V last = hlevel (round_prop, less_prop)
