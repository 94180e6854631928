-- The input from which a tree is built at once: points in order, each with its multiplicity.
use Rattle.std.specs.Prelude.{◌≡◌, ℕ, ◌≤◌, ◌*◌, ◌^◌, List, length}
use Rattle.std.specs.List.{All}
use Rattle.lattice.specs.Covers.{IsPointSet}
use Rattle.lattice.specs.Plane.{Pair}
use Rattle.hull_buckets.specs.Buckets.{IsMultiplicity}
use Rattle.hull_buckets.specs.declared.TheConstants.{BUCKET_SIZE}
use Rattle.hull_set.specs.declared.TheConstants.{POINT_LIMIT}

-- points in order, no more than a set may have, each with a multiplicity that a point may have
pub record AreParts (points : List Pair) (multiplicities : List ℕ) : Type 0 where
  pub some : 1 ≤ length points
  pub few : length points ≤ POINT_LIMIT
  pub ordered : IsPointSet points
  pub counted : length multiplicities ≡ length points
  pub held : All IsMultiplicity multiplicities

-- they fill a tree with this many forks above each bucket
pub record IsLoad (points : List Pair) (multiplicities : List ℕ) (forks : ℕ) : Type 0 where
  pub parts : AreParts points multiplicities
  pub enough : 2 ^ forks ≤ length points
  pub space : length points ≤ BUCKET_SIZE * 2 ^ forks
  pub low : forks ≤ 20
