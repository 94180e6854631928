-- The halves of what a tree is built of.
use Rattle.std.proofs.Common.{◌≡◌, ℕ, ◌<◌, ◌+◌, ◌-◌, ◌*◌, ◌/◌, ◌^◌, List, length, take, drop, ◌++◌, sym, ap, subst}
use Rattle.std.proofs.Common.{arith}
use Rattle.std.proofs.lemmas.List.{length-drop, length-take-le, take-append-drop}
use Rattle.std.proofs.lemmas.Nat.{pow_pos}
use Rattle.std.proofs.lemmas.List.Elements.{All-take, All-drop}
use Rattle.lattice.specs.Covers.{IsPointSet}
use Rattle.lattice.specs.Plane.{Pair}
use Rattle.hull_buckets.specs.Buckets.{IsMultiplicity}
use Rattle.hull_buckets.proofs.Words.{next_power}
use Rattle.hull_geometry.proofs.PointSets.{set_left, set_right}
use Rattle.bucket_tree.specs.Loads.{IsLoad}

module _ (points : List Pair) (multiplicity : List ℕ) (forks middle : ℕ) (load : IsLoad points multiplicity forks) (some : 0 < forks)
    (is : middle ≡ length points / 2) where
  -- the two together
  whole : IsPointSet (take middle points ++ drop middle points)
  whole = subst IsPointSet (sym (take-append-drop middle points)) load.parts.ordered

  power : 2 ^ (forks - 1 + 1) ≡ 2 ^ (forks - 1) * 2
  power = next_power (forks - 1)

  same : 2 ^ forks ≡ 2 ^ (forks - 1 + 1)
  same = let e : forks ≡ forks - 1 + 1 = omega (arith, some) in ap (λ (n : ℕ). 2 ^ n) e

  taken : length (take middle points) ≡ middle
  taken = length-take-le middle points (omega (arith, is))

  -- the first half
  pub first_load : IsLoad (take middle points) (take middle multiplicity) (forks - 1)
  first_load = record {
    parts = record {
      some = omega (arith, taken, is, load.enough, power, same, pow_pos (forks - 1));
      few = omega (arith, taken, is, load.parts.few);
      ordered = set_left (take middle points) (drop middle points) whole;
      counted = omega (arith, taken, length-take-le middle multiplicity (omega (arith, is, load.parts.counted)));
      held = All-take IsMultiplicity middle multiplicity load.parts.held;
    };
    enough = omega (arith, taken, is, load.enough, power, same);
    space = omega (arith, taken, is, load.space, power, same);
    low = omega (arith, load.low);
  }

  -- and the second
  pub second_load : IsLoad (drop middle points) (drop middle multiplicity) (forks - 1)
  second_load = record {
    parts = record {
      some = omega (arith, length-drop middle points, is, load.enough, power, same, pow_pos (forks - 1));
      few = omega (arith, length-drop middle points, is, load.parts.few);
      ordered = set_right (take middle points) (drop middle points) whole;
      counted = omega (arith, length-drop middle points, length-drop middle multiplicity, load.parts.counted);
      held = All-drop IsMultiplicity middle multiplicity load.parts.held;
    };
    enough = omega (arith, length-drop middle points, is, load.enough, power, same);
    space = omega (arith, length-drop middle points, is, load.space, power, same);
    low = omega (arith, load.low);
  }
