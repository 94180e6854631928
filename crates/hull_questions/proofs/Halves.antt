-- A set of points in two halves.
use Rattle.std.proofs.Common.{arith}
use Rattle.std.proofs.lemmas.Grind.{common_steps}
use Rattle.std.proofs.Common.{◌⊎◌, inl, inr, List, ◌++◌}
use Rattle.std.specs.List.{Contains}
use Rattle.std.proofs.lemmas.List.Elements.{Contains-append_left, Contains-append_right, Contains-append_cases}
use Rattle.lattice.specs.Plane.{Pair}
use Rattle.bridge_search.specs.Trees.{Tree, On}
use Rattle.bridge_search.specs.Leaves.{points_of}
use Rattle.bridge_search.proofs.Leaves.{on_of_contains, contains_of_on}

-- the points of two halves are those of S
pub record AreHalves (S : List Pair) (near far : Tree) : Type 0 where
  pub in_near : (t : Pair) → On near t → Contains S t
  pub in_far : (t : Pair) → On far t → Contains S t
  pub which : (t : Pair) → Contains S t → On near t ⊎ On far t

-- the two halves exchanged have the points of S
pub swapped : (S : List Pair) (near far : Tree) → AreHalves S near far → AreHalves S far near
swapped S near far k = grind (arith, common_steps)

-- the points of two halves, one after the other, are in two halves
pub halves_of : (u w : Tree) → AreHalves (points_of u ++ points_of w) u w
halves_of u w = record {
  in_near = λ t i. Contains-append_left (points_of u) (points_of w) t (contains_of_on u t i);
  in_far = λ t i. Contains-append_right (points_of u) (points_of w) t (contains_of_on w t i);
  which = λ t m. elim (Contains-append_cases (points_of u) (points_of w) t m)
      [ inl i ↦ inl (on_of_contains u t i) | inr i ↦ inr (on_of_contains w t i) ];
}
