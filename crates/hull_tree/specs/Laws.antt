-- Laws of the definitions. Each is the contract of a public function with an empty body.
use Rattle.std.specs.Prelude.{◌≡◌, ℕ}
use Rattle.lattice.specs.Plane.{Pair}
use Rattle.bridge_search.specs.Trees.{Tree, IsBridged}
use Rattle.hull_tree.specs.Turns.{IsPathCost}

-- in a tree that satisfies its law the forks above a point have one cost
abbrev pub PathCostIsUnique : Type 0
PathCostIsUnique = (t : Tree) (p : Pair) (m n : ℕ) → IsBridged t → IsPathCost t p m → IsPathCost t p n → m ≡ n
