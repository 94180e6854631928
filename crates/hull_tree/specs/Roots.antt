-- A whole tree: a node, or nothing.
use Rattle.std.specs.Prelude.{ℕ, List, [], Option, Some, None}
use Rattle.lattice.specs.Plane.{Pair}
use Rattle.hull_set.specs.Held.{Held}
use Rattle.hull_tree.specs.declared.node.Node.{Node}
use Rattle.hull_tree.specs.Nodes.{IsWellBuilt, multiplicity_below}
use Rattle.hull_tree.specs.Changes.{points_below, height_at}

-- its points, in order
abbrev pub points_of_root : Option Node → List Pair
points_of_root None = []
points_of_root (Some n) = points_below n

-- the multiplicity of each point
abbrev pub multiplicity_of_root : Option Node → Pair → ℕ
multiplicity_of_root None = λ q. 0
multiplicity_of_root (Some n) = multiplicity_below n

-- the set that it contains
abbrev pub held_by : Option Node → Held
held_by root = record { points = points_of_root root; multiplicities = multiplicity_of_root root }

-- it is nothing, or a well-built node
abbrev pub IsWellBuiltRoot : Option Node → Type 0
IsWellBuiltRoot None = Unit {0}
IsWellBuiltRoot (Some n) = IsWellBuilt n

-- its height; for nothing 0
abbrev pub height_of_root : Option Node → ℕ
height_of_root None = 0
height_of_root (Some n) = height_at n
