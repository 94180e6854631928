-- The points of a tree with their multiplicities, as one list.
use Rattle.std.specs.Prelude.{ℕ, List, [], ◌∷◌, map, Option, Some, None}
use Rattle.lattice.specs.Plane.{Pair}
use Rattle.bucket_tree.specs.declared.node.Node.{Node}
use Rattle.bucket_tree.specs.Nodes.{points_below, multiplicities_below}

-- each point with its number
abbrev pub paired : List Pair → List ℕ → List (Pair × ℕ)
paired [] multiplicities = []
paired (p ∷ ps) [] = []
paired (p ∷ ps) (t ∷ ts) = (p, t) ∷ paired ps ts

-- the numbers of entries
abbrev pub numbers_listed : List (Pair × ℕ) → List ℕ
numbers_listed entries = map (λ (e : Pair × ℕ). e.1) entries

-- the points below a node in order, each with its multiplicity
abbrev pub entries_below : Node → List (Pair × ℕ)
entries_below n = paired (points_below n) (multiplicities_below n)

-- the points of a whole tree
abbrev pub entries_of_root : Option Node → List (Pair × ℕ)
entries_of_root None = []
entries_of_root (Some n) = entries_below n
