-- Laws of the definitions. Each is the contract of a public function with an empty body.
use Rattle.std.specs.Prelude.{◌≡◌, ℕ, ◌≤◌}
use Rattle.lattice.specs.Plane.{Pair}
use Rattle.bridge_search.specs.Trees.{Tree, IsBridged, IsAtDepth, height_of}

-- a point of a half that keeps its law has exactly one depth, at most the height
abbrev pub DepthIsUnique : Type 0
DepthIsUnique =
    (t : Tree) (p : Pair) (m n : ℕ) → IsBridged t → IsAtDepth t p m → IsAtDepth t p n → (m ≡ n) × (n ≤ height_of t)
