-- A half over a borrowed list of points, with the edges that separate each point from those before it.
use Rattle.std.specs.Prelude.{◌≡◌, ◌+◌, ◌≤◌, pos, List, [], ◌∷◌, length}
use Rattle.std.proofs.Common.{arith}
use Rattle.lattice.specs.Plane.{Pair}
use Rattle.bridge_search.specs.Trees.{Tree, Leaf, Fork, height_of, highest}

-- a point, and the upper and the lower edge between the points before it and itself
abbrev pub Entry : Type 0
Entry = Pair × (Pair × Pair) × (Pair × Pair)

-- the half of the points of a list from right to left; the right half of each fork is one point; no list is empty
abbrev pub listed_tree : List Entry → Tree
listed_tree [] = Leaf (record { x = pos 0; y = pos 0 })
listed_tree (e ∷ []) = Leaf e.0
listed_tree (e ∷ f ∷ es) = Fork e.1 e.2 (listed_tree (f ∷ es)) (Leaf e.0)

-- the height of the half is one less than the number of its points
pub height_listed : (es : List Entry) → 1 ≤ length es → height_of (listed_tree es) + 1 ≡ length es
height_listed [] h = absurd (omega arith)
height_listed (e ∷ []) h = omega arith
height_listed (e ∷ f ∷ es) h = let k : height_of (listed_tree (f ∷ es)) + 1 ≡ length (f ∷ es) =
    height_listed (f ∷ es) (omega arith) in omega arith

-- the height of a half over a list that is not too long is allowed
pub low_listed : (es : List Entry) → 1 ≤ length es → length es ≤ highest → height_of (listed_tree es) ≤ highest
low_listed es h k = omega (arith, height_listed es h)
