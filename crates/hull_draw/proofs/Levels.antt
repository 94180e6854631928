-- The levels of a tree, one by one.
use Rattle.std.proofs.Common.{◌≡◌, ◌++◌, ◌+◌, ℕ, [], refl, add-one}
use Rattle.bridge_search.specs.Trees.{Tree}
use Rattle.hull_tree.specs.Levels.{level_of}
use Rattle.hull_draw.specs.Bridges.{levels_of}

-- no levels store nothing
pub levels_none : (t : Tree) → levels_of 0 t ≡ []
unfolding levels_of
levels_none t = refl

-- a level more comes after the others
pub levels_more : (n : ℕ) (t : Tree) → levels_of (n + 1) t ≡ levels_of n t ++ level_of n 0 t
unfolding levels_of
levels_more n t = rw add-one refl
