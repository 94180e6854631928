-- A range of the points of a set, in order.
use Rattle.std.specs.Prelude.{◌≡◌, ℕ, List, [], ◌∷◌, take, cond}
use Rattle.lattice.specs.Plane.{Pair}
use Rattle.lattice.specs.Covers.{is_before}
use Rattle.hull_set.specs.Held.{Held}
use Rattle.leaf_trees.specs.Entries.{AreEntries, held_listed}

-- the entries whose points are not before the start
abbrev pub entries_from : Pair → List (Pair × ℕ) → List (Pair × ℕ)
entries_from start [] = []
entries_from start (e ∷ es) = cond (is_before e.0 start) (entries_from start es) (e ∷ entries_from start es)

-- the list consists of the first `most` of all entries of the set whose points are not before the start
pub record IsChainRange (held : Held) (start : Pair) (most : ℕ) (listed : List (Pair × ℕ)) : Type 0 where
  pub all : List (Pair × ℕ)
  pub entries : AreEntries all
  pub of_held : held_listed all ≡ held
  pub chain_range : listed ≡ take most (entries_from start all)
