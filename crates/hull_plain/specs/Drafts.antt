-- The scratch chain: the new front of a list, before it is written.
use Rattle.std.specs.Prelude.{◌≡◌, ℕ, ◌-◌, ◌<◌, ◌≤◌, List, ◌++◌, length, take, vec_capacity, slice_index_or, Option, Some, None}
use Rattle.lattice.specs.Plane.{Pair}
use Rattle.hull_plain.specs.declared.scratch_chain.ScratchChain.{ScratchChain}

-- the first points of a list, as many as are kept, and the new ones after them
abbrev pub drafted : List Pair → ScratchChain → List Pair
drafted list d = take d.kept list ++ d.fresh.items

-- the last two points of a list, or none if it has fewer
abbrev pub AreLastTwo : List Pair → Option (Pair × Pair) → Type 0
AreLastTwo xs (Some (a, b)) =
    (1 < length xs) × (a ≡ slice_index_or xs (length xs - 2) a) × (b ≡ slice_index_or xs (length xs - 1) b)
AreLastTwo xs None = length xs ≤ 1

-- a scratch chain has the storage for lists of n points
pub record ScratchChainHasSpace (d : ScratchChain) (n : ℕ) : Type 0 where
  pub fresh : n ≤ vec_capacity d.fresh
  pub rest : n ≤ vec_capacity d.rest

-- it has the same storage
pub record IsAsRoomy (old new : ScratchChain) : Type 0 where
  pub fresh : vec_capacity new.fresh ≡ vec_capacity old.fresh
  pub rest : vec_capacity new.rest ≡ vec_capacity old.rest
