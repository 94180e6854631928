-- The results of listing the points of a set, and of loading them again.
use Rattle.std.specs.Prelude.{◌≡◌, ◌⊎◌, ◌≢◌, ◌<◌, ℕ, ℤ, List, [], ◌++◌, drop, length}
use Rattle.std.specs.List.{All}
use Rattle.lattice.specs.Covers.{IsPointSet}
use Rattle.lattice.specs.Plane.{Pair}
use Rattle.hull_set.specs.Held.{Held}
use Rattle.bucket_tree.specs.Roots.{held_by}
use Rattle.leaf_trees.specs.Entries.{IsMultiplicity}
use Rattle.leaf_trees.specs.Entries.{AreEntries, held_listed, points_listed}
use Rattle.bucket_tree.specs.Sets.{LimitedTree, IsSound}
use Rattle.leaf_trees.specs.ChainRanges.{IsChainRange}
use Rattle.hull_reply.specs.Coordinates.{AreCoordinates}
use Rattle.hull_reply.specs.Encoded.{IsBare, IsNumber}
use Rattle.hull_reply.specs.declared.code.Code.TheVariants as code
use Rattle.hull_reply.specs.declared.reply.HullReply.{HullReply}

-- the points from the start on are at the front of the array, as many as it takes, and the rest of the array is
-- unchanged; the reply has their number
pub record WritesChainRange (held : Held) (start : Pair) (before after : List (Pair × ℕ)) (encoded : HullReply) : Type 0 where
  pub listed : List (Pair × ℕ)
  pub chain_range : IsChainRange held start (length before) listed
  pub written : after ≡ listed ++ drop (length listed) before
  pub reports : IsNumber code.Number (length listed) encoded

-- the points from the start on were written; or memory was refused (an empty set needs none)
abbrev pub IsWritten : LimitedTree → Pair → List (Pair × ℕ) → List (Pair × ℕ) → HullReply → Type 0
IsWritten hull start before after encoded =
    WritesChainRange (held_by hull.root) start before after encoded
    ⊎ (((held_by hull.root).points ≢ []) × (after ≡ before) × IsBare code.NoMemory encoded)

-- the set is unchanged; the points from (x, y) on were written, or these are no coordinates, and the array is
-- unchanged
abbrev pub IsListed : LimitedTree → LimitedTree → ℤ → ℤ → List (Pair × ℕ) → List (Pair × ℕ) → HullReply → Type 0
IsListed old new x y before after encoded =
    (new ≡ old)
    × ((¬ AreCoordinates x y × (after ≡ before) × IsBare code.OutOfRange encoded)
    ⊎ (AreCoordinates x y × IsWritten old (record { x = x; y = y }) before after encoded))

-- both numbers are coordinates, and a point may have this multiplicity
abbrev pub IsEntry : Pair × ℕ → Type 0
IsEntry e = AreCoordinates e.0.x e.0.y × IsMultiplicity e.1

-- the points are those of the array, each with its multiplicity there; the limit is unchanged, and the reply has
-- their number
pub record HoldsListed (listed : List (Pair × ℕ)) (old new : LimitedTree) (encoded : HullReply) : Type 0 where
  pub held : held_by new.root ≡ held_listed listed
  pub sound : IsSound new.root
  pub same_limit : new.limit ≡ old.limit
  pub reports : IsNumber code.Number (length listed) encoded

-- Why the array was refused: it has a number out of range; else its points are not in order; else they are more than
-- the limit, or memory was refused (no points need none).
abbrev pub IsUnfit : List (Pair × ℕ) → LimitedTree → HullReply → Type 0
IsUnfit listed hull encoded =
    (¬ All IsEntry listed × IsBare code.OutOfRange encoded)
    ⊎ ((All IsEntry listed × ¬ IsPointSet (points_listed listed) × IsBare code.OutOfOrder encoded)
    ⊎ (AreEntries listed × (((hull.limit < length listed) × IsBare code.TooMany encoded)
    ⊎ ((listed ≢ []) × IsBare code.NoMemory encoded))))

-- all points of the set were replaced by those of the array, or it was refused, and the set is unchanged
abbrev pub AreLoaded : List (Pair × ℕ) → LimitedTree → LimitedTree → HullReply → Type 0
AreLoaded listed old new encoded = HoldsListed listed old new encoded ⊎ ((new ≡ old) × IsUnfit listed old encoded)
