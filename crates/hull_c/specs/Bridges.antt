-- The result of writing the stored bridges of a level to an array.
use Rattle.std.specs.Prelude.{◌≡◌, ◌⊎◌, ◌≢◌, ◌≤◌, ◌<◌, ℕ, List, [], ◌++◌, drop, length}
use Rattle.bucket_tree.specs.Levels.{bridges_at}
use Rattle.bucket_tree.specs.Roots.{held_by}
use Rattle.bucket_tree.specs.Sets.{LimitedTree}
use Rattle.leaf_trees.specs.declared.bridge.Bridge.{Bridge}
use Rattle.hull_reply.specs.Encoded.{IsBare, IsNumber}
use Rattle.hull_reply.specs.declared.code.Code.TheVariants as code
use Rattle.hull_reply.specs.declared.reply.HullReply.{HullReply}

-- they are at the front of the array, whose rest is unchanged; or the array is too short for them and unchanged; the
-- reply has their number in either case
abbrev pub EncodesBridges : List Bridge → List Bridge → List Bridge → HullReply → Type 0
EncodesBridges bridges before after encoded =
    ((length bridges ≤ length before) × (after ≡ bridges ++ drop (length bridges) before)
    × IsNumber code.Number (length bridges) encoded)
    ⊎ ((length before < length bridges) × (after ≡ before) × IsNumber code.TooSmall (length bridges) encoded)

-- the set is unchanged; the reply has the bridges of the level, or memory was refused (an empty set needs none)
abbrev pub AreBridges : LimitedTree → LimitedTree → ℕ → List Bridge → List Bridge → HullReply → Type 0
AreBridges old new level before after encoded =
    (new ≡ old)
    × (EncodesBridges (bridges_at level old.root) before after encoded
    ⊎ (((held_by old.root).points ≢ []) × (after ≡ before) × IsBare code.NoMemory encoded))
