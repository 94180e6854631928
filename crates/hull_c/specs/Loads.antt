-- The result of loading a set with an array of points.
use Rattle.std.specs.Prelude.{◌≡◌, ◌⊎◌, ◌≢◌, List, [], length}
use Rattle.std.specs.List.{All}
use Rattle.lattice.specs.Plane.{Pair}
use Rattle.hull_set.specs.Held.{nothing_held}
use Rattle.bucket_tree.specs.Roots.{held_by}
use Rattle.bucket_tree.specs.Sets.{LimitedTree, IsSound}
use Rattle.leaf_trees.specs.Entries.{AreTooMany, held_after_adds}
use Rattle.hull_reply.specs.Coordinates.{AreCoordinates}
use Rattle.hull_reply.specs.Encoded.{IsBare, IsNumber}
use Rattle.hull_reply.specs.declared.code.Code.{Code}
use Rattle.hull_reply.specs.declared.code.Code.TheVariants as code
use Rattle.hull_reply.specs.declared.reply.HullReply.{HullReply}

-- both numbers of a point are coordinates
abbrev pub HasCoordinates : Pair → Type 0
HasCoordinates p = AreCoordinates p.x p.y

-- why points were not read: one of them is out of range, or memory was refused for those that are not
abbrev pub IsUnread : List Pair → Code → Type 0
IsUnread points fault =
    (¬ All HasCoordinates points × (fault ≡ code.OutOfRange)) ⊎ (All HasCoordinates points × (fault ≡ code.NoMemory))

-- the set is what adding the points one by one to an empty set would leave, the limit is unchanged, and the reply has
-- the number of different points
pub record HoldsAll (points : List Pair) (old new : LimitedTree) (encoded : HullReply) : Type 0 where
  pub held : held_by new.root ≡ held_after_adds nothing_held points
  pub sound : IsSound new.root
  pub same_limit : new.limit ≡ old.limit
  pub reports : IsNumber code.Number (length (held_by new.root).points) encoded

-- there are too many points, or memory was refused (no points need none)
abbrev pub IsRefused : List Pair → LimitedTree → HullReply → Type 0
IsRefused points old encoded =
    (AreTooMany nothing_held points old.limit × IsBare code.TooMany encoded) ⊎ ((points ≢ []) × IsBare code.NoMemory encoded)

-- All points were loaded; or the set is unchanged: some point is out of range (only then does the reply have that
-- reason), or the points were refused.
abbrev pub IsLoaded : List Pair → LimitedTree → LimitedTree → HullReply → Type 0
IsLoaded points old new encoded =
    (¬ All HasCoordinates points × (new ≡ old) × IsBare code.OutOfRange encoded)
    ⊎ (All HasCoordinates points × (HoldsAll points old new encoded ⊎ ((new ≡ old) × IsRefused points old encoded)))
