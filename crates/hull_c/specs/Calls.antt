-- The results of the calls that only this library has.
use Rattle.std.specs.Prelude.{◌≡◌, ◌⊎◌, ◌≢◌, ◌≤◌, ℕ, List, [], length}
use Rattle.lattice.specs.Plane.{Pair}
use Rattle.lattice.specs.Vertices.{IsVertexList}
use Rattle.hull_set.specs.Held.{nothing_held}
use Rattle.hull_set.specs.declared.TheConstants.{POINT_LIMIT}
use Rattle.bucket_tree.specs.Roots.{held_by}
use Rattle.bucket_tree.specs.Sets.{LimitedTree}
use Rattle.hull_reply.specs.Vertices.{EncodesVertices}
use Rattle.hull_reply.specs.Encoded.{IsBare, IsNumber}
use Rattle.hull_reply.specs.declared.code.Code.TheVariants as code
use Rattle.hull_reply.specs.declared.reply.HullReply.{HullReply}

-- the set is empty, and the limit is unchanged
pub record IsCleared (old new : LimitedTree) (encoded : HullReply) : Type 0 where
  pub reports : IsBare code.Cleared encoded
  pub nothing : held_by new.root ≡ nothing_held
  pub same_limit : new.limit ≡ old.limit

-- the reply has the limit; nothing changed
abbrev pub IsLimitOf : LimitedTree → LimitedTree → HullReply → Type 0
IsLimitOf old new encoded = (new ≡ old) × IsNumber code.Number old.limit encoded

-- an empty set with this limit, or with the greatest limit if no set can have this one
pub record IsFresh (limit : ℕ) (hull : LimitedTree) : Type 0 where
  pub nothing : held_by hull.root ≡ nothing_held
  pub within : 1 ≤ limit → limit ≤ POINT_LIMIT → hull.limit ≡ limit
  pub beyond : ¬ ((1 ≤ limit) × (limit ≤ POINT_LIMIT)) → hull.limit ≡ POINT_LIMIT

-- the set is unchanged; its vertices were written to the array, or it is too short for them, or memory was refused
-- (an empty set needs none)
abbrev pub AreVertices : LimitedTree → LimitedTree → List Pair → List Pair → HullReply → Type 0
AreVertices old new before after encoded =
    (new ≡ old)
    × (((vertices : List Pair) × IsVertexList (held_by old.root).points vertices
    × EncodesVertices vertices before after encoded)
    ⊎ (((held_by old.root).points ≢ []) × (after ≡ before) × IsBare code.NoMemory encoded))

-- nothing changed; the reply has the number of vertices, or 0
abbrev pub IsPrepared : LimitedTree → LimitedTree → HullReply → Type 0
IsPrepared old new encoded =
    (new ≡ old)
    × ((number : ℕ) × IsNumber code.Number number encoded
    × ((number ≡ 0) ⊎ ((vertices : List Pair) × IsVertexList (held_by old.root).points vertices × (number ≡ length vertices))))

-- nothing changed; the reply has the number of vertices, or memory was refused (an empty set needs none)
abbrev pub IsGathered : LimitedTree → LimitedTree → HullReply → Type 0
IsGathered old new encoded =
    (new ≡ old)
    × (((vertices : List Pair) × IsVertexList (held_by old.root).points vertices
    × IsNumber code.Number (length vertices) encoded)
    ⊎ (((held_by old.root).points ≢ []) × IsBare code.NoMemory encoded))
