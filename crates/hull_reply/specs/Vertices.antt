-- The result of writing vertices to an array.
use Rattle.std.specs.Prelude.{◌≡◌, ◌⊎◌, ◌≤◌, ◌<◌, List, ◌++◌, drop, length}
use Rattle.lattice.specs.Plane.{Pair}
use Rattle.hull_reply.specs.Encoded.{IsNumber}
use Rattle.hull_reply.specs.declared.code.Code.TheVariants as code
use Rattle.hull_reply.specs.declared.reply.HullReply.{HullReply}

-- the vertices are at the front of the array, whose rest is unchanged; or the array is too short for them and
-- unchanged; the reply has their number either way
abbrev pub EncodesVertices : List Pair → List Pair → List Pair → HullReply → Type 0
EncodesVertices vertices before after encoded =
    ((length vertices ≤ length before) × (after ≡ vertices ++ drop (length vertices) before)
    × IsNumber code.Vertices (length vertices) encoded)
    ⊎ ((length before < length vertices) × (after ≡ before) × IsNumber code.TooSmall (length vertices) encoded)
