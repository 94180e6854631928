-- The reply with the point of a set that is nearest to a given one.
use Rattle.std.specs.Prelude.{◌≡◌, ◌⊎◌, ℕ, ◌+◌, ◌*◌, ◌^◌, ℤ, pos, List, []}
use Rattle.lattice.specs.Plane.{Pair, distance_squared}
use Rattle.bucket_tree.specs.NearestPoints.{IsNearestPoint}
use Rattle.bucket_tree.specs.Roots.{points_of_root}
use Rattle.bucket_tree.specs.Sets.{LimitedTree}
use Rattle.hull_reply.specs.Coordinates.{AreCoordinates}
use Rattle.hull_reply.specs.Encoded.{code_number, IsBare}
use Rattle.hull_reply.specs.declared.code.Code.TheVariants as code
use Rattle.hull_reply.specs.declared.reply.HullReply.{HullReply}

-- a point, and a number of 128 bits in two words
abbrev pub IsPointAt : Pair → ℕ → HullReply → Type 0
IsPointAt p n r =
    (r ≡ record {
      code = code_number code.Point;
      x = p.x;
      y = p.y;
      other_x = pos 0;
      other_y = pos 0;
      number = r.number;
      high = r.high;
    })
    × (n ≡ r.high * 2 ^ 64 + r.number)

-- the nearest point of S to q, with the square of its distance; or that S is empty
abbrev pub EncodesNearestHeld : List Pair → Pair → HullReply → Type 0
EncodesNearestHeld S q encoded =
    ((S ≡ []) × IsBare code.Empty encoded)
    ⊎ ((p : Pair) × (n : ℕ) × IsNearestPoint q S p × (pos n ≡ distance_squared q p) × IsPointAt p n encoded)

-- the set is unchanged; the reply has its nearest point to (x, y), or that these are no coordinates
abbrev pub IsNearestHeld : LimitedTree → LimitedTree → ℤ → ℤ → HullReply → Type 0
IsNearestHeld old new x y encoded =
    (new ≡ old)
    × ((¬ AreCoordinates x y × IsBare code.OutOfRange encoded)
    ⊎ (AreCoordinates x y × EncodesNearestHeld (points_of_root old.root) (record { x = x; y = y }) encoded))
