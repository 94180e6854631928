-- The results of moving a polygon, in numbers.
use Rattle.std.specs.Prelude.{◌≡◌, ◌⊎◌, ℕ, ℤ, ◌++◌, List, length, map, take, drop, Result, MatchResult}
use Rattle.std.specs.List.{All}
use Rattle.lattice.specs.Plane.{Pair, IsBefore}
use Rattle.hull_geometry.specs.Positions.{point_at}
use Rattle.motions.specs.Motions.{moved, AllMoveInRange}
use Rattle.motions.specs.declared.motion.Motion.{Motion}
use Rattle.motions.specs.declared.motion.Motion.TheVariants.{Translation, Rotation}
use Rattle.hull_reply.specs.Coordinates.{IsDirectionOf}
use Rattle.hull_reply.specs.Encoded.{IsBare, IsNumber}
use Rattle.hull_reply.specs.declared.code.Code.{Code}
use Rattle.hull_reply.specs.declared.code.Code.TheVariants as code
use Rattle.hull_reply.specs.declared.reply.HullReply.{HullReply}

-- the points after a motion, from one of them on and round; none of them is before the first
abbrev pub IsFromFirst : Motion → List Pair → List Pair → Type 0
IsFromFirst motion points after =
    (k : ℕ) × (after ≡ map (moved motion) (drop k points ++ take k points)) × All (λ t. ¬ IsBefore t (point_at after 0)) after

-- the first n of the points are translated, and the others are as they were
pub record IsTranslatedUpTo (dx dy : ℤ) (n : ℕ) (before after : List Pair) : Type 0 where
  pub long : length after ≡ length before
  pub front : take n after ≡ map (moved (Translation dx dy)) (take n before)
  pub rest : drop n after ≡ drop n before

-- The points were written as P says; or the array is unchanged, since a point would be out of range.
abbrev pub EncodesMoved : Motion → (List Pair → Type 0) → List Pair → List Pair → List Pair → HullReply → Type 0
EncodesMoved motion P points before after encoded =
    (¬ AllMoveInRange motion points × (after ≡ before) × IsBare code.OutOfRange encoded)
    ⊎ (AllMoveInRange motion points × P after × IsNumber code.Vertices (length points) encoded)

-- each vertex was written moved by (dx, dy), or the array is unchanged
abbrev pub EncodesTranslated : List Pair → ℤ → ℤ → List Pair → List Pair → HullReply → Type 0
EncodesTranslated points dx dy before after encoded =
    EncodesMoved (Translation dx dy) (λ written. written ≡ map (moved (Translation dx dy)) points) points before after encoded

-- the vertices were written rotated, from the first on; or the array is unchanged, also if the two numbers are no direction
abbrev pub EncodesRotated : List Pair → ℤ → ℤ → List Pair → List Pair → HullReply → Type 0
EncodesRotated points a b before after encoded =
    (asked : Result Pair Code) × IsDirectionOf a b asked
    × MatchResult asked (λ d. EncodesMoved (Rotation d) (IsFromFirst (Rotation d) points) points before after encoded)
    (λ fault. (after ≡ before) × IsBare fault encoded)
