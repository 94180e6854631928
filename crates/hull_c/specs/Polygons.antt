-- The results of asking a convex polygon, in numbers.
use Rattle.std.specs.Prelude.{◌≡◌, ◌≢◌, ◌⊎◌, ◌<◌, ◌≤◌, ℕ, ℤ, List, [], length, drop, min, slice_index_or, Result}
use Rattle.std.specs.List.{All}
use Rattle.lattice.specs.Plane.{Pair}
use Rattle.hull_polygon.specs.Polygons.{IsPolygonOf, IsShortPolygon}
use Rattle.hull_reply.specs.Requests.{kind_number}
use Rattle.hull_reply.specs.Encoded.{IsBare, IsNumber}
use Rattle.hull_reply.specs.declared.code.Code.{Code}
use Rattle.hull_reply.specs.declared.code.Code.TheVariants as code
use Rattle.hull_reply.specs.declared.kind.Kind.TheVariants as kinds
use Rattle.hull_reply.specs.declared.reply.HullReply.{HullReply}
use Rattle.hull_reply.specs.declared.request.Request.{Request}
use Rattle.hull_c.specs.Allowed.{IsAnswerOf, IsAskedOf}
use Rattle.hull_c.specs.Loads.{HasCoordinates}
use Rattle.hull_c.specs.declared.requests.HullRequest.{HullRequest}

-- the vertices were asked; their number is known
abbrev pub IsAskedOfPolygon : List Pair → Result Request Code → HullReply → Type 0
IsAskedOfPolygon vertices asked encoded =
    IsAskedOf (λ S. IsPolygonOf S vertices) (IsNumber code.Vertices (length vertices)) asked encoded

-- the number of a kind that vertices can be asked: from that of a place to that of the area
abbrev pub IsPolygonKind : ℕ → Type 0
IsPolygonKind kind = (kind_number kinds.Place ≤ kind) × (kind ≤ kind_number kinds.Area)

-- the request of the kind with this number and these two numbers was asked of the vertices
abbrev pub IsPolygonAnswer : List Pair → ℕ → ℤ → ℤ → HullReply → Type 0
IsPolygonAnswer vertices kind x y encoded = IsAnswerOf IsPolygonKind (IsAskedOfPolygon vertices) kind x y encoded

-- the request at i was asked of the vertices
abbrev pub AnswersAt : List Pair → List HullRequest → ℕ → HullReply → Type 0
AnswersAt vertices qs i encoded =
    (q : HullRequest) → let asked = slice_index_or qs i q in IsPolygonAnswer vertices asked.kind asked.x asked.y encoded

-- as many requests as the shorter array has were asked of the vertices, and the replies are at the front of the
-- array, whose rest is unchanged
pub record ArePolygonAnswers (vertices : List Pair) (qs : List HullRequest) (before after : List HullReply) (made : ℕ) : Type 0
  where
    pub all : made ≡ min (length qs) (length before)
    pub answered : (i : ℕ) (r : HullReply) → i < made → AnswersAt vertices qs i (slice_index_or after i r)
    pub rest : drop made after ≡ drop made before
    pub long : length after ≡ length before

-- 1 for a convex polygon, 0 for other points, or why neither: one of them is out of range, or memory was refused (no
-- points need none)
abbrev pub EncodesPolygon : List Pair → HullReply → Type 0
EncodesPolygon points encoded =
    (¬ All HasCoordinates points × IsBare code.OutOfRange encoded)
    ⊎ (All HasCoordinates points × ((IsShortPolygon points × IsNumber code.Number 1 encoded)
    ⊎ ((¬ IsShortPolygon points × IsNumber code.Number 0 encoded) ⊎ ((points ≢ []) × IsBare code.NoMemory encoded))))
