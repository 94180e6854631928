-- The results of the calls on the hull of points that are only added.
use Rattle.std.specs.Prelude.{◌≡◌, ◌≢◌, ◌⊎◌, ℕ, ℤ, List, [], Result, Ok}
use Rattle.lattice.specs.Plane.{Pair}
use Rattle.lattice.specs.Places.{IsOutside}
use Rattle.lattice.specs.Vertices.{IsVertexList}
use Rattle.hull_plain.specs.Growth.{Chains, HasGrownBy, IsHullOf, IsWhyNotGrown}
use Rattle.hull_plain.specs.declared.growing_hull.GrowFault.TheVariants.{TooMany}
use Rattle.hull_set.specs.declared.call.Call.TheVariants as call
use Rattle.hull_reply.specs.Encoded.{IsBare}
use Rattle.hull_reply.specs.Requests.{kind_number}
use Rattle.hull_reply.specs.Vertices.{EncodesVertices}
use Rattle.hull_reply.specs.declared.code.Code.{Code}
use Rattle.hull_reply.specs.declared.code.Code.TheVariants as code
use Rattle.hull_reply.specs.declared.kind.Kind.TheVariants as kinds
use Rattle.hull_reply.specs.declared.reply.HullReply.{HullReply}
use Rattle.hull_reply.specs.declared.request.Request.{Request}
use Rattle.hull_reply.specs.declared.request.Request.TheVariants as request
use Rattle.hull_c.specs.Allowed.{IsAllowedFor, IsAnswerOf, IsAskedOf}
use Rattle.hull_c.specs.Polygons.{IsPolygonKind}
use Rattle.hull_c.specs.declared.requests.HullRequest.{HullRequest}

-- p was added to each set with this hull: the reply is its place before
abbrev pub IsAdded : Pair → Chains → Chains → HullReply → Type 0
IsAdded p old new encoded = IsAllowedFor (λ S. IsHullOf S old) (call.Place p) encoded × HasGrownBy p old new

-- why a point outside is refused: a chain has as many vertices as a set may have points, or memory was refused
abbrev pub IsWhyRefused : Chains → HullReply → Type 0
IsWhyRefused h encoded = (IsWhyNotGrown TooMany h × IsBare code.TooMany encoded) ⊎ IsBare code.NoMemory encoded

-- p is outside each set with this hull, and was refused, and the hull is unchanged
abbrev pub IsRefusedPoint : Pair → Chains → Chains → HullReply → Type 0
IsRefusedPoint p old new encoded =
    (new ≡ old) × ((S : List Pair) → IsHullOf S old → IsOutside S p) × IsWhyRefused old encoded

-- the hull was asked, and is unchanged; the number of its vertices is a list's, for which it allocates
abbrev pub IsAskedOfGrowing : Result Request Code → Chains → Chains → HullReply → Type 0
IsAskedOfGrowing asked old new encoded =
    (new ≡ old) × IsAskedOf (λ S. IsHullOf S old) (IsAllowedFor (λ S. IsHullOf S old) call.Vertices) asked encoded

-- a point was added or refused, or the hull was asked
abbrev pub IsGrowingServed : Chains → Chains → Result Request Code → HullReply → Type 0
IsGrowingServed old new (Ok (request.Call (call.Add p))) encoded = IsAdded p old new encoded ⊎ IsRefusedPoint p old new encoded
IsGrowingServed old new asked encoded = IsAskedOfGrowing asked old new encoded

-- the number of a kind that this hull takes: of adding a point, or of those that vertices can be asked
abbrev pub IsGrowingKind : ℕ → Type 0
IsGrowingKind kind = (kind ≡ kind_number kinds.Add) ⊎ IsPolygonKind kind

-- the call of the kind with this number and two numbers was made; a kind that the hull does not take changes nothing
abbrev pub IsGrowingCall : ℕ → ℤ → ℤ → Chains → Chains → HullReply → Type 0
IsGrowingCall kind x y old new encoded =
    IsAnswerOf IsGrowingKind (IsGrowingServed old new) kind x y encoded × (¬ IsGrowingKind kind → new ≡ old)

-- the request was served
abbrev pub AnswersGrowingRequest : HullRequest → Chains → Chains → HullReply → Type 0
AnswersGrowingRequest q old new encoded = IsGrowingCall q.kind q.x q.y old new encoded

-- the hull is unchanged; its vertices were written to the array, or it is too short for them, or memory was refused
-- (the hull of no points needs none)
abbrev pub AreGrowingVertices : Chains → Chains → List Pair → List Pair → HullReply → Type 0
AreGrowingVertices old new before after encoded =
    (new ≡ old)
    × (((vertices : List Pair) × ((S : List Pair) → IsHullOf S old → IsVertexList S vertices)
    × EncodesVertices vertices before after encoded)
    ⊎ (((S : List Pair) → IsHullOf S old → S ≢ []) × (after ≡ before) × IsBare code.NoMemory encoded))
