-- The results of asking for a hull in numbers. `P` holds of each set that the hull may be of.
use Rattle.std.specs.Prelude.{◌⊎◌, ℕ, ℤ, List, Result, Ok, Err}
use Rattle.lattice.specs.Plane.{Pair}
use Rattle.hull_set.specs.Held.{Held}
use Rattle.hull_set.specs.Replies.{Answers}
use Rattle.hull_set.specs.declared.call.Call.{Call}
use Rattle.hull_set.specs.declared.call.Call.TheVariants.{Place, Tangents, Extreme, Area, Vertices}
use Rattle.hull_set.specs.declared.reply.Reply.{Reply}
use Rattle.hull_set.specs.declared.rules.Rules.TheVariants.{Counted}
use Rattle.hull_reply.specs.Requests.{IsRequestOf}
use Rattle.hull_reply.specs.Encoded.{IsBare, Encodes}
use Rattle.hull_reply.specs.declared.code.Code.{Code}
use Rattle.hull_reply.specs.declared.code.Code.TheVariants as code
use Rattle.hull_reply.specs.declared.reply.HullReply.{HullReply}
use Rattle.hull_reply.specs.declared.request.Request.{Request}
use Rattle.hull_reply.specs.declared.request.Request.TheVariants as request

-- the numbers are a reply to the call that is allowed for every such set
pub record IsAllowedFor (P : List Pair → Type 0) (call : Call) (encoded : HullReply) : Type 0 where
  pub reply : Reply
  pub reports : Encodes encoded reply
  pub allowed : (held : Held) (limit : ℕ) → P held.points → Answers Counted held limit call reply

-- the hull was asked: a place, the tangents, a farthest point, the area, or how many vertices it has, to which the
-- reply is `counted`; all else is no kind for it
abbrev pub IsAskedOf : (List Pair → Type 0) → (HullReply → Type 0) → Result Request Code → HullReply → Type 0
IsAskedOf P counted (Ok (request.Call (Place q))) encoded = IsAllowedFor P (Place q) encoded
IsAskedOf P counted (Ok (request.Call (Tangents q))) encoded = IsAllowedFor P (Tangents q) encoded
IsAskedOf P counted (Ok (request.Call (Extreme d))) encoded = IsAllowedFor P (Extreme d) encoded
IsAskedOf P counted (Ok (request.Call Area)) encoded = IsAllowedFor P Area encoded
IsAskedOf P counted (Ok (request.Call Vertices)) encoded = counted encoded
IsAskedOf P counted (Ok _) encoded = IsBare code.UnknownKind encoded
IsAskedOf P counted (Err fault) encoded = IsBare fault encoded

-- the kind is one of those that can be asked, and the request of it and these two numbers was; for another kind the
-- reply is that there is no such kind, for any two numbers
abbrev pub IsAnswerOf : (ℕ → Type 0) → (Result Request Code → HullReply → Type 0) → ℕ → ℤ → ℤ → HullReply → Type 0
IsAnswerOf IsKind asks kind x y encoded =
    (¬ IsKind kind × IsBare code.UnknownKind encoded)
    ⊎ (IsKind kind × ((asked : Result Request Code) × IsRequestOf kind x y asked × asks asked encoded))
