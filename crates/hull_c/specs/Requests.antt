-- The results of many requests in an array.
use Rattle.std.specs.Prelude.{◌≡◌, ◌⊎◌, ℕ, ◌+◌, List, ◌∷◌}
use Rattle.bucket_tree.specs.Sets.{LimitedTree, bucket_set}
use Rattle.hull_reply.specs.Served.{IsAnswered}
use Rattle.hull_reply.specs.Encoded.{code_number}
use Rattle.hull_reply.specs.declared.code.Code.TheVariants as code
use Rattle.hull_reply.specs.declared.reply.HullReply.{HullReply}
use Rattle.hull_c.specs.declared.requests.HullRequest.{HullRequest}

-- the request was served by a set
abbrev pub AnswersRequest : HullRequest → LimitedTree → LimitedTree → HullReply → Type 0
AnswersRequest q old new encoded = IsAnswered bucket_set q.kind q.x q.y old new encoded

-- the code is that of a request that can't be served
abbrev pub IsBad : ℕ → Type 0
IsBad n = (n ≡ code_number code.OutOfRange)
    ⊎ ((n ≡ code_number code.ZeroDirection) ⊎ (n ≡ code_number code.UnknownKind))

-- The requests were served in their order, each at the object that those before it left (`serves` says how one is), up
-- to the end of the shorter array or the first request that can't be served. Each served request has its reply at the
-- front of the array, whose rest is unchanged.
abbrev pub AreServed : {T : Type 0} → (HullRequest → T → T → HullReply → Type 0) → List HullRequest → List HullReply → T → T
    → List HullReply → ℕ → Type 0
AreServed {T} serves (q ∷ qs) (_ ∷ rest) old new after made =
    (encoded : HullReply) × (behind : List HullReply) × (mid : T) × (after ≡ encoded ∷ behind)
    × serves q old mid encoded
    × ((IsBad encoded.code × (made ≡ 1) × (behind ≡ rest) × (new ≡ mid))
    ⊎ (¬ IsBad encoded.code × ((m : ℕ) × (made ≡ m + 1) × AreServed serves qs rest mid new behind m)))
AreServed serves _ before old new after made = (made ≡ 0) × (after ≡ before) × (new ≡ old)
