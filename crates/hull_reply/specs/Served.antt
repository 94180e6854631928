-- The result of a request that is applied to a set. `S` is a type of sets, and `K` what the trait `HullSet` states of
-- one.
use Rattle.std.specs.Prelude.{◌≡◌, ℕ, ℤ, Result, Ok, Err}
use Rattle.lattice.specs.Plane.{Pair}
use Rattle.hull_set.specs.Replies.{Answers, after}
use Rattle.hull_set.specs.declared.rules.Rules.TheVariants.{Counted}
use Rattle.hull_set.specs.declared.call.Call as plain
use Rattle.hull_set.specs.declared.reply.Reply.{Reply}
use Rattle.hull_set.specs.declared.set.HullSet.{Ghosts}
use Rattle.hull_reply.specs.Requests.{IsRequestOf}
use Rattle.hull_reply.specs.Encoded.{IsBare, IsNumber, Encodes}
use Rattle.hull_reply.specs.declared.code.Code.{Code}
use Rattle.hull_reply.specs.declared.code.Code.TheVariants.{Number}
use Rattle.hull_reply.specs.declared.reply.HullReply.{HullReply}
use Rattle.hull_reply.specs.declared.request.Request.{Request}
use Rattle.hull_reply.specs.declared.request.Request.TheVariants.{Call, Multiplicity}

-- the call was made: the numbers mean a reply that is allowed for the set's contents, and the reply has its effect; the
-- limit stays, and a sound set stays sound
pub record IsServed {S : Type 0} (K : Ghosts S) (call : plain.Call) (old new : S) (encoded : HullReply) : Type 0 where
  pub reply : Reply
  pub reports : Encodes encoded reply
  pub allowed : Answers Counted (K.held old) (K.bound old) call reply
  pub effect : K.held new ≡ after (K.held old) call reply
  pub same_limit : K.bound new ≡ K.bound old
  pub sound : K.sound old → K.sound new

-- the reply is the multiplicity of the point
abbrev pub IsMultiplicityOf : {S : Type 0} → Ghosts S → Pair → S → HullReply → Type 0
IsMultiplicityOf K p set encoded = IsNumber Number ((K.held set).multiplicities p) encoded

-- the request was applied: a call was made; or the reply is the multiplicity of a point or the error of the request,
-- and the set is unchanged
abbrev pub IsServedFor : {S : Type 0} → Ghosts S → Result Request Code → S → S → HullReply → Type 0
IsServedFor K (Ok (Call call)) old new encoded = IsServed K call old new encoded
IsServedFor K (Ok (Multiplicity p)) old new encoded = (new ≡ old) × IsMultiplicityOf K p old encoded
IsServedFor K (Err fault) old new encoded = (new ≡ old) × IsBare fault encoded

-- the request of the kind of this number and two numbers was applied
abbrev pub IsAnswered : {S : Type 0} → Ghosts S → ℕ → ℤ → ℤ → S → S → HullReply → Type 0
IsAnswered K kind x y old new encoded =
    (asked : Result Request Code) × IsRequestOf kind x y asked × IsServedFor K asked old new encoded
