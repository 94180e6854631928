-- The call that a seat is asked for.
use Rattle.std.specs.Prelude.{◌≡◌, ℕ, ℤ, Result, Ok, Err}
use Rattle.hull_set.specs.declared.call.Call as plain
use Rattle.hull_reply.specs.Requests.{IsRequestOf}
use Rattle.hull_reply.specs.declared.code.Code.{Code}
use Rattle.hull_reply.specs.declared.code.Code.TheVariants.{UnknownKind}
use Rattle.hull_reply.specs.declared.request.Request.{Request}
use Rattle.hull_reply.specs.declared.request.Request.TheVariants.{Call, Multiplicity}

-- the call of a request, or why there is none; the multiplicity of a point is no call of a journal
abbrev pub call_in : Result Request Code → Result plain.Call Code
call_in (Ok (Call call)) = Ok call
call_in (Ok (Multiplicity p)) = Err UnknownKind
call_in (Err fault) = Err fault

-- the call that a kind and two numbers request of a seat, or why there is none
abbrev pub IsAsked : ℕ → ℤ → ℤ → Result plain.Call Code → Type 0
IsAsked kind x y r = (asked : Result Request Code) × IsRequestOf kind x y asked × (r ≡ call_in asked)
