-- `hull_calls` meets its contract.
use Rattle.hull_reply.proofs.Steps.{w64, [], ◌∷◌}
use Rattle.hull_reply.proofs.Lends.{lends, number, relent, shared_array}
use Rattle.hull_c.specs.contracts.hull.Hull.{the_row}
use Rattle.hull_c.specs.contracts.requests.HullRequest.{the_row as Request}
use Rattle.hull_reply.specs.contracts.reply.HullReply.{the_row as Reply}
use Rattle.hull_c.specs.Requests.{AnswersRequest, AreServed}
use Rattle.hull_c.proofs.exports.calls.hull_calls.Statement.{statement}
use Rattle.hull_c.proofs.exports.calls.hull_calls.Code as code
use Rattle.hull_c.proofs.requests.calls_of.Met.{met}

pub hull_calls_spec : {M : Type 1} → statement M
hull_calls_spec 𝓤 𝓛 𝓜 𝓡 wired =
    lends 𝓤 𝓛 𝓜 𝓡 2 (shared_array 𝓛 0 tt Request ∷ relent 1 tt Reply ∷ []) tt the_row (number 𝓛 w64)
    (λ κs a t new ws u. AreServed AnswersRequest a.0.now a.1.0.now t new ws.1.0 u) (code.unfolded 𝓤 𝓛.H 𝓜 𝓡 wired)
    (λ x. met 𝓤 𝓛 𝓜 𝓡 (code.calls-hull_c::requests::calls_of 𝓡.env wired) (x, tt))
