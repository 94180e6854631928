-- `hull_limit` meets its contract.
use Rattle.hull_reply.proofs.Steps.{[]}
use Rattle.hull_reply.proofs.Lends.{lends, reply}
use Rattle.hull_c.specs.contracts.hull.Hull.{the_row}
use Rattle.hull_c.specs.Calls.{IsLimitOf}
use Rattle.hull_c.proofs.exports.sets.hull_limit.Statement.{statement}
use Rattle.hull_c.proofs.exports.sets.hull_limit.Code as code
use Rattle.hull_c.proofs.calls.limit.Met.{met}

pub hull_limit_spec : {M : Type 1} → statement M
hull_limit_spec 𝓤 𝓛 𝓜 𝓡 wired =
    lends 𝓤 𝓛 𝓜 𝓡 0 [] tt the_row (reply 𝓛)
    (λ κs a t new ws u. IsLimitOf t new u) (code.unfolded 𝓤 𝓛.H 𝓜 𝓡 wired)
    (λ x. met 𝓤 𝓛 𝓜 𝓡 (code.calls-hull_c::calls::limit 𝓡.env wired) (x, tt))
