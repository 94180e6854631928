-- `hull_gather` meets its contract.
use Rattle.hull_reply.proofs.Steps.{[]}
use Rattle.hull_reply.proofs.Lends.{lends, reply}
use Rattle.hull_c.specs.contracts.hull.Hull.{the_row}
use Rattle.hull_c.specs.Calls.{IsGathered}
use Rattle.hull_c.proofs.exports.calls.hull_gather.Statement.{statement}
use Rattle.hull_c.proofs.exports.calls.hull_gather.Code as code
use Rattle.hull_c.proofs.calls.gather.Met.{met}

pub hull_gather_spec : {M : Type 1} → statement M
hull_gather_spec 𝓤 𝓛 𝓜 𝓡 wired =
    lends 𝓤 𝓛 𝓜 𝓡 0 [] tt the_row (reply 𝓛)
    (λ κs a t new ws u. IsGathered t new u) (code.unfolded 𝓤 𝓛.H 𝓜 𝓡 wired)
    (λ x. met 𝓤 𝓛 𝓜 𝓡 (code.calls-hull_c::calls::gather 𝓡.env wired) (x, tt))
