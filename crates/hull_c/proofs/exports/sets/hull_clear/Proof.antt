-- `hull_clear` meets its contract.
use Rattle.hull_reply.proofs.Steps.{[], ◌∷◌}
use Rattle.hull_reply.proofs.Lends.{lends, memory, reply}
use Rattle.hull_c.specs.contracts.hull.Hull.{the_row}
use Rattle.hull_c.specs.Calls.{IsCleared}
use Rattle.hull_c.proofs.exports.sets.hull_clear.Statement.{statement}
use Rattle.hull_c.proofs.exports.sets.hull_clear.Code as code
use Rattle.hull_c.proofs.calls.clear.Met.{met}

pub hull_clear_spec : {M : Type 1} → statement M
hull_clear_spec 𝓤 𝓛 𝓜 𝓡 wired =
    lends 𝓤 𝓛 𝓜 𝓡 0 (memory 𝓛 ∷ []) tt the_row (reply 𝓛)
    (λ κs a t new ws u. IsCleared t new u) (code.unfolded 𝓤 𝓛.H 𝓜 𝓡 wired)
    (λ x. met 𝓤 𝓛 𝓜 𝓡 (code.calls-hull_c::calls::clear 𝓡.env wired) (x, tt))
