-- `hull_bridges` meets its contract.
use Rattle.hull_reply.proofs.Steps.{w32, [], ◌∷◌}
use Rattle.hull_reply.proofs.Lends.{lends, natural, relent, reply}
use Rattle.hull_c.specs.contracts.hull.Hull.{the_row}
use Rattle.hull_c.specs.contracts.bridges.HullBridge.{the_row as Bridge}
use Rattle.hull_c.specs.Bridges.{AreBridges}
use Rattle.hull_c.proofs.exports.sets.hull_bridges.Statement.{statement}
use Rattle.hull_c.proofs.exports.sets.hull_bridges.Code as code
use Rattle.hull_c.proofs.bridges.bridges.Met.{met}

pub hull_bridges_spec : {M : Type 1} → statement M
hull_bridges_spec 𝓤 𝓛 𝓜 𝓡 wired =
    lends 𝓤 𝓛 𝓜 𝓡 1 (natural 𝓛 w32 ∷ relent 0 tt Bridge ∷ []) tt the_row (reply 𝓛)
    (λ κs a t new ws u. AreBridges t new a.0 a.1.0.now ws.1.0 u) (code.unfolded 𝓤 𝓛.H 𝓜 𝓡 wired)
    (λ x. met 𝓤 𝓛 𝓜 𝓡 (code.calls-hull_c::bridges::bridges 𝓡.env wired) (x, tt))
