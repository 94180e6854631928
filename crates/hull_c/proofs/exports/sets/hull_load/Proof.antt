-- `hull_load` meets its contract.
use Rattle.hull_reply.proofs.Steps.{[], ◌∷◌}
use Rattle.hull_reply.proofs.Lends.{lends, memory, reply, shared_array}
use Rattle.hull_c.specs.contracts.hull.Hull.{the_row}
use Rattle.hull_reply.specs.contracts.vertices.HullPoint.{the_row as Vertex}
use Rattle.hull_c.specs.Loads.{IsLoaded}
use Rattle.hull_c.proofs.exports.sets.hull_load.Statement.{statement}
use Rattle.hull_c.proofs.exports.sets.hull_load.Code as code
use Rattle.hull_c.proofs.load.load.Met.{met}

pub hull_load_spec : {M : Type 1} → statement M
hull_load_spec 𝓤 𝓛 𝓜 𝓡 wired =
    lends 𝓤 𝓛 𝓜 𝓡 1 (memory 𝓛 ∷ shared_array 𝓛 0 tt Vertex ∷ []) tt the_row (reply 𝓛)
    (λ κs a t new ws u. IsLoaded a.1.0.now t new u) (code.unfolded 𝓤 𝓛.H 𝓜 𝓡 wired)
    (λ x. met 𝓤 𝓛 𝓜 𝓡 (code.calls-hull_c::load::load 𝓡.env wired) (x, tt))
