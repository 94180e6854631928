-- `hull_load_held` meets its contract.
use Rattle.hull_reply.proofs.Steps.{[], ◌∷◌}
use Rattle.hull_reply.proofs.Lends.{lends, memory, reply, shared_array}
use Rattle.hull_c.specs.contracts.hull.Hull.{the_row}
use Rattle.hull_c.specs.contracts.held.HullHeld.{the_row as Held}
use Rattle.hull_c.specs.Held.{AreLoaded}
use Rattle.hull_c.proofs.exports.sets.hull_load_held.Statement.{statement}
use Rattle.hull_c.proofs.exports.sets.hull_load_held.Code as code
use Rattle.hull_c.proofs.held.load.Met.{met}

pub hull_load_held_spec : {M : Type 1} → statement M
hull_load_held_spec 𝓤 𝓛 𝓜 𝓡 wired =
    lends 𝓤 𝓛 𝓜 𝓡 1 (memory 𝓛 ∷ shared_array 𝓛 0 tt Held ∷ []) tt the_row (reply 𝓛)
    (λ κs a t new ws u. AreLoaded a.1.0.now t new u) (code.unfolded 𝓤 𝓛.H 𝓜 𝓡 wired)
    (λ x. met 𝓤 𝓛 𝓜 𝓡 (code.calls-hull_c::held::load 𝓡.env wired) (x, tt))
