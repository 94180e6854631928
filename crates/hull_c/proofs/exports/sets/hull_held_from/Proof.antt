-- `hull_held_from` meets its contract.
use Rattle.hull_reply.proofs.Steps.{w64, [], ◌∷◌}
use Rattle.hull_reply.proofs.Lends.{integer, lends, relent, reply}
use Rattle.hull_c.specs.contracts.hull.Hull.{the_row}
use Rattle.hull_c.specs.contracts.held.HullHeld.{the_row as Held}
use Rattle.hull_c.specs.Held.{IsListed}
use Rattle.hull_c.proofs.exports.sets.hull_held_from.Statement.{statement}
use Rattle.hull_c.proofs.exports.sets.hull_held_from.Code as code
use Rattle.hull_c.proofs.held.list.Met.{met}

pub hull_held_from_spec : {M : Type 1} → statement M
hull_held_from_spec 𝓤 𝓛 𝓜 𝓡 wired =
    lends 𝓤 𝓛 𝓜 𝓡 1 (integer 𝓛 w64 ∷ integer 𝓛 w64 ∷ relent 0 tt Held ∷ []) tt the_row (reply 𝓛)
    (λ κs a t new ws u. IsListed t new a.0 a.1.0 a.1.1.0.now ws.1.1.0 u) (code.unfolded 𝓤 𝓛.H 𝓜 𝓡 wired)
    (λ x. met 𝓤 𝓛 𝓜 𝓡 (code.calls-hull_c::held::list 𝓡.env wired) (x, tt))
