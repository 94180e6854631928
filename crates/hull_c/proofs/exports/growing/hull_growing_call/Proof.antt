-- `hull_growing_call` meets its contract.
use Rattle.hull_reply.proofs.Steps.{w32, w64, [], ◌∷◌}
use Rattle.hull_reply.proofs.Lends.{integer, lends, natural, reply}
use Rattle.hull_plain.specs.contracts.growing_hull.GrowingHull.{the_row}
use Rattle.hull_c.specs.Growing.{IsGrowingCall}
use Rattle.hull_c.proofs.exports.growing.hull_growing_call.Statement.{statement}
use Rattle.hull_c.proofs.exports.growing.hull_growing_call.Code as code
use Rattle.hull_c.proofs.growing.call.Met.{met}

pub hull_growing_call_spec : {M : Type 1} → statement M
hull_growing_call_spec 𝓤 𝓛 𝓜 𝓡 wired =
    lends 𝓤 𝓛 𝓜 𝓡 0 (natural 𝓛 w32 ∷ integer 𝓛 w64 ∷ integer 𝓛 w64 ∷ []) tt the_row (reply 𝓛)
    (λ κs a t new ws u. IsGrowingCall a.0 a.1.0 a.1.1.0 t new u) (code.unfolded 𝓤 𝓛.H 𝓜 𝓡 wired)
    (λ x. met 𝓤 𝓛 𝓜 𝓡 (code.calls-hull_c::growing::call 𝓡.env wired) (x, tt))
