-- `hull_nearest_held` meets its contract.
use Rattle.hull_reply.proofs.Steps.{w64, [], ◌∷◌}
use Rattle.hull_reply.proofs.Lends.{integer, lends, reply}
use Rattle.hull_c.specs.contracts.hull.Hull.{the_row}
use Rattle.hull_c.specs.NearestHeld.{IsNearestHeld}
use Rattle.hull_c.proofs.exports.sets.hull_nearest_held.Statement.{statement}
use Rattle.hull_c.proofs.exports.sets.hull_nearest_held.Code as code
use Rattle.hull_c.proofs.nearest_held.find.Met.{met}

pub hull_nearest_held_spec : {M : Type 1} → statement M
hull_nearest_held_spec 𝓤 𝓛 𝓜 𝓡 wired =
    lends 𝓤 𝓛 𝓜 𝓡 0 (integer 𝓛 w64 ∷ integer 𝓛 w64 ∷ []) tt the_row (reply 𝓛)
    (λ κs a t new ws u. IsNearestHeld t new a.0 a.1.0 u) (code.unfolded 𝓤 𝓛.H 𝓜 𝓡 wired)
    (λ x. met 𝓤 𝓛 𝓜 𝓡 (code.calls-hull_c::nearest_held::find 𝓡.env wired) (x, tt))
