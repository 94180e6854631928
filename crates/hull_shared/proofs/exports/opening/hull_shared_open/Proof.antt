-- `hull_shared_open` meets its contract.
use Rattle.hull_reply.proofs.Steps.{w32, w64, [], ◌∷◌}
use Rattle.hull_reply.proofs.Lends.{lends, memory, natural, number}
use Rattle.hull_shared.specs.contracts.shared_hull.SharedHull.{the_row}
use Rattle.std.specs.Prelude.{false}
use Rattle.hull_shared.specs.Limits.{kept_with}
use Rattle.hull_shared.specs.SharedHulls.{HasOpened}
use Rattle.hull_shared.proofs.exports.opening.hull_shared_open.Statement.{statement}
use Rattle.hull_shared.proofs.exports.opening.hull_shared_open.Code as code
use Rattle.hull_shared.proofs.opening.open.Met.{met}

pub hull_shared_open_spec : {M : Type 1} → statement M
hull_shared_open_spec 𝓤 𝓛 𝓜 𝓡 wired =
    lends 𝓤 𝓛 𝓜 𝓡 0 (memory 𝓛 ∷ natural 𝓛 w32 ∷ natural 𝓛 w64 ∷ natural 𝓛 w32 ∷ natural 𝓛 w32 ∷ []) tt the_row (number 𝓛 w32)
    (λ κs a t new ws u. HasOpened
    (kept_with a.1.0 a.1.1.0 a.1.1.1.0 a.1.1.1.1.0 false) t new u)
    (code.unfolded 𝓤 𝓛.H 𝓜 𝓡 wired)
    (λ x. met 𝓤 𝓛 𝓜 𝓡 (code.calls-hull_shared::opening::open 𝓡.env wired) (x, tt))
