-- `hull_shared_close` meets its contract.
use Rattle.hull_reply.proofs.Steps.{w32, []}
use Rattle.hull_reply.proofs.Lends.{lends, number}
use Rattle.hull_shared.specs.contracts.shared_hull.SharedHull.{the_row}
use Rattle.hull_shared.specs.SharedHulls.{HasClosed}
use Rattle.hull_shared.proofs.exports.closing.hull_shared_close.Statement.{statement}
use Rattle.hull_shared.proofs.exports.closing.hull_shared_close.Code as code
use Rattle.hull_shared.proofs.closing.close.Met.{met}

pub hull_shared_close_spec : {M : Type 1} → statement M
hull_shared_close_spec 𝓤 𝓛 𝓜 𝓡 wired =
    lends 𝓤 𝓛 𝓜 𝓡 0 [] tt the_row (number 𝓛 w32)
    (λ κs a t new ws u. HasClosed t new u) (code.unfolded 𝓤 𝓛.H 𝓜 𝓡 wired)
    (λ x. met 𝓤 𝓛 𝓜 𝓡 (code.calls-hull_shared::closing::close 𝓡.env wired) (x, tt))
