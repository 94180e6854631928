-- `hull_shared_reopen` meets its contract.
use Rattle.hull_reply.proofs.Steps.{w32, [], ◌∷◌}
use Rattle.hull_reply.proofs.Lends.{lends, memory, natural, reply, shared_array}
use Rattle.hull_shared.specs.contracts.shared_hull.SharedHull.{the_row}
use denote.Builtin.{u8}
use Rattle.std.specs.Prelude.{false}
use Rattle.hull_shared.specs.Reopenings.{HasReopened}
use Rattle.hull_shared.proofs.exports.opening.hull_shared_reopen.Statement.{statement}
use Rattle.hull_shared.proofs.exports.opening.hull_shared_reopen.Code as code
use Rattle.hull_shared.proofs.reopening.reopen.Met.{met}

pub hull_shared_reopen_spec : {M : Type 1} → statement M
hull_shared_reopen_spec 𝓤 𝓛 𝓜 𝓡 wired =
    lends 𝓤 𝓛 𝓜 𝓡 1 (memory 𝓛 ∷ shared_array 𝓛 0 tt u8 ∷ natural 𝓛 w32 ∷ natural 𝓛 w32 ∷ []) tt the_row (reply 𝓛)
    (λ κs a t new ws u. HasReopened a.1.0.now a.1.1.0 a.1.1.1.0 false t new u) (code.unfolded 𝓤 𝓛.H 𝓜 𝓡 wired)
    (λ x. met 𝓤 𝓛 𝓜 𝓡 (code.calls-hull_shared::reopening::reopen 𝓡.env wired) (x, tt))
