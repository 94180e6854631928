-- `hull_shared_text` meets its contract.
use Rattle.hull_reply.proofs.Steps.{[], ◌∷◌}
use Rattle.hull_reply.proofs.Lends.{lends, relent, reply}
use Rattle.hull_shared.specs.contracts.shared_hull.SharedHull.{the_row}
use denote.Builtin.{u8}
use Rattle.hull_shared.specs.SharedHulls.{HasWritten}
use Rattle.hull_shared.proofs.exports.closing.hull_shared_text.Statement.{statement}
use Rattle.hull_shared.proofs.exports.closing.hull_shared_text.Code as code
use Rattle.hull_shared.proofs.closing.text.Met.{met}

pub hull_shared_text_spec : {M : Type 1} → statement M
hull_shared_text_spec 𝓤 𝓛 𝓜 𝓡 wired =
    lends 𝓤 𝓛 𝓜 𝓡 1 (relent 0 tt u8 ∷ []) tt the_row (reply 𝓛)
    (λ κs a t new ws u. HasWritten t new a.0.now ws.0 u) (code.unfolded 𝓤 𝓛.H 𝓜 𝓡 wired)
    (λ x. met 𝓤 𝓛 𝓜 𝓡 (code.calls-hull_shared::closing::text 𝓡.env wired) (x, tt))
