-- `hull_shared_is_newest` meets its contract.
use Rattle.hull_reply.proofs.Steps.{w32, []}
use Rattle.hull_reply.proofs.Lends.{lends, number}
use Rattle.hull_shared.specs.contracts.reader.SharedReader.{the_row}
use Rattle.hull_shared.specs.Readings.{HasReportedNewest}
use Rattle.hull_shared.proofs.exports.readers.hull_shared_is_newest.Statement.{statement}
use Rattle.hull_shared.proofs.exports.readers.hull_shared_is_newest.Code as code
use Rattle.hull_shared.proofs.reading.is_newest.Met.{met}

pub hull_shared_is_newest_spec : {M : Type 1} → statement M
hull_shared_is_newest_spec 𝓤 𝓛 𝓜 𝓡 wired =
    lends 𝓤 𝓛 𝓜 𝓡 0 [] tt the_row (number 𝓛 w32)
    (λ κs a t new ws u. HasReportedNewest t new u) (code.unfolded 𝓤 𝓛.H 𝓜 𝓡 wired)
    (λ x. met 𝓤 𝓛 𝓜 𝓡 (code.calls-hull_shared::reading::is_newest 𝓡.env wired) (x, tt))
