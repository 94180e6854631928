-- `hull_shared_read` meets its contract.
use Rattle.hull_reply.proofs.Steps.{[]}
use Rattle.hull_reply.proofs.Lends.{lends}
use Rattle.hull_shared.specs.contracts.reader.SharedReader.{the_row}
use Rattle.hull_shared.proofs.SnapshotReplies.{snapshot_reply}
use Rattle.hull_shared.specs.Readings.{HasSnapshotTakenIn}
use Rattle.hull_shared.proofs.exports.readers.hull_shared_read.Statement.{statement}
use Rattle.hull_shared.proofs.exports.readers.hull_shared_read.Code as code
use Rattle.hull_shared.proofs.reading.snapshot.Met.{met}

pub hull_shared_read_spec : {M : Type 1} → statement M
hull_shared_read_spec 𝓤 𝓛 𝓜 𝓡 wired =
    lends 𝓤 𝓛 𝓜 𝓡 0 [] tt the_row (snapshot_reply 𝓛)
    (λ κs a t new ws u. HasSnapshotTakenIn t new u) (code.unfolded 𝓤 𝓛.H 𝓜 𝓡 wired)
    (λ x. met 𝓤 𝓛 𝓜 𝓡 (code.calls-hull_shared::reading::snapshot 𝓡.env wired) (x, tt))
