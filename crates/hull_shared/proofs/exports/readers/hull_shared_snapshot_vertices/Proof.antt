-- `hull_shared_snapshot_vertices` meets its contract.
use Rattle.hull_reply.proofs.Steps.{[], ◌∷◌}
use Rattle.hull_reply.proofs.Lends.{lends, relent, reply}
use Rattle.hull_shared.specs.contracts.reader.SharedReader.{the_row}
use Rattle.hull_reply.specs.contracts.vertices.HullPoint.{the_row as Vertex}
use Rattle.hull_shared.specs.Readings.{HasPutSnapshot}
use Rattle.hull_shared.proofs.exports.readers.hull_shared_snapshot_vertices.Statement.{statement}
use Rattle.hull_shared.proofs.exports.readers.hull_shared_snapshot_vertices.Code as code
use Rattle.hull_shared.proofs.reading.put_snapshot.Met.{met}

pub hull_shared_snapshot_vertices_spec : {M : Type 1} → statement M
hull_shared_snapshot_vertices_spec 𝓤 𝓛 𝓜 𝓡 wired =
    lends 𝓤 𝓛 𝓜 𝓡 1 (relent 0 tt Vertex ∷ []) tt the_row (reply 𝓛)
    (λ κs a t new ws u. HasPutSnapshot t new a.0.now ws.0 u) (code.unfolded 𝓤 𝓛.H 𝓜 𝓡 wired)
    (λ x. met 𝓤 𝓛 𝓜 𝓡 (code.calls-hull_shared::reading::put_snapshot 𝓡.env wired) (x, tt))
