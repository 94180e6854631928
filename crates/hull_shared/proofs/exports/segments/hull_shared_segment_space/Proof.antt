-- `hull_shared_segment_space` meets its contract.
use Rattle.hull_reply.proofs.Steps.{w32, []}
use Rattle.hull_reply.proofs.Lends.{lends, number}
use Rattle.hull_shared.specs.contracts.segment.Segment.{the_row}
use Rattle.hull_shared.specs.Segments.{HasReportedSpace}
use Rattle.hull_shared.proofs.exports.segments.hull_shared_segment_space.Statement.{statement}
use Rattle.hull_shared.proofs.exports.segments.hull_shared_segment_space.Code as code
use Rattle.hull_shared.proofs.segments.storage.Met.{met}

pub hull_shared_segment_space_spec : {M : Type 1} → statement M
hull_shared_segment_space_spec 𝓤 𝓛 𝓜 𝓡 wired =
    lends 𝓤 𝓛 𝓜 𝓡 0 [] tt the_row (number 𝓛 w32)
    (λ κs a t new ws u. HasReportedSpace t new u) (code.unfolded 𝓤 𝓛.H 𝓜 𝓡 wired)
    (λ x. met 𝓤 𝓛 𝓜 𝓡 (code.calls-hull_shared::segments::storage 𝓡.env wired) (x, tt))
