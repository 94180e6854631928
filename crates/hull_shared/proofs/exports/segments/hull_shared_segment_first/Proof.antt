-- `hull_shared_segment_first` meets its contract.
use Rattle.hull_reply.proofs.Steps.{w64, []}
use Rattle.hull_reply.proofs.Lends.{lends, number}
use Rattle.hull_shared.specs.contracts.segment.Segment.{the_row}
use Rattle.hull_shared.specs.SegmentNumbers.{HasReportedFirst}
use Rattle.hull_shared.proofs.exports.segments.hull_shared_segment_first.Statement.{statement}
use Rattle.hull_shared.proofs.exports.segments.hull_shared_segment_first.Code as code
use Rattle.hull_shared.proofs.journal_lines_in.segment_first.Met.{met}

pub hull_shared_segment_first_spec : {M : Type 1} → statement M
hull_shared_segment_first_spec 𝓤 𝓛 𝓜 𝓡 wired =
    lends 𝓤 𝓛 𝓜 𝓡 0 [] tt the_row (number 𝓛 w64)
    (λ κs a t new ws u. HasReportedFirst t new u) (code.unfolded 𝓤 𝓛.H 𝓜 𝓡 wired)
    (λ x. met 𝓤 𝓛 𝓜 𝓡 (code.calls-hull_shared::journal_lines_in::segment_first 𝓡.env wired) (x, tt))
