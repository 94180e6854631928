-- `hull_shared_segment_reserve` meets its contract.
use Rattle.hull_reply.proofs.Steps.{w32, [], ◌∷◌}
use Rattle.hull_reply.proofs.Lends.{lends, memory, natural, number}
use Rattle.hull_shared.specs.contracts.segment.Segment.{the_row}
use Rattle.hull_shared.specs.Segments.{HasReserved}
use Rattle.hull_shared.proofs.exports.segments.hull_shared_segment_reserve.Statement.{statement}
use Rattle.hull_shared.proofs.exports.segments.hull_shared_segment_reserve.Code as code
use Rattle.hull_shared.proofs.segments.reserve.Met.{met}

pub hull_shared_segment_reserve_spec : {M : Type 1} → statement M
hull_shared_segment_reserve_spec 𝓤 𝓛 𝓜 𝓡 wired =
    lends 𝓤 𝓛 𝓜 𝓡 0 (memory 𝓛 ∷ natural 𝓛 w32 ∷ []) tt the_row (number 𝓛 w32)
    (λ κs a t new ws u. HasReserved a.1.0 t new u) (code.unfolded 𝓤 𝓛.H 𝓜 𝓡 wired)
    (λ x. met 𝓤 𝓛 𝓜 𝓡 (code.calls-hull_shared::segments::reserve 𝓡.env wired) (x, tt))
