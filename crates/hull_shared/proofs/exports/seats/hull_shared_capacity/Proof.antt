-- `hull_shared_capacity` meets its contract.
use Rattle.hull_reply.proofs.Steps.{w32, []}
use Rattle.hull_reply.proofs.Lends.{lends, number}
use Rattle.hull_shared.specs.contracts.seat.SharedSeat.{the_row}
use Rattle.hull_shared.specs.Looks.{HasReportedCapacity}
use Rattle.hull_shared.proofs.exports.seats.hull_shared_capacity.Statement.{statement}
use Rattle.hull_shared.proofs.exports.seats.hull_shared_capacity.Code as code
use Rattle.hull_shared.proofs.looking.capacity.Met.{met}

pub hull_shared_capacity_spec : {M : Type 1} → statement M
hull_shared_capacity_spec 𝓤 𝓛 𝓜 𝓡 wired =
    lends 𝓤 𝓛 𝓜 𝓡 0 [] tt the_row (number 𝓛 w32)
    (λ κs a t new ws u. HasReportedCapacity t new u) (code.unfolded 𝓤 𝓛.H 𝓜 𝓡 wired)
    (λ x. met 𝓤 𝓛 𝓜 𝓡 (code.calls-hull_shared::looking::capacity 𝓡.env wired) (x, tt))
