-- `hull_shared_look_into` meets its contract.
use Rattle.hull_reply.proofs.Steps.{[], ◌∷◌}
use Rattle.hull_reply.proofs.Lends.{lends, relent}
use Rattle.hull_shared.specs.contracts.seat.SharedSeat.{the_row}
use Rattle.hull_reply.specs.contracts.vertices.HullPoint.{the_row as Vertex}
use Rattle.hull_shared.proofs.SeatReplies.{seat_reply}
use Rattle.hull_shared.specs.Looks.{HasRepliedInto}
use Rattle.hull_shared.proofs.exports.seats.hull_shared_look_into.Statement.{statement}
use Rattle.hull_shared.proofs.exports.seats.hull_shared_look_into.Code as code
use Rattle.hull_shared.proofs.looking.look_into.Met.{met}

pub hull_shared_look_into_spec : {M : Type 1} → statement M
hull_shared_look_into_spec 𝓤 𝓛 𝓜 𝓡 wired =
    lends 𝓤 𝓛 𝓜 𝓡 1 (relent 0 tt Vertex ∷ []) tt the_row (seat_reply 𝓛)
    (λ κs a t new ws u. HasRepliedInto t new a.0.now ws.0 u) (code.unfolded 𝓤 𝓛.H 𝓜 𝓡 wired)
    (λ x. met 𝓤 𝓛 𝓜 𝓡 (code.calls-hull_shared::looking::look_into 𝓡.env wired) (x, tt))
