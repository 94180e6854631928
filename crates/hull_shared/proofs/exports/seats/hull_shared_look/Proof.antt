-- `hull_shared_look` meets its contract.
use Rattle.hull_reply.proofs.Steps.{[]}
use Rattle.hull_reply.proofs.Lends.{lends}
use Rattle.hull_shared.specs.contracts.seat.SharedSeat.{the_row}
use Rattle.hull_shared.proofs.SeatReplies.{seat_reply}
use Rattle.hull_shared.specs.Looks.{HasReplied}
use Rattle.hull_shared.proofs.exports.seats.hull_shared_look.Statement.{statement}
use Rattle.hull_shared.proofs.exports.seats.hull_shared_look.Code as code
use Rattle.hull_shared.proofs.looking.look.Met.{met}

pub hull_shared_look_spec : {M : Type 1} → statement M
hull_shared_look_spec 𝓤 𝓛 𝓜 𝓡 wired =
    lends 𝓤 𝓛 𝓜 𝓡 0 [] tt the_row (seat_reply 𝓛)
    (λ κs a t new ws u. HasReplied t new u) (code.unfolded 𝓤 𝓛.H 𝓜 𝓡 wired)
    (λ x. met 𝓤 𝓛 𝓜 𝓡 (code.calls-hull_shared::looking::look 𝓡.env wired) (x, tt))
