-- `hull_shared_take_and_look` meets its contract.
use Rattle.hull_reply.proofs.Steps.{w32, w64, [], ◌∷◌}
use Rattle.hull_reply.proofs.Lends.{integer, lends, natural}
use Rattle.hull_shared.specs.contracts.seat.SharedSeat.{the_row}
use Rattle.hull_shared.proofs.SeatReplies.{seat_reply}
use Rattle.hull_shared.specs.Looks.{HasTakenAndLooked}
use Rattle.hull_shared.proofs.exports.seats.hull_shared_take_and_look.Statement.{statement}
use Rattle.hull_shared.proofs.exports.seats.hull_shared_take_and_look.Code as code
use Rattle.hull_shared.proofs.looking.take_and_look.Met.{met}

pub hull_shared_take_and_look_spec : {M : Type 1} → statement M
hull_shared_take_and_look_spec 𝓤 𝓛 𝓜 𝓡 wired =
    lends 𝓤 𝓛 𝓜 𝓡 0 (natural 𝓛 w32 ∷ integer 𝓛 w64 ∷ integer 𝓛 w64 ∷ []) tt the_row (seat_reply 𝓛)
    (λ κs a t new ws u. HasTakenAndLooked a.0 a.1.0 a.1.1.0 t new u) (code.unfolded 𝓤 𝓛.H 𝓜 𝓡 wired)
    (λ x. met 𝓤 𝓛 𝓜 𝓡 (code.calls-hull_shared::looking::take_and_look 𝓡.env wired) (x, tt))
