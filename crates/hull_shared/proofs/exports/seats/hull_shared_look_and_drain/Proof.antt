-- `hull_shared_look_and_drain` meets its contract.
use Rattle.hull_reply.proofs.Steps.{alloc_all, and_then, enter, framed, free_all, get, lands_as, look_at, no_more, pass_all, refl}
use Rattle.hull_reply.proofs.Steps.{returns, tables, [], ◌$◌, ! }
use Rattle.hull_reply.proofs.Lends.{borrows, calls_on, copies, handed}
use Rattle.hull_shared.proofs.LendsBoth.{lends_both}
use Rattle.hull_shared.proofs.SeatReplies.{seat_reply}
use mathlib.Core.Option.{none}
use Rattle.hull_shared.specs.contracts.seat.SharedSeat.{the_row as R}
use Rattle.hull_shared.specs.contracts.segment.Segment.{the_row as Q}
use Rattle.hull_shared.specs.Drains.{HasRepliedWith}
use Rattle.hull_shared.proofs.exports.seats.hull_shared_look_and_drain.Statement.{statement}
use Rattle.hull_shared.proofs.exports.seats.hull_shared_look_and_drain.Code as code
use Rattle.hull_shared.proofs.draining.look_and_drain.Met.{met}

pub hull_shared_look_and_drain_spec : {M : Type 1} → statement M
hull_shared_look_and_drain_spec 𝓤 𝓛 𝓜 𝓡 wired =
    lends_both 𝓤 𝓛 𝓜 𝓡 [] R Q (seat_reply 𝓛) (λ t s. none)
    (λ a t new s left u. HasRepliedWith t new s left u)
    (λ x. met 𝓤 𝓛 𝓜 𝓡 (code.calls-hull_shared::draining::look_and_drain 𝓡.env wired) (x, tt)) code.function
    (code.unfolded 𝓤 𝓛.H 𝓜 𝓡 wired) (λ b o d w P typed.
    enter ! _ _ _ _ _ $ alloc_all ! (λ l. pass_all ! refl ((tt, tt), ((tt, tt), tt)) $
    copies ! refl refl (tt, tt) $ copies ! refl refl (tt, tt) $ copies ! refl refl (tt, tt) $ copies ! refl refl (tt, tt) $
    borrows ! refl refl (tt, tt) $ copies ! refl refl (tt, tt) $ borrows ! refl refl (tt, tt) $ copies ! refl refl (tt, tt) $
    calls_on ! (framed 𝓤 𝓛.H 𝓜 (tables 𝓤 𝓛.H 𝓜 𝓡 𝓡.env)) typed
    (and_then ! (get ! refl) (and_then ! (get ! refl) (no_more !))) (λ v fits.
    lands_as ! refl refl fits $ returns ! (look_at ! 0 refl) $ free_all ! refl $ handed !)))
