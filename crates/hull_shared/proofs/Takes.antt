-- A seat of which numbers request a call.
use Rattle.std.proofs.Common.{◌≡◌, ◌∙◌, ℕ, ℤ, refl, subst, sym}
use Rattle.std.specs.Prelude.{Option, Some, None, IsNone, true, false, Result, Ok, Err}
use Rattle.hull_reply.specs.declared.code.Code.{Code}
use Rattle.hull_set.specs.declared.call.Call.{Call}
use Rattle.ticket_lock.specs.Tokens.{IsTicketOf, seat_number, seat_seen, ticket_seat, ticket_seen}
use Rattle.hull_shared.specs.Locks.{HullLock, lock_of}
use Rattle.hull_shared.specs.Looks.{AcceptsBy, AcceptsRequest, Accepts, CanTake, IsRefusal, IsRefused}
use Rattle.hull_shared.specs.Looks.{IsWhyNotTaken, IsWhyRefused, TakesFor}
use Rattle.hull_shared.specs.SeatStates.{SeatValue}
use Rattle.hull_shared.specs.declared.looking.SeatReply.{SeatReply}
use Rattle.hull_shared.specs.declared.seat.AcquiredSeat.{AcquiredSeat}
use Rattle.hull_shared.specs.declared.seat.SharedSeat.{SharedSeat}
use Rattle.hull_shared.specs.declared.seat.SharedSeat.TheVariants.{Vacant, Acquired}
use Rattle.hull_shared.specs.declared.seat_state.TakenNumber.{TakenNumber}
use Rattle.hull_shared.proofs.SeatStates.{none_taken}

-- a seat that had no number, and whose ticket is of its own lock, took that number
pub took : (a : AcquiredSeat) (s : SeatValue) (taken : TakenNumber) (lock : HullLock) → a.state.seat ≡ Some s → IsNone a.state.taken
    → lock ≡ lock_of a.lock → IsTicketOf lock taken.ticket
    → (ticket_seat taken.ticket ≡ seat_number s) × (ticket_seen taken.ticket ≡ seat_seen s) → TakesFor a taken.call taken
took a s taken lock at idle same own of_seat = record {
  seat = s;
  was_idle = (at, none_taken a.state.taken idle);
  waits_for = (
    subst (λ (l : HullLock). IsTicketOf l taken.ticket) same own,
    of_seat.0 ∙ (a.is_state.idle s at).numbered,
    refl,
    of_seat.1,
  );
}

module _ (does : AcquiredSeat → Call → SharedSeat → SeatReply → Type 0) where
  -- an acquired seat that takes no number stays as it is
  stays_by : (asked : Result Call Code) (taken : Option TakenNumber) (a : AcquiredSeat) (c : Code) (r : SeatReply)
      → IsWhyNotTaken asked taken c → IsRefused asked (Acquired a) (Acquired a) r → AcceptsBy does asked taken a (Acquired a) r
  stays_by (Ok call) None a c r why refused = absurd why
  stays_by (Ok call) (Some t) a c r why refused = refused
  stays_by (Err fault) taken a c r why refused = refused

  -- a seat that takes no number stays as it is, whatever one that takes one does
  stays : (asked : Result Call Code) (seat : SharedSeat) (c : Code) (r : SeatReply) → IsWhyRefused asked seat c → IsRefusal c seat r
      → Accepts does asked seat seat r
  stays asked Vacant c r why refusal = (refl, (c, why, refusal))
  stays asked (Acquired a) c r why refusal = stays_by asked a.state.taken a c r why (refl, (c, why, refusal))

  -- an acquired seat with no number does what it is asked for
  does_by : (taken : Option TakenNumber) (a : AcquiredSeat) (new : SharedSeat) (call : Call) (r : SeatReply) → IsNone taken
      → does a call new r → AcceptsBy does (Ok call) taken a new r
  does_by None a new call r idle did = did
  does_by (Some t) a new call r idle did = absurd (let f : true ≡ false = idle in cc)

  module _ (kind : ℕ) (x y : ℤ) (seat : SharedSeat) (r : SeatReply) (can : Result Call Code) (may : CanTake kind x y seat can) where
    -- a seat that can take a number for the requested call has none
    pub is_idle : (a : AcquiredSeat) (call : Call) → seat ≡ Acquired a → can ≡ Ok call → IsNone a.state.taken
    is_idle a call at is =
        (subst (λ (s : SharedSeat). CanTake kind x y s (Ok call)) at (subst (λ (found : Result Call Code). CanTake kind x y seat found) is may)).0

    -- it has done so
    pub accepted : (a : AcquiredSeat) (new : SharedSeat) (call : Call) → seat ≡ Acquired a → can ≡ Ok call → does a call new r
        → AcceptsRequest does kind x y seat new r
    accepted a new call at is did =
        let asked = subst (λ (found : Result Call Code). CanTake kind x y seat found) is may in (
          Ok call,
          asked.1,
          subst (λ (s : SharedSeat). Accepts does (Ok call) s new r) (sym at)
              (does_by a.state.taken a new call r (is_idle a call at is) did),
        )

    -- one that takes none is unchanged
    pub refused : (c : Code) → can ≡ Err c → IsRefusal c seat r → AcceptsRequest does kind x y seat seat r
    refused c is refusal =
        let why = subst (λ (found : Result Call Code). CanTake kind x y seat found) is may in
        (why.0, why.1, stays why.0 seat c r why.2 refusal)
