-- The state of an acquired seat.
use Rattle.std.proofs.Common.{◌≡◌, ◌∙◌, ℕ, Some, refl, subst, sym}
use Rattle.std.specs.Prelude.{Option, None, IsNone, IsSome, true, false}
use Rattle.hull_shared.specs.Locks.{HullLock}
use Rattle.hull_shared.specs.Looks.{HasNumber, HasSeat}
use Rattle.hull_shared.specs.SeatStates.{IsSeatAt, IsSeatStateAt, IsTakenAt, SeatValue, is_either}
use Rattle.hull_shared.specs.declared.seat_state.SeatState.{SeatState}
use Rattle.hull_shared.specs.declared.seat_state.TakenNumber.{TakenNumber}

-- with no number there is a seat
some_seat : (seat : Option SeatValue) (taken : Option TakenNumber) → is_either seat taken ≡ true → IsNone taken → IsSome seat
some_seat (Some s) None is idle = refl
some_seat None None is idle = absurd (let f : false ≡ true = is in cc)
some_seat seat (Some t) is idle = absurd (let f : true ≡ false = idle in cc)

-- with a number there is no seat
none_seat : (seat : Option SeatValue) (t : TakenNumber) → is_either seat (Some t) ≡ true → seat ≡ None
none_seat (Some s) t is = absurd (let f : false ≡ true = is in cc)
none_seat None t is = refl

-- there is no number
pub none_taken : (taken : Option TakenNumber) → IsNone taken → taken ≡ None
none_taken None idle = refl
none_taken (Some t) idle = absurd (let f : true ≡ false = idle in cc)

module _ (lock : HullLock) (number : ℕ) (state : SeatState) where
  -- a seat with no number has the state of one
  pub idle_state : (s : SeatValue) → HasSeat state s → IsSeatAt lock number state.ledger s → IsSeatStateAt lock number state
  idle_state s has is = record {
    either = rw (has.0, has.1) refl;
    idle = λ q at. let same : s ≡ q = (let e : Some s ≡ Some q = sym has.0 ∙ at in cc) in
        subst (λ (x : SeatValue). IsSeatAt lock number state.ledger x) same is;
    waiting = λ t at. absurd (let e : None ≡ Some t = sym has.1 ∙ at in cc);
  }

  -- and so has one that took a number
  pub waiting_state : (t : TakenNumber) → HasNumber state t → IsTakenAt lock number state.ledger t → IsSeatStateAt lock number state
  waiting_state t has is = record {
    either = rw (has.0, has.1) refl;
    idle = λ s at. absurd (let e : None ≡ Some s = sym has.1 ∙ at in cc);
    waiting = λ u at. let same : t ≡ u = (let e : Some t ≡ Some u = sym has.0 ∙ at in cc) in
        subst (λ (x : TakenNumber). IsTakenAt lock number state.ledger x) same is;
  }

  module _ (is_state : IsSeatStateAt lock number state) where
    -- with no number there is a seat
    pub has_seat : IsNone state.taken → IsSome state.seat
    has_seat idle = some_seat state.seat state.taken is_state.either idle

    -- with a number there is no seat
    pub has_no_seat : (t : TakenNumber) → state.taken ≡ Some t → state.seat ≡ None
    has_no_seat t is = none_seat state.seat t
        (subst (λ (taken : Option TakenNumber). is_either state.seat taken ≡ true) is is_state.either)
