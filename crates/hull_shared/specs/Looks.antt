-- The results of taking a number, and of looking whether it is served.
use Rattle.std.specs.Prelude.{◌≡◌, ◌≢◌, ◌+◌, ℕ, ℤ, List, Option, Some, None, IsNone, Result, Ok, Err}
use mathlib.Core.List.{IsPrefix}
use Rattle.lattice.specs.Plane.{Pair}
use Rattle.hull_book.specs.Marks.{plain}
use Rattle.hull_book.specs.declared.marked_line.MarkedLine.{MarkedLine}
use Rattle.hull_pool.specs.Work.{lines_of}
use Rattle.hull_set.specs.declared.call.Call.{Call}
use Rattle.hull_set.specs.declared.reply.Reply.TheVariants as reply
use Rattle.hull_reply.specs.Vertices.{EncodesVertices}
use Rattle.hull_reply.specs.Encoded.{IsBare, Encodes}
use Rattle.hull_reply.specs.declared.code.Code.{Code}
use Rattle.hull_reply.specs.declared.code.Code.TheVariants as code
use Rattle.hull_reply.specs.declared.reply.HullReply.{HullReply}
use Rattle.hull_book.specs.Ledgers.{LedgerValue}
use Rattle.ticket_lock.specs.Tokens.{IsTicketOf, seat_seen, ticket_looks, ticket_number, ticket_seat, ticket_seen}
use Rattle.hull_shared.specs.Asked.{IsAsked}
use Rattle.hull_shared.specs.SharedHullBooks.{HasServedAt, Serves}
use Rattle.hull_shared.specs.declared.answer.StateAfter.{StateAfter}
use Rattle.hull_shared.specs.declared.answer.SharedHullAnswer.{SharedHullAnswer}
use Rattle.hull_shared.specs.declared.answer.SharedHullAnswer.TheVariants.{Written, Unwritten, Full}
use Rattle.hull_shared.specs.Locks.{HullLock, head_of, lock_of}
use Rattle.hull_shared.specs.SeatStates.{SeatValue}
use Rattle.hull_shared.specs.declared.looking.AfterTake.{AfterTake}
use Rattle.hull_shared.specs.declared.looking.AfterTake.TheVariants.{Wait, Look}
use Rattle.hull_shared.specs.declared.looking.Looked.{Looked}
use Rattle.hull_shared.specs.declared.looking.Looked.TheVariants as looked
use Rattle.hull_shared.specs.declared.looking.SeatReply.{SeatReply}
use Rattle.hull_shared.specs.declared.looking.Seen.{Seen}
use Rattle.hull_shared.specs.declared.looking.Seen.TheVariants.{Unserved, Served}
use Rattle.hull_shared.specs.declared.seat.AcquiredSeat.{AcquiredSeat}
use Rattle.hull_shared.specs.declared.seat.SharedSeat.{SharedSeat}
use Rattle.hull_shared.specs.declared.seat.SharedSeat.TheVariants.{Vacant, Acquired}
use Rattle.hull_shared.specs.declared.seat_state.SeatState.{SeatState}
use Rattle.hull_shared.specs.declared.seat_state.TakenNumber.{TakenNumber}

-- the seat with this number has taken a ticket of the lock for the call, and has seen the same lines
abbrev pub WaitsFor : HullLock → ℕ → SeatValue → TakenNumber → Call → Type 0
WaitsFor lock number seat t call = IsTicketOf lock t.ticket × (ticket_seat t.ticket ≡ number) × (t.call ≡ call)
    × (ticket_seen t.ticket ≡ seat_seen seat)

-- the reply has the number of a line, or none
abbrev pub EncodesLine : Option ℕ → SeatReply → Type 0
EncodesLine (Some n) r = (r.line ≡ n) × (r.has_line ≡ 1)
EncodesLine None r = (r.line ≡ 0) × (r.has_line ≡ 0)

-- the reply has no line, and no number of lines
abbrev pub EncodesNothing : SeatReply → Type 0
EncodesNothing r = EncodesLine None r × (r.held ≡ 0)

-- the reply of a seat with no number: this code and nothing else
abbrev pub IsBareReply : Code → SeatReply → Type 0
IsBareReply c r = IsBare c r.encoded × (r.turn ≡ 0) × EncodesNothing r

-- the reply of a waiting seat: this code, and its number
abbrev pub IsReplyOf : Code → TakenNumber → SeatReply → Type 0
IsReplyOf c t r = IsBare c r.encoded × (r.turn ≡ ticket_number t.ticket) × EncodesNothing r

-- there is a seat, and it has no number
abbrev pub IsIdle : SharedSeat → Type 0
IsIdle Vacant = ⊥
IsIdle (Acquired a) = IsNone a.state.taken

-- the number that was taken, or 0 if none was
abbrev pub turn_taken : Option TakenNumber → ℕ
turn_taken None = 0
turn_taken (Some t) = ticket_number t.ticket

-- the number that the seat has, or 0 if it has none
abbrev pub turn_of : SharedSeat → ℕ
turn_of Vacant = 0
turn_of (Acquired a) = turn_taken a.state.taken

-- the reply of a seat that takes no number: this code, the number that it has already, and nothing else
abbrev pub IsRefusal : Code → SharedSeat → SeatReply → Type 0
IsRefusal c seat r = IsBare c r.encoded × (r.turn ≡ turn_of seat) × EncodesNothing r

-- why an acquired seat takes no number: it has one already, or it is asked for no call
abbrev pub IsWhyNotTaken : Result Call Code → Option TakenNumber → Code → Type 0
IsWhyNotTaken asked (Some t) c = c ≡ code.Waiting
IsWhyNotTaken (Err fault) None c = c ≡ fault
IsWhyNotTaken (Ok call) None c = ⊥

-- why a seat takes no number: there is none, it has a number already, or it is asked for no call
abbrev pub IsWhyRefused : Result Call Code → SharedSeat → Code → Type 0
IsWhyRefused asked Vacant c = c ≡ code.Vacant
IsWhyRefused asked (Acquired a) c = IsWhyNotTaken asked a.state.taken c

-- the call that these numbers request of a seat with no number, or why the seat takes none
abbrev pub CanTake : ℕ → ℤ → ℤ → SharedSeat → Result Call Code → Type 0
CanTake kind x y seat (Ok call) = IsIdle seat × IsAsked kind x y (Ok call)
CanTake kind x y seat (Err c) = (asked : Result Call Code) × IsAsked kind x y asked × IsWhyRefused asked seat c

-- the seat is unchanged, and the reply says why
abbrev pub IsRefused : Result Call Code → SharedSeat → SharedSeat → SeatReply → Type 0
IsRefused asked old new r = (new ≡ old) × ((c : Code) × IsWhyRefused asked old c × IsRefusal c old r)

-- the acquired seat does this if it has no number and is asked for a call; else it is unchanged, and the reply says why
abbrev pub AcceptsBy : (AcquiredSeat → Call → SharedSeat → SeatReply → Type 0) → Result Call Code → Option TakenNumber → AcquiredSeat
    → SharedSeat → SeatReply → Type 0
AcceptsBy does (Ok call) None a new r = does a call new r
AcceptsBy does asked taken a new r = IsRefused asked (Acquired a) new r

-- a seat with no number that is asked for a call does this; any other is unchanged, and the reply says why
abbrev pub Accepts : (AcquiredSeat → Call → SharedSeat → SeatReply → Type 0) → Result Call Code → SharedSeat → SharedSeat → SeatReply → Type 0
Accepts does asked Vacant new r = IsRefused asked Vacant new r
Accepts does asked (Acquired a) new r = AcceptsBy does asked a.state.taken a new r

-- so does a seat with no number, if these numbers request a call; any other is unchanged, and the reply says why
abbrev pub AcceptsRequest : (AcquiredSeat → Call → SharedSeat → SeatReply → Type 0) → ℕ → ℤ → ℤ → SharedSeat → SharedSeat → SeatReply → Type 0
AcceptsRequest does kind x y old new r = (asked : Result Call Code) × IsAsked kind x y asked × Accepts does asked old new r

-- it is the same seat of the same lock
abbrev pub IsSameSeat : AcquiredSeat → AcquiredSeat → Type 0
IsSameSeat a b = (b.lock ≡ a.lock) × (b.number ≡ a.number) × (b.capacity ≡ a.capacity)

-- the seat that has no number is this one
abbrev pub HasSeat : SeatState → SeatValue → Type 0
HasSeat state seat = (state.seat ≡ Some seat) × (state.taken ≡ None)

-- the seat has this number
abbrev pub HasNumber : SeatState → TakenNumber → Type 0
HasNumber state t = (state.taken ≡ Some t) × (state.seat ≡ None)

-- it is the same number for the same call, whose seat has seen the same lines, and looked once more
abbrev pub IsLookedWith : TakenNumber → TakenNumber → Type 0
IsLookedWith t u = (u.call ≡ t.call) × (ticket_number u.ticket ≡ ticket_number t.ticket)
    × (ticket_seen u.ticket ≡ ticket_seen t.ticket) × (ticket_looks u.ticket ≡ ticket_looks t.ticket + 1)

-- the seat looked once with this ledger and number, and still waits
abbrev pub WaitsOn : LedgerValue → TakenNumber → SeatState → Type 0
WaitsOn ledger t after = (u : TakenNumber) × HasNumber after u × IsLookedWith t u × (after.ledger ≡ ledger)

-- The call was served of the seat with this number: it found a whole journal that begins with what the seat had seen
-- and has no other line in the seat's name, and this holds of that journal.
pub record HasFound (number : ℕ) (t : TakenNumber) (so : List MarkedLine → Type 0) : Type 0 where
  pub found : List MarkedLine
  pub begins : IsPrefix (ticket_seen t.ticket) found
  pub own_lines : lines_of number (plain found) ≡ lines_of number (plain (ticket_seen t.ticket))
  pub is_so : so found

-- The call was served with this answer and this state after it, by the number that the seat had taken, and handed on
-- the journal that the seat has seen now. The seat has no number.
abbrev pub WasServed : {A : Type 0} → Serves A → HullLock → ℕ → TakenNumber → SeatState → A → StateAfter → Type 0
WasServed served lock number t after answer state_after = (seat : SeatValue) × HasSeat after seat
    × HasFound number t (λ found. served (head_of lock) (ticket_number t.ticket) number t.call found (seat_seen seat) answer
    state_after)

-- the seat still waits, and the service was not used; or the service served its call
abbrev pub HasLooked : {S A : Type 0} → (S → Serves A) → HullLock → ℕ → LedgerValue → TakenNumber → SeatState → S → Looked S A → Type 0
HasLooked served lock number ledger t after service (looked.NotYet left) = WaitsOn ledger t after × (left ≡ service)
HasLooked served lock number ledger t after service (looked.Served answer state_after) =
    WasServed (served service) lock number t after answer state_after

-- the reply has an answer: the numbers of the set's reply, or that the book is full
abbrev pub EncodesAnswer : HullReply → SharedHullAnswer → Type 0
EncodesAnswer encoded (Written reply) = Encodes encoded reply
EncodesAnswer encoded (Unwritten reply) = Encodes encoded reply
EncodesAnswer encoded Full = IsBare code.Full encoded

-- the reply has an answer: as `EncodesAnswer`, but for a list of vertices, which was written to the array
abbrev pub PutsAnswer : List Pair → List Pair → HullReply → SharedHullAnswer → Type 0
PutsAnswer before after encoded (Written (reply.VertexList vertices)) = EncodesVertices vertices before after encoded
PutsAnswer before after encoded (Unwritten (reply.VertexList vertices)) = EncodesVertices vertices before after encoded
PutsAnswer before after encoded answer = (after ≡ before) × EncodesAnswer encoded answer

-- no answer of a set that counts its points is `already`
abbrev pub IsCounted : SharedHullAnswer → Type 0
IsCounted (Written r) = r ≢ reply.Already
IsCounted (Unwritten r) = r ≢ reply.Already
IsCounted Full = Unit {0}

-- no answer that was seen is `already`
abbrev pub IsSeenCounted : Seen → Type 0
IsSeenCounted (Unserved reply) = Unit {0}
IsSeenCounted (Served answer turn state_after) = IsCounted answer

-- what a waiting seat saw: it still waits; or its call was served, under its number
abbrev pub HasSeenAt : HullLock → ℕ → LedgerValue → TakenNumber → SeatState → Seen → Type 0
HasSeenAt lock number ledger t after (Unserved r) = WaitsOn ledger t after × IsReplyOf code.NotYet t r
HasSeenAt lock number ledger t after (Served answer turn state_after) =
    WasServed HasServedAt lock number t after answer state_after × (turn ≡ ticket_number t.ticket)

-- a look of an acquired seat: with no number it is unchanged
abbrev pub HasSeenBy : Option TakenNumber → AcquiredSeat → SharedSeat → Seen → Type 0
HasSeenBy None a new s = (new ≡ Acquired a) × ((r : SeatReply) × (s ≡ Unserved r) × IsBareReply code.NoNumber r)
HasSeenBy (Some t) a new s = (b : AcquiredSeat) × (new ≡ Acquired b) × IsSameSeat a b
    × HasSeenAt (lock_of a.lock) a.number a.state.ledger t b.state s

-- a look: a seat with no number is unchanged; one with a number still waits, or its call was served, under its number
abbrev pub HasSeen : SharedSeat → SharedSeat → Seen → Type 0
HasSeen Vacant new s = (new ≡ Vacant) × ((r : SeatReply) × (s ≡ Unserved r) × IsBareReply code.Vacant r)
HasSeen (Acquired a) new s = HasSeenBy a.state.taken a new s

-- the reply has what follows a call
abbrev pub EncodesStateAfter : StateAfter → SeatReply → Type 0
EncodesStateAfter state_after r = EncodesLine state_after.line r × (r.held ≡ state_after.held)

-- the reply has what the look saw
abbrev pub EncodesSeen : Seen → SeatReply → Type 0
EncodesSeen (Unserved reply) r = r ≡ reply
EncodesSeen (Served answer turn state_after) r = EncodesAnswer r.encoded answer × (r.turn ≡ turn) × EncodesStateAfter state_after r

-- the reply has what the look saw, and vertices are written to the array, the rest of which is unchanged
abbrev pub PutsSeen : List Pair → List Pair → Seen → SeatReply → Type 0
PutsSeen before after (Unserved reply) r = (after ≡ before) × (r ≡ reply)
PutsSeen before after (Served answer turn state_after) r =
    PutsAnswer before after r.encoded answer × (r.turn ≡ turn) × EncodesStateAfter state_after r

-- a look, whose answer is in the reply
abbrev pub HasReplied : SharedSeat → SharedSeat → SeatReply → Type 0
HasReplied old new r = (seen : Seen) × HasSeen old new seen × EncodesSeen seen r

-- the seat, which had no number, takes this one for the call
pub record TakesFor (a : AcquiredSeat) (call : Call) (taken : TakenNumber) : Type 0 where
  pub seat : SeatValue
  pub was_idle : HasSeat a.state seat
  pub waits_for : WaitsFor (lock_of a.lock) a.number seat taken call

-- the seat takes a number for the call, and waits with it, which the reply says
pub record TakesAndWaits (a : AcquiredSeat) (call : Call) (b : AcquiredSeat) (r : SeatReply) : Type 0 where
  pub same : IsSameSeat a b
  pub taken : TakenNumber
  pub takes : TakesFor a call taken
  pub waits : HasNumber b.state taken
  pub same_ledger : b.state.ledger ≡ a.state.ledger
  pub encoded : IsReplyOf code.Taken taken r

-- the seat takes a number for the call, and looks, which the reply says
pub record TakesAndLooks (a : AcquiredSeat) (call : Call) (b : AcquiredSeat) (r : SeatReply) : Type 0 where
  pub same : IsSameSeat a b
  pub taken : TakenNumber
  pub takes : TakesFor a call taken
  pub seen : Seen
  pub has_seen : HasSeenAt (lock_of a.lock) a.number a.state.ledger taken b.state seen
  pub encoded : EncodesSeen seen r

-- the seat takes a number for the call, and then waits with it or looks
abbrev pub TakesThen : AfterTake → AcquiredSeat → Call → AcquiredSeat → SeatReply → Type 0
TakesThen Wait a call b r = TakesAndWaits a call b r
TakesThen Look a call b r = TakesAndLooks a call b r

-- so does an acquired seat
abbrev pub TakesAsSeat : AfterTake → AcquiredSeat → Call → SharedSeat → SeatReply → Type 0
TakesAsSeat then a call new r = (b : AcquiredSeat) × (new ≡ Acquired b) × TakesThen then a call b r

-- a take, for the requested call
abbrev pub HasTaken : ℕ → ℤ → ℤ → SharedSeat → SharedSeat → SeatReply → Type 0
HasTaken = AcceptsRequest (TakesAsSeat Wait)

-- a take and a look, for the requested call
abbrev pub HasTakenAndLooked : ℕ → ℤ → ℤ → SharedSeat → SharedSeat → SeatReply → Type 0
HasTakenAndLooked = AcceptsRequest (TakesAsSeat Look)

-- a look, whose answer is in the reply, with vertices written to the array
abbrev pub HasRepliedInto : SharedSeat → SharedSeat → List Pair → List Pair → SeatReply → Type 0
HasRepliedInto old new before after r = (seen : Seen) × HasSeen old new seen × PutsSeen before after seen r

-- the greatest number of lines that the seat's book may contain, or 0 if there is no seat
abbrev pub capacity_at : SharedSeat → ℕ
capacity_at Vacant = 0
capacity_at (Acquired a) = a.capacity

-- that number is returned, and the seat is unchanged
abbrev pub HasReportedCapacity : SharedSeat → SharedSeat → ℕ → Type 0
HasReportedCapacity old new encoded = (new ≡ old) × (encoded ≡ capacity_at old)
