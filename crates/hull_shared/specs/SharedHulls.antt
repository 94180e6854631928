-- The results of the calls on a shared hull.
use Rattle.std.specs.Prelude.{◌≡◌, ◌⊎◌, ◌+◌, ◌≤◌, ◌<◌, ◌++◌, ℕ, List, [], length, drop, Option, Some, None, IsSome}
use Rattle.std.specs.Prelude.{slice_get, slice_set, Result, Ok, Err, MatchResult}
use Rattle.std.specs.List.{All}
use mathlib.Core.List.{IsPrefix}
use Rattle.hull_book.specs.Books.{opened_book}
use Rattle.hull_book.specs.History.{IsLegal}
use Rattle.hull_book.specs.LongBooks.{last_segment, undrained, whole_head}
use Rattle.hull_book.specs.Marks.{plain}
use Rattle.hull_book.specs.declared.marked_line.MarkedLine.{MarkedLine}
use Rattle.hull_set.specs.Held.{nothing_held}
use Rattle.hull_reply.specs.Encoded.{code_number, IsBare, IsNumber}
use Rattle.hull_reply.specs.declared.code.Code.{Code}
use Rattle.hull_reply.specs.declared.code.Code.TheVariants as code
use Rattle.hull_reply.specs.declared.reply.HullReply.{HullReply}
use Rattle.hull_text.specs.JournalText.{written_text}
use Rattle.published_snapshots.specs.Snapshots.{SnapshotSlotsName}
use Rattle.bucket_tree.specs.Roots.{held_by}
use Rattle.bucket_tree.specs.Sets.{LimitedTree}
use Rattle.ticket_lock.specs.Tokens.{seat_seen}
use Rattle.hull_shared.specs.SharedHullBooks.{SharedHullValue, HoldsNone}
use Rattle.hull_shared.specs.Gates.{AreReadersOut, LetsSoMany, snapshot_slots_after}
use Rattle.hull_shared.specs.Limits.{AreLimits}
use Rattle.hull_shared.specs.Looks.{HasSeat}
use Rattle.hull_shared.specs.SeatStates.{SeatValue}
use Rattle.hull_shared.specs.Locks.{book_of, head_of, lock_of}
use Rattle.hull_shared.specs.Places.{HasAt, HasOwnLines}
use Rattle.hull_shared.specs.declared.shared_hull.ClosedSharedHull.{ClosedSharedHull}
use Rattle.hull_shared.specs.declared.shared_hull.SharedHull.{SharedHull}
use Rattle.hull_shared.specs.declared.shared_hull.SharedHull.TheVariants.{Fresh, Open, Closed}
use Rattle.hull_shared.specs.declared.shared_hull.FreshSharedHull.{FreshSharedHull}
use Rattle.hull_shared.specs.declared.shared_hull.OpenSharedHull.{OpenSharedHull}
use Rattle.hull_shared.specs.declared.limits.Limits.{Limits}
use Rattle.hull_shared.specs.declared.place.SeatPlace.{SeatPlace}
use Rattle.hull_shared.specs.declared.seat.AcquiredSeat.{AcquiredSeat}
use Rattle.hull_shared.specs.declared.seat.SharedSeat.{SharedSeat}
use Rattle.hull_shared.specs.declared.seat.SharedSeat.TheVariants as seat
use Rattle.hull_shared.specs.declared.seat_state.TakenNumber.{TakenNumber}

-- the shared hull was not opened, and will be opened for no reader
abbrev pub IsFreshForNone : SharedHull → Type 0
IsFreshForNone d = (f : FreshSharedHull) × (f.readers ≡ 0) × (d ≡ Fresh f)

-- ---- opening

-- a book with no line over an empty set
pub record IsNewBook (l : Limits) (b : SharedHullValue) : Type 0 where
  pub set : LimitedTree
  pub nothing : held_by set.root ≡ nothing_held
  pub snapshot_slots : Option SnapshotSlotsName
  pub book : b
      ≡ record {
        book = undrained (opened_book set l.first l.limit l.capacity l.seats);
        keeps = l.keeps;
        answers = l.answers;
        snapshot_slots = snapshot_slots;
      }

-- all seats are there, of a lock round this book, and have seen its lines
pub record IsSharedHullRound (b : SharedHullValue) (seats : ℕ) (d : OpenSharedHull) : Type 0 where
  pub book : book_of (lock_of d.lock) ≡ b
  pub seats_are : d.seats ≡ seats
  pub all_in : All IsSome d.places.list.items
  pub all_seen : (j : ℕ) (p : SeatPlace) → HasAt d.places.list.items j p → seat_seen p.seat ≡ b.book.lines

-- all seats are there, of a lock round a new book, and have seen no line
pub record IsNew (l : Limits) (d : OpenSharedHull) : Type 0 where
  pub book : IsNewBook l (book_of (lock_of d.lock))
  pub seats_are : d.seats ≡ l.seats
  pub all_in : All IsSome d.places.list.items
  pub none_seen : (j : ℕ) (p : SeatPlace) → HasAt d.places.list.items j p → seat_seen p.seat ≡ []

-- a new shared hull; or a number is out of range, or memory was refused
abbrev pub IsOpening : Limits → Result OpenSharedHull Code → Type 0
IsOpening l r = MatchResult r
    (λ d. AreLimits l × IsNew l d)
    (λ fault. (¬ AreLimits l × (fault ≡ code.OutOfLimits)) ⊎ (AreLimits l × (fault ≡ code.NoMemory)))

-- It was opened for so many readers, none of whom is acquired, and their registry has the very snapshot slots in
-- which the vertices of its book's set are published.
abbrev pub IsOpenFor : ℕ → ℕ → OpenSharedHull → Type 0
IsOpenFor readers first d = LetsSoMany readers first d.gate × (snapshot_slots_after d.gate ≡ (book_of (lock_of d.lock)).snapshot_slots)

-- an unopened shared hull is now open for the readers that were set, or unchanged
abbrev pub Becomes : FreshSharedHull → ℕ → SharedHull → ℕ → Result OpenSharedHull Code → Type 0
Becomes fresh first new encoded (Ok d) = (new ≡ Open d) × (encoded ≡ code_number code.Open) × IsOpenFor fresh.readers first d
Becomes fresh first new encoded (Err fault) = (new ≡ Fresh fresh) × (encoded ≡ code_number fault)

-- an opening: of an unopened shared hull; one that was opened is unchanged
abbrev pub HasOpened : Limits → SharedHull → SharedHull → ℕ → Type 0
HasOpened l (Fresh fresh) new encoded = (r : Result OpenSharedHull Code) × IsOpening l r × Becomes fresh l.first new encoded r
HasOpened l old new encoded = (new ≡ old) × (encoded ≡ code_number code.WasOpened)

-- ---- acquiring and releasing seats

-- the shared hull is the same but for its slots
abbrev pub IsSameSharedHull : OpenSharedHull → OpenSharedHull → Type 0
IsSameSharedHull d e = (lock_of e.lock ≡ lock_of d.lock) × (e.seats ≡ d.seats) × (e.gate ≡ d.gate)

-- the seat of this number was acquired from its slot
pub record HasGone (number : ℕ) (d e : OpenSharedHull) (i : AcquiredSeat) : Type 0 where
  pub same : IsSameSharedHull d e
  pub place : SeatPlace
  pub j : ℕ
  pub home : number + j + 1 ≡ d.seats
  pub was_in : HasAt d.places.list.items j place
  pub out : e.places.list.items ≡ slice_set d.places.list.items j None
  pub own_lock : lock_of i.lock ≡ lock_of d.lock
  pub number_is : i.number ≡ number
  pub seat_is : HasSeat i.state place.seat
  pub ledger_is : i.state.ledger ≡ place.ledger

-- no seat of this number is there
abbrev pub IsAway : ℕ → OpenSharedHull → Type 0
IsAway number d = (j : ℕ) → number + j + 1 ≡ d.seats → slice_get d.places.list.items j ≡ Some None

-- The seat of a number was requested: it was acquired; or there was none, or memory was refused, and the shared hull
-- is unchanged.
abbrev pub Lends : ℕ → OpenSharedHull → OpenSharedHull → Result AcquiredSeat Code → Type 0
Lends number d e (Ok i) = HasGone number d e i
Lends number d e (Err fault) = (e ≡ d) × ((IsAway number d × (fault ≡ code.NoSeat)) ⊎ (fault ≡ code.NoMemory))

-- the storage has the seat, or is still vacant
abbrev pub ComesTo : SharedSeat → ℕ → Result AcquiredSeat Code → Type 0
ComesTo storage encoded (Ok i) = (storage ≡ seat.Acquired i) × (encoded ≡ code_number code.Acquired)
ComesTo storage encoded (Err fault) = (storage ≡ seat.Vacant) × (encoded ≡ code_number fault)

-- a seat is requested: of an open shared hull, into vacant storage; else nothing changed
abbrev pub HasAcquired : ℕ → SharedHull → SharedHull → SharedSeat → SharedSeat → ℕ → Type 0
HasAcquired number (Open d) new seat.Vacant storage encoded =
    (e : OpenSharedHull) × (r : Result AcquiredSeat Code) × Lends number d e r × (new ≡ Open e) × ComesTo storage encoded r
HasAcquired number (Open d) new old storage encoded = (new ≡ Open d) × (storage ≡ old) × (encoded ≡ code_number code.StorageInUse)
HasAcquired number old new was storage encoded = (new ≡ old) × (storage ≡ was) × (encoded ≡ code_number code.NotOpen)

-- the seat, if it has no number, is one of the shared hull's
abbrev pub IsIdleSeatOf : OpenSharedHull → Option TakenNumber → AcquiredSeat → Type 0
IsIdleSeatOf d None i = lock_of i.lock ≡ lock_of d.lock
IsIdleSeatOf d (Some t) i = Unit {0}

-- so is the seat in the storage, if there is one
abbrev pub IsSeatOfSharedHull : SharedHull → SharedSeat → Type 0
IsSeatOfSharedHull (Open d) (seat.Acquired i) = IsIdleSeatOf d i.state.taken i
IsSeatOfSharedHull _ _ = Unit {0}

-- the seat came back to its slot, which was empty
pub record HasCome (d e : OpenSharedHull) (i : AcquiredSeat) : Type 0 where
  pub same : IsSameSharedHull d e
  pub j : ℕ
  pub home : i.number + j + 1 ≡ d.seats
  pub was_out : slice_get d.places.list.items j ≡ Some None
  pub seat : SeatValue
  pub was_idle : HasSeat i.state seat
  pub back : e.places.list.items ≡ slice_set d.places.list.items j (Some (record { seat = seat; ledger = i.state.ledger }))

-- a seat of this number is there
abbrev pub IsAtSharedHull : ℕ → OpenSharedHull → Type 0
IsAtSharedHull number d = (j : ℕ) × (p : SeatPlace) × (number + j + 1 ≡ d.seats) × HasAt d.places.list.items j p

-- a seat with no number was released: it is there again; or its slot has a seat, and nothing changed
abbrev pub TakesBack : OpenSharedHull → AcquiredSeat → OpenSharedHull → Option AcquiredSeat → Type 0
TakesBack d i e None = HasCome d e i
TakesBack d i e (Some left) = (e ≡ d) × (left ≡ i) × IsAtSharedHull i.number d

-- the storage is vacant, or still has the seat
abbrev pub IsLeftWith : SharedSeat → ℕ → Option AcquiredSeat → Type 0
IsLeftWith storage encoded None = (storage ≡ seat.Vacant) × (encoded ≡ code_number code.Released)
IsLeftWith storage encoded (Some left) = (storage ≡ seat.Acquired left) × (encoded ≡ code_number code.SlotInUse)

-- an acquired seat is released to an open shared hull: only if it has no number; else nothing changed
abbrev pub HasReturnedBy : Option TakenNumber → OpenSharedHull → SharedHull → AcquiredSeat → SharedSeat → ℕ → Type 0
HasReturnedBy None d new i storage encoded =
    (e : OpenSharedHull) × (left : Option AcquiredSeat) × TakesBack d i e left × (new ≡ Open e) × IsLeftWith storage encoded left
HasReturnedBy (Some t) d new i storage encoded =
    (new ≡ Open d) × (storage ≡ seat.Acquired i) × (encoded ≡ code_number code.Waiting)

-- a seat is released: to an open shared hull, and only if it has no number; else nothing changed
abbrev pub HasReturned : SharedHull → SharedHull → SharedSeat → SharedSeat → ℕ → Type 0
HasReturned (Open d) new (seat.Acquired i) storage encoded = HasReturnedBy i.state.taken d new i storage encoded
HasReturned (Open d) new seat.Vacant storage encoded =
    (new ≡ Open d) × (storage ≡ seat.Vacant) × (encoded ≡ code_number code.Vacant)
HasReturned old new was storage encoded = (new ≡ old) × (storage ≡ was) × (encoded ≡ code_number code.NotOpen)

-- ---- closing

-- The whole journal of the shared hull has the lines `whole`. It is legal, with the head at opening. What each seat
-- has seen is a prefix of it, and contains all lines in that seat's name; there are no lines in other names. The lines
-- still in the book are left as its last segment, with its own first number; if lines are not kept there are none.
pub record IsJournalOf (d : OpenSharedHull) (c : ClosedSharedHull) : Type 0 where
  pub whole : List MarkedLine
  pub holds_none : HoldsNone (head_of (lock_of d.lock)).keeps whole
  pub legal : IsLegal (whole_head (head_of (lock_of d.lock)).book.journal whole) (plain whole)
  pub seats : All (λ line. line.seat < (head_of (lock_of d.lock)).book.workers) (plain whole)
  pub seen : (j : ℕ) (p : SeatPlace) → HasAt d.places.list.items j p → IsPrefix (seat_seen p.seat) whole
  pub own_lines : (j : ℕ) (p : SeatPlace) → HasAt d.places.list.items j p → HasOwnLines whole p
  pub segment : c.segment ≡ last_segment (head_of (lock_of d.lock)).book.journal whole

-- all seats and all readers are released
abbrev pub AreAllBack : OpenSharedHull → Type 0
AreAllBack d = All IsSome d.places.list.items × ¬ AreReadersOut d.gate

-- Why an open shared hull stays open: a seat or a reader is acquired. Or none is, and yet the lock has another owner;
-- a caller that keeps the header's duties never meets this case.
abbrev pub IsKeptOpen : OpenSharedHull → Code → Type 0
IsKeptOpen d fault = (¬ AreAllBack d × (fault ≡ code.SeatsOut)) ⊎ (AreAllBack d × (fault ≡ code.InUse))

-- a closing: all seats and readers are released, and it is closed; or it stays open
abbrev pub HasClosed : SharedHull → SharedHull → ℕ → Type 0
HasClosed (Open d) new encoded =
    (AreAllBack d × ((c : ClosedSharedHull) × (new ≡ Closed c) × IsJournalOf d c)
    × (encoded ≡ code_number code.Closed))
    ⊎ ((new ≡ Open d) × ((fault : Code) × IsKeptOpen d fault × (encoded ≡ code_number fault)))
HasClosed old new encoded = (new ≡ old) × (encoded ≡ code_number code.NotOpen)

-- the text is at the front of the array, whose rest is unchanged; or the array is too short for it, and unchanged
abbrev pub EncodesText : List ℕ → List ℕ → List ℕ → HullReply → Type 0
EncodesText text before after encoded =
    ((length text ≤ length before) × (after ≡ text ++ drop (length text) before)
    × IsNumber code.Text (length text) encoded)
    ⊎ ((length before < length text) × (after ≡ before) × IsNumber code.TooSmall (length text) encoded)

-- The text of the last segment of a closed shared hull's journal is requested. If memory is refused the array is
-- unchanged; the shared hull is unchanged in any case.
abbrev pub HasWritten : SharedHull → SharedHull → List ℕ → List ℕ → HullReply → Type 0
HasWritten (Closed c) new before after encoded =
    (new ≡ Closed c) × (EncodesText (written_text c.segment) before after encoded
    ⊎ ((after ≡ before) × IsBare code.NoMemory encoded))
HasWritten old new before after encoded = (new ≡ old) × (after ≡ before) × IsBare code.NotClosed encoded

-- an end: a closed shared hull is unopened again; an open one is unchanged
abbrev pub HasEnded : SharedHull → SharedHull → ℕ → Type 0
HasEnded (Open d) new encoded = (new ≡ Open d) × (encoded ≡ code_number code.NotClosed)
HasEnded old new encoded = IsFreshForNone new × (encoded ≡ code_number code.Ended)
