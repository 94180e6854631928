-- The effect of the running lock's steps on its table: a take, a look and a hand on are each one event of the world that the table shows; every other
-- step of a seat happens before all seats are handed out or after one was returned; and a load without a seat, which can happen at any time, leaves
-- the table as it is.
use Rattle.std.specs.Prelude.{◌≡◌, ◌≢◌, ℕ, ◌+◌, ◌<◌, true, List, [], ◌∷◌, ◌++◌, length, slice_index, slice_set}
use Rattle.std.specs.Prelude as std
use mathlib.Core.Option.{some}
use lib.ListN.{get_elem?}
use Rattle.atomic_table.specs.Table.{State, Me, Step, Act, Valid, carried_after, stepped}
use Rattle.ticket_lock.specs.declared.chronicle.Chronicle.{Ghosts}
use Rattle.ticket_lock.specs.declared.seat_state.Memo.{Memo}
use Rattle.ticket_lock.specs.declared.seat_state.SeatState.{SeatState}
use Rattle.ticket_lock.specs.declared.seat_state.SeatState.TheVariants.{Keeper}
use Rattle.ticket_lock.specs.World.{Form, World, Event, takes, misses, enters, hands_on, wrap, memo, HandsOn, Happens}
use Rattle.ticket_lock.specs.GoodWorld.{Owns}
use Rattle.ticket_lock.specs.Standing.{stage_of, seat_of, number_of, seen_of, left_of, right_of, joined, nobody}
use Rattle.ticket_lock.specs.Standing.{shelf, world_of, Standing, took, looked, gave}

-- the table under the lock: its words, the slot of the book, and the view of each of the table's seats
abbrev pub Board : Type 0 → Type 0 → Type 0 → Type 0
Board B H L = State (std.Option B) (SeatState H L)

-- a view of that table, and the slots that the seat has taken
abbrev pub Location : Type 0 → Type 0 → Type 0 → Type 0
Location B H L = Me (std.Option B) (SeatState H L)

-- The table's seat `id` made one step on the word i, from the table s to the table u: the word became f of the value that was found in it, the seat
-- went from `me` to `after`, as the relation `returned` says of that value, and it took or returned what it may
pub record Steps {B H L : Type 0} (id i : ℕ) (f : ℕ → ℕ) (returned : ℕ → Location B H L → Type 0) (me after : Location B H L)
    (s u : Board B H L) : Type 0 where
  pub there : get_elem? s.views id ≡ some me.0
  pub reports : returned (slice_index s.words i) after
  pub act : Act (std.Option B)
  pub valid : Valid s.homes me.1 act
  pub carries : after.1 ≡ carried_after me.1 act
  pub leaves : u ≡ stepped s i (f (slice_index s.words i)) id me.1 after.0 act

module _ {B H L : Type 0} (K : Ghosts B H L) (F : Form) where
  -- the event e leads from the world w to the world u, and no other does
  pub record IsJust (e : Event B) (w u : World B H L) : Type 0 where
    pub happens : Happens K F e w u
    pub alone : (d : Event B) → Happens K F d w u → d ≡ e

  module _ {n : ℕ} {opening : B} where
    -- the world that a table under the rule shows
    abbrev pub shows : (s : Board B H L) → Standing K F n opening s → World B H L
    shows s r = world_of s r.next r.serving r.home r.current

  module _ (n : ℕ) (opening : B) where
    -- the table u satisfies the rule, and shows a world to which the event e, and no other, leads from the world w
    abbrev pub LeadsBy : Event B → World B H L → Board B H L → Type 0
    LeadsBy e w u = (r : Standing K F n opening u) × IsJust e w (shows u r)

    -- the table u satisfies the rule, and shows the words, the numbers and the book of the world w: only the views may differ
    abbrev pub Regroups : World B H L → Board B H L → Type 0
    Regroups w u = (r : Standing K F n opening u) × ((shows u r).words ≡ w.words) × ((shows u r).next ≡ w.next)
        × ((shows u r).serving ≡ w.serving) × ((shows u r).home ≡ w.home) × ((shows u r).current ≡ w.current)

  -- A take is one event take: from a table under the rule, the fetch-and-add by which an idle seat takes its number
  abbrev pub TakesAreEvents : Type 0
  TakesAreEvents = (n : ℕ) (opening : B) (s u : Board B H L) (r : Standing K F n opening s) (id : ℕ)
      (me after : Location B H L) (st : Step (std.Option B)) → stage_of me.0 ≡ 1 → me.1 ≡ []
      → Steps id 0 (λ x. wrap (x + 1)) (took st me) me after s u → LeadsBy n opening (takes id) (shows s r) u

  -- A look is one event, which is enter if the load found the number of the seat that waits, otherwise miss
  abbrev pub LooksAreEvents : Type 0
  LooksAreEvents = (n : ℕ) (opening : B) (s u : Board B H L) (r : Standing K F n opening s) (id : ℕ)
      (me after : Location B H L) (st : Step (std.Option B)) → stage_of me.0 ≡ 2 → me.1 ≡ []
      → Steps id (F.serving_word (number_of me.0)) (λ x. x) (looked K st me) me after s u
      → (slice_index s.words (F.serving_word (number_of me.0)) ≡ number_of me.0
      → LeadsBy n opening (enters id) (shows s r) u)
      × (slice_index s.words (F.serving_word (number_of me.0)) ≢ number_of me.0
      → LeadsBy n opening (misses id) (shows s r) u)

  -- A hand on is one event hand on: the store of the next number by the seat that holds the book, which may be handed
  -- on and was laid back
  abbrev pub HandOnsAreEvents : Type 0
  HandOnsAreEvents = (n : ℕ) (opening : B) (s u : Board B H L) (r : Standing K F n opening s) (id : ℕ)
      (me after : Location B H L) (st : Step (std.Option B)) (b : B) → stage_of me.0 ≡ 3 → me.1 ≡ (0, std.Some b) ∷ []
      → HandsOn K (memo (seat_of me.0) (K.head opening) (seen_of me.0)) (number_of me.0) b
      → Steps id (F.serving_word (wrap (number_of me.0 + 1))) (λ _. wrap (number_of me.0 + 1)) (gave K st me) me after
      s u → LeadsBy n opening (hands_on id b) (shows s r) u

  -- all seats are handed out and none was returned: no keeper has one
  abbrev pub IsOpen : World B H L → Type 0
  IsOpen w = (j : ℕ) (ms : List (Memo H L)) → get_elem? w.seats j ≡ some (Keeper ms) → ms ≡ []

  -- A keeper becomes a seat, and another keeper has its other seats, before the lock is open, and nothing else changes
  abbrev pub CutsComeBefore : Type 0
  CutsComeBefore = (n : ℕ) (opening : B) (s : Board B H L) (r : Standing K F n opening s) (id : ℕ) (v : SeatState H L)
      → get_elem? s.views id ≡ some v → stage_of v ≡ 0 → stage_of (left_of v) ≡ 1
      → (IsOpen (shows s r) → ⊥) × Regroups n opening (shows s r)
      record { words = s.words; homes = s.homes; views = slice_set s.views id (left_of v) ++ right_of v ∷ [] }

  -- A seat is joined to a keeper after the lock was open, and nothing else changes
  abbrev pub JoinsComeAfter : Type 0
  JoinsComeAfter = (n : ℕ) (opening : B) (s : Board B H L) (r : Standing K F n opening s) (id other : ℕ)
      (v x : SeatState H L) → get_elem? s.views id ≡ some v → stage_of v ≡ 0 → other ≢ id
      → get_elem? s.views other ≡ some x → stage_of x ≡ 1
      → (after : Regroups n opening (shows s r)
      record { words = s.words; homes = s.homes; views = slice_set (slice_set s.views id (joined v x)) other nobody })
      × (IsOpen (shows _ after.0) → ⊥)

  -- A keeper with no seat comes in, and nothing else changes
  abbrev pub NobodyComesIn : Type 0
  NobodyComesIn = (n : ℕ) (opening : B) (s : Board B H L) (r : Standing K F n opening s)
      → Regroups n opening (shows s r)
      record { words = s.words; homes = s.homes; views = s.views ++ nobody ∷ [] }

  -- A load without a seat, as by which a seat that waits estimates how far away its turn is, leaves the table as it is
  abbrev pub PeeksChangeNothing : Type 0
  PeeksChangeNothing = (s : Board B H L) (i : ℕ) → i < length s.words
      → record { words = slice_set s.words i (slice_index s.words i); homes = s.homes; views = s.views } ≡ s

  -- An event leaves an open lock open, and one that is not open as it is
  abbrev pub EventsStayInside : Type 0
  EventsStayInside = (e : Event B) (w u : World B H L) → Happens K F e w u
      → (IsOpen w → IsOpen u) × (IsOpen u → IsOpen w)

  -- If one keeper has all seats, as when the table is made and when it is taken down, no event happens
  abbrev pub NothingHappensOutside : Type 0
  NothingHappensOutside = (n : ℕ) (opening : B) (s : Board B H L) (r : Standing K F n opening s) (id : ℕ)
      (ms : List (Memo H L)) (e : Event B) (u : World B H L) → get_elem? s.views id ≡ some (Keeper ms)
      → length ms ≡ n → Happens K F e (shows s r) u → ⊥

  -- If no seat of a table under the rule has a number, the book is in its slot, and word 0 is its turn
  abbrev pub WordZeroIsTurn : ℕ → B → Type 0
  WordZeroIsTurn n opening = (s : Board B H L) (r : Standing K F n opening s)
      → ((j t : ℕ) → Owns (shows s r) j t → ⊥)
      → (s.homes ≡ shelf true r.current) × (slice_index s.words 0 ≡ K.turn r.current)
