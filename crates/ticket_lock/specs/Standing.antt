-- The rule of the table of a lock, and what each step establishes.
use Rattle.std.specs.Prelude.{◌≡◌, ◌≢◌, ℕ, zero, suc, ◌+◌, Bool, true, false, List, [], ◌∷◌}
use Rattle.std.specs.Prelude as std
use mathlib.Core.Option.{Option, none, some}
use mathlib.Core.List.{IsPrefix}
use Rattle.atomic_table.specs.Table.{State, Me, Step}
use Rattle.ticket_lock.specs.declared.seat_state.Memo.{Memo}
use Rattle.ticket_lock.specs.declared.chronicle.Chronicle.{Ghosts}
use Rattle.ticket_lock.specs.declared.seat_state.SeatState.{SeatState}
use Rattle.ticket_lock.specs.declared.seat_state.SeatState.TheVariants.{Keeper, Idle, Waiting, Holding}
use Rattle.ticket_lock.specs.World.{Form, World, memo, shown, own, Good}
use Rattle.ticket_lock.specs.GoodWorld.{GoodWorld}

module _ {H L : Type 0} where
  -- 0 of a keeper, 1 of an idle seat, 2 of one that waits, 3 of one that holds
  abbrev pub stage_of : SeatState H L → ℕ
  stage_of (Keeper ms) = 0
  stage_of (Idle m) = 1
  stage_of (Waiting m t looks) = 2
  stage_of (Holding m t) = 3

  -- which seat it is
  abbrev pub seat_of : SeatState H L → ℕ
  seat_of (Keeper ms) = 0
  seat_of (Idle m) = m.seat
  seat_of (Waiting m t looks) = m.seat
  seat_of (Holding m t) = m.seat

  -- a table's seat that is the idle seat k of the lock and has taken no slot
  abbrev pub IsIdle : {S : Type 0} → ℕ → Me S (SeatState H L) → Type 0
  IsIdle k me = (stage_of me.0 ≡ 1) × (seat_of me.0 ≡ k) × (me.1 ≡ [])

  -- the number that the seat has taken, or 0 if it has none
  abbrev pub number_of : SeatState H L → ℕ
  number_of (Waiting m t looks) = t
  number_of (Holding m t) = t
  number_of _ = 0

  -- how often it has looked since it took its number
  abbrev pub looks_of : SeatState H L → ℕ
  looks_of (Waiting m t looks) = looks
  looks_of _ = 0

  -- the lines that the seat has seen
  abbrev pub seen_of : SeatState H L → List L
  seen_of (Keeper ms) = []
  seen_of (Idle m) = m.seen
  seen_of (Waiting m t looks) = m.seen
  seen_of (Holding m t) = m.seen

  -- the head of the book at opening, as the seat remembers it
  abbrev pub heads_of : SeatState H L → List H
  heads_of (Keeper ms) = []
  heads_of (Idle m) = m.head ∷ []
  heads_of (Waiting m t looks) = m.head ∷ []
  heads_of (Holding m t) = m.head ∷ []

  -- the memos of the seats that a keeper has
  abbrev pub memos_of : SeatState H L → List (Memo H L)
  memos_of (Keeper ms) = ms
  memos_of _ = []

  -- an idle seat for each memo
  abbrev pub idles : List (Memo H L) → List (SeatState H L)
  idles [] = []
  idles (m ∷ ms) = Idle m ∷ idles ms

  -- the seat after it took the number t
  abbrev pub after_take : ℕ → SeatState H L → SeatState H L
  after_take t (Idle m) = Waiting m t 0
  after_take t v = v

  -- the seat after a miss: one look more
  abbrev pub after_miss : SeatState H L → SeatState H L
  after_miss (Waiting m t looks) = Waiting m t (looks + 1)
  after_miss v = v

  -- the seat after it entered and saw the lines xs
  abbrev pub after_enter : List L → SeatState H L → SeatState H L
  after_enter xs (Waiting m t looks) = Holding (shown m xs) t
  after_enter xs v = v

  -- the seat after it handed on the lines xs
  abbrev pub after_hand : List L → SeatState H L → SeatState H L
  after_hand xs (Holding m t) = Idle (shown m xs)
  after_hand xs v = v

  -- a view with no seat
  abbrev pub nobody : SeatState H L
  nobody = Keeper []

  -- A keeper is cut: it becomes the first of its seats, so that the index of each seat is its number, and a new keeper has the others
  abbrev pub left_of : SeatState H L → SeatState H L
  left_of (Keeper (m ∷ ms)) = Idle m
  left_of v = v

  -- the keeper of the others
  abbrev pub right_of : SeatState H L → SeatState H L
  right_of (Keeper (m ∷ ms)) = Keeper ms
  right_of v = nobody

  -- a keeper that has taken in an idle seat
  abbrev pub joined : SeatState H L → SeatState H L → SeatState H L
  joined (Keeper ms) (Idle m) = Keeper (m ∷ ms)
  joined v w = v

  -- the c seats from k on, which have all seen xs
  abbrev pub memos_from : H → List L → ℕ → ℕ → List (Memo H L)
  memos_from h xs k zero = []
  memos_from h xs k (suc c) = memo k h xs ∷ memos_from h xs (suc k) c

  -- the keeper of those seats
  abbrev pub keeper_of : H → List L → ℕ → ℕ → SeatState H L
  keeper_of h xs k c = Keeper (memos_from h xs k c)

-- the slot: the book at home, or nothing
abbrev pub shelf : {B : Type 0} → Bool → B → List (Option (std.Option B))
shelf true b = some (std.Some b) ∷ []
shelf false b = none ∷ []

module _ {B H L : Type 0} where
  -- the world that the table shows
  abbrev pub world_of : State (std.Option B) (SeatState H L) → ℕ → ℕ → Bool → B → World B H L
  world_of s next serving home current =
      record { words = s.words; next = next; serving = serving; seats = s.views; home = home; current = current }

  -- The rule: the table shows a world that is good, with this queue of seats that have a number; the slot has the book
  -- exactly when it is at home
  pub record Standing (K : Ghosts B H L) (F : Form) (n : ℕ) (opening : B)
      (s : State (std.Option B) (SeatState H L)) : Type 0 where
    pub next : ℕ
    pub serving : ℕ
    pub home : Bool
    pub current : B
    pub queue : List ℕ
    pub good : Good K F n opening (world_of s next serving home current) queue
    pub shelved : s.homes ≡ shelf home current

  -- the book that a seat with the view v finds when it enters with the number t
  pub record Found (K : Ghosts B H L) (v : SeatState H L) (t : ℕ) (b : B) : Type 0 where
    pub lawful : K.lawful b
    pub head : heads_of v ≡ K.head b ∷ []
    pub turn : K.turn b ≡ t
    pub begins : IsPrefix (seen_of v) (K.lines b)
    pub own_lines : own K (seat_of v) (K.lines b) ≡ own K (seat_of v) (seen_of v)

  -- at the load by which `close` comes in: a keeper of no seats, with no slot
  abbrev pub sat : Step (std.Option B) → Me (std.Option B) (SeatState H L) → ℕ
      → Me (std.Option B) (SeatState H L) → Type 0
  sat st m found m' = m' ≡ (nobody, [])

  -- at a take: the seat waits with the number found
  abbrev pub took : Step (std.Option B) → Me (std.Option B) (SeatState H L) → ℕ
      → Me (std.Option B) (SeatState H L) → Type 0
  took st m found m' = m' ≡ (after_take found m.0, m.1)

  -- at a look: if its number was found, the seat holds the book; otherwise it has looked once more
  abbrev pub looked : Ghosts B H L → Step (std.Option B) → Me (std.Option B) (SeatState H L) → ℕ
      → Me (std.Option B) (SeatState H L) → Type 0
  looked K st m found m' =
      (found ≡ number_of m.0
      → (b : B) × (m' ≡ (after_enter (K.lines b) m.0, (0, std.Some b) ∷ m.1)) × Found K m.0 (number_of m.0) b)
      × (found ≢ number_of m.0 → m' ≡ (after_miss m.0, m.1))

  -- at a hand on: the seat is idle, and has seen the lines of the book that it put back
  abbrev pub gave : Ghosts B H L → Step (std.Option B) → Me (std.Option B) (SeatState H L) → ℕ
      → Me (std.Option B) (SeatState H L) → Type 0
  gave K st m found m' = (b : B) → m.1 ≡ (0, std.Some b) ∷ [] → m' ≡ (after_hand (K.lines b) m.0, [])

  -- every table under the rule shows a good world, and the slot contains the book exactly when the book is not with a seat
  abbrev pub RestingTablesAreGood : Ghosts B H L → Form → Type 0
  RestingTablesAreGood K F =
      (n : ℕ) (opening : B) (s : State (std.Option B) (SeatState H L)) (r : Standing K F n opening s)
      → GoodWorld K F opening (world_of s r.next r.serving r.home r.current) × (s.homes ≡ shelf r.home r.current)
