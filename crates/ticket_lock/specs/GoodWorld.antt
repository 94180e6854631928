-- The good world, in sentences over all seats.
use Rattle.std.specs.Prelude.{◌≡◌, ℕ, ◌+◌, ◌<◌, ◌≤◌, true, false, List, slice_index}
use mathlib.Core.Option.{some}
use mathlib.Core.List.{IsPrefix}
use lib.ListN.{get_elem?}
use Rattle.ticket_lock.specs.declared.chronicle.Chronicle.{Ghosts}
use Rattle.ticket_lock.specs.declared.seat_state.Memo.{Memo}
use Rattle.ticket_lock.specs.declared.seat_state.SeatState.{SeatState}
use Rattle.ticket_lock.specs.declared.seat_state.SeatState.TheVariants.{Holding}
use Rattle.ticket_lock.specs.World.{Form, World, wrap, memos, own, HasNumber}

module _ {B H L : Type 0} where
  -- seat j waits or holds with the number t
  abbrev pub Owns : World B H L → ℕ → ℕ → Type 0
  Owns w j t = (v : SeatState H L) × (get_elem? w.seats j ≡ some v) × HasNumber v t

  -- seat j holds the book with the number t
  abbrev pub Holds : World B H L → ℕ → ℕ → Type 0
  Holds w j t = (m : Memo H L) × (get_elem? w.seats j ≡ some (Holding m t))

  -- the memo m is one of seat j's
  abbrev pub HasSeen : World B H L → ℕ → Memo H L → Type 0
  HasSeen w j m = (v : SeatState H L) × (a : ℕ) × (get_elem? w.seats j ≡ some v) × (get_elem? (memos v) a ≡ some m)

  -- the good world, of a lock that was opened around the book `opening`
  pub record GoodWorld (K : Ghosts B H L) (F : Form) (opening : B) (w : World B H L) : Type 0 where
    pub words : F.Shows w.next w.serving w.words
    -- the numbers out are those from serving to next - 1, at most 64, each of exactly one seat
    pub out : ℕ
    pub few : out ≤ 64
    pub next_is : w.next ≡ wrap (w.serving + out)
    pub each_number : (i : ℕ) → i < out
        → (j : ℕ) × Owns w j (wrap (w.serving + i)) × ((k : ℕ) → Owns w k (wrap (w.serving + i)) → k ≡ j)
    pub each_owner : (j t : ℕ) → Owns w j t → (i : ℕ) × (i < out) × (t ≡ wrap (w.serving + i))
    -- no two seats have one number as seats
    pub apart : (j k : ℕ) (m x : Memo H L) → HasSeen w j m → HasSeen w k x → m.seat ≡ x.seat → j ≡ k
    -- only the owner of serving holds the book, so at most one seat does
    pub holder : (j t : ℕ) → Holds w j t → t ≡ w.serving
    pub one_holder : (j k t u : ℕ) → Holds w j t → Holds w k u → j ≡ k
    -- the book is at home exactly when no seat holds
    pub home : w.home ≡ true → (j t : ℕ) → Holds w j t → ⊥
    pub away : w.home ≡ false → (j : ℕ) × (t : ℕ) × Holds w j t
    pub lawful : K.lawful w.current
    pub head : K.head w.current ≡ K.head opening
    pub turn : K.turn w.current ≡ w.serving
    -- what a seat has seen is a prefix of the current journal, with exactly the lines in its name
    pub begins : (j : ℕ) (m : Memo H L) → HasSeen w j m → IsPrefix m.seen (K.lines w.current)
    pub own_lines : (j : ℕ) (m : Memo H L) → HasSeen w j m → own K m.seat (K.lines w.current) ≡ own K m.seat m.seen

  -- how a lock ends: in a good world whose seats are exactly those that were returned, none of which has a number, with the book b in its slot. Word
  -- 0 is t, the turn of b: the number that the next take would have had
  pub record Shut (K : Ghosts B H L) (F : Form) (opening : B) (given : List (SeatState H L)) (b : B) (t : ℕ)
      : Type 0 where
    pub world : World B H L
    pub good : GoodWorld K F opening world
    pub seats : world.seats ≡ given
    pub none_out : (j t : ℕ) → Owns world j t → ⊥
    pub home : world.home ≡ true
    pub current : world.current ≡ b
    pub word : slice_index world.words 0 ≡ t
    pub next : t ≡ K.turn b
