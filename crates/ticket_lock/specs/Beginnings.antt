-- How a lock begins and ends: the claims of `open` about the table that it makes, and of `close` about the table that it takes down.
use Rattle.std.specs.Prelude.{◌≡◌, ℕ, List, [], ◌∷◌, ◌++◌}
use Rattle.ticket_lock.specs.declared.chronicle.Chronicle.{Ghosts}
use Rattle.ticket_lock.specs.declared.seat_state.SeatState.{SeatState}
use Rattle.ticket_lock.specs.World.{Form, World, Event}
use Rattle.ticket_lock.specs.Schedule.{Opened, Runs, HasHeld}
use Rattle.ticket_lock.specs.Linearizable.{HasLinearized}
use Rattle.ticket_lock.specs.Standing.{Standing, nobody}
use Rattle.ticket_lock.specs.Boards.{Board, shows}

-- A lock of n seats around the book b begins with a table under its rule: its views are the seats that were handed out and the keeper from which they
-- were cut, which has none left. The world that it shows is opened. So every list of events from that world leads to a good world, with entries in
-- the order of the takes, and is linearizable.
pub record Begins {B H L : Type 0} (K : Ghosts B H L) (F : Form) (n : ℕ) (b : B) (given : List (SeatState H L))
    : Type 0 where
  pub board : Board B H L
  pub stands : Standing K F n b board
  pub views : board.views ≡ given ++ nobody ∷ []
  pub opened : Opened K F n b (shows K F board stands)
  pub holds : (u : World B H L) (es : List (Event B)) → Runs K F es (shows K F board stands) u → HasHeld K F b es u
  pub linearizable : (u : World B H L) (es : List (Event B)) → Runs K F es (shows K F board stands) u
      → HasLinearized K b es u
