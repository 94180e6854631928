-- How a lock begins.
use Rattle.std.proofs.Common.{◌≡◌, ℕ, ◌^◌, ◌<◌, ◌≤◌, true, List, [], ◌∷◌, ◌++◌, refl, ap, ◌∙◌}
use Rattle.ticket_lock.specs.declared.chronicle.Chronicle.{Ghosts}
use Rattle.ticket_lock.specs.declared.seat_state.SeatState.{SeatState}
use Rattle.ticket_lock.specs.World.{Form, World}
use Rattle.ticket_lock.specs.Schedule.{idle_from, Opened}
use Rattle.ticket_lock.specs.Standing.{nobody, shelf}
use Rattle.ticket_lock.specs.Boards.{Board}
use Rattle.ticket_lock.specs.Beginnings.{Begins}
use Rattle.ticket_lock.proofs.Machine.{FormLaws}
use Rattle.ticket_lock.proofs.Schedules.{good_opened, schedules}
use Rattle.ticket_lock.proofs.Linear.{linearizable}

-- the seats that were cut from the keeper, and the keeper, are those of a table that shows an opened world
pub begins : {B H L : Type 0} (K : Ghosts B H L) (F : Form) → FormLaws F → (n : ℕ) (b value : B) (ws : List ℕ)
    (seats : List (SeatState H L))
    → 0 < n → n ≤ 64 → K.lawful b → K.turn b < 2 ^ 64 → F.Shows (K.turn b) (K.turn b) ws → value ≡ b
    → seats ≡ idle_from (K.head value) (K.lines value) 0 n → Begins K F n b seats
begins {B} {H} {L} K F laws n b value ws seats some_seats few lawful first shows same is =
    let board : Board B H L = record { words = ws; homes = shelf true b; views = seats ++ nobody ∷ [] } in
    let world : World B H L = record {
      words = ws;
      next = K.turn b;
      serving = K.turn b;
      seats = seats ++ nobody ∷ [];
      home = true;
      current = b;
    } in
    let opened : Opened K F n b world = record {
      some_seats = some_seats;
      few = few;
      lawful = lawful;
      first = first;
      words = shows;
      next = refl;
      serving = refl;
      keepers = 1;
      seats = ap (λ (z : List (SeatState H L)). z ++ nobody ∷ [])
          (is ∙ ap (λ (z : B). idle_from (K.head z) (K.lines z) 0 n) same);
      home = refl;
      current = refl;
    } in record {
      board = board;
      stands = record {
        next = K.turn b;
        serving = K.turn b;
        home = true;
        current = b;
        queue = [];
        good = good_opened K F laws n b world opened;
        shelved = refl;
      };
      views = refl;
      opened = opened;
      holds = λ u es r. schedules K F laws n b world u es opened r;
      linearizable = λ u es r. linearizable K F laws n b world u es opened r;
    }
