-- Two guards with the same fields are equal: each fact about the fields has one proof.
use Rattle.std.proofs.Common.{◌≡◌, ◌<◌, [], ◌∷◌}
use Rattle.std.specs.Prelude as std
use Rattle.std.proofs.Props.{props}
use Rattle.std.specs.Coded.{Coded, Coded-set}
use Rattle.ticket_lock.specs.declared.guard.Guard.{Guard}
use Rattle.ticket_lock.specs.Standing.{stage_of, seat_of, number_of}

module _ {B H L : Type 0} (code : Coded B) (x : Guard B H L) where
  -- the guard's seat is of its lock
  abbrev Own : Type 0
  Own = x.place.table_id ≡ x.lock.now.board.shared.table_id

  -- the guard's seat holds the book, which is out of its slot
  abbrev Holding : Type 0
  Holding = (stage_of x.place.me.0 ≡ 3) × (seat_of x.place.me.0 ≡ x.seat) × (number_of x.place.me.0 ≡ x.number)
      × (x.place.me.1 ≡ (0, std.None) ∷ [])

  -- the guard's seat has a number of one byte
  abbrev Few : Type 0
  Few = x.seat < 256

  -- that it is of its lock has one proof
  own_prop : IsProp Own
  own_prop = hlevel props

  -- that it holds the book has one proof
  holding_prop : IsProp Holding
  holding_prop = hlevel (props, Coded-set code)

  -- that its number has one byte has one proof
  few_prop : IsProp Few
  few_prop = hlevel props

  -- the guard with the book w and these proofs
  abbrev with_facts : B → Own → Holding → Few → Guard B H L
  with_facts w own holding few =
      record {
        lock = x.lock;
        place = x.place;
        seat = x.seat;
        number = x.number;
        book = w;
        own =
            own;
        holding = holding;
        few = few;
      }

  -- which proofs it has makes no difference
  pub same_guard : (w : B) (p q : Own) (r s : Holding) (t u : Few) → with_facts w p r t ≡ with_facts w q s u
  same_guard w p q r s t u = λ i. with_facts w (own_prop p q i) (holding_prop r s i) (few_prop t u i)
