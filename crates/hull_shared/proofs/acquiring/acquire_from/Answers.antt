-- the seat that is acquired was at home in its slot
use Rattle.std.proofs.Common.{◌≡◌, ◌<◌, ℕ, Some, slice_get, length, refl, sym, ap, subst, arith, ◌∙◌}
use Rattle.std.proofs.lemmas.Grind.{common_steps}
use Rattle.std.specs.Mem.{manually_drop_value}
use Rattle.std.specs.declared.mem.ManuallyDrop.{ManuallyDrop}
use Rattle.std.proofs.lemmas.Option.{slice_get_read}
use Rattle.hull_book.specs.Ledgers.{IsLedgerOf}
use Rattle.hull_book.specs.Marks.{plain}
use Rattle.ticket_lock.specs.Tokens.{IsSeatOf, seat_number, seat_seen}
use Rattle.hull_shared.specs.Locks.{HullLock, boxed_head, capacity_of, lock_of, seats_of}
use Rattle.hull_shared.specs.Places.{HasAt, IsAtHome}
use Rattle.std.specs.Prelude.{None}
use Rattle.hull_shared.proofs.Homes.{home_without}
use Rattle.hull_shared.proofs.SeatStates.{idle_state}
use Rattle.hull_shared.proofs.acquiring.acquire_from.Goals as goal

pub invariant_of-acquired : goal.invariant_of-acquired
invariant_of-acquired c =
    let d = c.args.shared_hull in let j = c.in-Some.j in let p = c.unwrap-seat.result in
    let at_home : slice_get d.places.list.items j ≡ Some c.index_mut.result.now =
    slice_get_read d.places.list.items (length d.places.list.items) j c.index_mut.result.now refl
    (omega (arith, d.laid_out.each, d.places.list.ok.0, c.in-Some.ensures)) c.index_mut.ensures.value in
    let was : HasAt d.places.list.items j p = cc in
    let is : IsAtHome (lock_of d.lock) d.seats j p = d.laid_out.at_home j p was in
    let same : lock_of c.in-Ok.lock ≡ lock_of d.lock =
    ap (λ (m : ManuallyDrop HullLock). manually_drop_value m) c.in-Ok.ensures in
    let number : seat_number p.seat ≡ c.args.number = omega (arith, is.home, c.in-Some.ensures) in
    record {
      is_state = idle_state (lock_of c.in-Ok.lock) c.args.number (record { ledger = p.ledger; seat = Some p.seat; taken = None }) p.seat
          (refl, refl) (record {
            own = subst (λ (l : HullLock). IsSeatOf boxed_head l p.seat) (sym same) is.own;
            numbered = number;
            counts = subst (λ (k : ℕ). IsLedgerOf k (plain (seat_seen p.seat)) p.ledger) number is.counts;
          });
      holds = d.holds ∙ sym (ap (λ (l : HullLock). capacity_of l) same);
      below = subst (λ (l : HullLock). c.args.number < seats_of l) (sym same)
          (omega (arith, d.laid_out.workers, c.in-Some.ensures));
    }

pub invariant_of-shared_hull : goal.invariant_of-shared_hull
invariant_of-shared_hull c = let d = c.args.shared_hull in record {
  holds = d.holds;
  laid_out = record {
    each = d.laid_out.each;
    seats = d.laid_out.seats;
    workers = d.laid_out.workers;
    at_home = home_without
        (lock_of d.lock) d.seats d.places.list.items c.in-Some.j c.take.new.self
        c.take.ensures.after d.laid_out.at_home;
    no_seats = d.laid_out.no_seats;
    no_ledgers = d.laid_out.no_ledgers;
  };
}

pub returns : goal.returns
returns c = grind (arith, common_steps, slice_get_read)
