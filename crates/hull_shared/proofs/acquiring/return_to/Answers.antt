-- the seat that is released is at home in its slot
use Rattle.std.proofs.Common.{ℕ, sym, subst, arith}
use Rattle.std.proofs.lemmas.Grind.{common_steps}
use Rattle.std.proofs.lemmas.Option.{slice_get_read}
use Rattle.hull_book.specs.Ledgers.{IsLedgerOf}
use Rattle.hull_book.specs.Marks.{plain}
use Rattle.ticket_lock.specs.Tokens.{IsSeatOf, seat_seen}
use Rattle.hull_shared.specs.Locks.{HullLock, boxed_head, lock_of}
use Rattle.hull_shared.specs.Places.{IsAtHome}
use Rattle.hull_shared.proofs.Homes.{home_with}
use Rattle.hull_shared.proofs.SeatStates.{has_seat}
use Rattle.hull_shared.proofs.acquiring.return_to.Goals as goal

pub unwrap-requires : goal.unwrap-requires
unwrap-requires c = let i = c.args.acquired in has_seat _ _ i.state i.is_state c.requires.idle

pub invariant_of-shared_hull : goal.invariant_of-shared_hull
invariant_of-shared_hull c =
    let d = c.args.shared_hull in let i = c.args.acquired in let s = c.unwrap.result in
    let ours = i.is_state.idle s c.unwrap.ensures in
    let is : IsAtHome (lock_of d.lock) d.seats c.in-Some.j (record { seat = s; ledger = i.state.ledger }) = record {
      own = subst (λ (l : HullLock). IsSeatOf boxed_head l s) c.requires.own ours.own;
      counts = subst (λ (k : ℕ). IsLedgerOf k (plain (seat_seen s)) i.state.ledger) (sym ours.numbered) ours.counts;
      home = omega (arith, ours.numbered, c.in-Some.ensures);
    } in
    record {
      holds = d.holds;
      laid_out = record {
        each = d.laid_out.each;
        seats = d.laid_out.seats;
        workers = d.laid_out.workers;
        at_home = home_with (lock_of d.lock) d.seats d.places.list.items c.in-Some.j c.replace-none.new.self
            (record { seat = s; ledger = i.state.ledger }) c.replace-none.ensures.after is d.laid_out.at_home;
        no_seats = d.laid_out.no_seats;
        no_ledgers = d.laid_out.no_ledgers;
      };
    }

pub returns : goal.returns
returns c = grind (arith, common_steps, slice_get_read)
