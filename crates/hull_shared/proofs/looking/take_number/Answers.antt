-- the seat has taken a number for the call, and waits with it or has looked
use Rattle.std.proofs.Common.{◌≡◌, Some, refl, rules, subst, sym}
use Rattle.ticket_lock.specs.Tokens.{IsSeatOf}
use Rattle.hull_shared.specs.Locks.{HullLock, boxed_head, lock_of}
use Rattle.hull_shared.specs.Looks.{HasSeenAt}
use Rattle.hull_shared.specs.declared.seat_state.TakenNumber.{TakenNumber}
use Rattle.hull_shared.proofs.Takes.{took}
use Rattle.hull_shared.proofs.looking.take_number.Goals as goal

pub take-ticket-requires : goal.take-ticket-requires
take-ticket-requires c =
    let a = c.args.acquired.now in let s = c.unwrap-seat.result in
    let at : a.state.seat ≡ Some s = cc in let same : c.deref-2.result.now ≡ lock_of a.lock = cc in
    let own : IsSeatOf boxed_head c.deref-2.result.now s =
    subst (λ (l : HullLock). IsSeatOf boxed_head l s) (sym same) (a.is_state.idle s at).own in
    search rules

pub returns-in-None : goal.returns-in-None
returns-in-None c =
    let a = c.args.acquired.now in let s = c.unwrap-seat.result in let t = c.take-ticket in
    let at : a.state.seat ≡ Some s = cc in let same : c.deref-2.result.now ≡ lock_of a.lock = cc in
    let taken : TakenNumber = record { ticket = t.result; call = c.args.call } in
    rw c.in-Wait.is record {
      same = (refl, refl, refl);
      taken = taken;
      takes = took a s taken c.deref-2.result.now at c.requires same t.ensures.own t.ensures.seat;
      waits = (c.replace-none.ensures.after, c.take.ensures.after);
      same_ledger = refl;
      encoded = c.of_waiting-reply.ensures;
    }

pub returns-in-Look : goal.returns-in-Look
returns-in-Look c =
    let a = c.args.acquired.now in let s = c.unwrap-seat.result in let t = c.take-ticket in
    let at : a.state.seat ≡ Some s = cc in let same : c.deref-2.result.now ≡ lock_of a.lock = cc in
    let still : c.deref-in-Look-2.result.now ≡ lock_of a.lock = cc in
    let taken : TakenNumber = record { ticket = t.result; call = c.args.call } in
    rw c.in-Look.is record {
      same = (refl, refl, refl);
      taken = taken;
      takes = took a s taken c.deref-2.result.now at c.requires same t.ensures.own t.ensures.seat;
      seen = c.see_once.result;
      has_seen = subst (λ (l : HullLock). HasSeenAt l a.number a.state.ledger taken c.see_once.new.state c.see_once.result) still
          c.see_once.ensures.seen;
      encoded = c.replied.ensures;
    }
