-- the last member's seat and its ledger are put after those of the members after it, and the seat's number was tested
use Rattle.std.proofs.Common.{rules, ◌≡◌, ◌∙◌, length, arith}
use Rattle.ticket_lock.specs.Tokens.{IsSeatOf, seat_number}
use Rattle.ticket_lock.proofs.Gather.{last_of, front_of, all_push}
use Rattle.hull_pool.specs.Long.{IsSeatedLong, long_book_head}
use Rattle.pool_tests.specs.declared.pool.draining.Member.{Member}
use Rattle.hull_pool.proofs.Pushed.{zipped_push, numbered_push}
use Rattle.pool_tests.proofs.pool.draining.disband.Goals as goal

pub loop-member-preserved : goal.loop-member-preserved
loop-member-preserved g c =
    let seated : IsSeatedLong c.args.lock.now c.in-Some.member.number c.in-Some.member.ledger c.in-Some.member.seat =
    last_of (λ (m : Member). IsSeatedLong c.args.lock.now m.number m.ledger m.seat)
    c.loop-member.members.items c.pop.new.self.items c.in-Some.member c.in-Some.ensures.items
    c.loop-member.invariant.left in
    let own = rw c.in-Some-seat.is at seated.own in
    let place : seat_number c.in-Some-seat.seat ≡ length c.loop-member.seats.items =
    own.1 ∙ omega (arith, c.loop-member.seats.ok.0) in record {
      left = front_of (λ (m : Member). IsSeatedLong c.args.lock.now m.number m.ledger m.seat)
          c.loop-member.members.items c.pop.new.self.items c.in-Some.member
          c.in-Some.ensures.items c.loop-member.invariant.left;
      own = all_push (IsSeatOf long_book_head c.args.lock.now) _ _ _ c.push_reserved.ensures.items
          c.loop-member.invariant.own own.0;
      numbered = numbered_push
          (λ s. seat_number s) _ _ _ c.push_reserved.ensures.items c.loop-member.invariant.numbered place;
      ledgers = zipped_push _ _ _ _ _ _ _ c.push_reserved.ensures.items c.push_reserved-in-Some.ensures.items
          c.loop-member.invariant.ledgers (rw own.1 own.2);
      many = search rules;
      as_many = search rules;
      space = search rules;
    }
