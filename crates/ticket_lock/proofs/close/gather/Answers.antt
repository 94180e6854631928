-- the last seat's memo goes to the keeper, which stays a keeper, and no seat is lost
use Rattle.ticket_lock.specs.Forms.{partitioned_form}
use Rattle.std.proofs.Common.{rules, ◌≡◌, ap}
use Rattle.ticket_lock.specs.declared.seat.Seat.{Seat}
use Rattle.ticket_lock.specs.Standing.{IsIdle}
use Rattle.ticket_lock.proofs.Seats.{joins_from}
use Rattle.ticket_lock.proofs.Gather.{last_of, front_of, stays_keeper, gathered, no_memos}
use Rattle.ticket_lock.proofs.close.gather.Goals as goal

pub join_seat-requires : goal.join_seat-requires
join_seat-requires g c =
    let own : (c.in-Some.seat.place.table_id ≡ c.args.board.now.shared.table_id)
    × IsIdle c.in-Some.seat.number c.in-Some.seat.place.me =
    last_of (λ (s : Seat g.row.B.Denot g.row.B-Head.Denot g.row.B-Line.Denot).
    (s.place.table_id ≡ c.args.board.now.shared.table_id)
    × IsIdle s.number s.place.me) c.loop-seat.seats.items c.pop.new.self.items c.in-Some.seat c.in-Some.ensures.items
    c.loop-seat.invariant.own in (
      search rules,
      own.0,
      own.1.2,
      search rules,
      joins_from g.B.Chronicle partitioned_form _ _ _ _ _ _ c.loop-seat.invariant.stage own.1.0,
    )

pub loop-seat-init : goal.loop-seat-init
loop-seat-init g c = record {
  table = search rules;
  stage = search rules;
  bare = search rules;
  own = c.requires.own;
  views = no_memos _ c.args.keeper.now.me.0 c.requires.keeper.1;
}

pub loop-seat-preserved : goal.loop-seat-preserved
loop-seat-preserved g c =
    let own : (c.in-Some.seat.place.table_id ≡ c.args.board.now.shared.table_id)
    × IsIdle c.in-Some.seat.number c.in-Some.seat.place.me =
    last_of (λ (s : Seat g.row.B.Denot g.row.B-Head.Denot g.row.B-Line.Denot).
    (s.place.table_id ≡ c.args.board.now.shared.table_id)
    × IsIdle s.number s.place.me) c.loop-seat.seats.items c.pop.new.self.items c.in-Some.seat c.in-Some.ensures.items
    c.loop-seat.invariant.own in record {
      table = search rules;
      stage = stays_keeper _ _ _ c.loop-seat.invariant.stage own.1.0 (ap (λ m. m.0) c.join_seat.ensures.2);
      bare = search rules;
      own = front_of (λ (s : Seat g.row.B.Denot g.row.B-Head.Denot g.row.B-Line.Denot).
          (s.place.table_id ≡ c.args.board.now.shared.table_id)
          × IsIdle s.number s.place.me) c.loop-seat.seats.items c.pop.new.self.items c.in-Some.seat
          c.in-Some.ensures.items c.loop-seat.invariant.own;
      views = gathered _ _ _ _ c.in-Some.seat _ _ c.loop-seat.invariant.stage own.1.0 c.in-Some.ensures.items
          (ap (λ m. m.0) c.join_seat.ensures.2) c.loop-seat.invariant.views;
    }
