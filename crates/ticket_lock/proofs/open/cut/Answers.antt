-- the first seat of the keeper is cut off, and what holds of the idle seats so far is read seat by seat
use Rattle.ticket_lock.specs.Forms.{partitioned_form}
use Rattle.ticket_lock.specs.Standing.{IsIdle}
use Rattle.std.proofs.Common.{rules, ◌≡◌, refl, sym, ap, ◌∙◌}
use Rattle.ticket_lock.specs.declared.seat.Seat.{Seat}
use Rattle.ticket_lock.proofs.Gather.{all_idle, all_push, at_place, numbers_from, zero_add}
use Rattle.ticket_lock.proofs.Seats.{splits_from, cut_keeper, cut_seat, is_idle, seats_snoc}
use Rattle.ticket_lock.proofs.open.cut.Goals as goal

pub split_seat-keeper-requires : goal.split_seat-keeper-requires
split_seat-keeper-requires g c = (
  search rules,
  search rules,
  splits_from g.B.Chronicle partitioned_form _ _ _ c.loop-number.number c.args.seats _ _ _
      (ap (λ m. m.0) c.loop-number.invariant.keeper) c.loop-number-test.true,
)

pub loop-number-preserved : goal.loop-number-preserved
loop-number-preserved g c = record {
  table = search rules;
  keeper = cut_keeper _ _ _ _ _ _ c.loop-number.invariant.keeper c.loop-number-test.true c.split_seat-keeper.ensures.4;
  long = search rules;
  space = search rules;
  own = all_push (λ (s : Seat g.row.B.Denot g.row.B-Head.Denot g.row.B-Line.Denot).
      (s.place.table_id ≡ c.args.board.now.shared.table_id)
      × IsIdle s.number s.place.me) _ _ _ c.push_reserved.ensures.items c.loop-number.invariant.own (
        search rules,
        is_idle _ _ _
            (cut_seat _ _ _ _ _ _ c.loop-number.invariant.keeper c.loop-number-test.true
            c.split_seat-keeper.ensures.2) refl,
      );
  views = seats_snoc _ _ _ _ _ _ _ c.push_reserved.ensures.items c.loop-number.invariant.views
      (ap (λ m. m.0) (cut_seat _ _ _ _ _ _ c.loop-number.invariant.keeper
      c.loop-number-test.true c.split_seat-keeper.ensures.2));
}

pub returns-clause-own : goal.returns-clause-own
returns-clause-own g c = λ k d l. let own = c.loop-number.invariant.own k d l in (
  own.0,
  (all_idle (λ (s : Seat g.row.B.Denot g.row.B-Head.Denot g.row.B-Line.Denot). s.place.me.0)
      c.loop-number.all.items _ _ 0 c.loop-number.number c.loop-number.invariant.views k d l).0,
  own.1,
)

pub returns-clause-seen : goal.returns-clause-seen
returns-clause-seen g c =
    λ k d l. (all_idle (λ
    (s : Seat g.row.B.Denot g.row.B-Head.Denot g.row.B-Line.Denot). s.place.me.0) c.loop-number.all.items _ _ 0
    c.loop-number.number c.loop-number.invariant.views k d l).1

pub returns-clause-numbers : goal.returns-clause-numbers
returns-clause-numbers g c =
    λ i s at. sym (at_place
    (λ (s : Seat g.row.B.Denot g.row.B-Head.Denot g.row.B-Line.Denot).
    (s.place.table_id ≡ c.args.board.now.shared.table_id)
    × IsIdle s.number s.place.me) _ i s c.loop-number.invariant.own at).1.1
    ∙ (numbers_from (λ (s : Seat g.row.B.Denot g.row.B-Head.Denot g.row.B-Line.Denot). s.place.me.0)
    c.loop-number.all.items _ _ 0 c.loop-number.number c.loop-number.invariant.views i s at ∙ zero_add i)
