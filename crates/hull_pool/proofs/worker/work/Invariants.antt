-- the worker has made the calls before this one, and its ledger counts their lines
use Rattle.std.proofs.Common.{◌≡◌, ◌+◌, ◌-◌, ◌≤◌, length, box_value, vec_len, vec_capacity}
use Rattle.std.specs.Prelude.{IsNone}
use mathlib.Core.List.{IsPrefix}
use Rattle.hull_book.specs.Ledgers.{IsLedgerOf}
use Rattle.ticket_lock.specs.Tokens.{opening_book, IsSeatOf, seat_number, seat_seen}
use Rattle.hull_pool.specs.Crews.{book_head}
use Rattle.hull_pool.specs.Work.{HasWorked, capacity_of}
use Rattle.hull_pool.proofs.worker.work.Given as goal

abbrev pub invariant-loop-call : goal.invariant-loop-call
invariant-loop-call g l = record {
  own : IsSeatOf book_head l.lock l.seat;
  seat_is : seat_number l.seat ≡ l.number;
  number_is : l.worker.number ≡ l.number;
  same_number : l.worker.number ≡ l.fn.worker.number;
  away : IsNone l.worker.seat;
  begins : IsPrefix (box_value (opening_book l.lock)).lines (seat_seen l.seat);
  ledger_is : IsLedgerOf l.number (seat_seen l.seat) l.worker.ledger;
  worked : HasWorked l.number (capacity_of (box_value (opening_book l.lock))) l.call-index l.call-items
      (box_value (opening_book l.lock)).lines (seat_seen l.seat) l.fn.worker.answers.items l.worker.answers.items;
  index_is : l.index ≡ l.call-index;
  space : vec_len l.worker.answers + (length l.call-items - l.call-index) ≤ vec_capacity l.worker.answers;
  same_space : vec_capacity l.worker.answers ≡ vec_capacity l.fn.worker.answers;
}
