-- this many empty lists were added to the lists of the phase
use Rattle.std.proofs.Common.{◌≡◌, ◌≤◌, ◌+◌, ◌-◌, ◌++◌, [], length, replicate}
use Rattle.hull_book.specs.Scripts.{lists_of}
use Rattle.hull_book.proofs.script.Phase.widen.Given as goal

abbrev pub invariant-loop : goal.invariant-loop
invariant-loop l = record {
  lists : lists_of l.self-inside.jobs.items ≡ l.fn.self ++ replicate (l.counter - length l.fn.self) [];
  low : length l.fn.self ≤ l.counter;
  high : l.counter ≤ length l.fn.self + (l.workers - length l.fn.self);
}
