-- Each worker has its calls among the items so far.
use Rattle.std.proofs.Common.{◌≡◌, ℕ, ◌<◌, [], length, get_or, take}
use Rattle.hull_book.specs.Scripts.{lists_of}
use Rattle.hull_text.specs.ScriptValue.{calls_by}
use Rattle.hull_text.proofs.read.assemble.phase_of.Given as goal

abbrev pub invariant-loop-item : goal.invariant-loop-item
invariant-loop-item l = record {
  each : length l.jobs.items ≡ l.workers;
  calls : (k : ℕ) → k < l.workers → get_or (lists_of l.jobs.items) k [] ≡ calls_by k (take l.item-index l.items);
}
