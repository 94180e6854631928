-- the phases so far have an empty list for each worker more, and the others are as they were
use Rattle.std.proofs.Common.{◌≡◌, ◌≤◌, ◌<◌, ℕ, length, get_or}
use Rattle.hull_book.specs.Scripts.{PhaseValue, with_idle}
use Rattle.hull_book.proofs.script.Script.widened.Given as goal

abbrev pub invariant-loop-i : goal.invariant-loop-i
invariant-loop-i l = record {
  long : length l.phases.items ≡ length l.fn.self.phases;
  done : (k : ℕ) (d : PhaseValue) → k < l.i
      → get_or l.phases.items k d ≡ with_idle l.wide (get_or l.fn.self.phases k d);
  left : (k : ℕ) (d : PhaseValue) → l.i ≤ k → get_or l.phases.items k d ≡ get_or l.fn.self.phases k d;
}
