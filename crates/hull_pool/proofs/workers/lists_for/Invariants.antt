-- each worker so far has a list with space for its calls
use Rattle.std.proofs.Common.{◌≡◌, ◌<◌, ◌≤◌, ℕ, [], length, map, vec_capacity}
use Rattle.std.specs.Prelude.{slice_index_or}
use Rattle.hull_book.specs.Scripts.{calls_of}
use Rattle.hull_pool.specs.Answers.{shown, no_answers}
use Rattle.hull_pool.proofs.workers.lists_for.Given as goal

abbrev pub invariant-loop-worker : goal.invariant-loop-worker
invariant-loop-worker l = record {
  many : length l.lists.items ≡ l.worker;
  reserved : l.workers ≤ vec_capacity l.lists;
  none : (k : ℕ) → k < l.worker → (slice_index_or (map (λ v. shown v) l.lists.items) k no_answers).answers ≡ [];
  space : (k : ℕ) → k < l.worker
      → length (calls_of k l.script.phases) ≤ (slice_index_or (map (λ v. shown v) l.lists.items) k no_answers).space;
}
