-- So far there is a list with no calls for each worker.
use Rattle.std.proofs.Common.{◌≡◌, [], replicate}
use Rattle.hull_book.specs.Scripts.{lists_of}
use Rattle.hull_text.proofs.read.assemble.no_calls.Given as goal

abbrev pub invariant-loop : goal.invariant-loop
invariant-loop l = lists_of l.jobs.items ≡ replicate l.counter []
