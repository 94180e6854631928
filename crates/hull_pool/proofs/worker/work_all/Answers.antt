-- what the threads leave at each index of the worker set is true in the set read from its end
use Rattle.std.proofs.Common.{arith}
use Rattle.std.proofs.lemmas.Grind.{common_steps}
use Rattle.std.specs.Prelude.{box_value}
use Rattle.ticket_lock.specs.Tokens.{opening_book}
use Rattle.hull_pool.specs.Crews.{IsReady}
use Rattle.std.proofs.lemmas.List.{take_at}
use Rattle.hull_pool.proofs.Reversed.{all_unreverse, zip_reverse}
use Rattle.hull_pool.proofs.worker.work_all.Goals as goal

pub work_each-requires-clause-ready : goal.work_each-requires-clause-ready
work_each-requires-clause-ready g c κs within =
    rw c.as_mut_slice.ensures.value
    (all_unreverse (IsReady c.args.lock.now
    (box_value (opening_book c.args.lock.now)) c.args.phase.now) c.args.worker_set.now.items c.requires.ready)

pub returns-clause-ran : goal.returns-clause-ran
returns-clause-ran g c = grind (arith, common_steps, zip_reverse, take_at)
