-- the laws of the lock, at a boxed book
use Rattle.hull_pool.proofs.Responses.{answers_are}
use Rattle.hull_pool.proofs.law.answers_are_of_lines.Goals as goal

pub returns : goal.returns
returns g c = answers_are g.S.HullSet c.partitioned_schedules_hold.ensures
    c.partitioned_schedules_are_linearizable.ensures
