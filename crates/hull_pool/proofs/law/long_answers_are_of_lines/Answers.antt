-- the law of the lock, at a boxed book that may be drained
use Rattle.hull_book.specs.Kinds.{drained}
use Rattle.hull_pool.proofs.Responses.{long_answers_are}
use Rattle.hull_pool.proofs.law.long_answers_are_of_lines.Goals as goal

pub returns : goal.returns
returns g c = long_answers_are (drained g.S.HullSet) (λ head. head) (λ b lawful. lawful.legal)
    c.partitioned_schedules_are_linearizable.ensures
