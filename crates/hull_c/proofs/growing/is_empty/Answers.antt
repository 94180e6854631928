-- only without a point is none the farthest
use Rattle.hull_c.proofs.Grown.{some_points}
use Rattle.hull_c.proofs.growing.is_empty.Goals as goal

pub returns-in-Some-clause-some : goal.returns-in-Some-clause-some
returns-in-Some-clause-some c = λ n S k. some_points S c.in-Some.field-0 (c.in-Some.ensures S k).0

pub returns-in-None-clause-empty : goal.returns-in-None-clause-empty
returns-in-None-clause-empty c = λ y S k. c.in-None.ensures S k
