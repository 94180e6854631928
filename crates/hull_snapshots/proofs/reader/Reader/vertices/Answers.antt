-- after no line there is no vertex
use Rattle.std.proofs.lemmas.Grind.{merely}
use Rattle.hull_geometry.proofs.Rounding.{small_list}
use Rattle.std.proofs.Common.{arith, []}
use Rattle.hull_snapshots.specs.Changes.{changed_by}
use Rattle.hull_snapshots.proofs.Known.{flatten}
use Rattle.hull_snapshots.proofs.reader.Reader.vertices.Goals as goal

pub returns-in-Some-clause-behind : goal.returns-in-Some-clause-behind
returns-in-Some-clause-behind c = rw (c.in-Some.is, c.points.ensures) (flatten c.value.ensures.is_true)

pub returns-in-None-clause-behind : goal.returns-in-None-clause-behind
unfolding changed_by
returns-in-None-clause-behind c = rw (c.in-None.is) (merely (small_list [] (omega arith)))
