-- no point waits
use Rattle.deferring_set.proofs.Removals.{deferred_none, without_none}
use Rattle.deferring_set.proofs.deferring_set.DeferringSet.new.Goals as goal

pub invariant_of-result : goal.invariant_of-result
invariant_of-result g c = rw c.new.ensures (deferred_none _ c.count-count.ensures.in_order)

pub returns-clause-held : goal.returns-clause-held
returns-clause-held g c = rw c.new.ensures (without_none _)
