-- no point waits any more
use Rattle.std.proofs.Common.{◌∙◌, sym}
use Rattle.deferring_set.proofs.Removals.{settled}
use Rattle.deferring_set.proofs.deferring_set.DeferringSet.into_set.Goals as goal

pub returns-clause-held : goal.returns-clause-held
returns-clause-held g c =
    sym (settled _ _ (rw (← c.all.view_is) at c.carry_out.ensures.none)) ∙ (rw (← c.all.view_is) at c.carry_out.ensures.held)
