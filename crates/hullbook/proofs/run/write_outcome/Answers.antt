-- if the journal is requested, the text is the journal's
use Rattle.hull_text.specs.Version.{written}
use Rattle.hullbook.proofs.run.write_outcome.Goals as goal
use Rattle.std.proofs.Common.{refl}

pub returns-then-asked-clause-wrote : goal.returns-then-asked-clause-wrote
returns-then-asked-clause-wrote g c = rw (c.if-asked.true) c.write_journal.ensures.wrote

pub returns-then-asked-clause-said : goal.returns-then-asked-clause-said
returns-then-asked-clause-said g c asked =
    rw (c.if-asked.true) (written c.args.outcome.now.journal.head.rules, c.write_journal.ensures.said, refl)
