-- the lemma itself
use Rattle.hull_shared.proofs.JournalSnapshots.{of_the_journal}
use Rattle.hull_shared.proofs.law.snapshots_are_of_the_journal.Goals as goal

pub returns : goal.returns
returns c = of_the_journal
