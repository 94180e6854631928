-- the lemma itself
use Rattle.hull_snapshots.proofs.Effects.{effect}
use Rattle.hull_snapshots.proofs.laws.changes_have_the_effect.Goals as goal

pub returns : goal.returns
returns c = effect
