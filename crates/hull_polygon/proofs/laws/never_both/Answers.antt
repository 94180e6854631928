-- the law is a lemma
use Rattle.hull_polygon.proofs.SeparatedLists.{never_both}
use Rattle.hull_polygon.proofs.laws.never_both.Goals as goal

pub returns : goal.returns
returns c = never_both
