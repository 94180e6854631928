-- each round takes a choice back
use Rattle.std.proofs.Common.{vec_len}
use Rattle.explorer.proofs.tests.choice.EachWay.advance.Given as goal

abbrev pub decreases-loop-chosen : goal.decreases-loop-chosen
decreases-loop-chosen l = vec_len l.self.made
