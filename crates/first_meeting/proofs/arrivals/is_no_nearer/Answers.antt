-- the rules close this at once; the tactic that is tried first takes long
use Rattle.std.proofs.Common.{rules}
use Rattle.first_meeting.proofs.arrivals.is_no_nearer.Goals as goal

pub returns : goal.returns
returns c = search rules
