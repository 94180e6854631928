-- the request was accepted or refused
use Rattle.std.proofs.Common.{rules}
use Rattle.hull_shared.proofs.looking.take_and_look.Goals as goal

pub returns : goal.returns
returns c = let did = c.take_then.ensures in let is = did.1 in (did.0, search rules, did.2)
