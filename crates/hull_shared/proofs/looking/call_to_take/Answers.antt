-- the seat is as it was found, and asked for what these numbers request
use Rattle.std.proofs.Common.{refl, rules}
use Rattle.hull_shared.proofs.looking.call_to_take.Goals as goal

pub returns-in-Vacant : goal.returns-in-Vacant
returns-in-Vacant c = (c.call_of-asked.result, search rules, rw c.in-Vacant.is refl)

pub returns-in-Some : goal.returns-in-Some
returns-in-Some c = (c.call_of-asked.result, search rules, search rules)
