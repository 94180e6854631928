-- the request was accepted or refused
use Rattle.std.proofs.Common.{refl, rules}
use Rattle.hull_shared.specs.Looks.{TakesAsSeat}
use Rattle.hull_shared.proofs.Takes.{accepted, refused}
use Rattle.hull_shared.proofs.looking.take_then.Goals as goal

pub returns-in-Acquired : goal.returns-in-Acquired
returns-in-Acquired c =
    let did = accepted (TakesAsSeat c.args.then) _ _ _ _ _ _ c.call_to_take.ensures c.in-Acquired.acquired _ _ c.in-Acquired.is c.in-Ok.is
    (_, refl, c.take_number.ensures) in
    let is = did.1 in (did.0, search rules, did.2)

pub returns-in-Err : goal.returns-in-Err
returns-in-Err c =
    let did = refused (TakesAsSeat c.args.then) _ _ _ _ _ _ c.call_to_take.ensures _ c.in-Err.is c.of_refused.ensures in
    let is = did.1 in (did.0, search rules, did.2)
