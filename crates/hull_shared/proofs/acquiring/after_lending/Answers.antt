-- the storage has the seat, or is still vacant
use Rattle.std.proofs.Common.{refl, sym, subst}
use Rattle.std.specs.Prelude.{Result}
use Rattle.hull_reply.specs.declared.code.Code.{Code}
use Rattle.hull_shared.specs.SharedHulls.{ComesTo}
use Rattle.hull_shared.specs.declared.seat.AcquiredSeat.{AcquiredSeat}
use Rattle.hull_shared.specs.declared.seat.SharedSeat.TheVariants.{Acquired, Vacant}
use Rattle.hull_shared.proofs.acquiring.after_lending.Goals as goal

pub returns-in-Ok : goal.returns-in-Ok
returns-in-Ok c = rw (c.in-Open.is, c.in-Vacant.is) (
  c.acquire_from-open.result.0,
  c.acquire_from-open.result.1,
  c.acquire_from-open.ensures,
  refl,
  subst (λ (r : Result AcquiredSeat Code). ComesTo (Acquired c.in-Ok.acquired) c.number-in-Ok.result r) (sym c.in-Ok.is)
      (refl, c.number-in-Ok.ensures),
)

pub returns-in-Err : goal.returns-in-Err
returns-in-Err c = rw (c.in-Open.is, c.in-Vacant.is) (
  c.acquire_from-open.result.0,
  c.acquire_from-open.result.1,
  c.acquire_from-open.ensures,
  refl,
  subst (λ (r : Result AcquiredSeat Code). ComesTo Vacant c.number-in-Err.result r) (sym c.in-Err.is)
      (refl, c.number-in-Err.ensures),
)
