-- the storage is vacant, or still has the seat
use Rattle.std.proofs.Common.{refl, rules, sym, subst}
use Rattle.std.specs.Prelude.{Option}
use Rattle.hull_shared.specs.SharedHulls.{IsLeftWith}
use Rattle.hull_shared.specs.declared.seat.AcquiredSeat.{AcquiredSeat}
use Rattle.hull_shared.specs.declared.seat.SharedSeat.TheVariants.{Acquired, Vacant}
use Rattle.hull_shared.proofs.Seen.{returned}
use Rattle.hull_shared.proofs.acquiring.after_return.Goals as goal

pub returns-in-None : goal.returns-in-None
returns-in-None c = rw (c.in-Open.is, c.in-Acquired.is) (returned c.in-Acquired.acquired.state.taken _ _ _ _ _ (search rules) (
  c.return_to-open.result.0,
  c.return_to-open.result.1,
  c.return_to-open.ensures,
  refl,
  subst (λ (r : Option AcquiredSeat). IsLeftWith Vacant c.number-in-None.result r) (sym c.in-None.is)
      (refl, c.number-in-None.ensures),
))

pub returns-in-Some : goal.returns-in-Some
returns-in-Some c = rw (c.in-Open.is, c.in-Acquired.is) (returned c.in-Acquired.acquired.state.taken _ _ _ _ _ (search rules) (
  c.return_to-open.result.0,
  c.return_to-open.result.1,
  c.return_to-open.ensures,
  refl,
  subst (λ (r : Option AcquiredSeat). IsLeftWith (Acquired c.in-Some.acquired) c.number-in-Some.result r) (sym c.in-Some.is)
      (refl, c.number-in-Some.ensures),
))
