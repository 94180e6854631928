-- the reader that the registry made goes into the storage
use Rattle.std.proofs.Common.{refl, subst, sym}
use Rattle.hull_shared.specs.Readings.{ComesToReader}
use Rattle.hull_shared.specs.declared.reader.SharedReader.TheVariants.{Out, Vacant}
use Rattle.hull_shared.proofs.reading.acquire_reader.Goals as goal

pub returns-in_default-gate : goal.returns-in_default-gate
returns-in_default-gate c = rw (c.in-Open.is, c.in-Vacant.is, c.in_default-gate.is)
    ((_, refl, (refl, refl, refl, refl, refl)), refl, c.number-in_default-gate.ensures)

pub returns-in-Ok : goal.returns-in-Ok
returns-in-Ok c = rw (c.in-Open.is, c.in-Vacant.is, c.in-Some.is) (
  c.let_in.new.self,
  c.let_in.result,
  c.let_in.ensures,
  (_, refl, (refl, refl, refl, refl, refl)),
  subst (λ r. ComesToReader (Out c.in-Ok.out) c.number-in-Ok.result r) (sym c.in-Ok.is) (refl, c.number-in-Ok.ensures),
)

pub returns-in-Err : goal.returns-in-Err
returns-in-Err c = rw (c.in-Open.is, c.in-Vacant.is, c.in-Some.is) (
  c.let_in.new.self,
  c.let_in.result,
  c.let_in.ensures,
  (_, refl, (refl, refl, refl, refl, refl)),
  subst (λ r. ComesToReader Vacant c.number-in-Err.result r) (sym c.in-Err.is) (refl, c.number-in-Err.ensures),
)
