-- the registry counts the reader as released
use Rattle.std.proofs.Common.{inl, inr, refl, rules}
use Rattle.hull_shared.proofs.reading.return_reader.Goals as goal

pub returns-in_default-gate : goal.returns-in_default-gate
returns-in_default-gate c = rw (c.in-Open.is, c.in-Out.is, c.in_default-gate.is)
    ((_, refl, (refl, refl, refl, refl, refl)), refl, c.number-in_default-gate.ensures)

pub returns-then-not-take_in : goal.returns-then-not-take_in
returns-then-not-take_in c = rw (c.in-Open.is, c.in-Out.is, c.in-Some.is) (
  c.take_in.new.self,
  c.take_in.result,
  c.take_in.ensures,
  (_, refl, (refl, refl, refl, refl, refl)),
  inr (search rules, refl, c.number-then-not-take_in.ensures),
)

pub returns : goal.returns
returns c = rw (c.in-Open.is, c.in-Out.is, c.in-Some.is) (
  c.take_in.new.self,
  c.take_in.result,
  c.take_in.ensures,
  (_, refl, (refl, refl, refl, refl, refl)),
  inl (search rules, refl, c.number-2.ensures),
)
