-- as many readers as were requested
use Rattle.std.proofs.Common.{arith, inl, refl}
use Rattle.std.proofs.lemmas.Bool.Decides.{nat_tests}
use Rattle.hull_shared.proofs.reading.set_max_readers.Goals as goal

pub returns : goal.returns
returns c = rw (c.in-Fresh.is)
    (inl (grind (arith, nat_tests), grind (arith, nat_tests), (_, refl, refl), c.number-2.ensures))
