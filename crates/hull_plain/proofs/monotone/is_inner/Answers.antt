-- a bend fits in 128 bits, so its test is that of its number
use Rattle.hull_geometry.proofs.Comparisons.{fits_side, above_test}
use Rattle.hull_plain.proofs.monotone.is_inner.Goals as goal

pub returns : goal.returns
returns c = above_test _ _ c.orient_on.ensures.value (fits_side _ c.orient_on.ensures.size)
