-- products of directions and points fit in 128 bits, so comparing them compares the distances
use Rattle.hull_geometry.proofs.Comparisons.{fits_side, less_test}
use Rattle.hull_questions.proofs.questions.extreme.is_nearer.Goals as goal

pub returns : goal.returns
returns c = less_test _ _ _ _ c.product.ensures.value c.product-2.ensures.value (fits_side _ c.product.ensures.size)
    (fits_side _ c.product-2.ensures.size)
