-- the products fit in 128 bits
use Rattle.hull_polygon.proofs.DifferencesReturned.{difference_returned}
use Rattle.hull_polygon.proofs.raycasts.Way.ahead.Goals as goal

pub returns-clause-value : goal.returns-clause-value
returns-clause-value c =
    difference_returned _ _ _ _ c.product.ensures.size c.product-2.ensures.size c.product.ensures.value
    c.product-2.ensures.value
