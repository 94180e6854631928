-- the known list, if it stays
use Rattle.std.proofs.Common.{rules}
use Rattle.hull_snapshots.proofs.change_publisher.keep.Goals as goal

pub returns-else-not-stay : goal.returns-else-not-stay
returns-else-not-stay c =
    (c.in-Some.is, rw (← c.deref.ensures) (c.stay.ensures.stay (rw (c.if-not-stay.false) (search rules))))
