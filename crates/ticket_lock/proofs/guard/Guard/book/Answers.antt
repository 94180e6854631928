-- each fact about a guard's fields has one proof, so the guard that gets the book back is the one with that book
use Rattle.std.proofs.Common.{refl}
use Rattle.ticket_lock.proofs.Guards.{same_guard}
use Rattle.ticket_lock.proofs.guard.Guard.book.Goals as goal

pub returns : goal.returns
returns g c = (
  (
    refl,
    λ w. same_guard g.row.B.coded c.args.self.now w _ c.args.self.now.own _ c.args.self.now.holding _
        c.args.self.now.few,
  ),
  record { writes_back = tt; value = refl },
)
