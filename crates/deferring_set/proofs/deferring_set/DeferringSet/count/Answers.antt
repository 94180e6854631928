-- as many points are fewer as wait
use Rattle.std.proofs.Common.{arith}
use Rattle.deferring_set.proofs.Removals.{count_all}
use Rattle.deferring_set.proofs.deferring_set.DeferringSet.count.Goals as goal

pub overflow_sub-result : goal.overflow_sub-result
overflow_sub-result g c =
    let all = count_all c.self.inside.removed.items _ c.self.invariant in
    omega (arith, all, c.count.ensures.reply, c.len.ensures.value)

pub returns : goal.returns
returns g c =
    let all = count_all c.self.inside.removed.items _ c.self.invariant in
    rw (← c.self.view_is) (omega (arith, all, c.count.ensures.reply, c.len.ensures.value))
