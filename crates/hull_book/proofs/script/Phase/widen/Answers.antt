-- one empty list more
use Rattle.std.proofs.Common.{arith}
use Rattle.hull_book.proofs.Idle.{idle_pushed}
use Rattle.hull_book.proofs.script.Phase.widen.Goals as goal

pub loop-preserved : goal.loop-preserved
loop-preserved c = record {
  lists = idle_pushed _ _ c.new.result c.args.self.now c.loop.counter c.in_ok-push.ensures.items c.new.ensures.items
      c.loop.invariant.lists c.loop.invariant.low;
  low = omega (arith, c.loop.invariant.low);
  high = omega (arith, c.loop-test.true, c.loop.invariant.low);
}
