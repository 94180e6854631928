-- one point more was removed
use Rattle.std.proofs.Common.{◌∙◌, arith}
use Rattle.tiered_list.proofs.Edits.{taken_more}
use Rattle.tiered_list.proofs.list.TieredList.drain.Goals as goal

pub loop-preserved : goal.loop-preserved
loop-preserved c = record {
  items = c.remove.ensures.items
      ∙ taken_more c.args.from c.loop.counter c.args.self.now.items c.loop.self.items c.loop.auto.counter
      (omega (arith, c.loop-test.true, c.requires.within)) c.loop.invariant.items;
  space = c.remove.ensures.space ∙ c.loop.invariant.space;
}
