-- one more point, with its number
use Rattle.std.proofs.Common.{◌∙◌, arith}
use Rattle.bucket_tree.proofs.Listed.{paired_more}
use Rattle.bucket_tree.proofs.listing.push_all.Goals as goal

pub loop-i-preserved : goal.loop-i-preserved
loop-i-preserved c = record {
  entries = c.push_reserved.ensures.items
      ∙ paired_more c.args.points.now c.args.multiplicities.now c.loop-i.i c.index-points-i.result c.from.result
      c.args.entries.now.items c.loop-i.entries.items (omega (arith, c.loop-i-test.true)) c.requires.counted c.index-points-i.is
      c.from.ensures c.loop-i.invariant.entries;
  short = omega (arith, c.push_reserved.ensures.len, c.loop-i.invariant.short);
  capacity = omega (arith, c.push_reserved.ensures.capacity, c.loop-i.invariant.capacity);
}
