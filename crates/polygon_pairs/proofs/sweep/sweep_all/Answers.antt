-- the pairs of one more box were found
use Rattle.std.proofs.Common.{length, arith}
use Rattle.polygon_pairs.proofs.Sweeping.{all_found, row_found}
use Rattle.polygon_pairs.proofs.sweep.sweep_all.Goals as goal

pub loop-i-preserved : goal.loop-i-preserved
loop-i-preserved c = record {
  found = row_found c.args.reach c.args.polygons.now c.args.boxes.now (length c.args.polygons.now) c.loop-i.i
      c.args.out.now c.loop-i.out c.sweep_from-count.new.out 0 c.loop-i.count c.sweep_from-count.result c.requires.boxes
      c.loop-i.invariant.found c.sweep_from-count.ensures.found;
  few = omega (arith, c.loop-i.invariant.few, c.sweep_from-count.ensures.few);
}

pub returns : goal.returns
returns c =
    all_found c.args.reach c.args.polygons.now c.args.boxes.now c.loop-i.i c.args.out.now c.loop-i.out 0 c.loop-i.count
    c.loop-i-test.false c.loop-i.invariant.found
