-- all pairs were found; they are sorted if the array takes them
use Rattle.std.proofs.Common.{List, ◌++◌, length, sym, subst, arith}
use Rattle.std.specs.List.Sorted.{IsPermutation}
use Rattle.polygon_pairs.specs.Boxes.{AreBoxes}
use Rattle.polygon_pairs.specs.Pairs.{EncodesPairs}
use Rattle.polygon_pairs.specs.declared.pair.HullPair.{HullPair}
use Rattle.polygon_pairs.proofs.Ordered.{all_in_front, too_many}
use Rattle.polygon_pairs.proofs.pairs.pairs_within_distance.Goals as goal

pub returns-then-count-out : goal.returns-then-count-out
returns-then-count-out c =
    too_many c.args.reach c.args.polygons.now c.deref.result.now c.args.out.now c.sweep_all-count.new.out c.sweep_all-count.result
    c.numbered-then-count-out.result
    (subst (AreBoxes c.args.polygons.now (length c.args.polygons.now)) (sym c.deref.ensures.value) c.in-Ok.ensures.boxes)
    c.sweep_all-count.ensures (omega (arith, c.if-count-out.true, c.sweep_all-count.auto.out)) c.numbered-then-count-out.ensures

pub returns : goal.returns
returns c =
    subst (λ (z : List HullPair). EncodesPairs c.args.reach c.args.polygons.now c.args.out.now (c.sort.new.pairs ++ z) c.numbered-2.result)
    (sym c.split_at_mut-front.ensures.back)
    (all_in_front c.args.reach c.args.polygons.now c.deref.result.now c.args.out.now c.sweep_all-count.new.out c.sort.new.pairs
    c.sweep_all-count.result c.numbered-2.result
    (subst (AreBoxes c.args.polygons.now (length c.args.polygons.now)) (sym c.deref.ensures.value) c.in-Ok.ensures.boxes)
    (omega (arith, c.if-polygons.false)) c.sweep_all-count.ensures
    (omega (arith, c.if-count-out.false, c.sweep_all-count.auto.out))
    (subst (λ (z : List HullPair). IsPermutation z c.sort.new.pairs) c.split_at_mut-front.ensures.front c.sort.ensures.permutation)
    c.sort.ensures.sorted c.numbered-2.ensures)
