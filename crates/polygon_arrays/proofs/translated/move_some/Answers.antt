-- one more point is translated
use Rattle.std.proofs.Common.{◌∙◌, ◌+◌, ◌<◌, List, length, to_z, of_z, w64, subst, sym, ap, arith}
use Rattle.std.proofs.lemmas.Grind.{drop_more_same}
use Rattle.std.proofs.lemmas.Int.{ints}
use Rattle.std.proofs.lemmas.List.{drop-set-lt, length-set}
use Rattle.lattice.specs.Plane.{Pair, IsInRange}
use Rattle.hull_geometry.specs.Positions.{origin}
use Rattle.hull_geometry.proofs.PointLists.{get_or_free}
use Rattle.motions.specs.Motions.{translated}
use Rattle.polygon_arrays.proofs.Maps.{one_more_translated, same_at}
use Rattle.polygon_arrays.proofs.translated.move_some.Goals as goal

pub point_after-requires : goal.point_after-requires
point_after-requires c =
    let i = c.loop-i.i in
    let l : i < length c.loop-i.points = omega (arith, c.loop-i-test.true, c.loop-i.invariant.long, c.loop-i.auto.i-end, c.requires.within) in
    let h : IsInRange (translated c.args.dx c.args.dy c.index-points-i.result) =
    subst (λ (z : Pair). IsInRange (translated c.args.dx c.args.dy z)) (sym (c.index-points-i.is
    ∙ get_or_free c.loop-i.points i c.index-points-i.result origin l
    ∙ same_at c.loop-i.points c.args.points.now i l c.loop-i.invariant.long c.loop-i.invariant.rest))
    (c.requires.kept i (omega arith) (omega (arith, c.loop-i-test.true))) in
    ((omega (arith, ints, h.0.0), omega (arith, ints, h.0.1)), (omega (arith, ints, h.1.0), omega (arith, ints, h.1.1)))

pub loop-i-preserved : goal.loop-i-preserved
loop-i-preserved c =
    let i = c.loop-i.i in
    let P : List Pair = c.loop-i.points in
    let v : Pair = c.point_after.result in
    let l : i < length P = omega (arith, c.loop-i-test.true, c.loop-i.invariant.long, c.loop-i.auto.i-end, c.requires.within) in
    let at = c.index-points-i.is ∙ get_or_free P i c.index-points-i.result origin l in
    record {
      rest = drop-set-lt (i + 1) P i v (omega arith) ∙ drop_more_same P c.args.points.now i c.loop-i.invariant.rest;
      long = length-set P i v ∙ c.loop-i.invariant.long;
      moved = λ start h. one_more_translated _ _ start P i v l (c.loop-i.invariant.moved start h)
          (c.point_after.ensures ∙ ap (translated (to_z w64 (of_z w64 c.args.dx)) (to_z w64 (of_z w64 c.args.dy))) at);
    }
