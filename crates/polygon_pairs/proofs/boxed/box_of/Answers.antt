-- the box of each set with these vertices, by its sides
use Rattle.std.proofs.Common.{◌<◌, length, sym, subst, arith}
use Rattle.std.proofs.lemmas.Grind.{common_steps}
use Rattle.hull_polygon.specs.Polygons.{IsPolygonOf}
use Rattle.polygon_pairs.proofs.Boxes.{by_sides}
use Rattle.polygon_pairs.proofs.WithinLength.{some_point}
use Rattle.polygon_pairs.proofs.boxed.box_of.Goals as goal

pub unreachable-requires : goal.unreachable-requires
unreachable-requires c =
    let some : 0 < length c.args.polygon.now = grind (arith, common_steps) in
    let (S, o) = c.requires.0 in
    some_point S c.args.polygon.now o some (c.in-None.ensures S (subst (IsPolygonOf S) (sym c.of_vertices.ensures) o))

pub returns : goal.returns
returns c =
    let some : 0 < length c.args.polygon.now = grind (arith, common_steps) in (
      (
        some,
        λ S o. by_sides S c.in-Some.ends.0 c.in-Some.ends.1 _ _ _ _ c.boxed_between.ensures.left c.boxed_between.ensures.bottom
            c.boxed_between.ensures.right c.boxed_between.ensures.top
            (c.in-Some.ensures S (subst (IsPolygonOf S) (sym c.of_vertices.ensures) o)),
      ),
      c.boxed_between.ensures.index,
    )
