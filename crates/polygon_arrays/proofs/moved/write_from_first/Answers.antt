-- the two parts are the points from the first on, and those before it
use Rattle.std.proofs.Common.{◌-◌, ◌<◌, length, ap, arith, ◌≡◌, ◌∙◌, ◌++◌, List, map, take, drop, sym, subst}
use Rattle.std.specs.List.{All}
use Rattle.std.proofs.lemmas.Grind.{common_steps}
use Rattle.std.proofs.lemmas.List.{length-drop, map-append, take_all}
use Rattle.lattice.specs.Plane.{Pair, IsBefore}
use Rattle.hull_geometry.specs.Positions.{point_at}
use Rattle.motions.specs.Motions.{moved}
use Rattle.polygon_arrays.proofs.Maps.{none_before_first}
use Rattle.polygon_arrays.proofs.moved.write_from_first.Goals as goal

pub returns : goal.returns
returns c =
    let f : Pair → Pair = moved c.args.motion.now in
    let V : List Pair = c.args.points.now in
    let first = c.args.first in
    let some : 0 < length V = grind (arith, common_steps) in
    let within : first < length V = (c.requires.first 0 some).0 in
    let e : c.write_moved.new.out ++ c.write_moved-2.new.out ≡ map f (drop first V ++ take first V) =
    ap (λ (z : List Pair). z ++ c.write_moved-2.new.out) (c.write_moved.ensures
    ∙ ap (map f) (take_all (length V - first) (drop first V) (omega (arith, length-drop first V))))
    ∙ ap (λ (z : List Pair). map f (drop first V) ++ z) c.write_moved-2.ensures
    ∙ sym (map-append f (drop first V) (take first V)) in (
      first,
      e,
      subst (λ (z : List Pair). All (λ t. ¬ IsBefore t (point_at z 0)) z) (sym e)
          (none_before_first f V first within (λ i l. (c.requires.first i l).1)),
    )
