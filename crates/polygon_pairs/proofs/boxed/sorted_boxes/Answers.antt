-- the sorted boxes are the same
use Rattle.std.proofs.Common.{◌≡◌, List, length, take, drop, ◌++◌, sym, subst, arith}
use Rattle.std.proofs.lemmas.Grind.{common_steps}
use Rattle.std.proofs.lemmas.List.Sorted.{length_permutation}
use Rattle.std.specs.List.Sorted.{IsPermutation}
use Rattle.polygon_pairs.specs.Boxes.{AreBoxes}
use Rattle.polygon_pairs.specs.declared.boxed.Boxed.{Boxed}
use Rattle.polygon_pairs.proofs.Boxes.{other_order}
use Rattle.polygon_pairs.proofs.boxed.sorted_boxes.Goals as goal

pub returns-clause-boxes : goal.returns-clause-boxes
returns-clause-boxes c =
    let xs : List Boxed = c.in_ok-boxes.boxes.items in
    let ys : List Boxed = c.sort.new.boxes in
    let p : IsPermutation xs ys =
    subst (λ (z : List Boxed). IsPermutation z ys) c.deref_mut.ensures.value c.sort.ensures.permutation in
    let long : length ys ≡ length xs = length_permutation xs ys p in
    let e : take c.in_ok-boxes.boxes.len (ys ++ drop (length ys) xs) ≡ ys = grind (arith, common_steps) in
    subst (AreBoxes c.args.polygons.now (length c.args.polygons.now)) (sym e)
    (other_order c.args.polygons.now (length c.args.polygons.now) xs ys p c.in_ok-boxes.ensures)
