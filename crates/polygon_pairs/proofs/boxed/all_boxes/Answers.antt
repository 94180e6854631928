-- one more polygon has a box or none
use Rattle.std.proofs.Common.{◌≡◌, ◌∙◌, ◌+◌, ◌++◌, ◌∷◌, [], ◌<◌, ℕ, List, length, sym, ap, subst, arith, vec_capacity, vec_len}
use Rattle.std.specs.List.{All}
use Rattle.lattice.specs.Plane.{Pair}
use Rattle.polygon_pairs.specs.Boxes.{AreBoxes, IsBoxAmong, IsBoxOf}
use Rattle.polygon_pairs.specs.Pairs.{polygon_at}
use Rattle.polygon_pairs.specs.declared.boxed.Boxed.{Boxed}
use Rattle.polygon_pairs.proofs.Boxes.{below_more, below_next, indices_of, one_box, polygon_there, skip_box}
use Rattle.polygon_pairs.proofs.boxed.all_boxes.Goals.{in-Some, in_default}
use Rattle.polygon_pairs.proofs.boxed.all_boxes.Goals as goal

pub loop-i-preserved : goal.loop-i-preserved
loop-i-preserved c =
    let i : ℕ = c.loop-i.i in
    let old : List Boxed = c.loop-i.boxes.items in
    let at : polygon_at c.args.polygons.now i ≡ c.index-polygons-i.result.now =
    polygon_there c.args.polygons.now i c.index-polygons-i.result c.loop-i-test.true c.index-polygons-i.is in
    elim c.match-box_of.branch [
      | in-Some w ↦
          let found : Boxed = w.in-Some.found in
          let items : c.match-box_of.boxes.items ≡ old ++ found ∷ [] =
          ap (λ v. v.items) w.boxes-is ∙ w.push_reserved.ensures.items in
          let here : IsBoxAmong c.args.polygons.now found = (
            omega (arith, c.loop-i-test.true, w.in-Some.ensures.1),
            subst (λ (n : ℕ). IsBoxOf (polygon_at c.args.polygons.now n) found) (sym w.in-Some.ensures.1)
                (subst (λ (z : List Pair). IsBoxOf z found) (sym at) w.in-Some.ensures.0),
          ) in
          record {
            found = subst (AreBoxes c.args.polygons.now (i + 1)) (sym items)
                (one_box c.args.polygons.now i old found here w.in-Some.ensures.1 c.loop-i.invariant.below c.loop-i.invariant.found);
            below = subst (λ (z : List Boxed). All (λ n. n < i + 1) (indices_of z)) (sym items)
                (below_more old i found w.in-Some.ensures.1 c.loop-i.invariant.below);
            short = omega (arith, c.loop-i.invariant.short, ap (λ v. vec_len v) w.boxes-is, w.push_reserved.ensures.len);
            room = ap (λ v. vec_capacity v) w.boxes-is ∙ w.push_reserved.ensures.capacity ∙ c.loop-i.invariant.room;
          }
      | in_default w ↦
          let items : c.match-box_of.boxes.items ≡ old = ap (λ v. v.items) w.boxes-is in
          let none : length c.index-polygons-i.result.now ≡ 0 = w.in_default.ensures in
          record {
            found = subst (AreBoxes c.args.polygons.now (i + 1)) (sym items)
                (skip_box c.args.polygons.now i old (ap (λ (z : List Pair). length z) at ∙ none) c.loop-i.invariant.found);
            below = subst (λ (z : List Boxed). All (λ n. n < i + 1) (indices_of z)) (sym items)
                (below_next old i c.loop-i.invariant.below);
            short = omega (arith, c.loop-i.invariant.short, ap (λ v. vec_len v) w.boxes-is);
            room = ap (λ v. vec_capacity v) w.boxes-is ∙ c.loop-i.invariant.room;
          }
    ]
