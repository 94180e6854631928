-- the octagon of no points has none; else the eight vertices are round each point of the octagon
use Rattle.std.proofs.Common.{◌+ℤ◌, ◌-ℤ◌, rules}
use Rattle.hull_plain.proofs.Octagons.{surrounded_inside}
use Rattle.hull_plain.proofs.octagon.octagon_inside.Goals as goal

pub returns-then-is_empty : goal.returns-then-is_empty
returns-then-is_empty c = λ S s k q w. absurd (c.empty.ensures q w)

pub returns : goal.returns
returns c = λ S s k q w.
    let x = (c.span_between-x.ensures q.x).0 w.0.0 in
    let y = (c.span_between-y.ensures q.y).0 w.0.1 in
    let sum = (c.span_between-sum.ensures (q.x +ℤ q.y)).0 w.1.0 in
    let difference = (c.span_between-difference.ensures (q.x -ℤ q.y)).0 w.1.1 in
    surrounded_inside S q s record {
      right_up = (
        c.corner-right_up.result,
        k.above.among _ c.corner-right_up.ensures,
        search (rules, x.2, c.x-3.ensures.value),
        search (rules, sum.2, c.sum_of-3.ensures),
      );
      up_right = (
        c.corner-up_right.result,
        k.above.among _ c.corner-up_right.ensures,
        search (rules, y.3, c.y-4.ensures.value),
        search (rules, sum.3, c.sum_of-4.ensures),
      );
      up_left = (
        c.corner-up_left.result,
        k.above.among _ c.corner-up_left.ensures,
        search (rules, y.2, c.y-3.ensures.value),
        search (rules, difference.0, c.difference_of.ensures),
      );
      left_up = (
        c.corner-left_up.result,
        k.above.among _ c.corner-left_up.ensures,
        search (rules, x.0, c.x.ensures.value),
        search (rules, difference.1, c.difference_of-2.ensures),
      );
      left_down = (
        c.corner-left_down.result,
        k.below.among _ c.corner-left_down.ensures,
        search (rules, x.1, c.x-2.ensures.value),
        search (rules, sum.0, c.sum_of.ensures),
      );
      down_left = (
        c.corner-down_left.result,
        k.below.among _ c.corner-down_left.ensures,
        search (rules, y.0, c.y.ensures.value),
        search (rules, sum.1, c.sum_of-2.ensures),
      );
      down_right = (
        c.corner-down_right.result,
        k.below.among _ c.corner-down_right.ensures,
        search (rules, y.1, c.y-2.ensures.value),
        search (rules, difference.2, c.difference_of-3.ensures),
      );
      right_down = (
        c.corner-right_down.result,
        k.below.among _ c.corner-right_down.ensures,
        search (rules, x.3, c.x-4.ensures.value),
        search (rules, difference.3, c.difference_of-4.ensures),
      );
    }
