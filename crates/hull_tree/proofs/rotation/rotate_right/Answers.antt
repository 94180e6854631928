-- the halves are in the same order after a rotation, and each fork that it makes is built with its bridges
use Rattle.std.proofs.Common.{arith, append_assoc, sym, ◌∙◌}
use Rattle.std.proofs.lemmas.Grind.{common_steps}
use Rattle.hull_tree.proofs.Costs.{by_halves, looser, through}
use Rattle.hull_tree.proofs.HalfRows.{row_with_left, row_with_right, regrouped}
use Rattle.hull_tree.proofs.rotation.rotate_right.Goals as goal

pub join-second-requires-clause-separated : goal.join-second-requires-clause-separated
join-second-requires-clause-separated c = record {
  row = row_with_right _ _ _ _ c.take_apart-outer.ensures.separated.row c.take_apart-outer.ensures.points
      c.requires.separated.row;
  ends_left = c.requires.separated.ends_left ∙ c.take_apart-outer.ensures.last;
  starts_right = c.requires.separated.starts_right;
}

pub join-whole-requires-clause-separated : goal.join-whole-requires-clause-separated
join-whole-requires-clause-separated c = record {
  row = regrouped _ _ _ _ c.requires.separated.row c.take_apart-outer.ensures.separated.row.left_built
      c.join-second.ensures.built
      (rw (c.take_apart-outer.ensures.points, c.join-second.ensures.points) (simp append_assoc));
  ends_left = c.take_apart-outer.ensures.separated.ends_left;
  starts_right = c.take_apart-outer.ensures.separated.starts_right ∙ sym c.join-second.ensures.first;
}

pub returns-then-height_of-clause-cost_left : goal.returns-then-height_of-clause-cost_left
returns-then-height_of-clause-cost_left c =
    by_halves _ _ _ _ _ c.take_apart-outer.ensures.halves
    (looser _ _ _ _ c.join-whole.ensures.cost_left (omega arith))
    (through _ _ _ _ _ _ c.join-second.ensures.cost_left c.join-whole.ensures.cost_right (omega arith))

pub join-first-requires-clause-separated : goal.join-first-requires-clause-separated
join-first-requires-clause-separated c = record {
  row = row_with_left _ _ _ _ c.take_apart-middle_left.ensures.separated.row c.take_apart-middle_left.ensures.points
      c.take_apart-outer.ensures.separated.row;
  ends_left = c.take_apart-outer.ensures.separated.ends_left;
  starts_right = c.take_apart-outer.ensures.separated.starts_right ∙ c.take_apart-middle_left.ensures.first;
}

pub join-second-requires-2-clause-separated : goal.join-second-requires-2-clause-separated
join-second-requires-2-clause-separated c = record {
  row = row_with_right _ _ _ _ c.take_apart-middle_left.ensures.separated.row c.take_apart-middle_left.ensures.points
      (row_with_right _ _ _ _ c.take_apart-outer.ensures.separated.row c.take_apart-outer.ensures.points
      c.requires.separated.row);
  ends_left = c.requires.separated.ends_left ∙ c.take_apart-outer.ensures.last ∙ c.take_apart-middle_left.ensures.last;
  starts_right = c.requires.separated.starts_right;
}

pub join-whole-requires-2-clause-separated : goal.join-whole-requires-2-clause-separated
join-whole-requires-2-clause-separated c = record {
  row = regrouped _ _ _ _ c.requires.separated.row c.join-first.ensures.built c.join-second-2.ensures.built
      (rw (
        c.take_apart-outer.ensures.points,
        c.take_apart-middle_left.ensures.points,
        c.join-first.ensures.points,
        c.join-second-2.ensures.points,
      ) (simp append_assoc));
  ends_left = c.take_apart-middle_left.ensures.separated.ends_left ∙ sym c.join-first.ensures.last;
  starts_right = c.take_apart-middle_left.ensures.separated.starts_right ∙ sym c.join-second-2.ensures.first;
}

pub returns-clause-cost_left : goal.returns-clause-cost_left
returns-clause-cost_left c =
    by_halves _ _ _ _ _ c.take_apart-outer.ensures.halves
    (through _ _ _ _ _ _ c.join-first.ensures.cost_left c.join-whole-2.ensures.cost_left (omega arith))
    (by_halves _ _ _ _ _ c.take_apart-middle_left.ensures.halves
    (through _ _ _ _ _ _ c.join-first.ensures.cost_right c.join-whole-2.ensures.cost_left (omega arith))
    (through _ _ _ _ _ _ c.join-second-2.ensures.cost_left c.join-whole-2.ensures.cost_right (omega arith)))

-- grind closes these at once; the tactics that are tried first take long
pub returns-then-height_of-clause-points : goal.returns-then-height_of-clause-points
returns-then-height_of-clause-points c = grind (arith, common_steps)

pub returns-clause-points : goal.returns-clause-points
returns-clause-points c = grind (arith, common_steps)
