-- the block has the capacity for the point, and its offset there is its index in the list
use Rattle.std.proofs.Common.{◌+◌, ◌≤◌, arith, ap, ◌∙◌, subst}
use Rattle.std.proofs.Math.ListN.{length-set}
use Rattle.std.specs.List.{insert}
use Rattle.std.specs.VecDeque.{deque_len, deque_capacity}
use Rattle.tiered_list.specs.Blocks.{Block}
use Rattle.tiered_list.proofs.Filled.{hole_within, in_hole, hole_filled, points_with}
use Rattle.tiered_list.proofs.blocks.fill_hole.Goals as goal

pub index_mut-requires : goal.index_mut-requires
index_mut-requires c =
    let w = hole_within c.args.at c.args.len c.args.blocks.now.items c.requires.filled in
    omega (arith, w, c.args.blocks.now.ok)

pub insert-requires : goal.insert-requires
insert-requires c =
    let b = in_hole c.args.at c.args.len c.args.blocks.now.items c.index_mut.result.now c.requires.filled
    c.index_mut.ensures.value in
    omega (arith, b.count, c.requires.offset, c.requires.within)

pub unreachable-requires : goal.unreachable-requires
unreachable-requires c =
    let b = in_hole c.args.at c.args.len c.args.blocks.now.items c.index_mut.result.now c.requires.filled
    c.index_mut.ensures.value in
    omega (arith, b.count, b.space, c.in_default.ensures.full)

pub returns-clause-filled : goal.returns-clause-filled
returns-clause-filled c =
    hole_filled c.args.at c.args.len c.args.blocks.now.items c.index_mut.result.now c.insert.new.self c.requires.filled
    (c.in-Ok.ensures.len ∙ ap (λ (z : Block). deque_len z + 1) c.index_mut.ensures.value)
    (subst (λ (z : Block). deque_capacity z ≤ deque_capacity c.insert.new.self) c.index_mut.ensures.value
    c.in-Ok.ensures.capacity)

pub returns-clause-points : goal.returns-clause-points
returns-clause-points c =
    points_with c.args.at c.args.len c.args.offset c.args.blocks.now.items c.index_mut.result.now c.insert.new.self
    c.args.point c.requires.filled c.requires.offset c.requires.within
    (c.in-Ok.ensures.items ∙ ap (λ (z : Block). insert z.items c.args.offset c.args.point) c.index_mut.ensures.value)

pub returns-clause-count : goal.returns-clause-count
returns-clause-count c = length-set _ _ _
