-- the point at an offset of its block is the point at its index of the list
use Rattle.std.proofs.Common.{◌<◌, arith, ap, sym, subst, ◌∙◌}
use Rattle.std.proofs.Math.ListN.{length-set}
use Rattle.std.proofs.lemmas.Bool.{false≢true}
use Rattle.std.specs.List.{remove}
use Rattle.std.specs.VecDeque.{deque_len, deque_capacity}
use Rattle.tiered_list.specs.Blocks.{Block}
use Rattle.tiered_list.proofs.Filled.{stands_at, hole_dug, points_without}
use Rattle.tiered_list.proofs.blocks.dig_hole.Goals as goal

pub index_mut-requires : goal.index_mut-requires
index_mut-requires c =
    let w = stands_at c.args.at c.args.len c.args.offset c.args.blocks.now.items c.requires.filled c.requires.offset
    c.requires.within in
    omega (arith, w.block, c.args.blocks.now.ok)

pub unreachable-requires : goal.unreachable-requires
unreachable-requires c =
    let w = stands_at c.args.at c.args.len c.args.offset c.args.blocks.now.items c.requires.filled c.requires.offset
    c.requires.within in
    let here : c.args.offset < deque_len c.index_mut.result.now =
    subst (λ (z : Block). c.args.offset < deque_len z) (sym c.index_mut.ensures.value)
    (w.within c.index_mut.result.now) in
    false≢true (c.in_default.ensures.variant.1 here)

pub returns-clause-filled : goal.returns-clause-filled
returns-clause-filled c =
    hole_dug c.args.at c.args.len c.args.offset c.args.blocks.now.items c.index_mut.result.now c.remove.new.self
    c.requires.filled c.requires.offset
    (c.in-Some.ensures.len ∙ ap (λ (z : Block). deque_len z) c.index_mut.ensures.value)
    (c.remove.ensures.capacity ∙ ap (λ (z : Block). deque_capacity z) c.index_mut.ensures.value)

pub returns-clause-points : goal.returns-clause-points
returns-clause-points c =
    points_without c.args.at c.args.len c.args.offset c.args.blocks.now.items c.index_mut.result.now c.remove.new.self
    c.requires.filled c.requires.offset c.requires.within
    (c.in-Some.ensures.items ∙ ap (λ (z : Block). remove z.items c.args.offset) c.index_mut.ensures.value)

pub returns-clause-count : goal.returns-clause-count
returns-clause-count c = length-set _ _ _
