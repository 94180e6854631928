-- the point is in its block
use Rattle.std.proofs.Common.{◌%◌, ◌<◌, arith, sym, subst}
use Rattle.std.specs.VecDeque.{deque_len}
use Rattle.tiered_list.specs.Blocks.{Block}
use Rattle.tiered_list.proofs.Filled.{place_of, point_of}
use Rattle.tiered_list.proofs.list.TieredList.get.Goals as goal

pub index-requires : goal.index-requires
index-requires c =
    let h = place_of c.args.i c.self.inside.len c.self.inside.blocks.items c.args.self.now c.self.invariant.filled
    c.self.view_is c.requires in
    omega (arith, h.block, c.self.inside.blocks.ok)

pub index-requires-2 : goal.index-requires-2
index-requires-2 c =
    let h = place_of c.args.i c.self.inside.len c.self.inside.blocks.items c.args.self.now c.self.invariant.filled
    c.self.view_is c.requires in
    subst (λ (z : Block). c.args.i % 1024 < deque_len z) (sym c.index.ensures) (h.within c.index.result.now)

pub returns : goal.returns
returns c =
    let h = place_of c.args.i c.self.inside.len c.self.inside.blocks.items c.args.self.now c.self.invariant.filled
    c.self.view_is c.requires in
    point_of c.args.i c.self.inside.blocks.items c.args.self.now c.index.result.now c.index-2.result.now h c.self.view_is
    c.index.ensures c.index-2.ensures
