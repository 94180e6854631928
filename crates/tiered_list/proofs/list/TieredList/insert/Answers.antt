-- the block that the point is inserted into has a hole
use Rattle.std.proofs.Common.{arith, ap}
use Rattle.tiered_list.specs.Blocks.{TieredValue}
use Rattle.tiered_list.proofs.Filled.{len_of}
use Rattle.tiered_list.proofs.list.TieredList.insert.Goals as goal

pub open_hole-requires-clause-within : goal.open_hole-requires-clause-within
open_hole-requires-clause-within c =
    let n = len_of c.self.inside.len c.self.inside.blocks.items c.args.self.now c.self.invariant.filled c.self.view_is in
    let r = ap (λ (z : TieredValue). z.space) c.self.view_is in
    omega (arith, n, r, c.requires.space)

pub open_hole-requires-clause-at : goal.open_hole-requires-clause-at
open_hole-requires-clause-at c =
    let n = len_of c.self.inside.len c.self.inside.blocks.items c.args.self.now c.self.invariant.filled c.self.view_is in
    omega (arith, n, c.requires.within)

pub overflow_add-self : goal.overflow_add-self
overflow_add-self c =
    let n = len_of c.self.inside.len c.self.inside.blocks.items c.args.self.now c.self.invariant.filled c.self.view_is in
    let r = ap (λ (z : TieredValue). z.space) c.self.view_is in
    let few = c.self.invariant.few in
    omega (arith, n, r, c.requires.space, few)

pub fill_hole-requires-clause-offset : goal.fill_hole-requires-clause-offset
fill_hole-requires-clause-offset c =
    let n = len_of c.self.inside.len c.self.inside.blocks.items c.args.self.now c.self.invariant.filled c.self.view_is in
    omega (arith, n, c.requires.within)
