-- the removal leaves a hole, which is then closed
use Rattle.std.proofs.Common.{arith}
use Rattle.tiered_list.proofs.Filled.{len_of}
use Rattle.tiered_list.proofs.list.TieredList.remove.Goals as goal

pub dig_hole-requires-clause-offset : goal.dig_hole-requires-clause-offset
dig_hole-requires-clause-offset c =
    let n = len_of c.self.inside.len c.self.inside.blocks.items c.args.self.now c.self.invariant.filled c.self.view_is in
    omega (arith, n, c.requires)

pub close_hole-requires-clause-some : goal.close_hole-requires-clause-some
close_hole-requires-clause-some c =
    let n = len_of c.self.inside.len c.self.inside.blocks.items c.args.self.now c.self.invariant.filled c.self.view_is in
    omega (arith, n, c.requires)

pub close_hole-requires-clause-at : goal.close_hole-requires-clause-at
close_hole-requires-clause-at c =
    let n = len_of c.self.inside.len c.self.inside.blocks.items c.args.self.now c.self.invariant.filled c.self.view_is in
    omega (arith, n, c.requires)

pub overflow_sub-self : goal.overflow_sub-self
overflow_sub-self c =
    let n = len_of c.self.inside.len c.self.inside.blocks.items c.args.self.now c.self.invariant.filled c.self.view_is in
    omega (arith, n, c.requires)
