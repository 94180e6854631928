-- points that both have at their ends stay; grind closes the other goals at once
use Rattle.std.proofs.Common.{◌-◌, arith, length}
use Rattle.std.proofs.lemmas.Grind.{common_steps}
use Rattle.tiered_list.proofs.Edits.{replaced}
use Rattle.tiered_list.proofs.list.TieredList.splice.Goals as goal

pub put_in-requires-else-is_more_than_the_rest-clause-space : goal.put_in-requires-else-is_more_than_the_rest-clause-space
put_in-requires-else-is_more_than_the_rest-clause-space c = grind (arith, common_steps)

pub returns-else-is_more_than_the_rest-clause-items : goal.returns-else-is_more_than_the_rest-clause-items
returns-else-is_more_than_the_rest-clause-items c =
    let common = c.common_end-common.result in
    replaced c.args.from c.args.to (c.args.to - common) (length c.args.points.now - common) c.args.self.now.items
    c.args.points.now c.drain.new.self.items c.put_in-else-is_more_than_the_rest.new.self.items
    (omega (arith, c.requires.order, c.requires.within)) c.drain.ensures.items c.common_end-common.ensures.common
    c.put_in-else-is_more_than_the_rest.ensures.items

pub put_in-requires-else-is_more_than_the_rest-clause-within : goal.put_in-requires-else-is_more_than_the_rest-clause-within
put_in-requires-else-is_more_than_the_rest-clause-within c = grind (arith, common_steps)

pub returns-then-is_more_than_the_rest-clause-items : goal.returns-then-is_more_than_the_rest-clause-items
returns-then-is_more_than_the_rest-clause-items c = grind (arith, common_steps)

pub put_in-requires-then-is_more_than_the_rest-clause-space : goal.put_in-requires-then-is_more_than_the_rest-clause-space
put_in-requires-then-is_more_than_the_rest-clause-space c = grind (arith, common_steps)
