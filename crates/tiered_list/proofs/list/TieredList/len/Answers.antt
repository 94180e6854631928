-- the blocks have as many points as the list counts
use Rattle.std.proofs.Common.{sym, ap, ◌∙◌, length}
use Rattle.tiered_list.specs.Blocks.{TieredValue}
use Rattle.tiered_list.proofs.Filled.{filled_total}
use Rattle.tiered_list.proofs.list.TieredList.len.Goals as goal

pub returns : goal.returns
returns c =
    sym (filled_total c.self.inside.len c.self.inside.blocks.items c.self.invariant.filled)
    ∙ ap (λ (v : TieredValue). length v.items) c.self.view_is
