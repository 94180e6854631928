-- the whole chain is a range
use Rattle.hull_questions.proofs.Stretched.{whole_chain_range}
use Rattle.hull_questions.proofs.questions.area.fan_of_chain.Goals as goal

pub fan_of_chain_range-requires-clause-chain_range : goal.fan_of_chain_range-requires-clause-chain_range
fan_of_chain_range-requires-clause-chain_range g c =
    rw (c.first.ensures, c.last.ensures) (whole_chain_range (g.H.Half.tree c.args.half) (g.met.H.Half.bridged c.args.half))
