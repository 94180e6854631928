-- the whole chain is a range
use Rattle.hull_questions.proofs.Stretched.{whole_chain_range}
use Rattle.hull_questions.proofs.questions.few_vertices.push_chain_up_to.Goals as goal

pub push_chain_range_up_to-requires-clause-chain_range : goal.push_chain_range_up_to-requires-clause-chain_range
push_chain_range_up_to-requires-clause-chain_range g c =
    rw (c.first.ensures, c.last.ensures) (whole_chain_range (g.H.Half.tree c.args.half) (g.met.H.Half.bridged c.args.half))
