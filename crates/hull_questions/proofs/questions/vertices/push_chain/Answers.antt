-- the whole chain is a range
use Rattle.hull_questions.proofs.Stretched.{whole_chain_range}
use Rattle.hull_questions.proofs.questions.vertices.push_chain.Goals as goal

pub push_chain_range-requires : goal.push_chain_range-requires
push_chain_range-requires g c =
    rw (c.first.ensures, c.last.ensures) (whole_chain_range (g.H.Half.tree c.args.half) (g.met.H.Half.bridged c.args.half))
