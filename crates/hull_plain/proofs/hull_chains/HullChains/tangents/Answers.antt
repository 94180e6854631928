-- the two chains determine the tangents
use Rattle.hull_plain.proofs.hull_chains.HullChains.tangents.Goals as goal

pub returns : goal.returns
returns c = λ S k. c.tangents_from.ensures S k.chains
