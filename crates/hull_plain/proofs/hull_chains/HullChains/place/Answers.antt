-- the two chains determine the place
use Rattle.hull_plain.proofs.hull_chains.HullChains.place.Goals as goal

pub returns : goal.returns
returns c = λ S k. c.place_of.ensures S k.chains
