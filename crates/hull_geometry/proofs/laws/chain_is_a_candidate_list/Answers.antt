-- a point that is inner to a chain is one of its points or lies inwards of a segment between two
use Rattle.hull_geometry.proofs.Fringed.{chain_candidates}
use Rattle.hull_geometry.proofs.laws.chain_is_a_candidate_list.Goals as goal

pub returns : goal.returns
returns c = chain_candidates c.args.side
