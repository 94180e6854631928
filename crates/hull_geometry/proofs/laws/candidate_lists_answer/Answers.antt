-- the farthest point of a candidate list is the farthest of its set
use Rattle.hull_geometry.proofs.CandidateListHulls.{candidate_lists_answer}
use Rattle.hull_geometry.proofs.laws.candidate_lists_answer.Goals as goal

pub returns : goal.returns
returns c = candidate_lists_answer
