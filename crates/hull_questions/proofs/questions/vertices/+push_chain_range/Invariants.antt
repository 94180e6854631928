-- each half has less height
use Rattle.bridge_search.specs.Trees.{height_of}
use Rattle.hull_questions.proofs.questions.vertices.+push_chain_range.Given as goal

abbrev pub decreases-push_chain_range : goal.decreases-push_chain_range
decreases-push_chain_range g l = height_of (g.H.Half.tree l.half)
