-- each half has less height
use Rattle.bridge_search.specs.Trees.{height_of}
use Rattle.hull_questions.proofs.questions.few_vertices.+push_chain_range_up_to.Given as goal

abbrev pub decreases-push_chain_range_up_to : goal.decreases-push_chain_range_up_to
decreases-push_chain_range_up_to g l = height_of (g.H.Half.tree l.half)
