-- each half has less height
use Rattle.bridge_search.specs.Trees.{height_of}
use Rattle.hull_questions.proofs.questions.area.+fan_of_chain_range.Given as goal

abbrev pub decreases-fan_of_chain_range : goal.decreases-fan_of_chain_range
decreases-fan_of_chain_range g l = height_of (g.H.Half.tree l.half)
