-- the slab of the point in the subtree is its slab in the half
use Rattle.bridge_search.specs.Trees.{height_of}
use Rattle.hull_questions.specs.Slabs.{IsSlab}
use Rattle.hull_questions.specs.declared.slabs.Slab.{Slab}
use Rattle.hull_questions.proofs.slabs.slab_of.Given as goal

abbrev pub invariant-loop-edge : goal.invariant-loop-edge
invariant-loop-edge g l = (s : Slab) → IsSlab (g.H.Half.tree l.part) l.q s → IsSlab (g.H.Half.tree l.fn.half) l.q s

abbrev pub decreases-loop-edge : goal.decreases-loop-edge
decreases-loop-edge g l = height_of (g.H.Half.tree l.part)
