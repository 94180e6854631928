-- the ends of an edge are points of its half, so they fit; the case of the table that holds keeps the bridge
use Rattle.std.proofs.Common.{arith}
use Rattle.std.proofs.lemmas.Grind.{common_steps}
use Rattle.bridge_search.proofs.Signs.{not_under, is_under}
use Rattle.bridge_search.proofs.Turns as turns
use Rattle.bridge_search.proofs.search.turn_right.Goals as goal

pub orient-requires-clause-first : goal.orient-requires-clause-first
orient-requires-clause-first g c = g.met.H.Half.fits c.args.u _ (rw c.first.ensures (turns.on_first _))

pub orient-requires-clause-second : goal.orient-requires-clause-second
orient-requires-clause-second g c =
    g.met.H.Half.fits c.args.w _ (turns.on_edge _ _ _ c.requires.ready.right_bridged c.requires.edge).0

pub orient-requires-clause-third : goal.orient-requires-clause-third
orient-requires-clause-third g c =
    g.met.H.Half.fits c.args.w _ (turns.on_edge _ _ _ c.requires.ready.right_bridged c.requires.edge).1

pub returns-then-orient-ge0 : goal.returns-then-orient-ge0
returns-then-orient-ge0 g c =
    rw c.right.ensures
    (turns.turn_right _ _ _ _ _ _ c.requires.ready c.requires.edge (rw c.first.ensures (turns.on_first _))
    (not_under _ _ c.orient.ensures.size c.orient.ensures.value c.if-orient-ge0.true))

pub returns-else-orient-ge0 : goal.returns-else-orient-ge0
returns-else-orient-ge0 g c =
    rw c.left.ensures
    (turns.turn_left_right_one _ _ _ _ _ _ c.requires.ready c.requires.edge c.requires.one c.first.ensures
    (is_under _ _ c.orient.ensures.size c.orient.ensures.value c.if-orient-ge0.false))

-- grind closes these at once; the tactic that is tried first takes long
pub right-requires : goal.right-requires
right-requires c = grind (arith, common_steps)

pub left-requires : goal.left-requires
left-requires c = grind (arith, common_steps)
