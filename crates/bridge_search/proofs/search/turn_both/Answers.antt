-- the ends of both edges fit, and each of the four cases of the table keeps the bridge
use Rattle.bridge_search.proofs.Signs.{not_under, is_under, crossing_returned}
use Rattle.bridge_search.proofs.Turns as turns
use Rattle.lattice.proofs.Tests.{passed, failed}
use Rattle.bridge_search.proofs.search.turn_both.Goals as goal

pub orient-side-requires-clause-first : goal.orient-side-requires-clause-first
orient-side-requires-clause-first g c =
    g.met.H.Half.fits c.args.u _ (turns.on_edge _ _ _ c.requires.ready.left_bridged c.requires.left_edge).0

pub orient-side-requires-clause-second : goal.orient-side-requires-clause-second
orient-side-requires-clause-second g c =
    g.met.H.Half.fits c.args.u _ (turns.on_edge _ _ _ c.requires.ready.left_bridged c.requires.left_edge).1

pub orient-side-requires-clause-third : goal.orient-side-requires-clause-third
orient-side-requires-clause-third g c =
    g.met.H.Half.fits c.args.w _ (turns.on_edge _ _ _ c.requires.ready.right_bridged c.requires.right_edge).0

pub orient-requires-clause-first : goal.orient-requires-clause-first
orient-requires-clause-first g c =
    g.met.H.Half.fits c.args.u _ (turns.on_edge _ _ _ c.requires.ready.left_bridged c.requires.left_edge).1

pub orient-requires-clause-second : goal.orient-requires-clause-second
orient-requires-clause-second g c =
    g.met.H.Half.fits c.args.w _ (turns.on_edge _ _ _ c.requires.ready.right_bridged c.requires.right_edge).0

pub orient-requires-clause-third : goal.orient-requires-clause-third
orient-requires-clause-third g c =
    g.met.H.Half.fits c.args.w _ (turns.on_edge _ _ _ c.requires.ready.right_bridged c.requires.right_edge).1

pub orient-requires-else-orient-ge0-clause-first : goal.orient-requires-else-orient-ge0-clause-first
orient-requires-else-orient-ge0-clause-first g c =
    g.met.H.Half.fits c.args.u _ (turns.on_edge _ _ _ c.requires.ready.left_bridged c.requires.left_edge).1

pub orient-requires-else-orient-ge0-clause-second : goal.orient-requires-else-orient-ge0-clause-second
orient-requires-else-orient-ge0-clause-second g c =
    g.met.H.Half.fits c.args.u _ (turns.on_edge _ _ _ c.requires.ready.left_bridged c.requires.left_edge).0

pub orient-requires-else-orient-ge0-clause-third : goal.orient-requires-else-orient-ge0-clause-third
orient-requires-else-orient-ge0-clause-third g c =
    g.met.H.Half.fits c.args.w _ (turns.on_edge _ _ _ c.requires.ready.right_bridged c.requires.right_edge).1

pub left-requires : goal.left-requires
left-requires g c = turns.is_fork _ _ c.requires.left_edge

pub right-requires : goal.right-requires
right-requires g c = turns.is_fork _ _ c.requires.right_edge

pub right-requires-then-weighted_at_or_before : goal.right-requires-then-weighted_at_or_before
right-requires-then-weighted_at_or_before g c = turns.is_fork _ _ c.requires.left_edge

pub left-requires-else-weighted_at_or_before : goal.left-requires-else-weighted_at_or_before
left-requires-else-weighted_at_or_before g c = turns.is_fork _ _ c.requires.right_edge

pub returns-then-side-ge0 : goal.returns-then-side-ge0
returns-then-side-ge0 g c =
    rw c.left.ensures
    (turns.turn_left _ _ _ _ _ _ c.requires.ready c.requires.left_edge
    (turns.on_edge _ _ _ c.requires.ready.right_bridged c.requires.right_edge).0
    (not_under _ _ c.orient-side.ensures.size c.orient-side.ensures.value c.if-side-ge0.true))

pub returns-then-orient-ge0 : goal.returns-then-orient-ge0
returns-then-orient-ge0 g c =
    rw c.right.ensures
    (turns.turn_right _ _ _ _ _ _ c.requires.ready c.requires.right_edge
    (turns.on_edge _ _ _ c.requires.ready.left_bridged c.requires.left_edge).1
    (not_under _ _ c.orient.ensures.size c.orient.ensures.value c.if-orient-ge0.true))

pub returns-then-weighted_at_or_before : goal.returns-then-weighted_at_or_before
returns-then-weighted_at_or_before g c =
    rw c.right-then-weighted_at_or_before.ensures
    (turns.turn_right_left _ _ _ _ _ _ _ c.requires.ready c.requires.left_edge c.requires.right_edge
    (is_under _ _ c.orient-side.ensures.size c.orient-side.ensures.value c.if-side-ge0.false)
    (is_under _ _ c.orient.ensures.size c.orient.ensures.value c.if-orient-ge0.false)
    (passed _ _ c.if-weighted_at_or_before.true
    (crossing_returned _ _ _ _ _ _ _ c.args.m c.orient-side.ensures.size c.orient-else-orient-ge0.ensures.size
    c.orient-side.ensures.value c.orient-else-orient-ge0.ensures.value c.weighted_at_or_before.ensures)))

pub returns-else-weighted_at_or_before : goal.returns-else-weighted_at_or_before
returns-else-weighted_at_or_before g c =
    rw c.left-else-weighted_at_or_before.ensures
    (turns.turn_left_right _ _ _ _ _ _ _ c.requires.ready c.requires.left_edge c.requires.right_edge
    (is_under _ _ c.orient-side.ensures.size c.orient-side.ensures.value c.if-side-ge0.false)
    (is_under _ _ c.orient.ensures.size c.orient.ensures.value c.if-orient-ge0.false)
    (turns.crossing_after _ _ _ _ _ (failed _ _ c.if-weighted_at_or_before.false
    (crossing_returned _ _ _ _ _ _ _ c.args.m c.orient-side.ensures.size c.orient-else-orient-ge0.ensures.size
    c.orient-side.ensures.value c.orient-else-orient-ge0.ensures.value c.weighted_at_or_before.ensures))))
