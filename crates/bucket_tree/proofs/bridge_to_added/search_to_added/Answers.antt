-- the point is one end, and the other one is that of the bridge from it or to it
use Rattle.bucket_tree.proofs.TopDown.{after_left, before_right, bridge_from, bridge_to, end_in_right, start_in_left}
use Rattle.bucket_tree.proofs.bridge_to_added.search_to_added.Goals as goal

pub other_end-end-requires-clause-beside : goal.other_end-end-requires-clause-beside
other_end-end-requires-clause-beside c =
    before_right c.args.is_left c.args.side c.args.p c.args.fork.now c.requires.half c.requires.end c.if-is_left.true

pub other_end-end-requires-clause-within : goal.other_end-end-requires-clause-within
other_end-end-requires-clause-within c = rw c.edge.ensures
    (end_in_right c.args.is_left c.args.side c.args.p c.args.fork.now c.requires.half c.requires.end c.if-is_left.true)

pub returns-then-is_left-clause-bridge : goal.returns-then-is_left-clause-bridge
returns-then-is_left-clause-bridge c =
    bridge_from c.args.is_left c.args.side c.args.p c.args.fork.now c.requires.half c.requires.end c.if-is_left.true
    c.other_end-end.result.0 c.other_end-end.ensures.end

pub other_end-start-requires-clause-beside : goal.other_end-start-requires-clause-beside
other_end-start-requires-clause-beside c =
    after_left c.args.is_left c.args.side c.args.p c.args.fork.now c.requires.half c.requires.end c.if-is_left.false

pub other_end-start-requires-clause-within : goal.other_end-start-requires-clause-within
other_end-start-requires-clause-within c = rw c.edge-else-is_left.ensures
    (start_in_left c.args.is_left c.args.side c.args.p c.args.fork.now c.requires.half c.requires.end c.if-is_left.false)

pub returns-else-is_left-clause-bridge : goal.returns-else-is_left-clause-bridge
returns-else-is_left-clause-bridge c =
    bridge_to c.args.is_left c.args.side c.args.p c.args.fork.now c.requires.half c.requires.end c.if-is_left.false
    c.other_end-start.result.0 c.other_end-start.ensures.end
