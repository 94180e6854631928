-- the snapshot is not put into a slot yet
use Rattle.std.proofs.Common.{◌≡◌}
use Rattle.std.specs.Arc.{arc_value}
use Rattle.published_snapshots.proofs.publisher.Publisher.put.Given as goal

abbrev pub invariant-loop-at : goal.invariant-loop-at
invariant-loop-at g l =
    (l.snapshot ≡ l.fn.snapshot) × (l.snapshot.prefix.seen.book ≡ (arc_value l.self.snapshot_slots).history.book)
