-- the watermark so far
use Rattle.std.proofs.Common.{◌≡◌}
use Rattle.published_snapshots.specs.Numbers.{IsLaterWatermark}
use Rattle.published_snapshots.proofs.snapshot_slots.SnapshotSlots.snapshot.Given as goal

abbrev pub invariant-loop : goal.invariant-loop
invariant-loop g l = (l.watermark.seen.book ≡ l.self.newest.word.book) × IsLaterWatermark l.fn.watermark l.watermark
