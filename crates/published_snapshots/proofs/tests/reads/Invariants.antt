-- the reader's watermark is of the word of these slots
use Rattle.published_snapshots.specs.Snapshots.{IsWatermarkOf}
use Rattle.published_snapshots.proofs.tests.reads.Given as goal

abbrev pub invariant-loop : goal.invariant-loop
invariant-loop l = IsWatermarkOf l.snapshot_slots l.watermark
