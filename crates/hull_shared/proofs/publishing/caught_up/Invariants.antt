-- the publisher has recorded the lines so far, with the same snapshot slots
use Rattle.std.proofs.Common.{◌≡◌, Some, false, take}
use Rattle.hull_snapshots.specs.ChangePublishers.{is_silent, recorded}
use Rattle.hull_shared.specs.Publications.{changes_of, published_slots}
use Rattle.hull_shared.proofs.publishing.caught_up.Given as goal

abbrev pub invariant-loop-line : goal.invariant-loop-line
invariant-loop-line l = record {
  encoded : is_silent l.change_publisher ≡ false → recorded l.change_publisher ≡ changes_of (take l.line-index l.line-items);
  snapshot_slots : published_slots (Some l.change_publisher) ≡ published_slots l.fn.change_publisher;
}
