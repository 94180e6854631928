-- the slots made so far belong to the history, and there is one for each round
use Rattle.std.proofs.Common.{◌≡◌, All, length}
use Rattle.published_snapshots.proofs.snapshot_slots.SnapshotSlots.new.Given as goal

abbrev pub invariant-loop : goal.invariant-loop
invariant-loop g l = All (λ slot. slot ≡ l.history) l.slots.items × (length l.slots.items ≡ l.counter)
