-- The publisher and the reader registry of a shared hull have the same snapshot slots.
use Rattle.std.proofs.Common.{◌≡◌, ℕ, Option, Some, None, ap, refl, sym}
use Rattle.published_snapshots.specs.Snapshots.{name_of}
use Rattle.hull_snapshots.specs.declared.change_publisher.ChangePublisher.{ChangePublisher}
use Rattle.hull_shared.specs.declared.gate.Gate.{Gate}
use Rattle.hull_shared.specs.Gates.{IsGateFor, snapshot_slots_after}
use Rattle.hull_shared.specs.Publications.{published_slots}

-- a publisher and a registry that were made together have the same snapshot slots
pub one_snapshot_slots : (readers first : ℕ) (t : Option ChangePublisher) (g : Option Gate) → IsGateFor readers first t g
    → snapshot_slots_after g ≡ published_slots t
one_snapshot_slots readers first None None h = refl
one_snapshot_slots readers first (Some t) (Some g) h = ap (λ snapshot_slots. Some (name_of snapshot_slots)) (sym h.1.snapshot_slots)
one_snapshot_slots readers first None (Some g) h = absurd h
one_snapshot_slots readers first (Some t) None h = absurd h
