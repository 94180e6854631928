-- The reader registry of a shared hull.
use Rattle.std.specs.Prelude.{◌≡◌, ◌≢◌, ◌⊎◌, ◌+◌, ℕ, Bool, true, false, Option, Some, None, Result, Ok, Err}
use Rattle.hull_reply.specs.declared.code.Code.{Code}
use Rattle.hull_reply.specs.declared.code.Code.TheVariants as code
use Rattle.hull_snapshots.specs.Readers.{ComesIn}
use Rattle.hull_snapshots.specs.ChangePublishers.{IsOpened, reader_registry_name}
use Rattle.published_snapshots.specs.Snapshots.{SnapshotSlotsName}
use Rattle.hull_snapshots.specs.declared.change_publisher.ChangePublisher.{ChangePublisher}
use Rattle.hull_shared.specs.declared.gate.Gate.{Gate}
use Rattle.hull_shared.specs.declared.reader.OutReader.{OutReader}

-- the publisher and the registry of a shared hull that is opened for so many readers, none of whom is acquired:
-- neither, if there are none
abbrev pub IsGateFor : ℕ → ℕ → Option ChangePublisher → Option Gate → Type 0
IsGateFor readers first None None = readers ≡ 0
IsGateFor readers first (Some t) (Some g) =
    (readers ≢ 0) × IsOpened readers t g.reader_registry × (g.readers_set ≡ readers) × (g.out ≡ 0) × (g.first ≡ first)
IsGateFor readers first _ _ = ⊥

-- the name of the registry's snapshot slots, if there is a registry
abbrev pub snapshot_slots_after : Option Gate → Option SnapshotSlotsName
snapshot_slots_after None = None
snapshot_slots_after (Some g) = Some (reader_registry_name g.reader_registry)

-- so many readers may be acquired, and none is
abbrev pub LetsSoMany : ℕ → ℕ → Option Gate → Type 0
LetsSoMany readers first None = readers ≡ 0
LetsSoMany readers first (Some g) = (g.readers_set ≡ readers) × (g.out ≡ 0) × (g.first ≡ first)

-- some reader is acquired
abbrev pub AreReadersOut : Option Gate → Type 0
AreReadersOut None = ⊥
AreReadersOut (Some g) = g.out ≢ 0

-- the registry is the same but for how many readers are acquired
abbrev pub IsSameGate : Gate → Gate → Type 0
IsSameGate g h = (h.reader_registry ≡ g.reader_registry) × (h.readers_set ≡ g.readers_set) × (h.first ≡ g.first)

-- a reader was acquired; or all are, or memory was refused before that, and the registry is unchanged
abbrev pub LetsIn : Gate → Gate → Result OutReader Code → Type 0
LetsIn g h (Ok r) =
    IsSameGate g h × (h.out ≡ g.out + 1) × ComesIn g.reader_registry r.reader × (r.first ≡ g.first)
LetsIn g h (Err fault) =
    (h ≡ g) × (((g.out ≡ g.readers_set) × (fault ≡ code.NoSeat)) ⊎ ((g.out ≢ g.readers_set) × (fault ≡ code.NoMemory)))

-- a reader was released; or none was acquired
abbrev pub TakesIn : Gate → Gate → Bool → Type 0
TakesIn g h true = IsSameGate g h × (g.out ≡ h.out + 1)
TakesIn g h false = (h ≡ g) × (g.out ≡ 0)
