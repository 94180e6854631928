-- The results of the calls for readers.
use Rattle.std.specs.Prelude.{◌≡◌, ◌≢◌, ◌⊎◌, ◌+◌, ◌-◌, ◌%◌, ◌^◌, ◌≤◌, ℕ, Bool, true, false, List, length, Option, Some, None, Result, Ok, Err}
use Rattle.lattice.specs.Plane.{Pair}
use Rattle.lattice.specs.Vertices.{IsVertexList}
use Rattle.hull_reply.specs.Vertices.{EncodesVertices}
use Rattle.hull_reply.specs.Encoded.{code_number, IsBare}
use Rattle.hull_reply.specs.declared.reply.HullReply.{HullReply}
use Rattle.hull_reply.specs.declared.code.Code.{Code}
use Rattle.hull_reply.specs.declared.code.Code.TheVariants as code
use Rattle.hull_snapshots.specs.Changes.{held_after_changes}
use Rattle.hull_snapshots.specs.Readers.{HasLooked, IsAt, vertices_at, lines_at, newest_watermark}
use Rattle.hull_snapshots.specs.declared.TheConstants.{READER_LIMIT}
use Rattle.hull_shared.specs.Gates.{LetsIn, TakesIn}
use Rattle.hull_shared.specs.declared.shared_hull.SharedHull.{SharedHull}
use Rattle.hull_shared.specs.declared.shared_hull.SharedHull.TheVariants.{Fresh, Open}
use Rattle.hull_shared.specs.declared.shared_hull.FreshSharedHull.{FreshSharedHull}
use Rattle.hull_shared.specs.declared.shared_hull.OpenSharedHull.{OpenSharedHull}
use Rattle.hull_shared.specs.declared.gate.Gate.{Gate}
use Rattle.hull_shared.specs.declared.reader.OutReader.{OutReader}
use Rattle.hull_shared.specs.declared.reader.SharedReader.{SharedReader}
use Rattle.hull_shared.specs.declared.reader.SharedReader.TheVariants.{Vacant, Out}
use Rattle.hull_shared.specs.declared.reading.SnapshotReply.{SnapshotReply}

-- ---- setting the number of readers

-- an unopened shared hull will be opened for so many readers, or is unchanged
abbrev pub SetsReadersTo : ℕ → FreshSharedHull → SharedHull → ℕ → Type 0
SetsReadersTo readers fresh new encoded =
    ((1 ≤ readers) × (readers ≤ READER_LIMIT) × ((f : FreshSharedHull) × (f.readers ≡ readers) × (new ≡ Fresh f))
    × (encoded ≡ code_number code.ReadersSet))
    ⊎ (((readers ≡ 0) ⊎ (READER_LIMIT + 1 ≤ readers)) × (new ≡ Fresh fresh) × (encoded ≡ code_number code.OutOfLimits))

-- the number of readers is set of an unopened shared hull; one that was opened is unchanged
abbrev pub HasSetReaders : ℕ → SharedHull → SharedHull → ℕ → Type 0
HasSetReaders readers (Fresh f) new encoded = SetsReadersTo readers f new encoded
HasSetReaders readers old new encoded = (new ≡ old) × (encoded ≡ code_number code.WasOpened)

-- ---- acquiring and releasing readers

-- the shared hull is the same but for its registry, which is this one
abbrev pub IsWithGate : OpenSharedHull → Option Gate → OpenSharedHull → Type 0
IsWithGate d gate e =
    (e.lock ≡ d.lock) × (e.seats ≡ d.seats) × (e.capacity ≡ d.capacity) × (e.places ≡ d.places) × (e.gate ≡ gate)

-- the storage has the reader, or is still vacant
abbrev pub ComesToReader : SharedReader → ℕ → Result OutReader Code → Type 0
ComesToReader storage encoded (Ok r) = (storage ≡ Out r) × (encoded ≡ code_number code.Acquired)
ComesToReader storage encoded (Err fault) = (storage ≡ Vacant) × (encoded ≡ code_number fault)

-- a reader is requested of a registry: there is none if there is no registry
abbrev pub LendsReader : OpenSharedHull → SharedHull → SharedReader → ℕ → Option Gate → Type 0
LendsReader d new storage encoded None =
    ((e : OpenSharedHull) × (new ≡ Open e) × IsWithGate d None e) × (storage ≡ Vacant) × (encoded ≡ code_number code.NoSeat)
LendsReader d new storage encoded (Some g) = (h : Gate) × (r : Result OutReader Code) × LetsIn g h r
    × ((e : OpenSharedHull) × (new ≡ Open e) × IsWithGate d (Some h) e) × ComesToReader storage encoded r

-- a reader is requested: of an open shared hull, into vacant storage; else nothing changed
abbrev pub HasAcquiredReader : SharedHull → SharedHull → SharedReader → SharedReader → ℕ → Type 0
HasAcquiredReader (Open d) new Vacant storage encoded = LendsReader d new storage encoded d.gate
HasAcquiredReader (Open d) new was storage encoded = (new ≡ Open d) × (storage ≡ was) × (encoded ≡ code_number code.StorageInUse)
HasAcquiredReader old new was storage encoded = (new ≡ old) × (storage ≡ was) × (encoded ≡ code_number code.NotOpen)

-- a reader is released to the registry: it stays in its storage if none of the shared hull's readers is acquired
abbrev pub ReturnsReader : OpenSharedHull → SharedHull → OutReader → SharedReader → ℕ → Option Gate → Type 0
ReturnsReader d new r storage encoded None =
    ((e : OpenSharedHull) × (new ≡ Open e) × IsWithGate d None e) × (storage ≡ Out r) × (encoded ≡ code_number code.SlotInUse)
ReturnsReader d new r storage encoded (Some g) = (h : Gate) × (back : Bool) × TakesIn g h back
    × ((e : OpenSharedHull) × (new ≡ Open e) × IsWithGate d (Some h) e)
    × (((back ≡ true) × (storage ≡ Vacant) × (encoded ≡ code_number code.Released))
    ⊎ ((back ≡ false) × (storage ≡ Out r) × (encoded ≡ code_number code.SlotInUse)))

-- a reader is released: to an open shared hull; else nothing changed
abbrev pub HasReturnedReader : SharedHull → SharedHull → SharedReader → SharedReader → ℕ → Type 0
HasReturnedReader (Open d) new (Out r) storage encoded = ReturnsReader d new r storage encoded d.gate
HasReturnedReader (Open d) new Vacant storage encoded = (new ≡ Open d) × (storage ≡ Vacant) × (encoded ≡ code_number code.Vacant)
HasReturnedReader old new was storage encoded = (new ≡ old) × (storage ≡ was) × (encoded ≡ code_number code.NotOpen)

-- ---- snapshots

-- the reply has a code and no snapshot
abbrev pub IsBareSnapshot : Code → SnapshotReply → Type 0
IsBareSnapshot c v = (v.count ≡ 0) × (v.lines ≡ 0) × (v.line ≡ 0) × (v.has_line ≡ 0) × (v.code ≡ code_number c)

-- the reply has the number of the last of n lines, the first of which has this number, or has none
abbrev pub EncodesLast : ℕ → ℕ → SnapshotReply → Type 0
EncodesLast first n v = ((n ≡ 0) × (v.line ≡ 0) × (v.has_line ≡ 0))
    ⊎ ((1 ≤ n) × (v.line ≡ (first + (n - 1)) % (2 ^ 64)) × (v.has_line ≡ 1))

-- the code of a look
abbrev pub code_of : Bool → Code
code_of true = code.SnapshotTaken
code_of false = code.Old

-- A look: the reply has how many vertices the reader's snapshot has then, and as of how many lines it is. These
-- vertices are those of the set's points after these lines.
pub record HasSnapshotTaken (old new : OutReader) (v : SnapshotReply) : Type 0 where
  pub newest : Bool
  pub looked : HasLooked old.reader new.reader newest
  pub first : new.first ≡ old.first
  pub code_is : v.code ≡ code_number (code_of newest)
  pub count : v.count ≡ length (vertices_at new.reader)
  pub lines : v.lines ≡ length (lines_at new.reader)
  pub last : EncodesLast new.first (length (lines_at new.reader)) v
  pub state_after : ∥ IsVertexList (held_after_changes (lines_at new.reader)).points (vertices_at new.reader) ∥₁

-- a look of the reader in some storage, if there is one
abbrev pub HasSnapshotTakenIn : SharedReader → SharedReader → SnapshotReply → Type 0
HasSnapshotTakenIn Vacant new v = (new ≡ Vacant) × IsBareSnapshot code.Vacant v
HasSnapshotTakenIn (Out r) (Out s) v = HasSnapshotTaken r s v
HasSnapshotTakenIn (Out r) Vacant v = ⊥

-- the vertices of the reader's snapshot are written to the array, if they fit
abbrev pub HasPutSnapshot : SharedReader → SharedReader → List Pair → List Pair → HullReply → Type 0
HasPutSnapshot Vacant new before after encoded = (new ≡ Vacant) × (after ≡ before) × IsBare code.Vacant encoded
HasPutSnapshot (Out r) new before after encoded = (new ≡ Out r) × EncodesVertices (vertices_at r.reader) before after encoded

-- 1 if the reader's snapshot is the newest by its watermark, and else 0
abbrev pub IsReportedNewest : OutReader → ℕ → Type 0
IsReportedNewest r encoded = ((encoded ≡ 1) × (length (lines_at r.reader) ≡ newest_watermark r.reader))
    ⊎ ((encoded ≡ 0) × (length (lines_at r.reader) ≢ newest_watermark r.reader))

-- that number is returned for the reader in some storage, whose snapshot stays
abbrev pub HasReportedNewest : SharedReader → SharedReader → ℕ → Type 0
HasReportedNewest Vacant new encoded = (new ≡ Vacant) × (encoded ≡ 0)
HasReportedNewest (Out r) (Out s) encoded = IsAt r.reader s.reader × (s.first ≡ r.first) × IsReportedNewest s encoded
HasReportedNewest (Out r) Vacant encoded = ⊥
