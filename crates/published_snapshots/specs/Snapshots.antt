-- Snapshot slots, snapshots of what is published in them, and watermarks.
use Rattle.std.specs.Prelude.{◌≡◌, ℕ, ◌/◌, List, length}
use Rattle.std.specs.Arc.{arc_value}
use base.Stored.{Coded}
use Rattle.logbook.specs.Pages.{Book, book_coded}
use Rattle.published_snapshots.specs.declared.TheConstants.{SLOT_LIMIT}
use Rattle.published_snapshots.specs.declared.snapshot.Snapshot.{Snapshot}
use Rattle.published_snapshots.specs.declared.snapshot.Truth.{Ghosts}
use Rattle.published_snapshots.specs.declared.snapshot_slots.SnapshotSlots.{SnapshotSlots}
use Rattle.published_snapshots.specs.declared.history.Prefix.{Prefix}
use Rattle.published_snapshots.specs.declared.history.History.{History}
use Rattle.published_snapshots.specs.declared.newest.Newest.{Newest}
use Rattle.published_snapshots.specs.declared.newest.Watermark.{Watermark}
use Rattle.published_snapshots.specs.declared.publisher.Publisher.{Publisher}

-- the lines that were seen
abbrev pub seen_lines : {L : Type 0} → Prefix L → List L
seen_lines prefix = prefix.seen.log

-- these lines are a prefix of this history
abbrev pub IsPrefixOf : {L : Type 0} → History L → Prefix L → Type 0
IsPrefixOf history prefix = prefix.seen.book ≡ history.length.book

-- two prefixes of one history
abbrev pub AreOfOneHistory : {L : Type 0} → Prefix L → Prefix L → Type 0
AreOfOneHistory prefix other = prefix.seen.book ≡ other.seen.book

-- the watermark is of this word
abbrev pub IsWatermarkOfWord : Newest → Watermark → Type 0
IsWatermarkOfWord newest watermark = watermark.seen.book ≡ newest.word.book

-- the name of snapshot slots: that of the word from which readers learn which value is the newest; no two sets of
-- slots share a name
abbrev pub SnapshotSlotsName : Type 0
SnapshotSlotsName = Book

-- names are plain data
abbrev pub snapshot_slots_name_coded : Coded SnapshotSlotsName
snapshot_slots_name_coded = book_coded

module _ {T L V : Type 0} {K : Ghosts T L V} where
  -- the name of these slots
  abbrev pub name_of : SnapshotSlots T L V K → SnapshotSlotsName
  name_of snapshot_slots = snapshot_slots.newest.word.book

  -- the lines as of which the value of a snapshot is true
  abbrev pub lines_of : Snapshot T L V K → List L
  lines_of snapshot = seen_lines snapshot.prefix

  -- the value of a snapshot
  abbrev pub value_of : Snapshot T L V K → V
  value_of snapshot = arc_value snapshot.value

  -- how many lines these are: the number of the snapshot
  abbrev pub number_of : Snapshot T L V K → ℕ
  number_of snapshot = length (lines_of snapshot)

  -- the lines of the snapshot are a prefix of the slots' history
  abbrev pub IsOfSnapshotSlots : SnapshotSlots T L V K → Snapshot T L V K → Type 0
  IsOfSnapshotSlots snapshot_slots snapshot = snapshot.prefix.seen.book ≡ snapshot_slots.history.book

  -- how many slots there are
  abbrev pub slots_of : SnapshotSlots T L V K → ℕ
  slots_of snapshot_slots = length snapshot_slots.slots.items

  -- the watermark is of the word of these slots
  abbrev pub IsWatermarkOf : SnapshotSlots T L V K → Watermark → Type 0
  IsWatermarkOf snapshot_slots watermark = IsWatermarkOfWord snapshot_slots.newest watermark

  -- the slots in which a publisher publishes
  abbrev pub snapshot_slots_of : Publisher T L V K → SnapshotSlots T L V K
  snapshot_slots_of publisher = arc_value publisher.snapshot_slots

  -- the number of the value that was published last
  abbrev pub published : Publisher T L V K → ℕ
  published publisher = publisher.raised / SLOT_LIMIT
