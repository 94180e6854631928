-- Publishers: what they recorded and published.
use Rattle.std.specs.Prelude.{◌≡◌, ◌+◌, ◌∷◌, ◌++◌, ℕ, Bool, false, true, List, [], length}
use Rattle.std.specs.Arc.{arc_value}
use Rattle.published_snapshots.specs.Numbers.{watermark_number}
use Rattle.published_snapshots.specs.Snapshots.{SnapshotSlotsName, snapshot_slots_of, name_of, published, seen_lines, slots_of}
use Rattle.hull_snapshots.specs.Changes.{held_at, held_after_changes}
use Rattle.hull_snapshots.specs.Silences.{IsWhySilent}
use Rattle.hull_snapshots.specs.declared.change.Change.{Change}
use Rattle.hull_snapshots.specs.declared.reader_registry.ReaderRegistry.{ReaderRegistry}
use Rattle.hull_snapshots.specs.declared.change_publisher.ChangePublisher.{ChangePublisher}

-- the changes that it recorded
abbrev pub recorded : ChangePublisher → List Change
recorded t = seen_lines t.prefix

-- whether it fell silent
abbrev pub is_silent : ChangePublisher → Bool
is_silent t = t.is_silent

-- why it is silent, if it is: it has recorded as many lines as can have a number, or there is evidence that another
-- thread changed what only this publisher may change
abbrev pub SaysWhySilent : ChangePublisher → Type 0
SaysWhySilent t = is_silent t ≡ true → IsWhySilent t.why_silent (length (recorded t))

-- how many changes there were when it last published vertices
abbrev pub last_published : ChangePublisher → ℕ
last_published t = published t.publisher

-- the newest number in its watermark
abbrev pub watermark_last : ChangePublisher → ℕ
watermark_last t = watermark_number t.watermark

-- the name of the snapshot slots in which it publishes
abbrev pub snapshot_slots_name : ChangePublisher → SnapshotSlotsName
snapshot_slots_name t = name_of (snapshot_slots_of t.publisher)

-- the name of the snapshot slots of a reader registry
abbrev pub reader_registry_name : ReaderRegistry → SnapshotSlotsName
reader_registry_name e = name_of (arc_value e.snapshot_slots)

-- both publish in the same snapshot slots
abbrev pub AreAtOneSnapshotSlots : ChangePublisher → ChangePublisher → Type 0
AreAtOneSnapshotSlots t u = snapshot_slots_of u.publisher ≡ snapshot_slots_of t.publisher

-- it recorded one change more, with the same snapshot slots, or fell silent
pub record HasRecorded (old new : ChangePublisher) (change : Change) : Type 0 where
  pub snapshot_slots : AreAtOneSnapshotSlots old new
  pub speaks : is_silent new ≡ false → is_silent old ≡ false
  pub one_more : is_silent new ≡ false → recorded new ≡ recorded old ++ change ∷ []

-- it recorded nothing more, with the same snapshot slots
pub record HasKept (old new : ChangePublisher) : Type 0 where
  pub snapshot_slots : AreAtOneSnapshotSlots old new
  pub speaks : is_silent new ≡ false → is_silent old ≡ false
  pub same : recorded new ≡ recorded old

-- the vertices after all that it recorded are published, and its watermark has their number
pub record IsPublic (t : ChangePublisher) : Type 0 where
  pub last : last_published t ≡ length (recorded t)
  pub watermark : watermark_last t ≡ length (recorded t)

-- What it published last, at the number of its watermark, is the set after all that it recorded: a reader whose
-- watermark has that number takes no older snapshot.
pub record IsShown (t : ChangePublisher) : Type 0 where
  pub held : held_at (last_published t) (recorded t) ≡ held_after_changes (recorded t)
  pub watermark : watermark_last t ≡ last_published t

-- it has recorded nothing, and there are slots for so many readers and two more
pub record IsOpened (readers : ℕ) (t : ChangePublisher) (reader_registry : ReaderRegistry) : Type 0 where
  pub snapshot_slots : snapshot_slots_of t.publisher ≡ arc_value reader_registry.snapshot_slots
  pub slots : slots_of (arc_value reader_registry.snapshot_slots) ≡ readers + 2
  pub nothing : recorded t ≡ []
  pub speaks : is_silent t ≡ false
  pub none : last_published t ≡ 0
