-- The changes that the publisher of a shared hull records: those of the journal's lines.
use Rattle.std.specs.Prelude.{◌≡◌, ◌∷◌, ◌++◌, List, [], false, map, Option, Some, None}
use Rattle.hull_book.specs.Marks.{plain}
use Rattle.hull_book.specs.declared.line.Line.{Line}
use Rattle.hull_book.specs.declared.marked_line.MarkedLine.{MarkedLine}
use Rattle.hull_set.specs.declared.call.Call.{Call}
use Rattle.hull_set.specs.declared.reply.Reply.{Reply}
use Rattle.hull_snapshots.specs.Changes.{change_of}
use Rattle.hull_snapshots.specs.ChangePublishers.{snapshot_slots_name, is_silent, recorded}
use Rattle.published_snapshots.specs.Snapshots.{SnapshotSlotsName}
use Rattle.hull_snapshots.specs.declared.change.Change.{Change}
use Rattle.hull_snapshots.specs.declared.change_publisher.ChangePublisher.{ChangePublisher}

-- the changes that the lines of a journal make to the set, one after the other
abbrev pub changes_of : List Line → List Change
changes_of lines = map (λ l. change_of l.call l.reply) lines

-- the name of the snapshot slots in which a publisher publishes, if there is one
abbrev pub published_slots : Option ChangePublisher → Option SnapshotSlotsName
published_slots None = None
published_slots (Some t) = Some (snapshot_slots_name t)

-- a publisher that is not silent has recorded the changes of these lines, and no others
abbrev pub ArePublished : Option ChangePublisher → List MarkedLine → Type 0
ArePublished None lines = Unit {0}
ArePublished (Some t) lines = is_silent t ≡ false → recorded t ≡ changes_of (plain lines)

-- the last line is that of this call, and the publisher recorded those before it
abbrev pub IsOneCallAfter : Option ChangePublisher → List MarkedLine → Call → Reply → Type 0
IsOneCallAfter t lines call reply = (before : List MarkedLine) × ArePublished t before
    × (changes_of (plain lines) ≡ changes_of (plain before) ++ change_of call reply ∷ [])
