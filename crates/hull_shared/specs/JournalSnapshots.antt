-- Snapshots of a shared hull's vertices, and its journal.
use Rattle.std.specs.Prelude.{List, length, take}
use mathlib.Core.List.{IsPrefix}
use Rattle.lattice.specs.Plane.{Pair}
use Rattle.lattice.specs.Vertices.{IsVertexList}
use Rattle.hull_book.specs.History.{live}
use Rattle.hull_book.specs.Marks.{plain}
use Rattle.hull_book.specs.declared.marked_line.MarkedLine.{MarkedLine}
use Rattle.hull_snapshots.specs.Changes.{held_after_changes}
use Rattle.hull_snapshots.specs.declared.change.Change.{Change}
use Rattle.hull_shared.specs.Publications.{changes_of}

-- If the changes of a snapshot are a prefix of those of the journal's lines, its vertices are those of the set's
-- points after as many lines of the journal: a replay up to there has them.
abbrev pub SnapshotsAreOfTheJournal : Type 0
SnapshotsAreOfTheJournal = (lines : List MarkedLine) (seen : List Change) (vertices : List Pair)
    → IsPrefix seen (changes_of (plain lines)) → IsVertexList (held_after_changes seen).points vertices
    → IsVertexList (live (take (length seen) (plain lines))) vertices
