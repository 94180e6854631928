-- A snapshot is as of as many lines of the journal as it has changes.
use Rattle.std.proofs.Common.{◌≡◌, ◌∙◌, List, ap, length, refl, subst, sym, take}
use Rattle.std.proofs.lemmas.List.{take-map, take_at}
use mathlib.Core.List.{IsPrefix}
use Rattle.lattice.specs.Vertices.{IsVertexList}
use Rattle.hull_book.specs.Marks.{plain}
use Rattle.hull_book.specs.declared.line.Line.{Line}
use Rattle.hull_set.specs.Held.{Held}
use Rattle.hull_snapshots.specs.Changes.{change_of, held_after_changes}
use Rattle.hull_snapshots.specs.declared.change.Change.{Change}
use Rattle.hull_shared.specs.JournalSnapshots.{SnapshotsAreOfTheJournal}
use Rattle.hull_shared.specs.Publications.{changes_of}
use Rattle.hull_shared.proofs.Changes.{held_by_changes}

-- if changes are a prefix of those of lines, they are the changes of as many of the lines
prefix_changes : (lines : List Line) (seen : List Change) → IsPrefix seen (changes_of lines)
    → seen ≡ changes_of (take (length seen) lines)
prefix_changes lines seen p = sym (take_at seen p.0 (length seen) refl) ∙ ap (λ cs. take (length seen) cs) p.1
    ∙ take-map (λ (l : Line). change_of l.call l.reply) (length seen) lines

-- a snapshot is of the journal
pub of_the_journal : SnapshotsAreOfTheJournal
of_the_journal lines seen vertices p is =
    subst (λ (h : Held). IsVertexList h.points vertices)
    (ap held_after_changes (prefix_changes (plain lines) seen p) ∙ sym (held_by_changes (take (length seen) (plain lines)))) is
