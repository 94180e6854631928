-- The set after lines is the set after their changes.
use Rattle.std.proofs.Common.{◌≡◌, ◌∙◌, List, [], ◌∷◌, ap, refl, sym}
use Rattle.hull_book.specs.History.{held_after, replay}
use Rattle.hull_book.specs.Marks.{as_segment, plain, unmarked}
use Rattle.hull_book.proofs.Marks.{plain_mark_last, plain_unmarked}
use Rattle.hull_book.specs.declared.line.Line.{Line}
use Rattle.hull_set.specs.Held.{Held, nothing_held}
use Rattle.hull_snapshots.specs.Changes.{change_of, changed, changed_by, held_after_changes}
use Rattle.hull_snapshots.proofs.Effects.{effect}
use Rattle.hull_shared.specs.Publications.{changes_of}

-- a replay of lines applies their changes, one after the other
replay_changes : (lines : List Line) (held : Held) → replay held lines ≡ changed_by held (changes_of lines)
unfolding replay changed_by
replay_changes [] held = refl
replay_changes (l ∷ lines) held =
    ap (λ h. replay h lines) (sym (effect held l.call l.reply)) ∙ replay_changes lines (changed held (change_of l.call l.reply))

-- the set after lines of the empty set is the set after their changes
pub held_by_changes : (lines : List Line) → held_after lines ≡ held_after_changes (changes_of lines)
held_by_changes lines = replay_changes lines nothing_held

-- the changes of lines do not depend on whether the lines are a segment
pub of_segment : (lines : List Line) → changes_of (plain (as_segment lines)) ≡ changes_of lines
of_segment lines = ap changes_of (plain_mark_last (unmarked lines) ∙ plain_unmarked lines)
