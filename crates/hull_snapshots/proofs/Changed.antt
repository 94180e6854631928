-- The set after changes.
use Rattle.std.proofs.Common.{◌≡◌, List, [], ◌∷◌, ◌++◌, refl}
use Rattle.hull_set.specs.Held.{Held}
use Rattle.hull_snapshots.specs.Changes.{changed, changed_by}
use Rattle.hull_snapshots.specs.declared.change.Change.{Change}

-- the set after one change more is this change of the set after those before it
pub changed_by-one_more : (held : Held) (changes : List Change) (c : Change)
    → changed_by held (changes ++ c ∷ []) ≡ changed (changed_by held changes) c
unfolding changed_by
changed_by-one_more held [] c = refl
changed_by-one_more held (d ∷ changes) c = changed_by-one_more (changed held d) changes c
