-- The changes that calls with their replies make to a set, one after the other.
use Rattle.std.specs.Prelude.{ℕ, List, [], ◌∷◌, take}
use Rattle.lattice.specs.Plane.{Pair}
use Rattle.hull_set.specs.Held.{Held, nothing_held, with_new, with_again, with_one_less, with_none}
use Rattle.hull_set.specs.declared.call.Call.{Call}
use Rattle.hull_set.specs.declared.call.Call.TheVariants.{Add, Remove}
use Rattle.hull_set.specs.declared.reply.Reply.{Reply}
use Rattle.hull_set.specs.declared.reply.Reply.TheVariants.{Added, Again, Left, Removed}
use Rattle.hull_snapshots.specs.declared.change.Change.{Change}
use Rattle.hull_snapshots.specs.declared.change.Change.TheVariants.{Came, CameAgain, WentOnce, Went, Nothing}

-- the set after a change
abbrev pub changed : Held → Change → Held
changed held (Came p) = with_new p held
changed held (CameAgain p) = with_again p held
changed held (WentOnce p) = with_one_less p held
changed held (Went p) = with_none p held
changed held Nothing = held

-- the set after the changes, one after the other
unfoldable pub changed_by : Held → List Change → Held
changed_by held [] = held
changed_by held (change ∷ changes) = changed_by (changed held change) changes

-- the set after these changes of the empty set
abbrev pub held_after_changes : List Change → Held
held_after_changes changes = changed_by nothing_held changes

-- the set after the first n of the changes
abbrev pub held_at : ℕ → List Change → Held
held_at n changes = held_after_changes (take n changes)

-- the change that a call to add a point makes
abbrev pub change_of_add : Pair → Reply → Change
change_of_add p Added = Came p
change_of_add p (Again n) = CameAgain p
change_of_add p _ = Nothing

-- the change that a call to remove a point makes
abbrev pub change_of_remove : Pair → Reply → Change
change_of_remove p Removed = Went p
change_of_remove p (Left n) = WentOnce p
change_of_remove p _ = Nothing

-- the change that a call with this reply makes
abbrev pub change_of : Call → Reply → Change
change_of (Add p) reply = change_of_add p reply
change_of (Remove p) reply = change_of_remove p reply
change_of _ reply = Nothing
