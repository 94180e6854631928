-- The content of a snapshot, if there is one.
use Rattle.std.specs.Prelude.{List, [], Option, Some, None}
use Rattle.published_snapshots.specs.Snapshots.{lines_of, value_of}
use Rattle.published_snapshots.specs.declared.snapshot.Snapshot.{Snapshot}
use Rattle.published_snapshots.specs.declared.snapshot.Truth.{Ghosts}

module _ {T L V : Type 0} {K : Ghosts T L V} where
  -- the lines as of which it is true: none if nothing was published yet
  abbrev pub lines_shown : Option (Snapshot T L V K) → List L
  lines_shown None = []
  lines_shown (Some snapshot) = lines_of snapshot

  -- the value that it shows, or none
  abbrev pub value_shown : Option (Snapshot T L V K) → Option V
  value_shown None = None
  value_shown (Some snapshot) = Some (value_of snapshot)
