-- Readers: what their snapshot shows, and the results of a look.
use Rattle.std.specs.Prelude.{◌≡◌, ◌<◌, ◌≤◌, ℕ, Bool, true, false, List, [], length, Option, Some, None}
use Rattle.lattice.specs.Plane.{Pair}
use Rattle.published_snapshots.specs.Numbers.{IsLaterWatermark, watermark_number}
use Rattle.std.specs.Arc.{arc_value}
use Rattle.hull_snapshots.specs.Lists.{vertices_in}
use Rattle.hull_snapshots.specs.Shown.{lines_shown, value_shown}
use Rattle.hull_snapshots.specs.declared.change.Change.{Change}
use Rattle.hull_snapshots.specs.declared.vertex_list.VertexList.{VertexList}
use Rattle.hull_snapshots.specs.declared.reader_registry.ReaderRegistry.{ReaderRegistry}
use Rattle.hull_snapshots.specs.declared.reader.Reader.{Reader}

-- the changes as of which the reader's snapshot is
abbrev pub lines_at : Reader → List Change
lines_at r = lines_shown r.snapshot

-- the vertices in a list, or none
abbrev pub vertices_if : Option VertexList → List Pair
vertices_if None = []
vertices_if (Some list) = vertices_in list

-- the vertices that the reader's snapshot shows
abbrev pub vertices_at : Reader → List Pair
vertices_at r = vertices_if (value_shown r.snapshot)

-- the newest number in the reader's watermark
abbrev pub newest_watermark : Reader → ℕ
newest_watermark r = watermark_number r.watermark

-- the reader reads the same snapshot slots, and its watermark did not fall
pub record IsThere (old new : Reader) : Type 0 where
  pub snapshot_slots : arc_value new.snapshot_slots ≡ arc_value old.snapshot_slots
  pub more : IsLaterWatermark old.watermark new.watermark

-- the reader also has the same snapshot
pub record IsAt (old new : Reader) : Type 0 where
  pub there : IsThere old new
  pub snapshot : new.snapshot ≡ old.snapshot

-- The result of a look is `true` if the reader's snapshot is then the newest by its watermark. It is `false` if the
-- snapshot is the same as before, and the watermark has a newer number.
abbrev pub LooksTo : Reader → Reader → Bool → Type 0
LooksTo old new true = length (lines_at new) ≡ newest_watermark new
LooksTo old new false = (new.snapshot ≡ old.snapshot) × (length (lines_at old) < newest_watermark new)

-- also, the reader's snapshot is of no smaller number than before
pub record HasLooked (old new : Reader) (newest : Bool) : Type 0 where
  pub there : IsThere old new
  pub to : LooksTo old new newest
  pub on : length (lines_at old) ≤ length (lines_at new)

-- a reader that this registry made, which has no snapshot yet
pub record ComesIn (reader_registry : ReaderRegistry) (r : Reader) : Type 0 where
  pub snapshot_slots : arc_value r.snapshot_slots ≡ arc_value reader_registry.snapshot_slots
  pub none : r.snapshot ≡ None
