-- The word of the snapshot slots, which only rises: the number of the newest value and its slot.
use Rattle.std.specs.Prelude.{ℕ, ◌≡◌, ◌==◌, ◌/◌, ◌≤◌, true, List, [], ◌∷◌, MatchBool}
use Rattle.std.specs.List.{sum_by}
use Rattle.logbook.specs.Pages.{Cell, Step, View}
use Rattle.published_snapshots.specs.declared.TheConstants.{SLOT_LIMIT}
use Rattle.published_snapshots.specs.declared.newest.Rise.{Rise}
use Rattle.published_snapshots.specs.declared.newest.Watermark.{Watermark}

-- the word after these rises
abbrev pub height : List Rise → ℕ
height log = sum_by (λ r. r.by) log

-- the first word of a book is the sum of the rises; the second stays 0
pub record IsRaised (cells : List Cell) (log : List Rise) : Type 0 where
  pub words : cells ≡ (height log, true) ∷ (0, true) ∷ []

-- the value that a load found is the word as far as its past was seen
abbrev pub Observes : Step Rise → View Rise ℕ → ℕ → View Rise ℕ → Type 0
Observes s v found w = height w.0 ≡ found

-- the word was raised, or the value found is the word
abbrev pub RaisesOrObserves : Step Rise → View Rise ℕ → ℕ → View Rise ℕ → Type 0
RaisesOrObserves s v found w = MatchBool (found == s.old) (height w.0 ≡ s.new) (height w.0 ≡ found)

-- the word in a watermark
abbrev pub watermark_word : Watermark → ℕ
watermark_word t = height t.seen.log

-- the number of the newest value in a watermark
abbrev pub watermark_number : Watermark → ℕ
watermark_number t = watermark_word t / SLOT_LIMIT

-- both watermarks are of one word
abbrev pub AreOfOneWord : Watermark → Watermark → Type 0
AreOfOneWord watermark other = other.seen.book ≡ watermark.seen.book

-- the newer watermark is of the same word, and is not smaller
pub record IsLaterWatermark (old new : Watermark) : Type 0 where
  pub book : new.seen.book ≡ old.seen.book
  pub rises : watermark_word old ≤ watermark_word new
