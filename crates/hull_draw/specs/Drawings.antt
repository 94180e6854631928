-- The result of drawing a journal.
use Rattle.std.specs.Prelude.{ℕ, List, length, take, Option, Result, Ok, Err}
use Rattle.text_io.specs.Passage.{Passage, HasTaken, HasTakenFront, IsSound}
use Rattle.hull_book.specs.Journals.{JournalValue}
use Rattle.hull_text.specs.JournalGrammar.{ReadsKnownJournal}
use Rattle.hull_text.specs.Stopped.{HasRefused, HasStopped}
use Rattle.hull_draw.specs.declared.drawing.DrawFault.{DrawFault}
use Rattle.hull_draw.specs.declared.drawing.DrawFault.TheVariants.{Text, Memory, Write}
use Rattle.hull_draw.specs.declared.drawing.DrawOptions.{DrawOptions}
use Rattle.hull_draw.specs.declared.frame.Frame.{Frame}
use Rattle.hull_draw.specs.Films.{IsFilm, called_marks}
use Rattle.hull_draw.specs.FilmTexts.{film_text}
use Rattle.hull_draw.specs.Frames.{IsFrameOf}
use Rattle.hull_draw.specs.Scenes.{SceneValue, IsScene}
use Rattle.hull_draw.specs.Squares.{AreShownIn}
use Rattle.hull_draw.specs.Pictures.{picture_text}

-- the bytes, if they are known, are a text of some journal
abbrev pub IsJournal : Option (List ℕ) → Type 0
IsJournal bytes = (journal : JournalValue) × ReadsKnownJournal bytes (Ok journal)

-- The bytes, if they are known, were read as a journal, and this holds of the picture of a scene of it.
pub record HasPicture (o : DrawOptions) (bytes : Option (List ℕ)) (Holds : List ℕ → Type 0) : Type 0 where
  pub journal : JournalValue
  pub scene : SceneValue
  pub frame : Option Frame
  pub reads : ReadsKnownJournal bytes (Ok journal)
  pub shows : IsScene journal o scene
  pub frames : IsFrameOf scene.marks frame
  pub holds : Holds (picture_text o.size frame scene)

-- The scenes of a journal's film, and its square: that of all points that the calls of its lines name, outside of which
-- no frame shows anything.
pub record Films (journal : JournalValue) (size : ℕ) (scenes : List SceneValue) (frame : Option Frame) : Type 0 where
  pub shows : IsFilm journal size scenes
  pub frames : IsFrameOf (called_marks (take (length scenes) journal.lines)) frame
  pub inside : AreShownIn frame scenes journal.lines

-- The bytes, if they are known, were read as a journal, and this holds of its film.
pub record HasFilm (size : ℕ) (bytes : Option (List ℕ)) (Holds : List ℕ → Type 0) : Type 0 where
  pub journal : JournalValue
  pub scenes : List SceneValue
  pub frame : Option Frame
  pub reads : ReadsKnownJournal bytes (Ok journal)
  pub films : Films journal size scenes frame
  pub holds : Holds (film_text size frame scenes journal.lines)

-- what a drawing with this outcome has read and written, if this is the relation of the drawing to the bytes
abbrev pub EndsDrawing : (Option (List ℕ) → (List ℕ → Type 0) → Type 0) → Passage → Passage → Result Unit DrawFault
    → Type 0
EndsDrawing Draws input output (Ok done) = IsSound input × Draws input.before (HasTaken output)
EndsDrawing Draws input output (Err (Text f)) = HasStopped ReadsKnownJournal input output f
EndsDrawing Draws input output (Err Memory) = HasRefused (IsJournal input.before) input output
EndsDrawing Draws input output (Err Write) = IsSound input × Draws input.before (HasTakenFront output)
