-- A film of a journal: the pictures after its lines, in order, and the square that contains all of them.
use Rattle.std.specs.Prelude.{◌≡◌, ◌≤◌, ◌⊎◌, ℕ, suc, List, [], ◌∷◌, ◌++◌, length, min, Option, Some, None, false}
use Rattle.std.specs.List.{All}
use Rattle.lattice.specs.Plane.{Pair}
use Rattle.hull_set.specs.declared.call.Call.{Call}
use Rattle.hull_set.specs.declared.call.Call.TheVariants.{Add, Remove, Place, Tangents}
use Rattle.hull_book.specs.declared.line.Line.{Line}
use Rattle.hull_book.specs.Journals.{JournalValue}
use Rattle.hull_draw.specs.declared.drawing.DrawOptions.{DrawOptions}
use Rattle.hull_draw.specs.declared.shots.TheConstants.{FRAME_LIMIT}
use Rattle.hull_draw.specs.declared.marks.Mark.{Mark}
use Rattle.hull_draw.specs.Scenes.{SceneValue, IsScene}

-- the picture after the first n lines, without bridges
abbrev pub shot_options : ℕ → ℕ → DrawOptions
shot_options size n = record { line = Some n; bridges = false; size = size }

-- the scenes are those of the pictures after k+1 lines, after k+2, and so on
unfoldable pub AreShots : JournalValue → ℕ → ℕ → List SceneValue → Type 0
AreShots journal size k [] = Unit {0}
AreShots journal size k (scene ∷ scenes) =
    IsScene journal (shot_options size (suc k)) scene × AreShots journal size (suc k) scenes

-- no line of these was wrong
abbrev pub AreAllRight : List SceneValue → Type 0
AreAllRight scenes = All (λ scene. scene.wrong ≡ None) scenes

-- how many frames these lines have, if none of them is wrong
abbrev pub frames_of : List Line → ℕ
frames_of lines = min (length lines) FRAME_LIMIT

-- the last scene, and no other, ends at a wrong line
pub record EndsAtWrong (scenes : List SceneValue) : Type 0 where
  pub front : List SceneValue
  pub last : SceneValue
  pub place : ℕ
  pub whole : scenes ≡ front ++ (last ∷ [])
  pub right : AreAllRight front
  pub wrong : last.wrong ≡ Some place

-- The scenes after one line, after two, and so on: after each line up to the limit, or up to the first wrong one,
-- after which there is none.
pub record IsFilm (journal : JournalValue) (size : ℕ) (scenes : List SceneValue) : Type 0 where
  pub shots : AreShots journal size 0 scenes
  pub few : length scenes ≤ frames_of journal.lines
  pub ends : (AreAllRight scenes × (length scenes ≡ frames_of journal.lines)) ⊎ EndsAtWrong scenes

-- the point that a call names
abbrev pub call_point : Call → Option Pair
call_point (Add p) = Some p
call_point (Remove p) = Some p
call_point (Place p) = Some p
call_point (Tangents p) = Some p
call_point _ = None

-- its mark
abbrev pub point_marks : Option Pair → List Mark
point_marks None = []
point_marks (Some p) = record { point = p; multiplicity = 1 } ∷ []

-- the marks of all points that calls name
unfoldable pub called_marks : List Line → List Mark
called_marks [] = []
called_marks (line ∷ lines) = point_marks (call_point line.call) ++ called_marks lines
