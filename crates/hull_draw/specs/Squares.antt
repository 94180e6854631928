-- A film shows nothing outside its square.
use Rattle.std.specs.Prelude.{◌≡◌, List, [], ◌∷◌, Option, Some, None}
use Rattle.std.specs.List.{All}
use Rattle.lattice.specs.Plane.{Pair}
use Rattle.hull_set.specs.declared.reply.Reply.{Reply}
use Rattle.hull_set.specs.declared.reply.Reply.TheVariants.{Farthest, TangentPoints}
use Rattle.hull_book.specs.declared.line.Line.{Line}
use Rattle.hull_draw.specs.declared.frame.Frame.{Frame}
use Rattle.hull_draw.specs.Films.{call_point}
use Rattle.hull_draw.specs.Frames.{IsInSquare}
use Rattle.hull_draw.specs.Scenes.{SceneValue}

-- the points that a reply found, of which a frame has marks
abbrev pub found_points : Reply → List Pair
found_points (Farthest p) = p ∷ []
found_points (TangentPoints left right) = left ∷ right ∷ []
found_points _ = []

-- All that a frame shows is drawn in the square: the points of the set, the vertices of its hull, the point that the
-- call names, and, if the line is right, the points that it found.
pub record IsShownInSquare (frame : Frame) (scene : SceneValue) (line : Line) : Type 0 where
  pub marks : All (λ m. IsInSquare frame m.point) scene.marks
  pub vertices : All (IsInSquare frame) scene.vertices
  pub asked : (p : Pair) → call_point line.call ≡ Some p → IsInSquare frame p
  pub found : scene.wrong ≡ None → All (IsInSquare frame) (found_points line.reply)

-- the same of each frame, each with its line
unfoldable pub AreShownInSquare : Frame → List SceneValue → List Line → Type 0
AreShownInSquare frame [] lines = Unit {0}
AreShownInSquare frame (scene ∷ scenes) [] = Unit {0}
AreShownInSquare frame (scene ∷ scenes) (line ∷ lines) =
    IsShownInSquare frame scene line × AreShownInSquare frame scenes lines

-- if there is no square, no frame has a point to show
abbrev pub AreShownIn : Option Frame → List SceneValue → List Line → Type 0
AreShownIn None scenes lines = All (λ scene. scene.marks ≡ []) scenes
AreShownIn (Some frame) scenes lines = AreShownInSquare frame scenes lines
