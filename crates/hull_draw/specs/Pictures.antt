-- The text of a picture.
use Rattle.std.specs.Prelude.{◌+◌, ℕ, List, ◌++◌, Option, Some, None, codes}
use Rattle.hull_draw.specs.declared.frame.Frame.{Frame}
use Rattle.hull_draw.specs.declared.picture.TheConstants.{STYLE, EMPTY}
use Rattle.hull_draw.specs.Frames.{side_of}
use Rattle.hull_draw.specs.Labels.{labels_text}
use Rattle.hull_draw.specs.Legends.{legend_text}
use Rattle.hull_draw.specs.Scenes.{SceneValue}
use Rattle.hull_draw.specs.Shapes.{square_text, shapes_text}
use Rattle.hull_draw.specs.Texts.{returned}

-- the width of a picture, its height, so much more than its square's, and its colours
abbrev pub head_text : ℕ → ℕ → List ℕ
head_text size below = returned (codes "<svg xmlns='http://www.w3.org/2000/svg' width='") (size + 64)
    ++ returned (codes "' height='") (size + below) ++ codes "'>\n" ++ STYLE.now

-- the shapes in their square, and the labels
abbrev pub set_text : ℕ → Frame → SceneValue → List ℕ
set_text size frame scene =
    square_text size (side_of frame) ++ shapes_text frame scene ++ codes "</svg>\n"
    ++ labels_text size frame scene.marks

-- the set, or that it is empty
abbrev pub shown_text : ℕ → Option Frame → SceneValue → List ℕ
shown_text size None scene = EMPTY.now
shown_text size (Some frame) scene = set_text size frame scene

-- the text of a picture of a scene, with its legend
unfoldable pub picture_text : ℕ → Option Frame → SceneValue → List ℕ
picture_text size frame scene =
    head_text size 184 ++ shown_text size frame scene ++ legend_text size frame scene ++ codes "</svg>\n"
