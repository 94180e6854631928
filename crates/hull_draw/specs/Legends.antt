-- The words of a picture below its square: the numbers of the set, and how far its journal was replayed.
use Rattle.std.specs.Prelude.{◌==◌, ◌+◌, ℕ, ℤ, List, [], ◌∷◌, ◌++◌, length, Option, Some, None, codes}
use Rattle.std.specs.Prelude.{if◌then◌else◌}
use Rattle.std.specs.Fmt.{signed_decimal}
use Rattle.leaf_trees.specs.declared.bridge.Bridge.{Bridge}
use Rattle.hull_draw.specs.declared.frame.Frame.{Frame}
use Rattle.hull_draw.specs.declared.legend.TheConstants.{BRIDGES_RETURNED}
use Rattle.hull_draw.specs.Scenes.{SceneValue}
use Rattle.hull_draw.specs.Shapes.{step_of}
use Rattle.hull_draw.specs.Texts.{returned}

-- the start of a line of the legend
abbrev pub line_start : ℕ → ℕ → List ℕ
line_start size below = returned (codes "<text x='32' y='") (size + below)

-- one of how many points is drawn, if not all are
abbrev pub thinned_text : ℕ → List ℕ
thinned_text step = if step == 1 then [] else returned (codes "; one of ") step ++ codes " is drawn"

-- how many points there are, and how many there may be
abbrev pub count_text : ℕ → ℕ → ℕ → List ℕ
count_text size count limit =
    line_start size 76 ++ returned (codes "'>points ") count ++ returned (codes " (limit ") limit ++ codes ")"
    ++ thinned_text (step_of count) ++ codes "</text>\n"

-- the doubled area
abbrev pub area_text : ℕ → ℕ → List ℕ
area_text size area = line_start size 98 ++ returned (codes "'>doubled area ") area ++ codes "</text>\n"

-- a signed number after some words
abbrev pub returned_signed : List ℕ → ℤ → List ℕ
returned_signed words n = words ++ signed_decimal n

-- the ranges of the points' coordinates
abbrev pub range_text : ℕ → Option Frame → List ℕ
range_text size None = []
range_text size (Some frame) =
    line_start size 120 ++ returned_signed (codes "'>x ") frame.left.x ++ returned_signed (codes " to ") frame.right.x
    ++ returned_signed (codes ", y ") frame.bottom.y ++ returned_signed (codes " to ") frame.top.y ++ codes "</text>\n"

-- the number of the wrong line in the text: the header is line 1
abbrev pub wrong_text : Option ℕ → List ℕ
wrong_text None = []
wrong_text (Some k) = returned (codes "<tspan class='w'>; line ") (k + 2) ++ codes " is wrong</tspan>"

-- how many lines were replayed
abbrev pub lines_text : ℕ → ℕ → Option ℕ → List ℕ
lines_text size lines wrong =
    line_start size 142 ++ returned (codes "'>calls ") lines ++ wrong_text wrong ++ codes "</text>\n"

-- which bridges are drawn, if any are
abbrev pub bridges_returned_text : ℕ → List Bridge → List ℕ
bridges_returned_text size [] = []
bridges_returned_text size (b ∷ bs) = line_start size 164 ++ BRIDGES_RETURNED.now

-- the numbers of the set: its count, its limit and its doubled area
abbrev pub numbers_text : ℕ → SceneValue → List ℕ
numbers_text size scene = count_text size (length scene.marks) scene.limit ++ area_text size scene.area

-- how far the journal was replayed, and which bridges are drawn
abbrev pub drawn_text : ℕ → SceneValue → List ℕ
drawn_text size scene = lines_text size scene.lines scene.wrong ++ bridges_returned_text size scene.bridges

-- the lines of the legend
abbrev pub legend_text : ℕ → Option Frame → SceneValue → List ℕ
legend_text size frame scene = numbers_text size scene ++ range_text size frame ++ drawn_text size scene
