-- The shapes of a picture, inside a square that the browser scales. Its units are those of the plane, or several of
-- them each: all numbers are whole.
use Rattle.std.specs.Prelude.{◌-◌, ◌/◌, ◌+◌, ℕ, zero, suc, List, [], ◌∷◌, ◌++◌, length, codes, decimal}
use Rattle.lattice.specs.Plane.{Pair}
use Rattle.leaf_trees.specs.declared.bridge.Bridge.{Bridge}
use Rattle.hull_draw.specs.declared.marks.Mark.{Mark}
use Rattle.hull_draw.specs.declared.marks.TheConstants.{DRAWN_LIMIT}
use Rattle.hull_draw.specs.declared.frame.Frame.{Frame}
use Rattle.hull_draw.specs.Frames.{across, down}
use Rattle.hull_draw.specs.Scenes.{SceneValue}
use Rattle.hull_draw.specs.Texts.{returned, texts}

-- a vertex of the polygon
abbrev pub vertex_text : Frame → Pair → List ℕ
vertex_text frame p = decimal (across frame p) ++ codes "," ++ decimal (down frame p) ++ codes " "

-- the polygon with these vertices, in order
abbrev pub polygon_text : Frame → List Pair → List ℕ
polygon_text frame ps = codes "<polygon class='h' points='" ++ texts (vertex_text frame) ps ++ codes "'/>\n"

-- a dot: a line of no length with round ends
abbrev pub dot_text : Frame → Pair → List ℕ
dot_text frame p = codes "M" ++ decimal (across frame p) ++ codes " " ++ decimal (down frame p) ++ codes "h0"

-- the dots at the vertices
abbrev pub vertex_dots_text : Frame → List Pair → List ℕ
vertex_dots_text frame ps = codes "<path class='c' d='" ++ texts (dot_text frame) ps ++ codes "'/>\n"

-- after `skip` marks, one of each `step` marks
unfoldable pub every : ℕ → ℕ → List Mark → List Mark
every step skip [] = []
every step zero (m ∷ ms) = m ∷ every step (step - 1) ms
every step (suc skip) (m ∷ ms) = every step skip ms

-- one of each so many points is drawn
abbrev pub step_of : ℕ → ℕ
step_of count = count / DRAWN_LIMIT + 1

-- the marks that are drawn
abbrev pub drawn : List Mark → List Mark
drawn marks = every (step_of (length marks)) 0 marks

-- the dot of a mark
abbrev pub mark_dot_text : Frame → Mark → List ℕ
mark_dot_text frame m = dot_text frame m.point

-- the dots of the marks that are drawn
abbrev pub all_dots_text : Frame → List Mark → List ℕ
all_dots_text frame marks = codes "<path class='p' d='" ++ texts (mark_dot_text frame) (drawn marks) ++ codes "'/>\n"

-- a line from one end of a bridge to the other; the words before the level distinguish upper from lower
abbrev pub bridge_line_text : Frame → List ℕ → ℕ → Pair × Pair → List ℕ
bridge_line_text frame words level e =
    returned words level ++ returned (codes "' d='M") (across frame e.0) ++ returned (codes " ") (down frame e.0)
    ++ returned (codes "L") (across frame e.1) ++ returned (codes " ") (down frame e.1) ++ codes "'/>\n"

-- both bridges of a fork
abbrev pub bridge_text : Frame → Bridge → List ℕ
bridge_text frame b =
    bridge_line_text frame (codes "<path class='u v") b.level b.upper
    ++ bridge_line_text frame (codes "<path class='l v") b.level b.lower

-- the square that the browser scales to `size` points of the screen
abbrev pub square_text : ℕ → ℕ → List ℕ
square_text size side =
    returned (codes "<svg x='32' y='32' overflow='visible' width='") size ++ returned (codes "' height='") size
    ++ returned (codes "' viewBox='0 0 ") side ++ returned (codes " ") side ++ codes "'>\n"

-- the hull, the points, above them the bridges, and above these the vertices
abbrev pub shapes_text : Frame → SceneValue → List ℕ
shapes_text frame scene =
    polygon_text frame scene.vertices ++ all_dots_text frame scene.marks ++ texts (bridge_text frame) scene.bridges
    ++ vertex_dots_text frame scene.vertices
