-- The text of a film: frames on top of each other, each of which is seen for a second, and the last from then on.
use Rattle.std.specs.Prelude.{◌==◌, ◌+◌, ℕ, List, [], ◌∷◌, ◌++◌, length, Option, Some, None, codes, if◌then◌else◌}
use Rattle.lattice.specs.Plane.{Pair}
use Rattle.hull_set.specs.declared.reply.Reply.{Reply}
use Rattle.hull_set.specs.declared.reply.Reply.TheVariants.{TooMany, NoMemory, Farthest, TangentPoints}
use Rattle.hull_book.specs.declared.line.Line.{Line}
use Rattle.hull_draw.specs.declared.frame.Frame.{Frame}
use Rattle.hull_draw.specs.declared.film_picture.TheConstants.{FILM_STYLE}
use Rattle.hull_draw.specs.Frames.{across, down, side_of}
use Rattle.hull_draw.specs.Films.{call_point}
use Rattle.hull_draw.specs.Captions.{caption_text}
use Rattle.hull_draw.specs.Legends.{legend_text}
use Rattle.hull_draw.specs.Pictures.{head_text, shown_text}
use Rattle.hull_draw.specs.Scenes.{SceneValue}
use Rattle.hull_draw.specs.Shapes.{dot_text, square_text}
use Rattle.hull_draw.specs.Texts.{returned}

-- a line from the point of the call to a point in its reply; a dot if the call names no point
abbrev pub ray_text : Frame → Option Pair → Pair → List ℕ
ray_text frame None p = dot_text frame p
ray_text frame (Some q) p =
    returned (codes "M") (across frame q) ++ returned (codes " ") (down frame q) ++ returned (codes "L") (across frame p)
    ++ returned (codes " ") (down frame p)

-- both tangents, from the point of the call
abbrev pub tangents_text : Frame → Option Pair → Pair → Pair → List ℕ
tangents_text frame q left right =
    codes "<path class='f' d='" ++ ray_text frame q left ++ ray_text frame q right ++ codes "'/>\n"

-- the farthest point
abbrev pub farthest_text : Frame → Pair → List ℕ
farthest_text frame p = codes "<path class='e' d='" ++ dot_text frame p ++ codes "'/>\n"

-- what the reply found
abbrev pub found_text : Frame → Option Pair → Reply → List ℕ
found_text frame q (Farthest p) = farthest_text frame p
found_text frame q (TangentPoints left right) = tangents_text frame q left right
found_text frame q _ = []

-- what it found, if the line is right: a wrong reply may have points anywhere
abbrev pub right_found_text : Frame → Option ℕ → Option Pair → Reply → List ℕ
right_found_text frame None q reply = found_text frame q reply
right_found_text frame (Some k) q reply = []

-- how the point of a call is drawn; one that was refused is highlighted
abbrev pub asked_words : Reply → List ℕ
asked_words TooMany = codes "<path class='x' d='"
asked_words NoMemory = codes "<path class='x' d='"
asked_words _ = codes "<path class='q' d='"

-- the point that the call names
abbrev pub asked_text : Frame → Option Pair → Reply → List ℕ
asked_text frame None reply = []
asked_text frame (Some q) reply = asked_words reply ++ dot_text frame q ++ codes "'/>\n"

-- the call and what it found, over the picture, in the same square
abbrev pub call_text : ℕ → Frame → Option ℕ → Line → List ℕ
call_text size frame wrong line =
    square_text size (side_of frame) ++ right_found_text frame wrong (call_point line.call) line.reply
    ++ asked_text frame (call_point line.call) line.reply ++ codes "</svg>\n"

-- the same, if there is a square
abbrev pub call_shown_text : ℕ → Option Frame → Option ℕ → Line → List ℕ
call_shown_text size None wrong line = []
call_shown_text size (Some frame) wrong line = call_text size frame wrong line

-- a frame is hidden again after its second, but the last is not
abbrev pub hidden_again_text : ℕ → ℕ → List ℕ
hidden_again_text count k =
    if k + 1 == count then codes "\n" else returned (codes "<set attributeName='display' to='none' begin='") (k + 1)
    ++ codes "s'/>\n"

-- frame k begins: it is hidden until second k
abbrev pub frame_start_text : ℕ → ℕ → List ℕ
frame_start_text count k =
    returned (codes "<g><set attributeName='display' to='none' begin='-1s' end='") k ++ codes "s'/>"
    ++ hidden_again_text count k

-- a frame ends with its caption
abbrev pub frame_end_text : ℕ → Line → List ℕ
frame_end_text size line = caption_text size line ++ codes "</g>\n"

-- the content of a frame: the set as in a still picture, over it the call, and below it the legend and the caption
unfoldable pub shot_text : ℕ → Option Frame → SceneValue → Line → List ℕ
shot_text size frame scene line =
    shown_text size frame scene ++ call_shown_text size frame scene.wrong line ++ legend_text size frame scene
    ++ frame_end_text size line

-- the frames from frame k on, each with its line
unfoldable pub frames_text : ℕ → Option Frame → ℕ → ℕ → List SceneValue → List Line → List ℕ
frames_text size frame count k [] lines = []
frames_text size frame count k (scene ∷ scenes) [] = []
frames_text size frame count k (scene ∷ scenes) (line ∷ lines) =
    (frame_start_text count k ++ shot_text size frame scene line) ++ frames_text size frame count (k + 1) scenes lines

-- the range of calls that are played
abbrev pub title_text : ℕ → ℕ → List ℕ
title_text count total =
    returned (codes "<text x='32' y='14'>the first ") count ++ returned (codes " of ") total ++ codes " calls</text>\n"

-- the text of a film of these scenes and lines
unfoldable pub film_text : ℕ → Option Frame → List SceneValue → List Line → List ℕ
film_text size frame scenes lines =
    head_text size 206 ++ FILM_STYLE.now ++ title_text (length scenes) (length lines)
    ++ frames_text size frame (length scenes) 0 scenes lines ++ codes "</svg>\n"
