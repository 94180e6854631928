-- The caption of a film's frame: its call, and below that its reply, each in a line.
use Rattle.std.specs.Prelude.{◌==◌, ◌-◌, ◌++◌, leb, max, min, ℕ, unsigned_abs, List, [], ◌∷◌, length, take, codes}
use Rattle.std.specs.Prelude.{if◌then◌else◌}
use Rattle.lattice.specs.Plane.{Pair}
use Rattle.hull_set.specs.declared.reply.Reply.{Reply}
use Rattle.hull_set.specs.declared.reply.Reply.TheVariants.{VertexList}
use Rattle.hull_book.specs.declared.line.Line.{Line}
use Rattle.hull_text.specs.Spaced.{spaced}
use Rattle.hull_text.specs.Spelling.{call_fields, points_fields, reply_fields}
use Rattle.hull_draw.specs.Legends.{line_start}
use Rattle.hull_draw.specs.Texts.{returned}

-- the greatest size of a coordinate of these points, and n
unfoldable pub widest_from : ℕ → List Pair → ℕ
widest_from n [] = n
widest_from n (p ∷ ps) = widest_from (max (max n (unsigned_abs p.x)) (unsigned_abs p.y)) ps

-- how many points fit into a line, if no coordinate is of a greater size than n
abbrev pub space_for : ℕ → ℕ
space_for n = if leb n 9999 then 5 else (if leb n 9999999 then 3 else 1)

-- how many vertices of a list are written: all, or as many as fit
abbrev pub vertices_returned : List Pair → ℕ
vertices_returned ps = min (space_for (widest_from 0 ps)) (length ps)

-- how many are left out, if any are
abbrev pub left_out_text : ℕ → List ℕ
left_out_text n = if n == 0 then [] else returned (codes " &#8230; and ") n ++ codes " more"

-- a list of vertices, as far as it fits
abbrev pub list_text : List Pair → List ℕ
list_text ps =
    returned (codes " list ") (length ps) ++ spaced (points_fields (take (vertices_returned ps) ps))
    ++ left_out_text (length ps - vertices_returned ps)

-- a reply as in a journal, except for a list that is too long
abbrev pub reply_text : Reply → List ℕ
reply_text (VertexList ps) = list_text ps
reply_text reply = spaced (reply_fields reply)

-- the line of the call
abbrev pub call_line_text : ℕ → Line → List ℕ
call_line_text size line =
    line_start size 164 ++ codes "' class='b'>" ++ spaced (call_fields line.call) ++ codes "</text>\n"

-- the line of the reply
abbrev pub reply_line_text : ℕ → Line → List ℕ
reply_line_text size line =
    line_start size 186 ++ codes "' class='b'>=" ++ reply_text line.reply ++ codes "</text>\n"

-- both lines, below the legend
abbrev pub caption_text : ℕ → Line → List ℕ
caption_text size line = call_line_text size line ++ reply_line_text size line
