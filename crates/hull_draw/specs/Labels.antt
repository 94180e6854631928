-- The labels of a picture: the multiplicities, beside the points.
use Rattle.std.specs.Prelude.{◌==◌, ◌+◌, ◌*◌, ◌/◌, ◌&&◌, ◌||◌, leb, not, ℕ, List, [], ◌∷◌, ◌++◌, length, Option}
use Rattle.std.specs.Prelude.{Some, None, Bool, true, codes, if◌then◌else◌}
use Rattle.std.specs.Int.{abs_diff}
use Rattle.lattice.specs.Plane.{Pair}
use Rattle.hull_draw.specs.declared.marks.Mark.{Mark}
use Rattle.hull_draw.specs.declared.labels.Spot.{Spot}
use Rattle.hull_draw.specs.declared.labels.TheConstants.{LABEL_WIDTH, LABEL_HEIGHT}
use Rattle.hull_draw.specs.declared.marks.TheConstants.{LABEL_LIMIT}
use Rattle.hull_draw.specs.declared.frame.Frame.{Frame}
use Rattle.hull_draw.specs.Frames.{across, down, side_of}
use Rattle.hull_draw.specs.Texts.{returned, texts}

-- the distance from an edge of the screen's square, whose side is `size`, of a point n from that of the plane's
abbrev pub place_on_screen : ℕ → Frame → ℕ → ℕ
place_on_screen size frame n = n * size / side_of frame

-- the spot at which the label beside a point begins
abbrev pub label_place : ℕ → Frame → Pair → Spot
label_place size frame p = record {
  x = place_on_screen size frame (across frame p) + 39;
  y = place_on_screen size frame (down frame p) + 26;
}

-- a label at the second spot is clear of the one at the first, if there is one
abbrev pub is_clear : Option Spot → Spot → Bool
is_clear None place = true
is_clear (Some last) place =
    leb LABEL_WIDTH (abs_diff last.x place.x) || leb LABEL_HEIGHT (abs_diff last.y place.y)

-- a point has a label at its spot: its multiplicity is more than one, and the label is clear of the last one before
-- it
abbrev pub has_label : Option Spot → Spot → ℕ → Bool
has_label last place multiplicity = not (multiplicity == 1) && is_clear last place

-- of these marks those that have a label, if the last one before them is at a spot that may be passed
unfoldable pub labelled : ℕ → Frame → Option Spot → List Mark → List Mark
labelled size frame last [] = []
labelled size frame last (m ∷ ms) = if has_label last (label_place size frame m.point) m.multiplicity
    then m ∷ labelled size frame (Some (label_place size frame m.point)) ms
    else labelled size frame last ms

-- a label
abbrev pub label_text : Spot → ℕ → List ℕ
label_text place multiplicity =
    returned (codes "<text class='t' x='") place.x ++ returned (codes "' y='") place.y ++ returned (codes "'>") multiplicity
    ++ codes "</text>\n"

-- the label of a mark
abbrev pub mark_label_text : ℕ → Frame → Mark → List ℕ
mark_label_text size frame m = label_text (label_place size frame m.point) m.multiplicity

-- the marks that may have labels: none if there are too many to be read
abbrev pub readable : List Mark → List Mark
readable marks = if leb (length marks) LABEL_LIMIT then marks else []

-- the labels
abbrev pub labels_text : ℕ → Frame → List Mark → List ℕ
labels_text size frame marks = texts (mark_label_text size frame) (labelled size frame None (readable marks))
