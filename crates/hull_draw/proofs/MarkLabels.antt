-- The labels of marks, mark by mark.
use Rattle.std.proofs.Common.{◌≡◌, ◌++◌, ℕ, List, [], ◌∷◌, Option, Some, Bool, true, false, length, refl, sym, ap}
use Rattle.std.proofs.Common.{◌∙◌, arith, if◌then◌else◌}
use Rattle.hull_draw.specs.declared.frame.Frame.{Frame}
use Rattle.hull_draw.specs.declared.labels.Spot.{Spot}
use Rattle.hull_draw.specs.declared.marks.Mark.{Mark}
use Rattle.hull_draw.specs.Labels.{label_place, has_label, labelled, label_text, mark_label_text}
use Rattle.hull_draw.specs.Texts.{texts}

-- the labelled marks among a mark and those after it
labelled_cons : (size : ℕ) (frame : Frame) (last : Option Spot) (place : Spot) (m : Mark) (after rest : List Mark)
    (b : Bool) → place ≡ label_place size frame m.point → has_label last place m.multiplicity ≡ b → rest ≡ m ∷ after
    → labelled size frame last rest
    ≡ (if b then m ∷ labelled size frame (Some place) after else labelled size frame last after)
unfolding labelled
labelled_cons size frame last place m after rest b at has e =
    ap (labelled size frame last) e
    ∙ ap (λ (q : Spot). if has_label last q m.multiplicity then m ∷ labelled size frame (Some q) after
    else labelled size frame last after) (sym at)
    ∙ ap (λ (c : Bool). if c then m ∷ labelled size frame (Some place) after
    else labelled size frame last after) has

-- the label of a mark that has one comes before those of the marks after it, the first of which is clear of it
pub label_cons : (size : ℕ) (frame : Frame) (last : Option Spot) (place : Spot) (m : Mark) (after rest : List Mark)
    → place ≡ label_place size frame m.point → has_label last place m.multiplicity ≡ true → rest ≡ m ∷ after
    → texts (mark_label_text size frame) (labelled size frame last rest) ≡ label_text place m.multiplicity
    ++ texts (mark_label_text size frame) (labelled size frame (Some place) after)
unfolding texts
label_cons size frame last place m after rest at has e =
    ap (texts (mark_label_text size frame)) (labelled_cons size frame last place m after rest true at has e)
    ∙ ap (λ (q : Spot). label_text q m.multiplicity
    ++ texts (mark_label_text size frame) (labelled size frame (Some place) after)) (sym at)

-- a mark without a label is skipped
pub label_passed : (size : ℕ) (frame : Frame) (last : Option Spot) (place : Spot) (m : Mark) (after rest : List Mark)
    → place ≡ label_place size frame m.point → has_label last place m.multiplicity ≡ false → rest ≡ m ∷ after
    → texts (mark_label_text size frame) (labelled size frame last rest)
    ≡ texts (mark_label_text size frame) (labelled size frame last after)
label_passed size frame last place m after rest at has e =
    ap (texts (mark_label_text size frame)) (labelled_cons size frame last place m after rest false at has e)

-- no marks have no labels
pub label_none : (size : ℕ) (frame : Frame) (last : Option Spot) (rest : List Mark) → length rest ≡ 0
    → texts (mark_label_text size frame) (labelled size frame last rest) ≡ []
unfolding texts labelled
label_none size frame last [] e = refl
label_none size frame last (x ∷ xs) e = absurd (omega (arith, e))
