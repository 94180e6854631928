-- The texts of lists of items, item by item.
use Rattle.std.proofs.Common.{◌≡◌, ◌++◌, ◌-◌, ℕ, zero, suc, List, [], ◌∷◌, length, refl, sym, ap, ◌∙◌, arith}
use Rattle.hull_draw.specs.declared.frame.Frame.{Frame}
use Rattle.hull_draw.specs.declared.marks.Mark.{Mark}
use Rattle.hull_draw.specs.Shapes.{mark_dot_text, every}
use Rattle.hull_draw.specs.Texts.{texts}

-- an item's text comes before those of the others
pub texts_cons : {A : Type 0} (text : A → List ℕ) (x : A) (after rest : List A) → rest ≡ x ∷ after
    → texts text rest ≡ text x ++ texts text after
unfolding texts
texts_cons text x after rest e = ap (texts text) e

-- no items have no text
pub texts_none : {A : Type 0} (text : A → List ℕ) (rest : List A) → length rest ≡ 0 → texts text rest ≡ []
unfolding texts
texts_none text [] e = refl
texts_none text (x ∷ xs) e = absurd (omega (arith, e))

-- a mark that is drawn comes before the others
pub drawn_cons : (frame : Frame) (step : ℕ) (m : Mark) (after rest : List Mark) → rest ≡ m ∷ after
    → texts (mark_dot_text frame) (every step zero rest) ≡ mark_dot_text frame m
    ++ texts (mark_dot_text frame) (every step (step - 1) after)
unfolding texts every
drawn_cons frame step m after rest e = ap (λ (r : List Mark). texts (mark_dot_text frame) (every step zero r)) e

-- a mark is skipped
pub every_passed : (step skip : ℕ) (m : Mark) (after rest : List Mark) → (skip ≡ 0 → ⊥) → rest ≡ m ∷ after
    → every step skip rest ≡ every step (skip - 1) after
unfolding every
every_passed step zero m after rest some e = absurd (some refl)
every_passed step (suc skip) m after rest some e =
    ap (every step (suc skip)) e ∙ ap (λ (k : ℕ). every step k after) (sym (sub-one-of skip))
  where
    sub-one-of : (n : ℕ) → suc n - 1 ≡ n
    sub-one-of n = omega arith

-- of no marks none is drawn
pub drawn_none : (frame : Frame) (step skip : ℕ) (rest : List Mark) → length rest ≡ 0
    → texts (mark_dot_text frame) (every step skip rest) ≡ []
unfolding texts every
drawn_none frame step skip [] e = refl
drawn_none frame step skip (x ∷ xs) e = absurd (omega (arith, e))
