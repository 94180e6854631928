-- The texts of frames, one by one.
use Rattle.std.proofs.Common.{◌≡◌, ◌++◌, ◌+◌, ℕ, List, [], ◌∷◌, length, Option, refl, ap, ◌∙◌, append_assoc, arith}
use Rattle.hull_book.specs.declared.line.Line.{Line}
use Rattle.hull_draw.specs.declared.frame.Frame.{Frame}
use Rattle.hull_draw.specs.FilmTexts.{frames_text, frame_start_text, shot_text}
use Rattle.hull_draw.specs.Scenes.{SceneValue}

-- a frame's text comes before those of the others
pub frames_cons : (size : ℕ) (frame : Option Frame) (count k : ℕ) (scene : SceneValue) (scenes rest : List SceneValue)
    (line : Line) (lines left : List Line)
    → rest ≡ scene ∷ scenes → left ≡ line ∷ lines
    → frames_text size frame count k rest left ≡ frame_start_text count k
    ++ (shot_text size frame scene line ++ frames_text size frame count (k + 1) scenes lines)
unfolding frames_text
frames_cons size frame count k scene scenes rest line lines left e f =
    ap (λ (ss : List SceneValue). frames_text size frame count k ss left) e
    ∙ ap (λ (ls : List Line). frames_text size frame count k (scene ∷ scenes) ls) f
    ∙ append_assoc (frame_start_text count k) (shot_text size frame scene line)
    (frames_text size frame count (k + 1) scenes lines)

-- no scenes have no frames
pub frames_none : (size : ℕ) (frame : Option Frame) (count k : ℕ) (rest : List SceneValue) (left : List Line)
    → length rest ≡ 0 → frames_text size frame count k rest left ≡ []
unfolding frames_text
frames_none size frame count k [] left e = refl
frames_none size frame count k (s ∷ ss) left e = absurd (omega (arith, e))

-- scenes without lines have no frames
pub frames_no_lines : (size : ℕ) (frame : Option Frame) (count k : ℕ) (rest : List SceneValue) (left : List Line)
    → length left ≡ 0 → frames_text size frame count k rest left ≡ []
unfolding frames_text
frames_no_lines size frame count k [] left e = refl
frames_no_lines size frame count k (s ∷ ss) [] e = refl
frames_no_lines size frame count k (s ∷ ss) (l ∷ ls) e = absurd (omega (arith, e))
