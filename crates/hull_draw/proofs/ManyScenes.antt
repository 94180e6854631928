-- A film that grows shot by shot, and the marks of the points that its calls name.
use Rattle.std.specs.Option.{is_some}
use Rattle.std.proofs.Common.{true, false, ◌≡◌, ◌++◌, ◌+◌, ℕ, suc, List, [], ◌∷◌, length, Option, Some, None, refl, ap}
use Rattle.std.proofs.Common.{subst, ◌∙◌, arith}
use Rattle.lattice.specs.Plane.{Pair}
use Rattle.hull_book.specs.Journals.{JournalValue}
use Rattle.hull_book.specs.declared.line.Line.{Line}
use Rattle.hull_draw.specs.Films.{AreShots, shot_options, call_point, point_marks, called_marks}
use Rattle.hull_draw.specs.Scenes.{SceneValue, IsScene}

-- no scenes are shots
pub shots_none : (journal : JournalValue) (size k : ℕ) → AreShots journal size k []
unfolding AreShots
shots_none journal size k = tt

-- shots with one scene more, that of the line after the last, are shots
pub shots_more : (journal : JournalValue) (size k : ℕ) (scenes : List SceneValue) (scene : SceneValue)
    → AreShots journal size k scenes
    → IsScene journal (shot_options size (suc (k + length scenes))) scene
    → AreShots journal size k (scenes ++ scene ∷ [])
unfolding AreShots
shots_more journal size k [] scene so_far h =
    (subst (λ (n : ℕ). IsScene journal (shot_options size (suc n)) scene) (no_more k) h, tt)
  where
    no_more : (n : ℕ) → n + 0 ≡ n
    no_more n = omega arith
shots_more journal size k (s ∷ ss) scene so_far h = (
  so_far.0,
  shots_more journal size (suc k) ss scene so_far.1
      (subst (λ (n : ℕ). IsScene journal (shot_options size (suc n)) scene) (over k (length ss)) h),
)
  where
    over : (n m : ℕ) → n + suc m ≡ suc n + m
    over n m = omega arith

-- the mark of the point that a call names comes before those of the calls after it
pub called_point : (line : Line) (p : Pair) (after rest : List Line) → call_point line.call ≡ Some p
    → rest ≡ line ∷ after
    → called_marks rest ≡ record { point = p; multiplicity = 1 } ∷ called_marks after
unfolding called_marks
called_point line p after rest named e =
    ap called_marks e ∙ ap (λ (q : Option Pair). point_marks q ++ called_marks after) named

-- a call that names no point has no mark
pub called_no_point : (line : Line) (after rest : List Line) → call_point line.call ≡ None → rest ≡ line ∷ after
    → called_marks rest ≡ called_marks after
unfolding called_marks
called_no_point line after rest named e =
    ap called_marks e ∙ ap (λ (q : Option Pair). point_marks q ++ called_marks after) named

-- no calls have no marks
pub called_none : (rest : List Line) → length rest ≡ 0 → called_marks rest ≡ []
unfolding called_marks
called_none [] e = refl
called_none (x ∷ xs) e = absurd (omega (arith, e))

-- an option that is not some number is none
pub none_of : (o : Option ℕ) → is_some o ≡ false → o ≡ None
none_of None e = refl
none_of (Some k) e = absurd (cc e)

-- an option that is some number has one
pub some_of : (o : Option ℕ) → is_some o ≡ true → (k : ℕ) × (o ≡ Some k)
some_of None e = absurd (cc e)
some_of (Some k) e = (k, refl)

-- a scene more is one more
pub length_more : (scenes : List SceneValue) (scene : SceneValue) → length (scenes ++ scene ∷ []) ≡ suc (length scenes)
length_more [] scene = refl
length_more (s ∷ ss) scene = ap suc (length_more ss scene)
