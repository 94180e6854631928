-- The results of removing points one by one, of inserting them, of copying them, and of keeping those at the end.
use Rattle.std.proofs.Common.{◌≡◌, ℕ, ◌+◌, ◌-◌, ◌<◌, ◌≤◌, zero, suc, List, [], ◌∷◌, ◌++◌, length, take, drop, arith, refl, ap}
use Rattle.std.proofs.Common.{◌∙◌, sym, append_assoc}
use Rattle.std.proofs.Math.ListN.{length-take}
use Rattle.std.proofs.lemmas.List.Edits.{remove-append_right}
use Rattle.std.proofs.lemmas.List.{take-append-drop}
use Rattle.std.specs.List.{remove}
use Rattle.lattice.specs.Plane.{Pair}

-- dropping n points and one more drops n + 1
pub drop_more : (n : ℕ) (L : List Pair) → drop 1 (drop n L) ≡ drop (suc n) L
drop_more zero L = refl
drop_more (suc n) [] = refl
drop_more (suc n) (x ∷ xs) = drop_more n xs

-- the first n points of a list of at least n are n points
pub take_length : (n : ℕ) (L : List Pair) → n ≤ length L → length (take n L) ≡ n
take_length n L l = let k = length-take n L in omega (arith, k, l)

-- if one point more was removed, the list is as after removing all up to there
pub taken_more : (f j : ℕ) (L M : List Pair) → f ≤ j → j < length L → M ≡ take f L ++ drop j L
    → remove M f ≡ take f L ++ drop (j + 1) L
taken_more f j L M a b e =
    let none : f - f ≡ 0 = omega arith in
    let more : suc j ≡ j + 1 = omega arith in
    ap (λ (z : List Pair). remove z f) e
    ∙ remove-append_right (take f L) (drop j L) f f (take_length f L (omega (arith, a, b))) (omega arith)
    ∙ ap (λ (k : ℕ). take f L ++ remove (drop j L) k) none
    ∙ ap (λ (z : List Pair). take f L ++ z) (drop_more j L ∙ ap (λ (k : ℕ). drop k L) more)

-- the first f points of a list that begins with them
taken : (f : ℕ) (L X : List Pair) → f ≤ length L → take f (take f L ++ X) ≡ take f L
taken zero L X l = refl
taken (suc f) [] X l = absurd (omega (arith, l))
taken (suc f) (x ∷ xs) X l = ap (λ (z : List Pair). x ∷ z) (taken f xs X (omega (arith, l)))

-- and the points after them
dropped : (f : ℕ) (L X : List Pair) → f ≤ length L → drop f (take f L ++ X) ≡ X
dropped zero L X l = refl
dropped (suc f) [] X l = absurd (omega (arith, l))
dropped (suc f) (x ∷ xs) X l = dropped f xs X (omega (arith, l))

-- if only the first k points are put in, in the place of all but those that the others are the same as, all are replaced
pub replaced : (f t e k : ℕ) (L P M N : List Pair) → f ≤ length L → M ≡ take f L ++ drop e L
    → drop k P ++ drop t L ≡ drop e L → N ≡ (take f M ++ take k P) ++ drop f M → N ≡ (take f L ++ P) ++ drop t L
replaced f t e k L P M N l m c n =
    n
    ∙ ap (λ (z : List Pair). (take f z ++ take k P) ++ drop f z) m
    ∙ ap (λ (z : List Pair). (z ++ take k P) ++ drop f (take f L ++ drop e L)) (taken f L (drop e L) l)
    ∙ ap (λ (z : List Pair). (take f L ++ take k P) ++ z) (dropped f L (drop e L) l ∙ sym c)
    ∙ sym (append_assoc (take f L ++ take k P) (drop k P) (drop t L))
    ∙ ap (λ (z : List Pair). z ++ drop t L)
    (append_assoc (take f L) (take k P) (drop k P) ∙ ap (λ (z : List Pair). take f L ++ z) (take-append-drop k P))
