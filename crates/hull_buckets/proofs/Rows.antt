-- The first values of a list after others moved up or down by one.
use Rattle.std.proofs.lemmas.Grind.{common_steps}
use Rattle.std.proofs.Common.{◌≡◌, ℕ, zero, suc, ◌+◌, ◌-◌, ◌<◌, ◌≤◌, ap, ◌∙◌, arith, refl}
use Rattle.std.proofs.Common.{List, [], ◌∷◌, ◌++◌, length, take, drop, slice_set}
use Rattle.std.specs.List.{insert, remove, copy_within}

module _ {X : Type 0} where
  -- the first of a list, and of these with more after them
  pub first_again : (n : ℕ) (xs ys : List X) → n ≤ length xs → take n (take n xs ++ ys) ≡ take n xs
  first_again zero xs ys l = refl
  first_again (suc n) [] ys l = absurd (omega (arith, l))
  first_again (suc n) (x ∷ xs) ys l = ap (λ (z : List X). x ∷ z) (first_again n xs ys (omega (arith, l)))

  -- those from an index on have moved up, and a value is put there
  moved_up : (old : List X) (place n count : ℕ) (item : X) → place + n ≡ count → count < length old
      → take (suc count) (slice_set (take (suc place) old ++ take n (drop place old) ++ drop (suc count) old) place
      item)
      ≡ insert (take count old) place item
  moved_up [] place n count item e l = absurd (omega (arith, l))
  moved_up (x ∷ xs) zero n count item e l = grind (arith, common_steps, count, first_again)
  moved_up (x ∷ xs) (suc place) n zero item e l = absurd (omega (arith, e))
  moved_up (x ∷ xs) (suc place) n (suc count) item e l =
      ap (λ (z : List X). x ∷ z) (moved_up xs place n count item (omega (arith, e)) (omega (arith, l)))

  -- those after an index have moved down
  moved_down : (old : List X) (place n count : ℕ) → place + n ≡ count → count < length old
      → take count (take place old ++ take n (drop (suc place) old) ++ drop count old)
      ≡ remove (take (suc count) old) place
  moved_down [] place n count e l = absurd (omega (arith, l))
  moved_down (x ∷ xs) zero n count e l = grind (arith, common_steps, count, first_again)
  moved_down (x ∷ xs) (suc place) n zero e l = absurd (omega (arith, e))
  moved_down (x ∷ xs) (suc place) n (suc count) e l =
      ap (λ (z : List X). x ∷ z) (moved_down xs place n count (omega (arith, e)) (omega (arith, l)))

  -- a value inserted
  pub put : (old mid : List X) (place count : ℕ) (item : X) → mid ≡ copy_within old place count (place + 1)
      → place ≤ count → count < length old → take (count + 1) (slice_set mid place item) ≡ insert (take count old)
      place item
  put old mid place count item e o l =
      let a : place + 1 ≡ suc place = omega arith in
      let b : place + 1 + (count - place) ≡ suc count = omega (arith, o) in
      let d : count + 1 ≡ suc count = omega arith in
      ap (λ (k : ℕ). take k (slice_set mid place item)) d
      ∙ ap (λ (z : List X). take (suc count) (slice_set z place item)) e
      ∙ ap (λ (k : ℕ). take (suc count) (slice_set (take (place + 1) old ++ take (count - place) (drop place old)
      ++ drop k old) place item)) b
      ∙ ap (λ (k : ℕ). take (suc count) (slice_set (take k old ++ take (count - place) (drop place old)
      ++ drop (suc count) old) place item)) a
      ∙ moved_up old place (count - place) count item (omega (arith, o)) l

  -- a value removed
  pub taken : (old mid : List X) (place count : ℕ) → mid ≡ copy_within old (place + 1) count place → place < count
      → count ≤ length old → take (count - 1) mid ≡ remove (take count old) place
  taken old mid place zero e o l = absurd (omega (arith, o))
  taken old mid place (suc count) e o l =
      let a : place + 1 ≡ suc place = omega arith in
      let b : suc count - (place + 1) ≡ count - place = omega arith in
      let d : place + (suc count - (place + 1)) ≡ count = omega (arith, o) in
      let f : suc count - 1 ≡ count = omega arith in
      ap (λ (k : ℕ). take k mid) f
      ∙ ap (take count) e
      ∙ ap (λ (k : ℕ). take count (take place old ++ take (suc count - (place + 1)) (drop (place + 1) old) ++ drop k
      old)) d
      ∙ ap (λ (k : ℕ). take count (take place old ++ take k (drop (place + 1) old) ++ drop count old)) b
      ∙ ap (λ (k : ℕ). take count (take place old ++ take (count - place) (drop k old) ++ drop count old)) a
      ∙ moved_down old place (count - place) count (omega (arith, o)) (omega (arith, l))

  -- the first values of a list in which one was written over
  pub take_set : (n : ℕ) (xs : List X) (i : ℕ) (y : X) → take n (slice_set xs i y) ≡ slice_set (take n xs) i y
  take_set zero xs i y = refl
  take_set (suc n) [] i y = refl
  take_set (suc n) (x ∷ xs) zero y = refl
  take_set (suc n) (x ∷ xs) (suc i) y = ap (λ (z : List X). x ∷ z) (take_set n xs i y)
