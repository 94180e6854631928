-- Lists of which each value is one.
use Rattle.std.proofs.Common.{◌≡◌, ℕ, suc, ◌-◌, ◌<◌, ◌≤◌, ap, arith, refl, sym, ◌∙◌}
use Rattle.std.proofs.Common.{List, [], ◌∷◌, length, take, drop}
use Rattle.std.proofs.lemmas.List.{length-take-le}
use Rattle.std.proofs.lemmas.List.Edits.{length-remove}
use Rattle.std.proofs.lemmas.List.Elements.{All-append, All-drop, All-head, All-tail, All-take}
use Rattle.std.specs.List.{All, remove}

-- it is one
abbrev IsOne : ℕ → Type 0
IsOne n = n ≡ 1

-- two lists of ones as long as each other are the same
same_ones : (xs ys : List ℕ) → All IsOne xs → All IsOne ys → length xs ≡ length ys → xs ≡ ys
same_ones [] [] h k e = refl
same_ones [] (y ∷ ys) h k e = absurd (omega (arith, e))
same_ones (x ∷ xs) [] h k e = absurd (omega (arith, e))
same_ones (x ∷ xs) (y ∷ ys) h k e =
    ap (λ (n : ℕ). n ∷ xs) (All-head IsOne x xs h ∙ sym (All-head IsOne y ys k))
    ∙ ap (λ (z : List ℕ). y ∷ z) (same_ones xs ys (All-tail IsOne x xs h) (All-tail IsOne y ys k) (omega (arith, e)))

-- without one of its first values, an array of ones begins with as many less one
pub one_removed : (items : List ℕ) (count place : ℕ) → All IsOne items → place < count → count ≤ length items
    → take (count - 1) items ≡ remove (take count items) place
one_removed items count place h o l =
    same_ones (take (count - 1) items) (remove (take count items) place) (All-take IsOne (count - 1) items h)
    (All-append IsOne (take place (take count items)) (drop (suc place) (take count items))
    (All-take IsOne place (take count items) all) (All-drop IsOne (suc place) (take count items) all))
    (let a = length-take-le (count - 1) items (omega (arith, l)) in let b = length-take-le count items l in
    let d = length-remove (take count items) place (omega (arith, b, o)) in omega (arith, a, b, d, o))
  where
    all : All IsOne (take count items)
    all = All-take IsOne count items h
