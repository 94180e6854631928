-- Lists the other way round, and what holds of them place by place.
use Rattle.std.proofs.Common.{◌≡◌, ◌<◌, ◌-◌, ℕ, suc, List, [], ◌∷◌, length, sym, ap, subst, ◌∙◌}
use Rattle.std.proofs.Common.{arith, reverse}
use Rattle.std.specs.Prelude.{All, slice_index_or}
use Rattle.std.specs.List.{AllZip}
use Rattle.std.proofs.lemmas.List.{get_or-reverse, get_or_default, length-reverse}

-- what holds of all members holds the other way round
pub all_unreverse : {A : Type 0} → (P : A → Type 0) (xs : List A) → All P (reverse xs) → All P xs
all_unreverse {A} P xs all k d lt =
    let long = length-reverse xs in
    let there : slice_index_or (reverse xs) (length xs - 1 - k) d
    ≡ slice_index_or xs (length xs - 1 - (length xs - 1 - k)) d =
    get_or-reverse xs (length xs - 1 - k) d (omega arith) in
    let back : length xs - 1 - (length xs - 1 - k) ≡ k = omega arith in
    subst P (there ∙ ap (λ (i : ℕ). slice_index_or xs i d) back) (all (length xs - 1 - k) d (omega arith))

-- place by place, from what holds at each place
pub zip_of : {A B : Type 0} → (R : A → B → Type 0) (xs : List A) (ys : List B) → length ys ≡ length xs
    → ((i : ℕ) (d : A) (e : B) → i < length xs → R (slice_index_or xs i d) (slice_index_or ys i e)) → AllZip R xs ys
zip_of R [] [] long each = tt
zip_of R [] (y ∷ ys) long each = absurd (omega arith)
zip_of R (x ∷ xs) [] long each = absurd (omega arith)
zip_of R (x ∷ xs) (y ∷ ys) long each =
    (each 0 x y (omega arith), zip_of R xs ys (omega arith) (λ i d e lt. each (suc i) d e (omega arith)))

-- and the other way round
pub zip_reverse : {A : Type 0} → (R : A → A → Type 0) (xs ys : List A) → length ys ≡ length xs
    → ((i : ℕ) (d : A) → i < length xs → R (slice_index_or xs i d) (slice_index_or ys i d))
    → AllZip R (reverse xs) (reverse ys)
zip_reverse {A} R xs ys long each =
    zip_of R (reverse xs) (reverse ys) (length-reverse ys ∙ long ∙ sym (length-reverse xs))
    (λ i d e lt. at i d e (omega (arith, length-reverse xs)))
  where
    at : (i : ℕ) (d e : A) → i < length xs → R (slice_index_or (reverse xs) i d) (slice_index_or (reverse ys) i e)
    at i d e lt =
        let there : slice_index_or ys (length xs - 1 - i) d ≡ slice_index_or (reverse ys) i e =
        get_or_default ys (length xs - 1 - i) d e (omega arith) ∙ ap (λ (n : ℕ). slice_index_or ys (n - 1 - i) e) (sym long)
        ∙ sym (get_or-reverse ys i e (omega arith))
        in
        subst (λ (x : A). R x (slice_index_or (reverse ys) i e)) (sym (get_or-reverse xs i d lt))
        (subst (R (slice_index_or xs (length xs - 1 - i) d)) there (each (length xs - 1 - i) d (omega arith)))
