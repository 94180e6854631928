-- Prefixes of one list.
use Rattle.std.proofs.Common.{◌≡◌, ◌≤◌, Bool, true, false, List, [], ◌∷◌, length, MatchBool, refl, arith}
use Rattle.std.proofs.lemmas.Bool.Decides.{nat_tests}
use mathlib.Core.List.{IsPrefix}

-- if two lists are prefixes of one list, the one that is no longer is a prefix of the other
pub prefix_shorter : {A : Type 0} (xs ys zs : List A) → IsPrefix xs zs → IsPrefix ys zs → length xs ≤ length ys
    → IsPrefix xs ys
prefix_shorter [] ys zs p q le = (ys, refl)
prefix_shorter (x ∷ xs) [] zs p q le = absurd (omega arith)
prefix_shorter (x ∷ xs) (y ∷ ys) [] p q le = absurd (cc (p.1))
prefix_shorter (x ∷ xs) (y ∷ ys) (z ∷ zs) p q le =
    let heads : x ≡ y = cc (p.1, q.1) in
    let rest = prefix_shorter xs ys zs (p.0, cc (p.1)) (q.0, cc (q.1)) (omega arith) in
    (rest.0, cc (heads, rest.1))

-- a prefix that is as long as the list is the list
pub prefix_whole : {A : Type 0} (xs ys : List A) → IsPrefix xs ys → length ys ≤ length xs → xs ≡ ys
prefix_whole [] [] p le = refl
prefix_whole [] (y ∷ ys) p le = absurd (omega arith)
prefix_whole (x ∷ xs) [] p le = absurd (cc (p.1))
prefix_whole (x ∷ xs) (y ∷ ys) p le =
    let rest = prefix_whole xs ys (p.0, cc (p.1)) (omega arith) in cc (p.1, rest)

-- comparing their lengths decides which of two prefixes is a prefix of the other
pub begins_by_count : {A : Type 0} (xs ys both : List A) (m n : _) → m ≡ length xs → n ≡ length ys → IsPrefix xs both
    → IsPrefix ys both → (b : Bool) → lib.Dec.leb m n ≡ b → MatchBool b (IsPrefix xs ys) (IsPrefix ys xs)
begins_by_count xs ys both m n hm hn p q true is = prefix_shorter xs ys both p q (grind (arith, nat_tests))
begins_by_count xs ys both m n hm hn p q false is = prefix_shorter ys xs both q p (grind (arith, nat_tests))
