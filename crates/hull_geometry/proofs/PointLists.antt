-- Lists of points, their parts, and properties of all pairs in order.
use Rattle.std.proofs.Common.{◌≡◌, ℕ, refl, ap, List, arith, zero, suc, ◌<◌, ◌≤◌, [], ◌∷◌, ◌++◌, length, get_or, take}
use Rattle.std.proofs.Common.{◌-◌, ◌+◌, ◌∙◌, sym, drop, length-take, length-drop}
use Rattle.std.specs.Prelude.{slice_range}
use Rattle.std.proofs.lemmas.List.{get_or-drop}
use Rattle.std.proofs.lemmas.List.Edits.{length-between, get_or-between}
use Rattle.std.specs.List.{All, Contains}
use Rattle.std.proofs.lemmas.Grind.{common_steps}
use Rattle.std.proofs.lemmas.List.Elements.{All-cons, All-head, All-tail, Contains-get_or}
use Rattle.lattice.specs.Covers.{IsPointSet}
use Rattle.lattice.specs.Plane.{Pair, IsBefore}

-- if each member has a property, all have it
pub all_of : (P : Pair → Type 0) (S : List Pair) → ((t : Pair) → Contains S t → P t) → All P S
all_of P S h k d l = h (get_or S k d) (Contains-get_or S k d l)

-- a set with a point before all others in front is a set
pub AllPairs-cons : (x : Pair) (xs : List Pair) → All (IsBefore x) xs → IsPointSet xs → IsPointSet (x ∷ xs)
AllPairs-cons x xs a s zero (suc j) d lt l = a j d (omega arith)
AllPairs-cons x xs a s (suc i) (suc j) d lt l = s i j d (omega arith) (omega arith)
AllPairs-cons x xs a s i zero d lt l = absurd (omega arith)

-- the first point is before all later ones
pub AllPairs-head : (x : Pair) (xs : List Pair) → IsPointSet (x ∷ xs) → All (IsBefore x) xs
AllPairs-head x xs s k d l = s 0 (suc k) d (omega arith) (omega arith)

-- the rest of a set is a set
pub AllPairs-tail : (x : Pair) (xs : List Pair) → IsPointSet (x ∷ xs) → IsPointSet xs
AllPairs-tail x xs s i j d lt l = s (suc i) (suc j) d (omega arith) (omega arith)

-- the empty list is a set
pub AllPairs-none : IsPointSet []
AllPairs-none i j d lt l = absurd (omega arith)

-- a property of all members of two lists is one of all members of both in a row
pub all_append_right : (P : Pair → Type 0) (xs ys : List Pair) → All P xs → All P ys → All P (xs ++ ys)
all_append_right P [] ys a b = b
all_append_right P (x ∷ xs) ys a b =
    All-cons P x (xs ++ ys) (All-head P x xs a) (all_append_right P xs ys (All-tail P x xs a) b)

-- a property of all members of two lists in a row is one of the left list
pub left_part : (P : Pair → Type 0) (xs ys : List Pair) → All P (xs ++ ys) → All P xs
left_part P [] ys a = λ k d l. absurd (omega arith)
left_part P (x ∷ xs) ys a = All-cons P x xs (All-head P x (xs ++ ys) a) (left_part P xs ys (All-tail P x (xs ++ ys) a))

-- a property of all members of two lists in a row is one of the right list
pub right_part : (P : Pair → Type 0) (xs ys : List Pair) → All P (xs ++ ys) → All P ys
right_part P [] ys a = a
right_part P (x ∷ xs) ys a = right_part P xs ys (All-tail P x (xs ++ ys) a)

-- the member at an index does not depend on the default for a missing one
pub get_or_free : (S : List Pair) (i : ℕ) (d e : Pair) → i < length S → get_or S i d ≡ get_or S i e
get_or_free [] i d e l = absurd (omega arith)
get_or_free (x ∷ xs) zero d e l = refl
get_or_free (x ∷ xs) (suc i) d e l = get_or_free xs i d e (omega arith)

-- a list is its members before an index and those from there on
pub cut : (S : List Pair) (i : ℕ) → i ≤ length S → S ≡ take i S ++ drop i S
cut S i l = grind (arith, common_steps)

-- a list is its members before an index, its member there, and the rest
pub cut_at : (S : List Pair) (i : ℕ) (d : Pair) → i < length S → S ≡ take i S ++ get_or S i d ∷ drop (suc i) S
cut_at [] i d l = absurd (omega arith)
cut_at (x ∷ xs) zero d l = refl
cut_at (x ∷ xs) (suc i) d l = ap (λ (z : List Pair). x ∷ z) (cut_at xs i d (omega arith))

-- a member of the rest is a member
pub later : (u t : Pair) (vs : List Pair) → Contains vs t → Contains (u ∷ vs) t
later u t vs m = (suc m.0, omega (arith, m.1), m.2)

-- the member of a list of one is that one
pub only_member : (x t : Pair) → Contains (x ∷ []) t → t ≡ x
only_member x t (zero, l, e) = sym e
only_member x t (suc i, l, e) = absurd (omega (arith, l))

-- a list is a list with nothing after it
pub append_none : (xs : List Pair) → xs ≡ xs ++ []
append_none [] = refl
append_none (x ∷ xs) = ap (λ (z : List Pair). x ∷ z) (append_none xs)

-- three lists in a row may be joined in either order
pub append_twice : (xs ys zs : List Pair) → (xs ++ ys) ++ zs ≡ xs ++ (ys ++ zs)
append_twice [] ys zs = refl
append_twice (x ∷ xs) ys zs = ap (λ (z : List Pair). x ∷ z) (append_twice xs ys zs)

-- nothing is left of a list after dropping all of it
pub none_from : (n : ℕ) (xs : List Pair) → length xs ≤ n → drop n xs ≡ []
none_from zero [] l = refl
none_from zero (x ∷ xs) l = absurd (omega (arith, l))
none_from (suc n) [] l = refl
none_from (suc n) (x ∷ xs) l = none_from n xs (omega (arith, l))

-- the first n points are at most n
pub take_few : (n : ℕ) (xs : List Pair) → length (take n xs) ≤ n
take_few n xs = let k = length-take n xs in omega (arith, k)

-- the i-th point of a range of a list
pub record InRange (xs : List Pair) (i : ℕ) (p : Pair) : Type 0 where
  pub within : i < length xs
  pub point : p ≡ get_or xs i p

pub in_range : (xs : List Pair) (from to i : ℕ) (p : Pair) → to ≤ length xs → from + i < to
    → p ≡ get_or xs (from + i) p → InRange (slice_range xs from to) i p
in_range xs from to i p inside l e =
    let n = length-between xs from to inside in
    record { within = omega (arith, n, l); point = e ∙ sym (get_or-between xs from to i p l) }

-- the i-th point of the rest of a list
pub in_rest : (xs : List Pair) (from i : ℕ) (p : Pair) → from + i < length xs → p ≡ get_or xs (from + i) p
    → InRange (drop from xs) i p
in_rest xs from i p l e =
    let n = length-drop from xs in
    record { within = omega (arith, n, l); point = e ∙ sym (get_or-drop from xs i p) }

pub range_long : (xs : List Pair) (from to : ℕ) → to ≤ length xs → length (slice_range xs from to) ≡ to - from
range_long xs from to inside = length-between xs from to inside

-- the first n points are all if there are no more than n
pub all_taken : (n : ℕ) (xs : List Pair) → length xs ≤ n → take n xs ≡ xs
all_taken zero [] l = refl
all_taken zero (x ∷ xs) l = absurd (omega (arith, l))
all_taken (suc n) [] l = refl
all_taken (suc n) (x ∷ xs) l = ap (λ (z : List Pair). x ∷ z) (all_taken n xs (omega (arith, l)))

-- dropping n points and then k drops n + k
pub drop_rest : (n k : ℕ) (xs : List Pair) → drop k (drop n xs) ≡ drop (n + k) xs
drop_rest zero k xs = let e : k ≡ 0 + k = omega arith in ap (λ (m : ℕ). drop m xs) e
drop_rest (suc n) k [] = none_from k [] (omega arith) ∙ sym (none_from (suc n + k) [] (omega arith))
drop_rest (suc n) k (x ∷ xs) =
    let e : suc (n + k) ≡ suc n + k = omega arith in drop_rest n k xs ∙ ap (λ (m : ℕ). drop m (x ∷ xs)) e
