-- The points of a list at the indices of a mask.
use Rattle.std.proofs.lemmas.Grind.{common_steps}
use Rattle.std.proofs.Common.{◌≡◌, ℕ, zero, suc, ◌+◌, ◌-◌, ◌*◌, ◌/◌, ◌%◌, ◌^◌, ◌<◌, ◌≤◌, refl, sym, ap, ◌∙◌, subst}
use Rattle.std.proofs.Common.{arith, List, [], ◌∷◌, ◌++◌, length, take, drop, get_or, inl, inr}
use Rattle.std.proofs.lemmas.Bool.{cases_lt}
use Rattle.std.proofs.lemmas.List.{drop_more, length-take-le}
use Rattle.std.proofs.lemmas.List.Elements.{All-contains}
use Rattle.std.proofs.lemmas.Nat.{pow_pos, pow_below, mod_low, div-add-mod'}
use Rattle.std.proofs.lemmas.Nat.Bits.{bit_at_lowest, bit_at-suc, bit_at-lt}
use Rattle.std.specs.Int.{bit_at}
use Rattle.std.specs.List.{Contains}
use Rattle.lattice.specs.Covers.{IsPointSet}
use Rattle.lattice.specs.Plane.{Pair, IsBefore}
use Rattle.hull_geometry.specs.Positions.{point_at, origin}
use Rattle.hull_geometry.proofs.PointLists.{AllPairs-cons, AllPairs-head, AllPairs-tail, all_of, cut, append_none}
use Rattle.hull_geometry.proofs.PointLists.{later, get_or_free}
use Rattle.hull_buckets.specs.Masks.{kept_before, at_places, AreApart}
use Rattle.hull_buckets.proofs.Words.{twice, without_lowest}

-- ---- parts

-- no index, no points
pub none_at : (S : List Pair) → at_places 0 S ≡ []
none_at [] = refl
none_at (x ∷ xs) = none_at xs

-- twice a number and another: its lowest bit is that of the other
lowest_of : (q low : ℕ) → (q * 2 + low) % 2 ≡ low % 2
lowest_of q low = omega arith

-- and the rest of it is the first number and the rest of the other
rest_of : (q low : ℕ) → (q * 2 + low) / 2 ≡ q + low / 2
rest_of q low = omega arith

-- a mask of two parts
shifted : (high k low : ℕ) → high * 2 ^ suc k + low ≡ high * 2 ^ k * 2 + low
shifted high k low =
    ap (λ (z : ℕ). high * z + low) (twice k) ∙ ap (λ (z : ℕ). z + low) (mul_assoc high (2 ^ k))
  where
    mul_assoc : (a b : ℕ) → a * (b * 2) ≡ a * b * 2
    mul_assoc a b = omega arith

-- a mask of two parts takes from the first indices what its low part has, and what its high part has from the others
pub separated : (xs ys : List Pair) (high low : ℕ) → low < 2 ^ length xs
    → at_places (high * 2 ^ length xs + low) (xs ++ ys) ≡ at_places low xs ++ at_places high ys
separated [] ys high low l = ap (λ (m : ℕ). at_places m ys) (omega (arith, l))
separated (x ∷ xs) ys high low l =
    let e = shifted high (length xs) low in
    let half : low / 2 < 2 ^ length xs = omega (arith, l, twice (length xs)) in
    let m : ℕ = high * 2 ^ length xs in
    ap (λ (z : ℕ). kept_before (z % 2) x (at_places (z / 2) (xs ++ ys))) e
    ∙ ap (λ (z : ℕ). kept_before z x (at_places ((m * 2 + low) / 2) (xs ++ ys))) (lowest_of m low)
    ∙ ap (λ (z : ℕ). kept_before (low % 2) x (at_places z (xs ++ ys))) (rest_of m low)
    ∙ ap (kept_before (low % 2) x) (separated xs ys high (low / 2) half)
    ∙ kept_append (low % 2) (at_places (low / 2) xs) (at_places high ys)
  where
    kept_append : (n : ℕ) (us vs : List Pair) → kept_before n x (us ++ vs) ≡ kept_before n x us ++ vs
    kept_append zero us vs = refl
    kept_append (suc n) us vs = refl

-- the same of a list that is cut at an index
pub cut_at_place : (S : List Pair) (k high low : ℕ) → k ≤ length S → low < 2 ^ k
    → at_places (high * 2 ^ k + low) S ≡ at_places low (take k S) ++ at_places high (drop k S)
cut_at_place S k high low l b =
    let n : length (take k S) ≡ k = length-take-le k S l in
    ap (at_places (high * 2 ^ k + low)) (cut S k l)
    ∙ ap (λ (j : ℕ). at_places (high * 2 ^ j + low) (take k S ++ drop k S)) (sym n)
    ∙ separated (take k S) (drop k S) high low (subst (λ (j : ℕ). low < 2 ^ j) (sym n) b)

-- a mask that has only indices before one
pub low_at : (S : List Pair) (k low : ℕ) → k ≤ length S → low < 2 ^ k → at_places low S ≡ at_places low (take k S)
low_at S k low l b =
    let e : low ≡ 0 * 2 ^ k + low = omega arith in
    ap (λ (m : ℕ). at_places m S) e ∙ cut_at_place S k 0 low l b
    ∙ ap (λ (z : List Pair). at_places low (take k S) ++ z) (none_at (drop k S))
    ∙ sym (append_none (at_places low (take k S)))

-- and one that has none of them
pub high_at : (S : List Pair) (k high : ℕ) → k ≤ length S → at_places (high * 2 ^ k) S ≡ at_places high (drop k S)
high_at S k high l =
    let e : high * 2 ^ k ≡ high * 2 ^ k + 0 = omega arith in
    ap (λ (m : ℕ). at_places m S) e ∙ cut_at_place S k high 0 l (pow_pos k)
    ∙ ap (λ (z : List Pair). z ++ at_places high (drop k S)) (none_at (take k S))

-- two masks, all indices of the one before all of the other
pub joined : (S : List Pair) (k high low : ℕ) → k ≤ length S → low < 2 ^ k
    → at_places (high * 2 ^ k + low) S ≡ at_places low S ++ at_places (high * 2 ^ k) S
joined S k high low l b = grind (arith, common_steps, cut_at_place, high, low, at_places, low_at, high_at)

-- the mask of one index
pub one_at : (S : List Pair) (k : ℕ) → k < length S → at_places (2 ^ k) S ≡ point_at S k ∷ []
one_at S k l =
    let e : 2 ^ k ≡ 1 * 2 ^ k = omega arith in
    ap (λ (m : ℕ). at_places m S) e ∙ high_at S k 1 (omega (arith, l))
    ∙ ap (at_places 1) (drop_more S k origin l)
    ∙ ap (λ (z : List Pair). point_at S k ∷ z) (none_at (drop (k + 1) S))

-- one more index after all others
pub pushed : (S : List Pair) (mask k : ℕ) → mask < 2 ^ k → k < length S
    → at_places (mask + 2 ^ k) S ≡ at_places mask S ++ point_at S k ∷ []
pushed S mask k b l =
    let e : mask + 2 ^ k ≡ 1 * 2 ^ k + mask = omega arith in
    let f : 1 * 2 ^ k ≡ 2 ^ k = omega arith in
    ap (λ (m : ℕ). at_places m S) e ∙ joined S k 1 mask (omega (arith, l)) b
    ∙ ap (λ (m : ℕ). at_places mask S ++ at_places m S) f
    ∙ ap (λ (z : List Pair). at_places mask S ++ z) (one_at S k l)

-- all indices
pub all_at : (S : List Pair) → at_places (2 ^ length S - 1) S ≡ S
all_at [] = refl
all_at (x ∷ xs) =
    let some = pow_pos (length xs) in
    let t = twice (length xs) in
    let odd : (2 ^ length (x ∷ xs) - 1) % 2 ≡ 1 = omega (arith, some, t) in
    let half : (2 ^ length (x ∷ xs) - 1) / 2 ≡ 2 ^ length xs - 1 = omega (arith, some, t) in
    ap (λ (z : ℕ). kept_before z x (at_places ((2 ^ length (x ∷ xs) - 1) / 2) xs)) odd
    ∙ ap (λ (z : ℕ). x ∷ at_places z xs) half ∙ ap (λ (z : List Pair). x ∷ z) (all_at xs)

-- ---- members

-- what is at the indices is in the list
pub at_among : (mask : ℕ) (S : List Pair) (t : Pair) → Contains (at_places mask S) t → Contains S t
at_among mask [] t m = m
at_among mask (x ∷ xs) t m = go (mask % 2) (at_places (mask / 2) xs) (at_among (mask / 2) xs t) m
  where
    go : (n : ℕ) (kept : List Pair) → (Contains kept t → Contains xs t) → Contains (kept_before n x kept) t
        → Contains (x ∷ xs) t
    go zero kept h m = later x t xs (h m)
    go (suc n) kept h (zero, l, e) = (0, omega arith, e)
    go (suc n) kept h (suc k, l, e) = later x t xs (h (k, omega (arith, l), e))

-- points of a set at some indices are a set
pub set_at : (mask : ℕ) (S : List Pair) → IsPointSet S → IsPointSet (at_places mask S)
set_at mask [] s = s
set_at mask (x ∷ xs) s = go (mask % 2) (set_at (mask / 2) xs (AllPairs-tail x xs s))
  where
    go : (n : ℕ) → IsPointSet (at_places (mask / 2) xs) → IsPointSet (kept_before n x (at_places (mask / 2) xs))
    go zero r = r
    go (suc n) r = AllPairs-cons x (at_places (mask / 2) xs)
        (all_of (IsBefore x) (at_places (mask / 2) xs)
        (λ t m. All-contains (IsBefore x) xs t (AllPairs-head x xs s) (at_among (mask / 2) xs t m))) r

-- the point that was read at an index
pub read_at : (S : List Pair) (i : ℕ) (p : Pair) → i < length S → p ≡ get_or S i p → p ≡ point_at S i
read_at S i p l e = e ∙ get_or_free S i p origin l

-- the first of the points at the indices of a mask, and the others
pub first_at : (S : List Pair) (mask place : ℕ) → mask % 2 ^ (place + 1) ≡ 2 ^ place → place < length S
    → at_places mask S ≡ point_at S place ∷ at_places (mask - 2 ^ place) S
first_at S mask place f l =
    let w = without_lowest mask place f in
    let low : 2 ^ place < 2 ^ (place + 1) = pow_below place (place + 1) (omega arith) in
    ap (λ (m : ℕ). at_places m S) w.2 ∙ joined S (place + 1) w.0 (2 ^ place) (omega (arith, l)) low
    ∙ ap (λ (z : List Pair). z ++ at_places (w.0 * 2 ^ (place + 1)) S) (one_at S place l)
    ∙ ap (λ (m : ℕ). point_at S place ∷ at_places m S) (sym w.1)

-- two masks, all indices of the one before all of the other, as one
pub together : (S : List Pair) (low high : ℕ) → AreApart low high → high < 2 ^ length S → low < 2 ^ length S
    → at_places (low + high) S ≡ at_places low S ++ at_places high S
together S low high (k, l, e) within lwithin = elim (cases_lt (length S) k) [
  | inl b ↦ none b
  | inr b ↦ some (omega (arith, b))
]
  where
    whole : high ≡ high / 2 ^ k * 2 ^ k
    whole = let s = div-add-mod' high (2 ^ k) in omega (arith, s, e)

    some : k ≤ length S → at_places (low + high) S ≡ at_places low S ++ at_places high S
    some b =
        let s : low + high ≡ high / 2 ^ k * 2 ^ k + low = omega (arith, whole) in
        ap (λ (m : ℕ). at_places m S) s ∙ joined S k (high / 2 ^ k) low b l
        ∙ ap (λ (m : ℕ). at_places low S ++ at_places m S) (sym whole)

    none : length S < k → at_places (low + high) S ≡ at_places low S ++ at_places high S
    none b =
        let p = pow_below (length S) k b in
        let m = mod_low 0 k high (omega (arith, within, p)) in
        let z : 0 * 2 ^ k + high ≡ high = omega arith in
        let zero_high : high ≡ 0 = sym m ∙ ap (λ (n : ℕ). n % 2 ^ k) z ∙ e in
        let s : low + high ≡ low = omega (arith, zero_high) in
        ap (λ (m : ℕ). at_places m S) s ∙ append_none (at_places low S)
        ∙ ap (λ (z : List Pair). at_places low S ++ z) (sym (none_at S) ∙ ap (λ (m : ℕ). at_places m S) (sym zero_high))

-- ---- bits

-- the point at an index whose bit is set
pub there_at : (mask : ℕ) (S : List Pair) (i : ℕ) → i < length S → bit_at mask i ≡ 1
    → Contains (at_places mask S) (point_at S i)
there_at mask [] i l e = absurd (omega (arith, l))
there_at mask (x ∷ xs) zero l e = go (mask % 2) (sym (bit_at_lowest mask) ∙ e)
  where
    go : (n : ℕ) → n ≡ 1 → Contains (kept_before n x (at_places (mask / 2) xs)) x
    go zero e = absurd (omega (arith, e))
    go (suc n) e = (0, omega arith, refl)
there_at mask (x ∷ xs) (suc i) l e =
    go (mask % 2) (there_at (mask / 2) xs i (omega (arith, l)) (sym (bit_at-suc mask i) ∙ e))
  where
    go : (n : ℕ) → Contains (at_places (mask / 2) xs) (point_at xs i)
        → Contains (kept_before n x (at_places (mask / 2) xs)) (point_at xs i)
    go zero m = m
    go (suc n) m = later x (point_at xs i) (at_places (mask / 2) xs) m

-- an index of the list at which a point is, with its bit
abbrev pub PlaceOf : ℕ → List Pair → Pair → Type 0
PlaceOf mask S t = (i : ℕ) × (i < length S) × (bit_at mask i ≡ 1) × (t ≡ point_at S i)

-- each point at the indices of a mask is at one
pub place_of : (mask : ℕ) (S : List Pair) (t : Pair) → Contains (at_places mask S) t → PlaceOf mask S t
place_of mask [] t m = absurd (omega (arith, m.1))
place_of mask (x ∷ xs) t m = go (mask % 2) (bit_at_lowest mask) (place_of (mask / 2) xs t) m
  where
    next : PlaceOf (mask / 2) xs t → PlaceOf mask (x ∷ xs) t
    next (i, l, e, f) = (suc i, omega (arith, l), bit_at-suc mask i ∙ e, f)

    bit : (n k : ℕ) → bit_at mask 0 ≡ suc n → suc n < 2 → bit_at mask 0 ≡ 1
    bit n k e l = e ∙ omega (arith, l)

    go : (n : ℕ) → bit_at mask 0 ≡ n → (Contains (at_places (mask / 2) xs) t → PlaceOf (mask / 2) xs t)
        → Contains (kept_before n x (at_places (mask / 2) xs)) t → PlaceOf mask (x ∷ xs) t
    go zero b h m = next (h m)
    go (suc n) b h (zero, l, e) =
        (0, omega arith, bit n 0 b (let k = bit_at-lt mask 0 in omega (arith, k, b)), sym e)
    go (suc n) b h (suc k, l, e) = next (h (k, omega (arith, l), e))
