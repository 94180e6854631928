-- Lists that are written as a function of others.
use Rattle.std.proofs.Common.{◌≡◌, ◌∙◌, ℕ, ℤ, ◌+◌, ◌-◌, ◌<◌, ◌≤◌, ◌++◌, List, [], ◌∷◌, length, take, drop, map, set, sym, ap, subst, arith}
use Rattle.std.specs.List.{All}
use Rattle.std.proofs.lemmas.Grind.{drop_more_same}
use Rattle.std.proofs.lemmas.List.{drop_more, drop-set-lt, get_or-drop, length-set, map-append, take_more, take_more_set}
use Rattle.std.proofs.lemmas.List.Elements.{All-append, All-drop, All-map, All-take}
use Rattle.lattice.specs.Plane.{Pair, IsBefore}
use Rattle.hull_geometry.specs.Positions.{origin, point_at}
use Rattle.hull_geometry.proofs.PointLists.{get_or_free}
use Rattle.motions.specs.Motions.{moved}
use Rattle.motions.specs.declared.motion.Motion.TheVariants.{Translation}
use Rattle.polygon_arrays.specs.Moved.{IsTranslatedUpTo}

-- one more element is that of the function at one more point
pub map_more : (f : Pair → Pair) (xs ys : List Pair) (i : ℕ) (v : Pair) → i < length xs → i < length ys
    → take i ys ≡ map f (take i xs) → v ≡ f (point_at xs i) → take (i + 1) (set ys i v) ≡ map f (take (i + 1) xs)
map_more f xs ys i v l m e k =
    take_more_set ys i v m
    ∙ ap (λ (z : List Pair). z ++ v ∷ []) e
    ∙ ap (λ (z : Pair). map f (take i xs) ++ z ∷ []) k
    ∙ sym (ap (map f) (take_more xs i origin l) ∙ map-append f (take i xs) (point_at xs i ∷ []))

-- the function of the points from k on and round begins with that of the point at k
begins : (f : Pair → Pair) (xs : List Pair) (k : ℕ) → k < length xs
    → point_at (map f (drop k xs ++ take k xs)) 0 ≡ f (point_at xs k)
begins f xs k l = ap (λ (z : List Pair). point_at (map f (z ++ take k xs)) 0) (drop_more xs k origin l)

-- if no value of the function is before the one at k, none of those from k on and round is before the first of them
pub none_before_first : (f : Pair → Pair) (xs : List Pair) (k : ℕ) → k < length xs
    → ((i : ℕ) → i < length xs → ¬ IsBefore (f (point_at xs i)) (f (point_at xs k)))
    → All (λ t. ¬ IsBefore t (point_at (map f (drop k xs ++ take k xs)) 0)) (map f (drop k xs ++ take k xs))
none_before_first f xs k l h =
    subst (λ (z : Pair). All (λ t. ¬ IsBefore t z) (map f (drop k xs ++ take k xs))) (sym (begins f xs k l))
    (All-map (λ t. ¬ IsBefore t (f (point_at xs k))) f (drop k xs ++ take k xs)
    (All-append P (drop k xs) (take k xs) (All-drop P k xs each) (All-take P k xs each)))
  where
    P : Pair → Type 0
    P y = ¬ IsBefore (f y) (f (point_at xs k))

    each : All P xs
    each i d m = subst (λ (z : Pair). ¬ IsBefore (f z) (f (point_at xs k))) (get_or_free xs i origin d m) (h i m)

-- lists with the same rest have the same point where it begins
pub same_at : (xs ys : List Pair) (i : ℕ) → i < length xs → length xs ≡ length ys → drop i xs ≡ drop i ys
    → point_at xs i ≡ point_at ys i
same_at xs ys i l m e =
    let a = drop_more xs i origin l in let b = drop_more ys i origin (subst (λ (n : ℕ). i < n) m l) in cc

-- lists with the same rest have the same points in it
pub same_from : (xs ys : List Pair) (n i : ℕ) → n ≤ i → drop n xs ≡ drop n ys → point_at xs i ≡ point_at ys i
same_from xs ys n i l e =
    ap (point_at xs) (omega (arith, l)) ∙ sym (get_or-drop n xs (i - n) origin) ∙ ap (λ (z : List Pair). point_at z (i - n)) e
    ∙ get_or-drop n ys (i - n) origin ∙ ap (point_at ys) (omega (arith, l))

-- one more point of a list is replaced by the function of it
pub replaced : (f : Pair → Pair) (old now : List Pair) (i : ℕ) (v : Pair) → i < length now → length now ≡ length old
    → take i now ≡ map f (take i old) → drop i now ≡ drop i old → v ≡ f (point_at now i)
    → take (i + 1) (set now i v) ≡ map f (take (i + 1) old)
replaced f old now i v l m e r k =
    map_more f old now i v (subst (λ (n : ℕ). i < n) m l) l e (k ∙ ap f (same_at now old i l m r))

-- one more point of a list is translated
pub one_more_translated : (dx dy : ℤ) (old now : List Pair) (i : ℕ) (v : Pair) → i < length now → IsTranslatedUpTo dx dy i old now
    → v ≡ moved (Translation dx dy) (point_at now i) → IsTranslatedUpTo dx dy (i + 1) old (set now i v)
one_more_translated dx dy old now i v l h k = record {
  long = length-set now i v ∙ h.long;
  front = replaced (moved (Translation dx dy)) old now i v l h.long h.front h.rest k;
  rest = drop-set-lt (i + 1) now i v (omega arith) ∙ drop_more_same now old i h.rest;
}
