-- Pairs that were sorted.
use Rattle.std.proofs.Common.{◌≡◌, ◌≢◌, ◌∙◌, false, ℕ, ◌+◌, ◌^◌, ◌<◌, ◌≤◌, List, [], ◌++◌, length, get_or, map, take}
use Rattle.std.proofs.Common.{drop, inl, inr, refl, sym, ap, subst, arith}
use Rattle.std.proofs.lemmas.Bool.{cases_lt, ne_eqb}
use Rattle.std.proofs.lemmas.Grind.{common_steps}
use Rattle.std.proofs.lemmas.List.{append-nil, get_or-map, length-map, take_all}
use Rattle.std.proofs.Math.ListN.{drop_of_length-le}
use Rattle.std.proofs.Math.Seq.{drop-append_seam, take-append_seam}
use Rattle.std.proofs.lemmas.List.Elements.{Contains-get_or}
use Rattle.std.proofs.lemmas.List.Kept.{AllPairs-from_increasing}
use Rattle.std.proofs.lemmas.List.Sorted.{Contains-permutation, IsPermutation-map, IsPermutation-sym, length_permutation}
use Rattle.std.proofs.lemmas.Map.Keys.{IsDistinct-from_apart, IsDistinct-IsPermutation, IsStrictlyIncreasing-from_distinct}
use Rattle.std.proofs.Math.Dec.{eqb}
use Rattle.std.specs.List.{All, AllAdjacentBelow, AllPairs}
use Rattle.std.specs.List.Sorted.{IsNonDecreasingBy, IsPermutation, IsStrictlyIncreasing}
use denote.Ref.{Bor}
use Rattle.lattice.specs.Plane.{Pair}
use Rattle.hull_polygon.specs.declared.ranges.Length.{Length}
use Rattle.hull_reply.specs.Encoded.{IsNumber}
use Rattle.hull_reply.specs.declared.code.Code.TheVariants as code
use Rattle.hull_reply.specs.declared.reply.HullReply.{HullReply}
use Rattle.polygon_pairs.specs.Boxes.{AreBoxes}
use Rattle.polygon_pairs.specs.Pairs.{ArePairsWithin, EncodesPairs, IsEarlier}
use Rattle.polygon_pairs.specs.Sweeps.{key_of, Adds, AreAtFront}
use Rattle.polygon_pairs.specs.declared.boxed.Boxed.{Boxed}
use Rattle.polygon_pairs.specs.declared.pair.HullPair.{HullPair}
use Rattle.polygon_pairs.proofs.Sweeping.{all_pairs, AreFound}

-- pairs with small indices are equal if their keys are
same_key : (p q : HullPair) → p.second < 2 ^ 64 → q.second < 2 ^ 64 → key_of p ≡ key_of q → p ≡ q
same_key p q lp lq e =
    let f : p.first ≡ q.first = omega (arith, e, lp, lq) in
    let s : p.second ≡ q.second = omega (arith, e, f) in
    ap (λ (n : ℕ). let z : HullPair = record { first = n; second = p.second } in z) f
    ∙ ap (λ (n : ℕ). let z : HullPair = record { first = q.first; second = n } in z) s

-- a pair with a lesser key is earlier
earlier_by_key : (p q : HullPair) → q.second < 2 ^ 64 → key_of p < key_of q → IsEarlier p q
earlier_by_key p q lq l = elim (cases_lt p.first q.first) [
  | inl k ↦ inl k
  | inr k ↦ let f : p.first ≡ q.first = omega (arith, k, l, lq) in inr (f, omega (arith, f, l))
]

-- the keys of pairs that differ differ, in any order
keys_rise : (pairs sorted : List HullPair) → All (λ p. p.second < 2 ^ 64) pairs → AllPairs (λ p q. p ≢ q) pairs
    → IsPermutation pairs sorted → IsNonDecreasingBy key_of sorted → IsStrictlyIncreasing (map key_of sorted)
keys_rise pairs sorted small differ p rise =
    IsStrictlyIncreasing-from_distinct (map key_of sorted)
    (λ i j d l m. rw (get_or-map key_of sorted i d' d (omega (arith, l, m, long)), get_or-map key_of sorted j d' d (omega (arith, m, long)))
    (rise i j d' l (omega (arith, m, long))))
    (IsDistinct-IsPermutation eqb flips (map key_of pairs) (map key_of sorted) (IsPermutation-map key_of pairs sorted p)
    (IsDistinct-from_apart eqb (map key_of pairs) apart))
  where
    d' : HullPair
    d' = record { first = 0; second = 0 }

    long : length (map key_of sorted) ≡ length sorted
    long = length-map sorted key_of

    flips : (x y : ℕ) → eqb x y ≡ eqb y x
    flips x y = grind (arith, eqb)

    apart : (i j : ℕ) (d : ℕ) → i < j → j < length (map key_of pairs)
        → eqb (get_or (map key_of pairs) i d) (get_or (map key_of pairs) j d) ≡ false
    apart i j d l m =
        let n : j < length pairs = omega (arith, m, length-map pairs key_of) in
        ne_eqb _ _ (λ e. differ i j d' l n (same_key (get_or pairs i d') (get_or pairs j d') (small i d' (omega (arith, l, n)))
        (small j d' n) (sym (get_or-map key_of pairs i d' d (omega (arith, l, n))) ∙ e ∙ get_or-map key_of pairs j d' d n)))

-- the sorted pairs are the same, each before the next
pub sorted_pairs : (r : Length) (polygons : List (Bor (List Pair))) (pairs sorted : List HullPair) → length polygons ≤ 2 ^ 64
    → ArePairsWithin r polygons pairs → IsPermutation pairs sorted → IsNonDecreasingBy key_of sorted
    → ArePairsWithin r polygons sorted × AllAdjacentBelow IsEarlier sorted (length sorted)
sorted_pairs r polygons pairs sorted few h p rise = (
  record {
    once = λ i j d l m e.
        let x : get_or (map key_of sorted) i 0 < get_or (map key_of sorted) j 0 =
        AllPairs-from_increasing (map key_of sorted) up i j 0 l (omega (arith, m, long)) in
        omega (
          arith,
          x,
          get_or-map key_of sorted i d 0 (omega (arith, l, m)) ∙ ap key_of e
              ∙ sym (get_or-map key_of sorted j d 0 m),
        );
    members = λ q. (
      λ m. (h.members q).0 (Contains-permutation sorted pairs q (IsPermutation-sym pairs sorted p) m),
      λ near. Contains-permutation pairs sorted q p ((h.members q).1 near),
    );
  },
  λ k d l. earlier_by_key (get_or sorted k d) (get_or sorted (k + 1) d) (small_sorted (k + 1) d l)
      (subst (λ (n : ℕ). n < key_of (get_or sorted (k + 1) d)) (get_or-map key_of sorted k d 0 (omega (arith, l)))
      (subst (λ (n : ℕ). get_or (map key_of sorted) k 0 < n) (get_or-map key_of sorted (k + 1) d 0 l)
      (up k (omega (arith, l, long))))),
)
  where
    long : length (map key_of sorted) ≡ length sorted
    long = length-map sorted key_of

    small : All (λ q. q.second < 2 ^ 64) pairs
    small k d l = let near = (h.members (get_or pairs k d)).0 (Contains-get_or pairs k d l) in omega (arith, near.1, few)

    small_sorted : All (λ q. q.second < 2 ^ 64) sorted
    small_sorted k d l =
        let near = (h.members (get_or sorted k d)).0
        (Contains-permutation sorted pairs (get_or sorted k d) (IsPermutation-sym pairs sorted p) (Contains-get_or sorted k d l)) in
        omega (arith, near.1, few)

    up : IsStrictlyIncreasing (map key_of sorted)
    up = keys_rise pairs sorted small h.once p rise

-- the pairs that were found, as an array has them
as_found : (more before after : List HullPair) (total : ℕ) → Adds more before 0 after total → AreAtFront before more after
as_found more before after total h = h.written before [] refl (start before)
  where
    start : (xs : List HullPair) → AreAtFront xs [] xs
    start xs = grind (arith, common_steps)

-- more pairs than the array takes
pub too_many : (r : Length) (polygons : List (Bor (List Pair))) (boxes : List Boxed) (before after : List HullPair) (total : ℕ)
    (encoded : HullReply) → AreBoxes polygons (length polygons) boxes
    → AreFound (λ a b. Unit {0}) r polygons boxes before 0 after total → length before < total
    → IsNumber code.TooSmall total encoded → EncodesPairs r polygons before after encoded
too_many r polygons boxes before after total encoded h (more, adds, found) l e =
    inl (
      more,
      all_pairs r polygons boxes more h found,
      inr (
        omega (arith, l, adds.counted),
        as_found more before after total adds
            ∙ ap (λ (z : List HullPair). take (length before) more ++ z) (drop_of_length-le before (omega (arith, l, adds.counted)))
            ∙ append-nil (take (length before) more),
        subst (λ (n : ℕ). IsNumber code.TooSmall n encoded) (omega (arith, adds.counted)) e,
      ),
    )

-- all pairs are in the array, and were sorted
pub all_in_front : (r : Length) (polygons : List (Bor (List Pair))) (boxes : List Boxed) (before mid sorted : List HullPair)
    (total : ℕ) (encoded : HullReply) → AreBoxes polygons (length polygons) boxes → length polygons ≤ 2 ^ 64
    → AreFound (λ a b. Unit {0}) r polygons boxes before 0 mid total → total ≤ length before
    → IsPermutation (take total mid) sorted → IsNonDecreasingBy key_of sorted → IsNumber code.Number total encoded
    → EncodesPairs r polygons before (sorted ++ drop total mid) encoded
all_in_front r polygons boxes before mid sorted total encoded h few (more, adds, found) l p rise e =
    inl (
      sorted,
      both.0,
      inl (
        record {
          few = omega (arith, l, long);
          in_order = both.1;
          written = ap (λ (z : List HullPair). sorted ++ z) (rest ∙ ap (λ (n : ℕ). drop n before) (sym long));
        },
        subst (λ (n : ℕ). IsNumber code.Number n encoded) (sym long) e,
      ),
    )
  where
    count : total ≡ length more
    count = omega (arith, adds.counted)

    whole : mid ≡ more ++ drop total before
    whole = as_found more before mid total adds
        ∙ ap (λ (z : List HullPair). z ++ drop (length more) before) (take_all (length before) more (omega (arith, l, count)))
        ∙ ap (λ (n : ℕ). more ++ drop n before) (sym count)

    front : take total mid ≡ more
    front = ap (λ (n : ℕ). take n mid) count ∙ ap (λ (z : List HullPair). take (length more) z) whole
        ∙ take-append_seam more (drop total before)

    rest : drop total mid ≡ drop total before
    rest = ap (λ (n : ℕ). drop n mid) count ∙ ap (λ (z : List HullPair). drop (length more) z) whole
        ∙ drop-append_seam more (drop total before)

    moved : IsPermutation more sorted
    moved = subst (λ (z : List HullPair). IsPermutation z sorted) front p

    long : length sorted ≡ total
    long = length_permutation more sorted moved ∙ sym count

    both : ArePairsWithin r polygons sorted × AllAdjacentBelow IsEarlier sorted (length sorted)
    both = sorted_pairs r polygons more sorted few (all_pairs r polygons boxes more h found) moved rise
