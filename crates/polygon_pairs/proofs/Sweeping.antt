-- The steps of a sweep over boxes, and that it finds all pairs.
use Rattle.std.proofs.Common.{◌≡◌, ◌∙◌, ℕ, ◌+◌, ◌-◌, ◌*◌, ◌<◌, ◌≤◌, List, [], ◌∷◌, ◌++◌, length, get_or, zero, suc}
use Rattle.std.proofs.Common.{inl, inr, refl, sym, ap, subst, arith, min, max}
use Rattle.std.proofs.lemmas.Bool.{cases_lt}
use Rattle.std.proofs.lemmas.List.{length-map}
use Rattle.std.proofs.lemmas.List.Elements.{All-contains}
use Rattle.std.proofs.Math.Nat.{mul-le-mul_left}
use Rattle.std.specs.List.{All, Contains}
use Rattle.std.specs.List.Sorted.{IsNonDecreasingBy}
use denote.Ref.{Bor}
use Rattle.lattice.specs.Plane.{Pair}
use Rattle.hull_polygon.specs.Polygons.{IsShortPolygon}
use Rattle.hull_polygon.specs.declared.ranges.Length.{Length}
use Rattle.polygon_pairs.specs.Boxes.{AreBoxes, BeginsBeyond}
use Rattle.polygon_pairs.specs.Pairs.{ArePairsWithin, IsPairWithin}
use Rattle.polygon_pairs.specs.Sweeps.{pair_of, Adds, ArePairsOf, IsPairIfWithin}
use Rattle.polygon_pairs.specs.declared.boxed.Boxed.{Boxed}
use Rattle.polygon_pairs.specs.declared.pair.HullPair.{HullPair}
use Rattle.polygon_pairs.proofs.Boxes.{beyond_apart, indices_of}
use Rattle.polygon_pairs.proofs.Fronts.{adds_both}
use Rattle.polygon_pairs.proofs.Visits.{both_visited, more_visited, one_visited}

-- the box at a place; beyond the last one, one of zeros
abbrev pub box_at : List Boxed → ℕ → Boxed
box_at boxes i = get_or boxes i (record { left = 0; right = 0; bottom = 0; top = 0; index = 0 })

-- the index at a place is that of the box there
pub index_at : (boxes : List Boxed) (i : ℕ) → get_or (indices_of boxes) i 0 ≡ (box_at boxes i).index
index_at [] i = refl
index_at (b ∷ bs) zero = refl
index_at (b ∷ bs) (suc i) = index_at bs i

-- the pairs of visited places were found in addition
abbrev pub AreFound : (ℕ → ℕ → Type 0) → Length → List (Bor (List Pair)) → List Boxed → List HullPair → ℕ → List HullPair → ℕ
    → Type 0
AreFound visited r polygons boxes before count after total =
    (more : List HullPair) × Adds more before count after total × ArePairsOf visited r polygons (indices_of boxes) more

-- the pair of two places was tried
abbrev pub IsTried : Length → List (Bor (List Pair)) → ℕ → ℕ → List HullPair → ℕ → List HullPair → ℕ → Type 0
IsTried r polygons i j before count after total =
    (more : List HullPair) × Adds more before count after total × IsPairIfWithin r polygons (pair_of i j) more

-- that adds at most one
pub at_most_one : (r : Length) (polygons : List (Bor (List Pair))) (i j : ℕ) (before after : List HullPair) (count total : ℕ)
    → IsTried r polygons i j before count after total → total ≤ count + 1
at_most_one r polygons i j before after count total (more, adds, inl h) =
    let e : length more ≡ 1 = ap (λ (z : List HullPair). length z) h.1 in omega (arith, adds.counted, e)
at_most_one r polygons i j before after count total (more, adds, inr h) =
    let e : length more ≡ 0 = ap (λ (z : List HullPair). length z) h.1 in omega (arith, adds.counted, e)

-- one more place beside the one at `at`
pub next_found : (r : Length) (polygons : List (Bor (List Pair))) (boxes : List Boxed) (n at j : ℕ)
    (before mid after : List HullPair) (count total last : ℕ) → AreBoxes polygons n boxes → at < j → j < length boxes
    → AreFound (λ a b. (a ≡ at) × (b < j)) r polygons boxes before count mid total
    → IsTried r polygons (box_at boxes at).index (box_at boxes j).index mid total after last
    → AreFound (λ a b. (a ≡ at) × (b < j + 1)) r polygons boxes before count after last
next_found r polygons boxes n at j before mid after count total last h aj lj (xs, ax, px) (ys, ay, py) = (
  xs ++ ys,
  adds_both xs ys before mid after count total last ax ay,
  both_visited (λ a b. (a ≡ at) × (b < j)) (λ a b. (a ≡ at) × (b ≡ j)) (λ a b. (a ≡ at) × (b < j + 1)) r polygons
      (indices_of boxes) xs ys h.distinct (λ a b v w. omega (arith, v.1, w.1)) (λ a b v. (v.0, omega (arith, v.1)))
      (λ a b w. (w.0, omega (arith, w.1))) (λ a b u. elim (cases_lt b j) [
        | inl k ↦ inl (u.0, k)
        | inr k ↦ inr (u.0, omega (arith, k, u.1))
      ]) px
      (one_visited r polygons (indices_of boxes) at j ys aj (omega (arith, lj, long))
      (subst (λ (m : ℕ). IsPairIfWithin r polygons (pair_of m (get_or (indices_of boxes) j 0)) ys) (sym (index_at boxes at))
      (subst (λ (m : ℕ). IsPairIfWithin r polygons (pair_of (box_at boxes at).index m) ys) (sym (index_at boxes j)) py))),
)
  where
    long : length (indices_of boxes) ≡ length boxes
    long = length-map boxes (λ (b : Boxed). b.index)

-- all places beside it, if the rest is farther apart
pub rest_found : (r : Length) (polygons : List (Bor (List Pair))) (boxes : List Boxed) (at j : ℕ)
    (before after : List HullPair) (count total : ℕ)
    → ((b : ℕ) → j ≤ b → b < length boxes → ¬ IsPairWithin r polygons (pair_of (box_at boxes at).index (box_at boxes b).index))
    → AreFound (λ a b. (a ≡ at) × (b < j)) r polygons boxes before count after total
    → AreFound (λ a b. a ≡ at) r polygons boxes before count after total
rest_found r polygons boxes at j before after count total far (xs, ax, px) = (
  xs,
  ax,
  more_visited (λ a b. (a ≡ at) × (b < j)) (λ a b. a ≡ at) r polygons (indices_of boxes) xs (λ a b v. v.0)
      (λ a b ab lb w. elim (cases_lt b j) [
        | inl k ↦ inl (w, k)
        | inr k ↦ inr (λ near. far b k (omega (arith, lb, length-map boxes (λ (b : Boxed). b.index)))
            (subst (λ (m : ℕ). IsPairWithin r polygons (pair_of m (box_at boxes b).index)) (index_at boxes at)
            (subst (λ (m : ℕ). IsPairWithin r polygons (pair_of (get_or (indices_of boxes) at 0) m)) (index_at boxes b)
            (subst (λ (m : ℕ). IsPairWithin r polygons (pair_of (get_or (indices_of boxes) m 0) (get_or (indices_of boxes) b 0))) w
            near))))
      ]) px,
)

-- if one box begins beyond the length, so do those after it
pub rest_apart : (r : Length) (polygons : List (Bor (List Pair))) (boxes : List Boxed) (n at j : ℕ)
    → All (λ o. IsShortPolygon o.now) polygons → AreBoxes polygons n boxes → IsNonDecreasingBy (λ b. b.left) boxes
    → at < length boxes → BeginsBeyond r (box_at boxes at) (box_at boxes j) → (b : ℕ) → j ≤ b → b < length boxes
    → ¬ IsPairWithin r polygons (pair_of (box_at boxes at).index (box_at boxes b).index)
rest_apart r polygons boxes n at j all h sorted la beyond b jb lb =
    beyond_apart r polygons (box_at boxes at) (box_at boxes b) all (h.each at _ la) (h.each b _ lb)
    (farther (box_at boxes at).right (box_at boxes j).left (box_at boxes b).left r.numerator r.denominator
    (sorted j b _ jb lb) beyond)
  where
    farther : (o x y k d : ℕ) → x ≤ y → k < d * (x - o) → k < d * (y - o)
    farther o x y k d le h = omega (arith, h, mul-le-mul_left d (gap o x y le))
      where
        gap : (o x y : ℕ) → x ≤ y → (x - o) ≤ (y - o)
        gap o x y le = omega arith

-- all places beside one more
pub row_found : (r : Length) (polygons : List (Bor (List Pair))) (boxes : List Boxed) (n i : ℕ)
    (before mid after : List HullPair) (count total last : ℕ) → AreBoxes polygons n boxes
    → AreFound (λ a b. a < i) r polygons boxes before count mid total
    → AreFound (λ a b. a ≡ i) r polygons boxes mid total after last
    → AreFound (λ a b. a < i + 1) r polygons boxes before count after last
row_found r polygons boxes n i before mid after count total last h (xs, ax, px) (ys, ay, py) = (
  xs ++ ys,
  adds_both xs ys before mid after count total last ax ay,
  both_visited (λ a b. a < i) (λ a b. a ≡ i) (λ a b. a < i + 1) r polygons (indices_of boxes) xs ys h.distinct
      (λ a b v w. omega (arith, v, w)) (λ a b v. omega (arith, v)) (λ a b w. omega (arith, w)) (λ a b u. elim (cases_lt a i) [
        | inl k ↦ inl k
        | inr k ↦ inr (omega (arith, k, u))
      ]) px py,
)

-- all places
pub all_found : (r : Length) (polygons : List (Bor (List Pair))) (boxes : List Boxed) (i : ℕ) (before after : List HullPair)
    (count total : ℕ) → length boxes ≤ i → AreFound (λ a b. a < i) r polygons boxes before count after total
    → AreFound (λ a b. Unit {0}) r polygons boxes before count after total
all_found r polygons boxes i before after count total le (xs, ax, px) = (
  xs,
  ax,
  more_visited (λ a b. a < i) (λ a b. Unit {0}) r polygons (indices_of boxes) xs (λ a b v. tt)
      (λ a b ab lb w. inl (omega (arith, ab, lb, le, length-map boxes (λ (b : Boxed). b.index)))) px,
)

-- an element does not depend on the default for a missing one
number_free : (xs : List ℕ) (i d e : ℕ) → i < length xs → get_or xs i d ≡ get_or xs i e
number_free [] i d e l = absurd (omega (arith, l))
number_free (x ∷ xs) zero d e l = refl
number_free (x ∷ xs) (suc i) d e l = number_free xs i d e (omega (arith, l))

-- the pair of a pair's indices, in either order
pair_is : (p : HullPair) (i j : ℕ) → p.first < p.second → min i j ≡ p.first → max i j ≡ p.second → pair_of i j ≡ p
pair_is p i j l e f =
    ap (λ (n : ℕ). let q : HullPair = record { first = n; second = max i j } in q) e
    ∙ ap (λ (n : ℕ). let q : HullPair = record { first = p.first; second = n } in q) f

-- the pairs of all places are those of all polygons
pub all_pairs : (r : Length) (polygons : List (Bor (List Pair))) (boxes : List Boxed) (pairs : List HullPair)
    → AreBoxes polygons (length polygons) boxes → ArePairsOf (λ a b. Unit {0}) r polygons (indices_of boxes) pairs
    → ArePairsWithin r polygons pairs
all_pairs r polygons boxes pairs h o = record {
  once = o.distinct;
  members = λ p. (
    λ m. All-contains (IsPairWithin r polygons) pairs p o.within m,
    λ near. found p near (h.all p.first (omega (arith, near.0, near.1)) near.2.0) (h.all p.second near.1 near.2.1),
  );
}
  where
    order : List ℕ
    order = indices_of boxes

    at : (p : HullPair) (a b : ℕ) → a < b → b < length order → pair_of (get_or order a 0) (get_or order b 0) ≡ p
        → IsPairWithin r polygons p → Contains pairs p
    at p a b ab lb e near =
        subst (Contains pairs) e (o.complete a b ab lb tt (subst (IsPairWithin r polygons) (sym e) near))

    found : (p : HullPair) → IsPairWithin r polygons p → Contains order p.first → Contains order p.second → Contains pairs p
    found p near (a, la, ea) (b, lb, eb) =
        let x : get_or order a 0 ≡ p.first = number_free order a 0 p.first la ∙ ea in
        let y : get_or order b 0 ≡ p.second = number_free order b 0 p.second lb ∙ eb in
        elim (cases_lt a b) [
          | inl k ↦ at p a b k lb (pair_is p _ _ near.0 (omega (arith, x, y, near.0)) (omega (arith, x, y, near.0))) near
          | inr k ↦ elim (cases_lt b a) [
            | inl m ↦ at p b a m la (pair_is p _ _ near.0 (omega (arith, x, y, near.0)) (omega (arith, x, y, near.0))) near
            | inr m ↦
                let same : a ≡ b = omega (arith, k, m) in
                absurd (omega (arith, near.0, x, y, ap (λ (n : ℕ). get_or order n 0) same))
          ]
        ]
