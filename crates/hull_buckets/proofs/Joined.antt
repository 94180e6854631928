-- The chain of points by vertices at both ends: those that stay if a list is cut, or loses a point.
use Rattle.std.proofs.Common.{◌≡◌, ℕ, ◌+◌, ◌-◌, ◌*◌, ◌%◌, ◌/◌, ◌^◌, ◌<◌, ◌≤◌, ◌⊎◌, inl, inr, sym, ap, ◌∙◌, subst, arith, refl, zero, suc}
use Rattle.std.proofs.Common.{List, [], ◌∷◌, ◌++◌, length, take, drop, length-append}
use Rattle.std.proofs.lemmas.List.{length-take-le}
use Rattle.std.proofs.lemmas.List.Elements.{All-head, All-tail, All-contains, Contains-append_cases}
use Rattle.std.proofs.lemmas.List.Elements.{Contains-append_left, Contains-append_right}
use Rattle.std.proofs.lemmas.Bool.{cases_lt, cases_order}
use Rattle.std.proofs.lemmas.Nat.{shr_split, shr_below, mod_below, mod_low, pow_pos, pow-add}
use Rattle.std.proofs.lemmas.Nat.Bits.{bit_at_mask_inside}
use Rattle.std.specs.List.{All, Contains}
use Rattle.lattice.specs.Covers.{IsPointSet}
use Rattle.lattice.specs.Plane.{Pair, IsBefore}
use Rattle.lattice.specs.declared.side.Side.{Side}
use Rattle.lattice.proofs.Order.{before_irrefl, before_not, before_trans}
use Rattle.hull_geometry.specs.Monotone.{IsChainOf, IsInner, IsInnerFrom, IsConvex, EndsWith}
use Rattle.hull_geometry.proofs.Passes.{ends_cut, inner_cut}
use Rattle.hull_geometry.proofs.Passes.{convex_left, convex_right}
use Rattle.hull_geometry.specs.Positions.{point_at, origin}
use Rattle.hull_geometry.proofs.PointLists.{AllPairs-head, all_of, append_none, cut, get_or_free, only_member}
use Rattle.hull_geometry.proofs.PointSets.{set_apart, set_left, set_right}
use Rattle.hull_buckets.specs.Buckets.{AreEnds, IsAmid, IsMaskOf}
use Rattle.hull_buckets.specs.Masks.{at_places, IsGap}
use Rattle.hull_buckets.proofs.Ends.{last_at}
use Rattle.hull_buckets.proofs.Places.{at_among, first_at, none_at, separated, there_at}

-- ---- inner to lists in a row

-- all points of a set in order but the last are before it
before_end : (xs : List Pair) (d u : Pair) → IsPointSet xs → EndsWith d xs → Contains xs u → (u ≡ d) ⊎ IsBefore u d
before_end xs d u s e m =
    let w = ends_cut d xs e in
    elim (Contains-append_cases w.0 (d ∷ []) u (subst (λ (z : List Pair). Contains z u) w.1 m)) [
      | inl k ↦ inr (set_apart w.0 (d ∷ []) u d (subst IsPointSet w.1 s) k (0, omega arith, refl))
      | inr k ↦ inl (only_member d u k)
    ]

-- a point of a list is its first one, or a later one
pub first_or_later : (y : Pair) (rest : List Pair) (u : Pair) → Contains (y ∷ rest) u → (u ≡ y) ⊎ Contains rest u
first_or_later y rest u (zero, l, e) = inl (sym e)
first_or_later y rest u (suc i, l, e) = inr (i, omega (arith, l), e)

-- what is inner to two concatenated lists is inner to one, or between them
pub inner_of_two : (side : Side) (xs ys : List Pair) (t : Pair) → IsPointSet (xs ++ ys) → IsInner side (xs ++ ys) t
    → IsInner side xs t ⊎ (IsInner side ys t ⊎ IsAmid xs ys t)
inner_of_two side xs [] t s k = inl (subst (λ (z : List Pair). IsInner side z t) (sym (append_none xs)) k)
inner_of_two side xs (y ∷ rest) t s k = elim (inner_cut side xs y rest t k) [
  | inl i ↦ inl i
  | inr (inl i) ↦ inr (inr (
    all_of (λ u. IsBefore u t) xs
        (λ u m. elim (before_end xs i.0 u (set_left xs (y ∷ rest) s) i.1 m) [
          | inl e ↦ subst (λ z. IsBefore z t) (sym e) i.2.0
          | inr b ↦ before_trans u i.0 t b i.2.0
        ]),
    all_of (IsBefore t) (y ∷ rest)
        (λ u m. elim (first_or_later y rest u m) [
          | inl e ↦ subst (IsBefore t) (sym e) i.2.1
          | inr n ↦ before_trans t y u i.2.1
              (All-contains (IsBefore y) rest u (AllPairs-head y rest (set_right xs (y ∷ rest) s)) n)
        ]),
  ))
  | inr (inr i) ↦ inr (inl i)
]

-- nothing is inner to points that are all after it
before_from : (side : Side) (a : Pair) (xs : List Pair) (t : Pair) → IsInnerFrom side a xs t → IsBefore t a
    → All (IsBefore t) xs → ⊥
before_from side a [] t k b h = elim k [ ]
before_from side a (y ∷ ys) t (inl e) b h =
    before_irrefl y (subst (λ z. IsBefore z y) e (All-head (IsBefore t) y ys h))
before_from side a (y ∷ ys) t (inr (inl k)) b h = before_not t a b k.0
before_from side a (y ∷ ys) t (inr (inr k)) b h =
    before_from side y ys t k (All-head (IsBefore t) y ys h) (All-tail (IsBefore t) y ys h)

pub none_of_later : (side : Side) (xs : List Pair) (t : Pair) → IsInner side xs t → All (IsBefore t) xs → ⊥
none_of_later side [] t k h = elim k [ ]
none_of_later side (x ∷ xs) t (inl e) h =
    before_irrefl x (subst (λ z. IsBefore z x) e (All-head (IsBefore t) x xs h))
none_of_later side (x ∷ xs) t (inr k) h =
    before_from side x xs t k (All-head (IsBefore t) x xs h) (All-tail (IsBefore t) x xs h)

-- nor to points that are all before it
after_from : (side : Side) (a : Pair) (xs : List Pair) (t : Pair) → IsInnerFrom side a xs t
    → All (λ u. IsBefore u t) xs → ⊥
after_from side a [] t k h = elim k [ ]
after_from side a (y ∷ ys) t (inl e) h =
    before_irrefl y (subst (IsBefore y) e (All-head (λ u. IsBefore u t) y ys h))
after_from side a (y ∷ ys) t (inr (inl k)) h = before_not y t (All-head (λ u. IsBefore u t) y ys h) k.1
after_from side a (y ∷ ys) t (inr (inr k)) h = after_from side y ys t k (All-tail (λ u. IsBefore u t) y ys h)

pub none_of_earlier : (side : Side) (xs : List Pair) (t : Pair) → IsInner side xs t → All (λ u. IsBefore u t) xs → ⊥
none_of_earlier side [] t k h = elim k [ ]
none_of_earlier side (x ∷ xs) t (inl e) h =
    before_irrefl x (subst (IsBefore x) e (All-head (λ u. IsBefore u t) x xs h))
none_of_earlier side (x ∷ xs) t (inr k) h = after_from side x xs t k (All-tail (λ u. IsBefore u t) x xs h)

-- ---- the indices between

-- a power without a lower one is a multiple of that
pub gap_apart : (start end : ℕ) → start ≤ end → (2 ^ end - 2 ^ start) % 2 ^ start ≡ 0
gap_apart start end o =
    let d : end - start + start ≡ end = omega (arith, o) in
    let p : 2 ^ end ≡ 2 ^ (end - start) * 2 ^ start = sym (ap (λ (z : ℕ). 2 ^ z) d) ∙ pow-add 2 (end - start) start in
    let some = pow_pos (end - start) in
    let e : 2 ^ end - 2 ^ start ≡ (2 ^ (end - start) - 1) * 2 ^ start + 0 =
    ap (λ (z : ℕ). z - 2 ^ start) p ∙ less (2 ^ (end - start)) (2 ^ start) some in
    ap (λ (z : ℕ). z % 2 ^ start) e ∙ mod_low (2 ^ (end - start) - 1) start 0 (pow_pos start)
  where
    less : (a b : ℕ) → 0 < a → a * b - b ≡ (a - 1) * b + 0
    less zero b l = elim l [ ]
    less (suc a) b l = grind arith

-- a point of the list that is after all points of one mask and before all of another is at an index between them
pub all_between : (T : List Pair) (low high mask : ℕ) (t : Pair) → IsPointSet T → IsGap low high (length T) mask
    → high < 2 ^ length T → Contains T t → All (λ u. IsBefore u t) (at_places low T)
    → All (IsBefore t) (at_places high T)
    → Contains (at_places mask T) t
all_between T low high mask t s g hw (i, l, e) after before =
    subst (λ (m : ℕ). Contains (at_places m T) t) (sym g.is)
    (subst (Contains (at_places (2 ^ g.end - 2 ^ g.start) T)) here
    (there_at (2 ^ g.end - 2 ^ g.start) T i l (bit_at_mask_inside g.start g.end i from to)))
  where
    here : point_at T i ≡ t
    here = get_or_free T i origin _ l ∙ e

    in_order : (j k : ℕ) → j < k → k < length T → IsBefore (point_at T j) (point_at T k)
    in_order j k b m = s j k origin b m

    from : g.start ≤ i
    from = elim g.next [
      | inl z ↦ omega (arith, z)
      | inr z ↦ elim (cases_lt i g.start) [
        | inr b ↦ omega (arith, b)
        | inl b ↦ absurd (in_front z b)
      ]
    ]
      where
        in_front : 2 ^ (g.start - 1) ≤ low → i < g.start → ⊥
        in_front z b =
            let within : g.start - 1 < length T = omega (arith, b, g.order, g.within) in
            let up : low < 2 ^ (g.start - 1 + 1) = subst (λ (n : ℕ). low < 2 ^ n) (omega (arith, b)) g.low_before in
            let last = last_at T low (g.start - 1) z up within in
            let m : Contains (at_places low T) (point_at T (g.start - 1)) =
            subst (λ (z : List Pair). Contains z (point_at T (g.start - 1))) (sym last)
            (Contains-append_right (at_places (low - 2 ^ (g.start - 1)) T) (point_at T (g.start - 1) ∷ [])
            (point_at T (g.start - 1)) (0, omega arith, refl)) in
            let f : IsBefore (point_at T (g.start - 1)) (point_at T i) =
            subst (IsBefore (point_at T (g.start - 1))) (sym here)
            (All-contains (λ u. IsBefore u t) (at_places low T) (point_at T (g.start - 1)) after m) in
            elim (cases_order i (g.start - 1)) [
              | inl q ↦ before_irrefl (point_at T i) (subst (λ (n : ℕ). IsBefore (point_at T n) (point_at T i)) (sym q)
                  f)
              | inr (inl q) ↦ before_irrefl (point_at T i)
                  (before_trans (point_at T i) (point_at T (g.start - 1)) (point_at T i)
                  (in_order i (g.start - 1) q within) f)
              | inr (inr q) ↦ omega (arith, q, b)
            ]

    to : i < g.end
    to = elim g.last [
      | inl z ↦ omega (arith, z, l)
      | inr z ↦ elim (cases_lt i g.end) [
        | inl b ↦ b
        | inr b ↦ absurd (ahead_first z b)
      ]
    ]
      where
        ahead_first : high % 2 ^ (g.end + 1) ≡ 2 ^ g.end → g.end ≤ i → ⊥
        ahead_first z b =
            let first = first_at T high g.end z (omega (arith, b, l)) in
            let m : Contains (at_places high T) (point_at T g.end) =
            subst (λ (z : List Pair). Contains z (point_at T g.end)) (sym first) (0, omega arith, refl) in
            let f : IsBefore (point_at T i) (point_at T g.end) =
            subst (λ (z : Pair). IsBefore z (point_at T g.end)) (sym here)
            (All-contains (IsBefore t) (at_places high T) (point_at T g.end) before m) in
            elim (cases_order i g.end) [
              | inl q ↦ before_irrefl (point_at T i) (subst (λ (n : ℕ). IsBefore (point_at T i) (point_at T n)) (sym q)
                  f)
              | inr (inl q) ↦ omega (arith, q, b)
              | inr (inr q) ↦ before_irrefl (point_at T i)
                  (before_trans (point_at T i) (point_at T g.end) (point_at T i) f (in_order g.end i q l))
            ]

-- ---- a list that is cut

-- points in order and the mask of their chain, cut at an index
module _ (side : Side) (S : List Pair) (old k : ℕ) (s : IsPointSet S) (l : k < length S) (mask : IsMaskOf side S old) where
  -- the vertices before it, and those from it on
  abbrev left : List Pair
  left = at_places (old % 2 ^ k) (take k S)

  abbrev right : List Pair
  right = at_places (old / 2 ^ k) (drop k S)

  parts : S ≡ take k S ++ drop k S
  parts = cut S k (omega (arith, l))

  in_row : IsPointSet (take k S ++ drop k S)
  in_row = subst IsPointSet parts s

  count : length (take k S) ≡ k
  count = length-take-le k S (omega (arith, l))

  low_within : old % 2 ^ k < 2 ^ length (take k S)
  low_within = subst (λ (j : ℕ). old % 2 ^ k < 2 ^ j) (sym count) (mod_below old (2 ^ k) (pow_pos k))

  chain_is : at_places old S ≡ left ++ right
  chain_is = ap (at_places old) parts
      ∙ ap (λ (m : ℕ). at_places m (take k S ++ drop k S)) (sym (shr_split old k))
      ∙ ap (λ (j : ℕ). at_places (old / 2 ^ k * 2 ^ j + old % 2 ^ k) (take k S ++ drop k S)) (sym count)
      ∙ separated (take k S) (drop k S) (old / 2 ^ k) (old % 2 ^ k) low_within

  whole : IsChainOf side S (left ++ right)
  whole = subst (IsChainOf side S) chain_is mask.chain

  no_place : (m : ℕ) → 0 % 2 ^ m ≡ 0
  no_place m = let z : 0 ≡ 0 * 2 ^ m + 0 = omega arith in ap (λ (n : ℕ). n % 2 ^ m) z ∙ mod_low 0 m 0 (pow_pos m)

  -- the vertices before it are the ends of the points before it
  pub ends_before : AreEnds side (take k S) (old % 2 ^ k) 0
  ends_before = record {
    apart = (k, mod_below old (2 ^ k) (pow_pos k), no_place k);
    low_within = low_within;
    high_within = pow_pos (length (take k S));
    low_convex = convex_left side left right whole.strict.convex;
    high_convex = subst (IsConvex side) (sym (none_at (take k S))) tt;
    others = λ t m. elim (inner_of_two side left right t whole.strict.ordered
        (whole.inner t (subst (λ (z : List Pair). Contains z t) (sym parts)
        (Contains-append_left (take k S) (drop k S) t m)))) [
          | inl i ↦ inl i
          | inr (inl i) ↦ absurd (none_of_later side right t i (all_of (IsBefore t) right
              (λ u n. set_apart (take k S) (drop k S) t u in_row m (at_among (old / 2 ^ k) (drop k S) u n))))
          | inr (inr a) ↦ inr (inr (
            a.0,
            subst (All (IsBefore t)) (sym (none_at (take k S))) (λ j d b. absurd (omega (arith, b))),
          ))
        ];
  }

  -- and those from it on are the ends of the points from it on
  pub ends_from : AreEnds side (drop k S) 0 (old / 2 ^ k)
  ends_from = record {
    apart = (0, omega arith, first);
    low_within = pow_pos (length (drop k S));
    high_within = shr_below old (length (drop k S)) k
        (subst (λ (j : ℕ). old < 2 ^ j) (let n = ap (λ (z : List Pair). length z) parts in
        let a = length-append (take k S) (drop k S) in omega (arith, n, a, count)) mask.within);
    low_convex = subst (IsConvex side) (sym (none_at (drop k S))) tt;
    high_convex = convex_right side left right whole.strict.convex;
    others = λ t m. elim (inner_of_two side left right t whole.strict.ordered
        (whole.inner t (subst (λ (z : List Pair). Contains z t) (sym parts)
        (Contains-append_right (take k S) (drop k S) t m)))) [
          | inl i ↦ absurd (none_of_earlier side left t i (all_of (λ u. IsBefore u t) left
              (λ u n. set_apart (take k S) (drop k S) u t in_row (at_among (old % 2 ^ k) (take k S) u n) m)))
          | inr (inl i) ↦ inr (inl i)
          | inr (inr a) ↦ inr (inr (
            subst (All (λ u. IsBefore u t)) (sym (none_at (drop k S))) (λ j d b. absurd (omega (arith, b))),
            a.1,
          ))
        ];
  }
    where
      first : (old / 2 ^ k) % 2 ^ 0 ≡ 0
      first = let z : old / 2 ^ k ≡ old / 2 ^ k * 2 ^ 0 + 0 = omega arith in
          ap (λ (n : ℕ). n % 2 ^ 0) z ∙ mod_low (old / 2 ^ k) 0 0 (pow_pos 0)
