-- Boxes: what keeps them those of the polygons, and how far apart polygons are whose boxes are apart.
use Rattle.std.proofs.Common.{◌≡◌, ◌≢◌, ◌∙◌, ℕ, ◌+◌, ◌-◌, ◌*◌, ◌<◌, ◌≤◌, ℤ, pos, ◌+ℤ◌, ◌≤ℤ◌, neg_ℤ, List, [], ◌∷◌}
use Rattle.std.proofs.Common.{◌++◌, length, get_or, map, zero, suc, inl, inr, sym, ap, subst, arith, min, max}
use Rattle.std.proofs.lemmas.Bool.{cases_lt, eqb-false, ne_eqb}
use Rattle.std.proofs.lemmas.Int.{ints}
use Rattle.std.proofs.lemmas.List.{length-append, map-append}
use Rattle.std.proofs.lemmas.List.Elements.{All-append, All-cons, All-contains, Contains-append_left, Contains-append_right}
use Rattle.std.proofs.lemmas.List.Quantifiers.{all_pairs_push}
use Rattle.std.proofs.lemmas.List.Sorted.{All-permutation, Contains-permutation, IsPermutation-map, length_permutation}
use Rattle.std.proofs.lemmas.Map.Keys.{IsDistinct-from_apart, IsDistinct-IsPermutation, apart_from_distinct}
use Rattle.std.proofs.Math.Dec.{eqb}
use Rattle.std.specs.List.{All, AllPairs, Contains}
use Rattle.std.specs.List.Sorted.{IsPermutation}
use denote.Ref.{Bor}
use Rattle.lattice.specs.Plane.{Pair, product}
use Rattle.lattice.proofs.Order.{same_pair}
use Rattle.hull_polygon.specs.Boxes.{IsBox}
use Rattle.hull_polygon.specs.Closest.{IsDistance}
use Rattle.hull_polygon.specs.Polygons.{IsPolygonOf, IsShortPolygon}
use Rattle.hull_polygon.specs.Ranges.{IsNoFarther}
use Rattle.hull_polygon.specs.declared.distance.Distance.{Distance}
use Rattle.hull_polygon.specs.declared.ranges.Length.{Length}
use Rattle.polygon_pairs.specs.Boxes.{side_at, AreAcross, AreBoxes, BeginsBeyond, IsBoxAmong}
use Rattle.polygon_pairs.specs.Pairs.{polygon_at, AreWithin, IsPairWithin}
use Rattle.polygon_pairs.specs.Sweeps.{pair_of}
use Rattle.polygon_pairs.specs.declared.boxed.Boxed.{Boxed}
use Rattle.polygon_pairs.specs.declared.pair.HullPair.{HullPair}
use Rattle.polygon_pairs.proofs.WithinLength.{not_within}
use Rattle.polygon_pairs.proofs.Strips.{opposite, IsStrip, reversed, too_far, opposite_long, opposite_way}

-- ---- the list of boxes

-- a box by its sides
pub by_sides : (S : List Pair) (p q : Pair) (l b r t : ℤ) → l ≡ p.x → b ≡ p.y → r ≡ q.x → t ≡ q.y → IsBox S p q
    → IsBox S (record { x = l; y = b }) (record { x = r; y = t })
by_sides S p q l b r t el eb er et h =
    subst (λ (z : Pair). IsBox S z (record { x = r; y = t })) (sym (same_pair (record { x = l; y = b }) p el eb))
    (subst (IsBox S p) (sym (same_pair (record { x = r; y = t }) q er et)) h)

-- the indices of boxes
abbrev pub indices_of : List Boxed → List ℕ
indices_of boxes = map (λ b. b.index) boxes

-- no polygon, no box
pub no_boxes : (polygons : List (Bor (List Pair))) → AreBoxes polygons 0 []
no_boxes polygons = record {
  each = λ k d l. absurd (omega (arith, l));
  all = λ i l some. absurd (omega (arith, l));
  few = omega arith;
  distinct = λ i j d l m. absurd (omega (arith, m));
}

-- a polygon without vertices has none
pub skip_box : (polygons : List (Bor (List Pair))) (i : ℕ) (boxes : List Boxed) → length (polygon_at polygons i) ≡ 0
    → AreBoxes polygons i boxes → AreBoxes polygons (i + 1) boxes
skip_box polygons i boxes e h = record {
  each = h.each;
  all = λ k l some. elim (cases_lt k i) [
    | inl m ↦ h.all k m some
    | inr m ↦
        let at : k ≡ i = omega (arith, l, m) in
        absurd (omega (arith, e, subst (λ (n : ℕ). 0 < length (polygon_at polygons n)) at some))
  ];
  few = omega (arith, h.few);
  distinct = h.distinct;
}

-- one more box
pub one_box : (polygons : List (Bor (List Pair))) (i : ℕ) (boxes : List Boxed) (b : Boxed) → IsBoxAmong polygons b → b.index ≡ i
    → All (λ n. n < i) (indices_of boxes) → AreBoxes polygons i boxes → AreBoxes polygons (i + 1) (boxes ++ b ∷ [])
one_box polygons i boxes b here at below h = record {
  each = All-append (IsBoxAmong polygons) boxes (b ∷ []) h.each
      (All-cons (IsBoxAmong polygons) b [] here (λ k d l. absurd (omega (arith, l))));
  all = λ k l some. subst (λ (z : List ℕ). Contains z k) (sym both) (elim (cases_lt k i) [
    | inl m ↦ Contains-append_left (indices_of boxes) (b.index ∷ []) k (h.all k m some)
    | inr m ↦ Contains-append_right (indices_of boxes) (b.index ∷ []) k (0, omega arith, omega (arith, at, l, m))
  ]);
  few = omega (arith, h.few, length-append boxes (b ∷ []));
  distinct = subst (AllPairs (λ m n. m ≢ n)) (sym both)
      (all_pairs_push (λ m n. m ≢ n) (indices_of boxes) b.index h.distinct
      (λ k d l e. let x : get_or (indices_of boxes) k d < i = below k d l in omega (arith, at, e, x)));
}
  where
    both : indices_of (boxes ++ b ∷ []) ≡ indices_of boxes ++ b.index ∷ []
    both = map-append (λ (b : Boxed). b.index) boxes (b ∷ [])

-- the indices are below the number of polygons so far
pub below_next : (boxes : List Boxed) (i : ℕ) → All (λ n. n < i) (indices_of boxes) → All (λ n. n < i + 1) (indices_of boxes)
below_next boxes i h k d l = let x : get_or (indices_of boxes) k d < i = h k d l in omega (arith, x)

-- also with one more box
pub below_more : (boxes : List Boxed) (i : ℕ) (b : Boxed) → b.index ≡ i → All (λ n. n < i) (indices_of boxes)
    → All (λ n. n < i + 1) (indices_of (boxes ++ b ∷ []))
below_more boxes i b at below =
    subst (All (λ n. n < i + 1)) (sym (map-append (λ (b : Boxed). b.index) boxes (b ∷ [])))
    (All-append (λ n. n < i + 1) (indices_of boxes) (b.index ∷ []) (below_next boxes i below)
    (All-cons (λ n. n < i + 1) b.index [] (omega (arith, at)) (λ k d l. absurd (omega (arith, l)))))

-- boxes in another order are still those of the polygons
pub other_order : (polygons : List (Bor (List Pair))) (n : ℕ) (xs ys : List Boxed) → IsPermutation xs ys → AreBoxes polygons n xs
    → AreBoxes polygons n ys
other_order polygons n xs ys p h = record {
  each = All-permutation (IsBoxAmong polygons) xs ys p h.each;
  all = λ i l some. Contains-permutation (indices_of xs) (indices_of ys) i moved (h.all i l some);
  few = omega (arith, h.few, length_permutation xs ys p);
  distinct = λ i j d l m. eqb-false _ _ (apart_from_distinct eqb (indices_of ys) i j d
      (IsDistinct-IsPermutation eqb flips (indices_of xs) (indices_of ys) moved
      (IsDistinct-from_apart eqb (indices_of xs) (λ i j d l m. ne_eqb _ _ (h.distinct i j d l m)))) l m);
}
  where
    moved : IsPermutation (indices_of xs) (indices_of ys)
    moved = IsPermutation-map (λ (b : Boxed). b.index) xs ys p

    flips : (x y : ℕ) → eqb x y ≡ eqb y x
    flips x y = grind (arith, eqb)

-- ---- boxes that are apart

-- the strip between a set and another that begins farther in a direction
side_strip : (n : Pair) (S T : List Pair) (high low : ℕ) → All (λ t. product n t ≤ℤ side_at high) S
    → All (λ t. side_at low ≤ℤ product n t) T → high ≤ low → IsStrip n (side_at high) (pos (low - high)) S T
side_strip n S T high low before beyond le = record {
  wide = omega (arith, ints);
  before = λ s m. All-contains (λ t. product n t ≤ℤ side_at high) S s before m;
  beyond = λ t m. over high low (product n t) le (All-contains (λ t. side_at low ≤ℤ product n t) T t beyond m);
}
  where
    over : (high low : ℕ) (x : ℤ) → high ≤ low → side_at low ≤ℤ x → (side_at high +ℤ pos (low - high)) ≤ℤ x
    over high low x le h = omega (arith, ints)

-- a positive gap between two sides
some_gap : (r : Length) (high low : ℕ) → r.numerator < r.denominator * (low - high) → high ≤ low
some_gap r high low h = elim (cases_lt high low) [
  | inl l ↦ omega (arith, l)
  | inr l ↦ let e : low - high ≡ 0 = omega (arith, l) in absurd (none r.denominator (low - high) r.numerator e h)
]
  where
    none : (d g k : ℕ) → g ≡ 0 → k < d * g → ⊥
    none d g k e h = omega (arith, subst (λ (z : ℕ). k < d * z) e h)

-- sets with such a gap are farther apart than the length, each as the first
gap_far : (r : Length) (n : Pair) (S T : List Pair) (high low : ℕ) (found : Distance) → product n n ≡ pos 1
    → All (λ t. product n t ≤ℤ side_at high) S → All (λ t. side_at low ≤ℤ product n t) T
    → r.numerator < r.denominator * (low - high) → IsDistance S T found → ¬ IsNoFarther found r
gap_far r n S T high low found one before beyond wider m =
    too_far r n (side_at high) (pos (low - high)) S T found one (side_strip n S T high low before beyond (some_gap r high low wider))
    (omega (arith, ints, wider)) m

gap_far_back : (r : Length) (n : Pair) (S T : List Pair) (high low : ℕ) (found : Distance) → product n n ≡ pos 1
    → All (λ t. product n t ≤ℤ side_at high) S → All (λ t. side_at low ≤ℤ product n t) T
    → r.numerator < r.denominator * (low - high) → IsDistance T S found → ¬ IsNoFarther found r
gap_far_back r n S T high low found one before beyond wider m =
    too_far r (opposite n) (neg_ℤ (side_at high +ℤ pos (low - high))) (pos (low - high)) T S found (opposite_long n ∙ one)
    (reversed n (opposite n) (side_at high) (pos (low - high)) S T (opposite_way n)
    (side_strip n S T high low before beyond (some_gap r high low wider)))
    (omega (arith, ints, wider)) m

-- the directions along the axes
abbrev right : Pair
right = record { x = pos 1; y = pos 0 }

abbrev up : Pair
up = record { x = pos 0; y = pos 1 }

along_right : (t : Pair) → product right t ≡ t.x
unfolding product
along_right t = omega (arith, ints)

along_up : (t : Pair) → product up t ≡ t.y
unfolding product
along_up t = omega (arith, ints)

right_long : product right right ≡ pos 1
right_long = along_right right

up_long : product up up ≡ pos 1
up_long = along_up up

-- a gap between two polygons: in a direction as long as 1, all of the one is before it, and all of the other beyond it
record HasGap (r : Length) (V W : List Pair) : Type 0 where
  n : Pair
  high : ℕ
  low : ℕ
  long : product n n ≡ pos 1
  before : (S : List Pair) → IsPolygonOf S V → All (λ t. product n t ≤ℤ side_at high) S
  beyond : (T : List Pair) → IsPolygonOf T W → All (λ t. side_at low ≤ℤ product n t) T
  wider : r.numerator < r.denominator * (low - high)

-- polygons with such a gap are not within the length, whichever is the first
gap_apart : (r : Length) (V W : List Pair) → IsShortPolygon V → IsShortPolygon W → HasGap r V W → ¬ AreWithin r V W
gap_apart r V W hv hw g =
    not_within r V W hv hw (λ S T o q found m. gap_far r g.n S T g.high g.low found g.long (g.before S o) (g.beyond T q) g.wider m)

gap_apart_back : (r : Length) (V W : List Pair) → IsShortPolygon V → IsShortPolygon W → HasGap r V W → ¬ AreWithin r W V
gap_apart_back r V W hv hw g =
    not_within r W V hw hv
    (λ T S q o found m. gap_far_back r g.n S T g.high g.low found g.long (g.before S o) (g.beyond T q) g.wider m)

-- the polygon at an index below their number is one
pub polygon_is : (polygons : List (Bor (List Pair))) (i : ℕ) → All (λ o. IsShortPolygon o.now) polygons → i < length polygons
    → IsShortPolygon (polygon_at polygons i)
polygon_is [] i h l = absurd (omega (arith, l))
polygon_is (o ∷ os) zero h l = h 0 o (omega arith)
polygon_is (o ∷ os) (suc i) h l =
    polygon_is os i (λ k d m. h (suc k) d (omega (arith, m))) (omega (arith, l))

-- the polygons of two boxes with a gap between them are no pair
pair_apart : (r : Length) (polygons : List (Bor (List Pair))) (b c : Boxed) → All (λ o. IsShortPolygon o.now) polygons
    → IsBoxAmong polygons b → IsBoxAmong polygons c → HasGap r (polygon_at polygons b.index) (polygon_at polygons c.index)
    → ¬ IsPairWithin r polygons (pair_of b.index c.index)
pair_apart r polygons b c all hb hc g near = elim (cases_lt b.index c.index) [
  | inl l ↦
      gap_apart r V W (polygon_is polygons b.index all hb.0) (polygon_is polygons c.index all hc.0) g
      (subst (λ (n : ℕ). AreWithin r (polygon_at polygons n) W) (omega (arith, l))
      (subst (λ (n : ℕ). AreWithin r (polygon_at polygons (min b.index c.index)) (polygon_at polygons n)) (omega (arith, l)) near.2))
  | inr l ↦
      gap_apart_back r V W (polygon_is polygons b.index all hb.0) (polygon_is polygons c.index all hc.0) g
      (subst (λ (n : ℕ). AreWithin r (polygon_at polygons n) V) (omega (arith, l))
      (subst (λ (n : ℕ). AreWithin r (polygon_at polygons (min b.index c.index)) (polygon_at polygons n)) (omega (arith, l)) near.2))
]
  where
    V : List Pair
    V = polygon_at polygons b.index

    W : List Pair
    W = polygon_at polygons c.index

-- the order of two indices does not matter
pair_swap : (i j : ℕ) → pair_of i j ≡ pair_of j i
pair_swap i j =
    ap (λ (n : ℕ). let p : HullPair = record { first = n; second = max i j } in p) (omega arith)
    ∙ ap (λ (n : ℕ). let p : HullPair = record { first = min j i; second = n } in p) (omega arith)

-- so are those of a box and one that begins farther right of it than the length
pub beyond_apart : (r : Length) (polygons : List (Bor (List Pair))) (b c : Boxed) → All (λ o. IsShortPolygon o.now) polygons
    → IsBoxAmong polygons b → IsBoxAmong polygons c → BeginsBeyond r b c → ¬ IsPairWithin r polygons (pair_of b.index c.index)
beyond_apart r polygons b c all hb hc wider =
    pair_apart r polygons b c all hb hc record {
      n = right;
      high = b.right;
      low = c.left;
      long = right_long;
      before = λ S o k d l. rw along_right ((hb.1.1 S o).to_right k d l);
      beyond = λ T q k d l. rw along_right ((hc.1.1 T q).from_left k d l);
      wider = wider;
    }

-- the gap below a box that is farther above another than the length
above : (r : Length) (polygons : List (Bor (List Pair))) (b c : Boxed) → IsBoxAmong polygons b → IsBoxAmong polygons c
    → r.numerator < r.denominator * (c.bottom - b.top) → HasGap r (polygon_at polygons b.index) (polygon_at polygons c.index)
above r polygons b c hb hc wider = record {
  n = up;
  high = b.top;
  low = c.bottom;
  long = up_long;
  before = λ S o k d l. rw along_up ((hb.1.1 S o).to_above k d l);
  beyond = λ T q k d l. rw along_up ((hc.1.1 T q).from_below k d l);
  wider = wider;
}

-- and those of boxes of which one is farther above the other
pub across_apart : (r : Length) (polygons : List (Bor (List Pair))) (b c : Boxed) → All (λ o. IsShortPolygon o.now) polygons
    → IsBoxAmong polygons b → IsBoxAmong polygons c → AreAcross r b c → ¬ IsPairWithin r polygons (pair_of b.index c.index)
across_apart r polygons b c all hb hc (inl wider) = pair_apart r polygons b c all hb hc (above r polygons b c hb hc wider)
across_apart r polygons b c all hb hc (inr wider) =
    subst (λ (p : HullPair). ¬ IsPairWithin r polygons p) (pair_swap c.index b.index)
    (pair_apart r polygons c b all hc hb (above r polygons c b hc hb wider))

-- a polygon that was read at an index is the one there
pub polygon_there : (polygons : List (Bor (List Pair))) (i : ℕ) (o : Bor (List Pair)) → i < length polygons
    → o ≡ get_or polygons i o → polygon_at polygons i ≡ o.now
polygon_there [] i o l e = absurd (omega (arith, l))
polygon_there (x ∷ xs) zero o l e = ap (λ (z : Bor (List Pair)). z.now) (sym e)
polygon_there (x ∷ xs) (suc i) o l e = polygon_there xs i o (omega (arith, l)) e
