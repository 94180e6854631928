-- The edges between the halves of a slice are their bridges.
use Rattle.std.proofs.lemmas.Grind.{common_steps}
use Rattle.std.proofs.Common.{◌≡◌, ℕ, zero, suc, ◌^◌, ◌<◌, ◌≤◌, ◌⊎◌, inl, inr, sym, ap, ◌∙◌, subst, arith, refl}
use Rattle.std.proofs.Common.{List, [], ◌∷◌, length, max, Some, None}
use Rattle.std.proofs.lemmas.Bool.{cases_lt, cases_order}
use Rattle.std.proofs.lemmas.Nat.{and_le_l, shr_split, le_or_l, or_lt}
use Rattle.std.proofs.lemmas.Nat.Bits.{bit_at_and, bit_at_or, bit_at-zero, bit_at-lt}
use Rattle.std.specs.Int.{bit_at}
use Rattle.std.specs.Int.RustNames.{bit_and}
use Rattle.std.specs.List.{Contains}
use Rattle.lattice.specs.Bridges.{IsAllBefore, IsBridge}
use Rattle.lattice.specs.Covers.{IsPointSet}
use Rattle.lattice.specs.Plane.{Pair, IsBefore}
use Rattle.lattice.specs.declared.side.Side.{Side}
use Rattle.lattice.specs.declared.side.Side.TheVariants.{Lower, Upper}
use Rattle.lattice.proofs.Order.{before_irrefl, before_trans}
use Rattle.bridge_search.specs.Trees.{Tree, On, IsBridged, height_of}
use Rattle.hull_geometry.specs.Monotone.{IsChainOf}
use Rattle.hull_geometry.specs.Positions.{point_at, origin}
use Rattle.hull_geometry.specs.Runs.{AreSeparatedAt, opposite}
use Rattle.hull_geometry.specs.CandidateLists.{IsCandidateList}
use Rattle.hull_geometry.proofs.Fringed.{chain_candidates, wider_candidates}
use Rattle.hull_geometry.proofs.PointLists.{get_or_free}
use Rattle.hull_geometry.proofs.Runs.{runs_bridge}
use Rattle.hull_buckets.specs.Buckets.{BucketValue, IsBucket, mask_on}
use Rattle.hull_buckets.specs.Masks.{at_places, lowest_of, highest_of}
use Rattle.hull_buckets.specs.Slices.{width_of, split_of, left_slice, right_slice, end_of_slice, start_of_slice, either_place}
use Rattle.hull_buckets.specs.Slices.{edge_of_slice}
use Rattle.hull_buckets.specs.Slices.{tree_of_slice, all_of, edge_at}
use Rattle.hull_buckets.proofs.Halvings.{lowest_set, highest_set, bit_from, bit_to, highest_there}
use Rattle.hull_buckets.proofs.Halvings.{left_some, left_fits, left_narrow, left_bit, right_some, right_fits}
use Rattle.hull_buckets.proofs.Halvings.{right_narrow, right_bit}
use Rattle.hull_buckets.proofs.Places.{there_at, place_of, none_at}
use Rattle.hull_buckets.proofs.SliceTrees.{one_or_several, leaf_is, fork_is, on_place, on_tree, PlaceIn, too_wide}
use Rattle.hull_buckets.proofs.SliceTrees.{place_within, mask_fits, six_high}
use Rattle.hull_buckets.proofs.Words.{top_before}

-- ---- bits of two masks

-- an index of both is one of what they have in common
both_set : (a c i : ℕ) → bit_at a i ≡ 1 → bit_at c i ≡ 1 → bit_at (bit_and a c) i ≡ 1
both_set a c i e f = let m = bit_at_and a c i in omega (arith, m, e, f)

-- and back
set_in_both : (a c i : ℕ) → bit_at (bit_and a c) i ≡ 1 → (bit_at a i ≡ 1) × (bit_at c i ≡ 1)
set_in_both a c i e = grind (arith, common_steps, bit_at_and, bit_at-lt)

-- what two masks have in common fits if the first does
and_fits : (a c : ℕ) → a < 2 ^ 64 → bit_and a c < 2 ^ 64
and_fits a c l = let m = and_le_l a c in omega (arith, l, m)

-- ---- the last index of a chain in a slice, and the first one

-- the last index of the chain in the slice, or the slice's first
pub record Leaves (chain slice place : ℕ) : Type 0 where
  pub set : bit_at slice place ≡ 1
  pub none_after : (i : ℕ) → bit_at slice i ≡ 1 → bit_at chain i ≡ 1 → i ≤ place
  pub ends : (bit_at chain place ≡ 1) ⊎ ((i : ℕ) → bit_at slice i ≡ 1 → place ≤ i)

pub leaves : (chain slice : ℕ) → 0 < slice → slice < 2 ^ 64 → Leaves chain slice (end_of_slice chain slice)
leaves chain slice s f = go (bit_and slice chain) refl
  where
    go : (own : ℕ) → bit_and slice chain ≡ own → Leaves chain slice (either_place own (lowest_of slice) (highest_of own))
    go zero e = record {
      set = lowest_set slice s f;
      none_after = λ i r c. absurd (let b = both_set slice chain i r c in
          let z = ap (λ (n : ℕ). bit_at n i) e ∙ bit_at-zero i in omega (arith, b, z));
      ends = inr (λ i r. bit_from slice i s f r);
    }
    go (suc n) e =
        let fits : suc n < 2 ^ 64 = let k = and_fits slice chain f in omega (arith, k, e) in
        let top = highest_set (suc n) (omega arith) fits in
        let both = set_in_both slice chain (highest_of (suc n)) (ap (λ (m : ℕ). bit_at m (highest_of (suc n))) e ∙ top) in
        record {
          set = both.0;
          none_after = λ i r c. bit_to (suc n) i (omega arith) fits
              (sym (ap (λ (m : ℕ). bit_at m i) e) ∙ both_set slice chain i r c);
          ends = inl both.1;
        }

-- the first index of the chain in the slice, or the slice's last
pub record Enters (chain slice place : ℕ) : Type 0 where
  pub set : bit_at slice place ≡ 1
  pub none_ahead : (i : ℕ) → bit_at slice i ≡ 1 → bit_at chain i ≡ 1 → place ≤ i
  pub ends : (bit_at chain place ≡ 1) ⊎ ((i : ℕ) → bit_at slice i ≡ 1 → i ≤ place)

pub enters : (chain slice : ℕ) → 0 < slice → slice < 2 ^ 64 → Enters chain slice (start_of_slice chain slice)
enters chain slice s f = go (bit_and slice chain) refl
  where
    go : (own : ℕ) → bit_and slice chain ≡ own → Enters chain slice (either_place own (highest_of slice) (lowest_of own))
    go zero e = record {
      set = highest_set slice s f;
      none_ahead = λ i r c. absurd (let b = both_set slice chain i r c in
          let z = ap (λ (n : ℕ). bit_at n i) e ∙ bit_at-zero i in omega (arith, b, z));
      ends = inr (λ i r. bit_to slice i s f r);
    }
    go (suc n) e =
        let fits : suc n < 2 ^ 64 = let k = and_fits slice chain f in omega (arith, k, e) in
        let low = lowest_set (suc n) (omega arith) fits in
        let both = set_in_both slice chain (lowest_of (suc n)) (ap (λ (m : ℕ). bit_at m (lowest_of (suc n))) e ∙ low) in
        record {
          set = both.0;
          none_ahead = λ i r c. bit_from (suc n) i (omega arith) fits
              (sym (ap (λ (m : ℕ). bit_at m i) e) ∙ both_set slice chain i r c);
          ends = inl both.1;
        }

-- ---- indices and points

module _ (S : List Pair) (s : IsPointSet S) where
  -- a lower index has an earlier point
  earlier : (i j : ℕ) → i < j → j < length S → IsBefore (point_at S i) (point_at S j)
  earlier i j l m = s i j origin l m

  -- an earlier point has a lower index
  lower_place : (i j : ℕ) → i < length S → j < length S → IsBefore (point_at S i) (point_at S j) → i < j
  lower_place i j l m b = elim (cases_order i j) [
    | inl e ↦ absurd (before_irrefl (point_at S j) (subst (λ (k : ℕ). IsBefore (point_at S k) (point_at S j)) e b))
    | inr (inl k) ↦ k
    | inr (inr k) ↦ absurd (before_irrefl (point_at S i)
        (before_trans (point_at S i) (point_at S j) (point_at S i) b (earlier j i k l)))
  ]

  -- one point has one index
  one_place : (i j : ℕ) → i < length S → j < length S → point_at S i ≡ point_at S j → i ≡ j
  one_place i j l m e = elim (cases_order i j) [
    | inl q ↦ q
    | inr (inl k) ↦ absurd (before_irrefl (point_at S j)
        (subst (λ (z : Pair). IsBefore z (point_at S j)) e (earlier i j k m)))
    | inr (inr k) ↦ absurd (before_irrefl (point_at S j)
        (subst (IsBefore (point_at S j)) e (earlier j i k l)))
  ]

  -- a point of a chain is at an index of its mask
  pub on_chain : (chain i : ℕ) → i < length S → Contains (at_places chain S) (point_at S i) → bit_at chain i ≡ 1
  on_chain chain i l m =
      let p = place_of chain S (point_at S i) m in
      subst (λ (k : ℕ). bit_at chain k ≡ 1) (sym (one_place i p.0 l p.1 p.3)) p.2

-- ---- the bridges

-- a vertex of either chain, seen from a side
seen_from : (side : Side) (b : BucketValue) (i : ℕ) → (bit_at b.lower i ≡ 1) ⊎ (bit_at b.upper i ≡ 1)
    → (bit_at (mask_on side b) i ≡ 1) ⊎ (bit_at (mask_on (opposite side) b) i ≡ 1)
seen_from Lower b i h = h
seen_from Upper b i (inl h) = inr h
seen_from Upper b i (inr h) = inl h

-- the indices of a slice are indices of vertices
abbrev pub HasVertices : BucketValue → ℕ → Type 0
HasVertices b slice = (i : ℕ) → bit_at slice i ≡ 1 → (bit_at b.lower i ≡ 1) ⊎ (bit_at b.upper i ≡ 1)

module _ (b : BucketValue) (k : IsBucket b) (slice : ℕ) (some : 0 < slice) (fits : slice < 2 ^ 64)
    (wide : lowest_of slice < highest_of slice) (within : slice < 2 ^ length b.points) (vertices : HasVertices b slice) where
  -- the trees of the halves
  abbrev before_it : Tree
  before_it = tree_of_slice b (left_slice slice)

  abbrev after_it : Tree
  after_it = tree_of_slice b (right_slice slice)

  -- the indices of the slice are indices of points
  in_list : (i : ℕ) → bit_at slice i ≡ 1 → i < length b.points
  in_list i e =
      let h = bit_to slice i some fits e in
      let t = top_before slice (highest_of slice) (length b.points) (highest_there slice some fits) within in
      omega (arith, h, t)

  -- a point of the left half is at an index before the split
  at_left : (t : Pair) → On before_it t → PlaceIn b (left_slice slice) t
  at_left t i = on_place (width_of (left_slice slice)) b (left_slice slice) (left_some slice some fits wide)
      (left_fits slice some fits wide) (omega arith) t i

  -- one of the right half at an index after it
  at_right : (t : Pair) → On after_it t → PlaceIn b (right_slice slice) t
  at_right t i = on_place (width_of (right_slice slice)) b (right_slice slice) (right_some slice some fits wide)
      (right_fits slice some fits wide) (omega arith) t i

  -- all of the left half is before all of the right one
  pub all_before : IsAllBefore (On before_it) (On after_it)
  all_before p q i j =
      let x = at_left p i in
      let y = at_right q j in
      let l = left_bit slice some fits wide x.0 x.1 in
      let r = right_bit slice some fits wide y.0 y.1 in
      let a = l.0 in
      let c = r.0 in
      subst (λ (z : Pair). IsBefore z q) (sym x.2)
      (subst (IsBefore (point_at b.points x.0)) (sym y.2)
      (earlier b.points k.ordered x.0 y.0 (omega (arith, a, c)) (in_list y.0 r.1)))

  -- the last vertex of the chain on a side in the left half
  leaving : (side : Side) → Leaves (mask_on side b) (left_slice slice) (end_of_slice (mask_on side b) (left_slice slice))
  leaving side = leaves (mask_on side b) (left_slice slice) (left_some slice some fits wide) (left_fits slice some fits wide)

  -- and the first one in the right half
  entering : (side : Side) → Enters (mask_on side b) (right_slice slice) (start_of_slice (mask_on side b) (right_slice slice))
  entering side = enters (mask_on side b) (right_slice slice) (right_some slice some fits wide) (right_fits slice some fits
      wide)

  left_in_list : (i : ℕ) → bit_at (left_slice slice) i ≡ 1 → i < length b.points
  left_in_list i e = in_list i (left_bit slice some fits wide i e).1

  right_in_list : (i : ℕ) → bit_at (right_slice slice) i ≡ 1 → i < length b.points
  right_in_list i e = in_list i (right_bit slice some fits wide i e).1

  -- a point at an index of a slice is a vertex of the one chain or of the other
  on_either : (side : Side) (t : Pair) (i : ℕ) → bit_at slice i ≡ 1 → t ≡ point_at b.points i
      → Contains (at_places (mask_on side b) b.points) t ⊎ Contains (at_places (mask_on (opposite side) b) b.points) t
  on_either side t i e f = elim (seen_from side b i (vertices i e)) [
    | inl c ↦ inl (subst (Contains (at_places (mask_on side b) b.points)) (sym f)
        (there_at (mask_on side b) b.points i (in_list i e) c))
    | inr c ↦ inr (subst (Contains (at_places (mask_on (opposite side) b) b.points)) (sym f)
        (there_at (mask_on (opposite side) b) b.points i (in_list i e) c))
  ]

  -- the halves part there
  separated_at : (side : Side) → AreSeparatedAt (at_places (mask_on side b) b.points)
      (at_places (mask_on (opposite side) b) b.points) (On before_it) (On after_it)
      (point_at b.points (end_of_slice (mask_on side b) (left_slice slice)))
      (point_at b.points (start_of_slice (mask_on side b) (right_slice slice)))
  separated_at side = record {
    separated = all_before;
    left_vertices = λ t i. let x = at_left t i in on_either side t x.0 (left_bit slice some fits wide x.0 x.1).1 x.2;
    right_vertices = λ t i. let x = at_right t i in on_either side t x.0 (right_bit slice some fits wide x.0 x.1).1 x.2;
    from_left = on_tree (width_of (left_slice slice)) b (left_slice slice) (left_some slice some fits wide)
        (left_fits slice some fits wide) (omega arith) (end_of_slice (mask_on side b) (left_slice slice)) (leaving side).set;
    to_right = on_tree (width_of (right_slice slice)) b (right_slice slice) (right_some slice some fits wide)
        (right_fits slice some fits wide) (omega arith) (start_of_slice (mask_on side b) (right_slice slice)) (entering
        side).set;
    none_after = λ t i h m.
        let x = at_left t i in
        let c = on_chain b.points k.ordered (mask_on side b) x.0 (left_in_list x.0 x.1)
        (subst (Contains (at_places (mask_on side b) b.points)) x.2 m) in
        let l = (leaving side).none_after x.0 x.1 c in
        let g = lower_place b.points k.ordered (end_of_slice (mask_on side b) (left_slice slice)) x.0
        (left_in_list (end_of_slice (mask_on side b) (left_slice slice)) (leaving side).set) (left_in_list x.0 x.1)
        (subst (IsBefore (point_at b.points (end_of_slice (mask_on side b) (left_slice slice)))) x.2 h) in
        omega (arith, l, g);
    none_ahead = λ t i h m.
        let x = at_right t i in
        let c = on_chain b.points k.ordered (mask_on side b) x.0 (right_in_list x.0 x.1)
        (subst (Contains (at_places (mask_on side b) b.points)) x.2 m) in
        let l = (entering side).none_ahead x.0 x.1 c in
        let g = lower_place b.points k.ordered x.0 (start_of_slice (mask_on side b) (right_slice slice))
        (right_in_list x.0 x.1) (right_in_list (start_of_slice (mask_on side b) (right_slice slice)) (entering side).set)
        (subst (λ (z : Pair). IsBefore z (point_at b.points (start_of_slice (mask_on side b) (right_slice slice)))) x.2 h) in
        omega (arith, l, g);
    left_end = elim (leaving side).ends [
      | inl c ↦ inl (there_at (mask_on side b) b.points (end_of_slice (mask_on side b) (left_slice slice))
          (left_in_list (end_of_slice (mask_on side b) (left_slice slice)) (leaving side).set) c)
      | inr f ↦ inr (λ t i h.
          let x = at_left t i in
          let l = f x.0 x.1 in
          let g = lower_place b.points k.ordered x.0 (end_of_slice (mask_on side b) (left_slice slice))
          (left_in_list x.0 x.1) (left_in_list (end_of_slice (mask_on side b) (left_slice slice)) (leaving side).set)
          (subst (λ (z : Pair). IsBefore z (point_at b.points (end_of_slice (mask_on side b) (left_slice slice)))) x.2 h) in
          omega (arith, l, g))
    ];
    right_end = elim (entering side).ends [
      | inl c ↦ inl (there_at (mask_on side b) b.points (start_of_slice (mask_on side b) (right_slice slice))
          (right_in_list (start_of_slice (mask_on side b) (right_slice slice)) (entering side).set) c)
      | inr f ↦ inr (λ t i h.
          let x = at_right t i in
          let l = f x.0 x.1 in
          let g = lower_place b.points k.ordered (start_of_slice (mask_on side b) (right_slice slice)) x.0
          (right_in_list (start_of_slice (mask_on side b) (right_slice slice)) (entering side).set) (right_in_list x.0 x.1)
          (subst (IsBefore (point_at b.points (start_of_slice (mask_on side b) (right_slice slice)))) x.2 h) in
          omega (arith, l, g))
    ];
  }

  -- the edge between them is their bridge
  pub halves_bridge : (side : Side) → IsBridge side (On before_it) (On after_it)
      (point_at b.points (end_of_slice (mask_on side b) (left_slice slice)))
      (point_at b.points (start_of_slice (mask_on side b) (right_slice slice)))
  halves_bridge side = runs_bridge side (On before_it) (On after_it) b.points (at_places (mask_on side b) b.points)
      (at_places (mask_on (opposite side) b) b.points) _ _ (k.vertices side).chain (k.vertices (opposite side)).chain
      (separated_at side)

  -- the halves are slices of vertices, too
  pub left_vertices : HasVertices b (left_slice slice)
  left_vertices i e = vertices i (left_bit slice some fits wide i e).1

  pub right_vertices : HasVertices b (right_slice slice)
  right_vertices i e = vertices i (right_bit slice some fits wide i e).1

  pub left_within : left_slice slice < 2 ^ length b.points
  left_within = let s = shr_split slice (split_of slice) in omega (arith, s, within)

  pub right_within : right_slice slice < 2 ^ length b.points
  right_within = let s = shr_split slice (split_of slice) in omega (arith, s, within)

-- each stored edge of the tree of a slice of vertices is the bridge of the halves below it
pub slice_bridged : (n : ℕ) (b : BucketValue) (slice : ℕ) → IsBucket b → 0 < slice → slice < 2 ^ 64 → slice < 2 ^ length b.points
    → HasVertices b slice → width_of slice ≤ n → IsBridged (tree_of_slice b slice)
slice_bridged zero b slice k s f w c l = elim (one_or_several slice s f) [
  | inl e ↦ subst IsBridged (sym (leaf_is b slice e)) tt
  | inr h ↦ absurd (too_wide slice h l)
]
slice_bridged (suc n) b slice k s f w c l = elim (one_or_several slice s f) [
  | inl e ↦ subst IsBridged (sym (leaf_is b slice e)) tt
  | inr h ↦ subst IsBridged (sym (fork_is b slice s f h)) (
    all_before b k slice s f h w c,
    halves_bridge b k slice s f h w c Upper,
    halves_bridge b k slice s f h w c Lower,
    slice_bridged n b (left_slice slice) k (left_some slice s f h) (left_fits slice s f h) (left_within b k slice s f h w c)
        (left_vertices b k slice s f h w c) (let a = left_narrow slice s f h in omega (arith, a, l)),
    slice_bridged n b (right_slice slice) k (right_some slice s f h) (right_fits slice s f h) (right_within b k slice s f h w c)
        (right_vertices b k slice s f h w c) (let a = right_narrow slice s f h in omega (arith, a, l)),
  )
]

-- all vertices of a bucket
pub all_vertices : (b : BucketValue) → HasVertices b (all_of b)
all_vertices b i e = let m = bit_at_or b.lower b.upper i in
    either (bit_at b.lower i) (bit_at b.upper i) (bit_at-lt b.lower i) (bit_at-lt b.upper i) (sym m ∙ e)
  where
    either : (x y : ℕ) → x < 2 → y < 2 → max x y ≡ 1 → (x ≡ 1) ⊎ (y ≡ 1)
    either zero y l k e = inr (omega (arith, e))
    either (suc x) y l k e = inl (omega (arith, l))

-- there is one, since a chain of a point has one
pub some_vertex : (b : BucketValue) → IsBucket b → 0 < all_of b
some_vertex b k = let l = le_or_l b.lower b.upper in omega (arith, l, below)
  where
    none : (S : List Pair) → 0 < length S → IsChainOf Lower S [] → ⊥
    none [] l c = omega (arith, l)
    none (x ∷ xs) l c = elim (c.inner x (0, omega arith, refl)) [ ]

    below : 0 < b.lower
    below = elim (cases_lt 0 b.lower) [
      | inl l ↦ l
      | inr l ↦ absurd (none b.points k.some (subst (IsChainOf Lower b.points)
          (ap (λ (m : ℕ). at_places m b.points) (omega (arith, l)) ∙ none_at b.points) (k.vertices Lower).chain))
    ]

-- they are indices of its points
pub all_within : (b : BucketValue) → IsBucket b → all_of b < 2 ^ length b.points
all_within b k = or_lt (length b.points) b.lower b.upper (k.vertices Lower).within (k.vertices Upper).within

-- so a bucket is at most 6 high
pub bucket_low : (b : BucketValue) → IsBucket b → height_of (tree_of_slice b (all_of b)) ≤ 6
bucket_low b k = six_high b (all_of b) (some_vertex b k)
    (mask_fits (all_of b) (length b.points) (all_within b k) k.few)

-- ---- the edges by the words of a half

-- one index has no edge
pub no_edge : (side : Side) (b : BucketValue) (slice : ℕ) → lowest_of slice ≡ highest_of slice
    → edge_at side (tree_of_slice b slice) ≡ None
no_edge Lower b slice e = ap (edge_at Lower) (leaf_is b slice e)
no_edge Upper b slice e = ap (edge_at Upper) (leaf_is b slice e)

-- several have one on each side
pub some_edge : (side : Side) (b : BucketValue) (slice : ℕ) → 0 < slice → slice < 2 ^ 64 → lowest_of slice < highest_of slice
    → edge_at side (tree_of_slice b slice) ≡ Some (edge_of_slice side b slice)
some_edge Lower b slice s f w = ap (edge_at Lower) (fork_is b slice s f w)
some_edge Upper b slice s f w = ap (edge_at Upper) (fork_is b slice s f w)

-- the indices of its ends are indices of the slice's list
pub end_within : (chain slice n : ℕ) → 0 < slice → slice < 2 ^ 64 → lowest_of slice < highest_of slice → slice < 2 ^ n
    → end_of_slice chain (left_slice slice) < n
end_within chain slice n s f w l =
    place_within slice n (end_of_slice chain (left_slice slice)) l
    (left_bit slice s f w (end_of_slice chain (left_slice slice))
    (leaves chain (left_slice slice) (left_some slice s f w) (left_fits slice s f w)).set).1

pub start_within : (chain slice n : ℕ) → 0 < slice → slice < 2 ^ 64 → lowest_of slice < highest_of slice → slice < 2 ^ n
    → start_of_slice chain (right_slice slice) < n
start_within chain slice n s f w l =
    place_within slice n (start_of_slice chain (right_slice slice)) l
    (right_bit slice s f w (start_of_slice chain (right_slice slice))
    (enters chain (right_slice slice) (right_some slice s f w) (right_fits slice s f w)).set).1

-- ---- the vertices and all points

-- the points of the tree of all vertices are points of the bucket
pub vertices_among : (b : BucketValue) → IsBucket b → (t : Pair) → On (tree_of_slice b (all_of b)) t → Contains b.points t
vertices_among b k t i =
    let f = mask_fits (all_of b) (length b.points) (all_within b k) k.few in
    let p = on_place (width_of (all_of b)) b (all_of b) (some_vertex b k) f (omega arith) t i in (
      p.0,
      place_within (all_of b) (length b.points) p.0 (all_within b k) p.1,
      get_or_free b.points p.0 _ _ (place_within (all_of b) (length b.points) p.0 (all_within b k) p.1) ∙ sym p.2,
    )

-- each vertex of a chain is one of them
pub chain_on_tree : (side : Side) (b : BucketValue) → IsBucket b → (t : Pair)
    → Contains (at_places (mask_on side b) b.points) t → On (tree_of_slice b (all_of b)) t
chain_on_tree side b k t m =
    let f = mask_fits (all_of b) (length b.points) (all_within b k) k.few in
    let p = place_of (mask_on side b) b.points t m in
    subst (On (tree_of_slice b (all_of b))) (sym p.3)
    (on_tree (width_of (all_of b)) b (all_of b) (some_vertex b k) f (omega arith) p.0 (in_all side p.0 p.2))
  where
    in_all : (side : Side) (i : ℕ) → bit_at (mask_on side b) i ≡ 1 → bit_at (all_of b) i ≡ 1
    in_all Lower i e = let m = bit_at_or b.lower b.upper i in let l = bit_at-lt b.upper i in omega (arith, m, e, l)
    in_all Upper i e = let m = bit_at_or b.lower b.upper i in let l = bit_at-lt b.lower i in omega (arith, m, e, l)

-- they are a candidate list of all points of the bucket
pub vertices_candidates : (side : Side) (b : BucketValue) → IsBucket b
    → IsCandidateList side (On (tree_of_slice b (all_of b))) (Contains b.points)
vertices_candidates side b k =
    wider_candidates side (Contains (at_places (mask_on side b) b.points)) (On (tree_of_slice b (all_of b))) (Contains
    b.points)
    (chain_candidates side b.points (at_places (mask_on side b) b.points) (k.vertices side).chain)
    (chain_on_tree side b k) (vertices_among b k)
