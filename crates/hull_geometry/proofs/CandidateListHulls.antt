-- A candidate list of a set on both sides has the hull of the set.
use Rattle.std.proofs.Common.{◌≡◌, ℤ, pos, ◌-ℤ◌, ◌*ℤ◌, ◌≤ℤ◌, ◌<ℤ◌, neg_ℤ, ◌⊎◌, inl, inr, sym, ap, ◌∙◌}
use Rattle.std.proofs.Common.{subst, List, [], ◌∷◌, arith}
use Rattle.std.specs.Prelude.{◌↔◌, ◌≢◌}
use Rattle.std.specs.List.{Contains}
use Rattle.std.proofs.lemmas.Int.{ints}
use Rattle.std.proofs.lemmas.List.Elements.{All-contains}
use Rattle.lattice.specs.Covers.{IsPointSet, Covers, Member, OnSegment, InTriangle, IsExtreme, without_point}
use Rattle.lattice.specs.Places.{IsFarthest}
use Rattle.lattice.specs.Plane.{Pair, orient, product, distance_squared, IsBefore}
use Rattle.lattice.specs.Polynomials.{difference-eq, difference_rules}
use Rattle.lattice.specs.Signs.{le_or_lt, product_nn, product_np, cancel_zero}
use Rattle.lattice.specs.Vertices.{IsLeftOf, GoesRound, IsInOrder, IsVertexList}
use Rattle.lattice.specs.declared.side.Side.{Side}
use Rattle.lattice.specs.declared.side.Side.TheVariants.{Lower, Upper}
use Rattle.lattice.proofs.Numbers.{le_itself, le_less, le_trans, le_less_trans, less_le_trans, less_not_le}
use Rattle.lattice.proofs.Numbers.{zero_opposite}
use Rattle.lattice.proofs.Order.{before_trans, before_total, before_apart, after_apart}
use Rattle.lattice.proofs.Vectors.{as_pair, minus, opp, cross, cross_swap, cross-opp_left, Ahead, ahead_nn}
use Rattle.hull_geometry.specs.CandidateLists.{IsCandidateList, CandidateListsAnswer}
use Rattle.hull_geometry.specs.Monotone.{IsInwards}
use Rattle.hull_geometry.specs.Runs.{opposite}
use Rattle.hull_geometry.specs.Tangents.{Faces, IsFirstFarthest, IsNoMore, IsTangent}
use Rattle.hull_geometry.specs.declared.hand.Hand.{Hand}
use Rattle.hull_geometry.specs.declared.hand.Hand.TheVariants.{Left, Right}
use Rattle.hull_geometry.proofs.ChangedSets.{all_without, in_without}
use Rattle.hull_geometry.proofs.CoveredByEdges.{covered_by_edges}
use Rattle.hull_geometry.proofs.Decided.{covers_or_separated}
use Rattle.hull_geometry.proofs.EdgeSteps.{past_farther, past_farther_back}
use Rattle.hull_geometry.proofs.NotCovered.{Separated, not_covered}
use Rattle.hull_geometry.proofs.Orientation.{orient-cross, ahead_of, behind_of, at_least, orient-cycle}
use Rattle.hull_geometry.proofs.PointLists.{all_of}
use Rattle.hull_geometry.proofs.Separators.{across, product-right}
use Rattle.hull_geometry.proofs.SetLaws.{members_without, ordered_without}
use Rattle.hull_geometry.proofs.Slopes.{stays, goes, drops, product-step}
use Rattle.lattice.proofs.LineCrossings.{orient_other}
use Rattle.hull_geometry.proofs.Surrounded.{product-level}

-- ---- a point inwards of a segment, in a direction

-- t lies less far than a or b, or the three lie equally far
abbrev IsOvertaken : Pair → Pair → Pair → Pair → Type 0
IsOvertaken d a b t = (product d t <ℤ product d a) ⊎ ((product d t <ℤ product d b)
    ⊎ ((product d a ≡ product d t) × (product d b ≡ product d t)))

-- t is overtaken by a and b if it lies less far than a when b does, less far than b when a does, and not farther than a
-- when these lie equally far
overtaken : (d a b t : Pair) → (product d b <ℤ product d a → product d t <ℤ product d a)
    → (product d a <ℤ product d b → product d t <ℤ product d b)
    → (product d a ≡ product d b → product d t ≤ℤ product d a) → IsOvertaken d a b t
overtaken d a b t falling rising level = elim (le_or_lt (product d a) (product d b)) [
  | inr k ↦ inl (falling k)
  | inl k ↦ elim (le_or_lt (product d b) (product d a)) [
    | inr m ↦ inr (inl (rising m))
    | inl m ↦ elim (le_or_lt (product d a) (product d t)) [
      | inr n ↦ inl n
      | inl n ↦ equal _ _ _ k m n (level (same _ _ k m))
    ]
  ]
]
  where
    same : (x y : ℤ) → x ≤ℤ y → y ≤ℤ x → x ≡ y
    same x y h k = omega (arith, ints)

    equal : (x y z : ℤ) → x ≤ℤ y → y ≤ℤ x → x ≤ℤ z → z ≤ℤ x → (z <ℤ x) ⊎ ((z <ℤ y) ⊎ ((x ≡ z) × (y ≡ z)))
    equal x y z h k l m = inr (inr (omega (arith, ints), omega (arith, ints)))

-- t is overtaken if the direction faces the segment's side, or the other side as seen from the opposite direction
overtaken_facing : (side : Side) (d a b t : Pair) → Faces side d → Faces (opposite side) (opp d) → IsInwards side a b t
    → IsOvertaken d a b t
overtaken_facing side d a b t faces back k =
    overtaken d a b t (drops side d a b t back ab k.0 k.2) (goes side d a b t faces ab k.1 k.2)
    (λ e. stays side d a b t faces ab k.0 k.2 (equal _ _ e))
  where
    ab : IsBefore a b
    ab = before_trans a t b k.0 k.1

    equal : (x y : ℤ) → x ≡ y → y ≤ℤ x
    equal x y e = omega (arith, ints)

-- in a level direction to the right, a later point lies no less far
level_right : (d p q : Pair) → d.y ≡ pos 0 → pos 0 ≤ℤ d.x → IsBefore p q → product d p ≤ℤ product d q
level_right d p q e h b = more _ _ _ _ (product-step d p q) (product-level d (minus q p) e)
    (product_nn d.x (minus q p).x h (ahead_nn (minus q p) (ahead_of p q b)))
  where
    more : (x y z w : ℤ) → x ≡ y -ℤ z → x ≡ w → pos 0 ≤ℤ w → z ≤ℤ y
    more x y z w e f h = omega (arith, ints)

-- in a level direction to the left, a later point lies no farther
level_left : (d p q : Pair) → d.y ≡ pos 0 → d.x ≤ℤ pos 0 → IsBefore p q → product d q ≤ℤ product d p
level_left d p q e h b = less _ _ _ _ (product-step d p q) (product-level d (minus q p) e)
    (product_np d.x (minus q p).x h (ahead_nn (minus q p) (ahead_of p q b)))
  where
    less : (x y z w : ℤ) → x ≡ y -ℤ z → x ≡ w → w ≤ℤ pos 0 → y ≤ℤ z
    less x y z w e f h = omega (arith, ints)

-- the side whose segments overtake in a direction
overtaking : (d : Pair) → (side : Side) × ((a b t : Pair) → IsInwards side a b t → IsOvertaken d a b t)
overtaking d = elim (le_or_lt d.y (pos 0)) [
  | inr up ↦ (Upper, λ a b t k. overtaken_facing Upper d a b t up (omega (arith, ints)) k)
  | inl down ↦ elim (le_or_lt (pos 0) d.y) [
    | inr below ↦ (Lower, λ a b t k. overtaken_facing Lower d a b t down (omega (arith, ints)) k)
    | inl flat ↦ elim (le_or_lt (pos 0) d.x) [
      | inl right ↦ (Lower, λ a b t k. to_right (zero d.y flat down) down right a b t k)
      | inr left ↦ (Upper, λ a b t k. to_left (zero d.y flat down) (le_less _ _ left) a b t k)
    ]
  ]
]
  where
    zero : (x : ℤ) → pos 0 ≤ℤ x → x ≤ℤ pos 0 → x ≡ pos 0
    zero x h k = omega (arith, ints)

    equal : (x y : ℤ) → x ≡ y → y ≤ℤ x
    equal x y e = omega (arith, ints)

    nn_back : (x : ℤ) → x ≡ pos 0 → neg_ℤ x ≤ℤ pos 0
    nn_back x e = omega (arith, ints)

    to_right : d.y ≡ pos 0 → d.y ≤ℤ pos 0 → pos 0 ≤ℤ d.x → (a b t : Pair) → IsInwards Lower a b t
        → IsOvertaken d a b t
    to_right e down right a b t k =
        let ab = before_trans a t b k.0 k.1 in
        overtaken d a b t (λ f. absurd (less_not_le _ _ f (level_right d a b e right ab)))
        (goes Lower d a b t down ab k.1 k.2)
        (λ f. stays Lower d a b t down ab k.0 k.2 (equal _ _ f))

    to_left : d.y ≡ pos 0 → d.x ≤ℤ pos 0 → (a b t : Pair) → IsInwards Upper a b t → IsOvertaken d a b t
    to_left e left a b t k =
        let ab = before_trans a t b k.0 k.1 in
        overtaken d a b t (drops Upper d a b t (nn_back d.y e) ab k.0 k.2)
        (λ f. absurd (less_not_le _ _ f (level_left d a b e left ab)))
        (λ f. level_left d a t e left k.0)

-- ---- lines

-- two vectors in line with a third are in line, by their first components
in_line_x : (w t b : Pair) → cross t b *ℤ w.x ≡ t.x *ℤ cross w b -ℤ b.x *ℤ cross w t
in_line_x w t b = rw (as_pair w, as_pair t, as_pair b) (simp difference_rules (difference-eq _ _ _ _ (omega arith)))

-- the same by their second components
in_line_y : (w t b : Pair) → cross t b *ℤ w.y ≡ t.y *ℤ cross w b -ℤ b.y *ℤ cross w t
in_line_y w t b = rw (as_pair w, as_pair t, as_pair b) (simp difference_rules (difference-eq _ _ _ _ (omega arith)))

-- a difference of products with zeros is zero
none_of : (a x y u v : ℤ) → a ≡ x *ℤ u -ℤ y *ℤ v → u ≡ pos 0 → v ≡ pos 0 → a ≡ pos 0
none_of a x y u v e f g = e ∙ ap (λ (z : ℤ). x *ℤ z -ℤ y *ℤ v) f ∙ ap (λ (z : ℤ). x *ℤ pos 0 -ℤ y *ℤ z) g
    ∙ omega (arith, ints)

-- two vectors in line with one ahead are in line
with_ahead : (w t b : Pair) → Ahead w → cross w t ≡ pos 0 → cross w b ≡ pos 0 → cross t b ≡ pos 0
with_ahead w t b (inl h) e f = cancel_zero (cross t b) w.x h (none_of _ _ _ _ _ (in_line_x w t b) f e)
with_ahead w t b (inr h) e f = cancel_zero (cross t b) w.y h.1 (none_of _ _ _ _ _ (in_line_y w t b) f e)

-- two points on the line through q and p are in line with q
in_line : (q p t b : Pair) → ¬ (q ≡ p) → orient q p t ≡ pos 0 → orient q p b ≡ pos 0 → orient q t b ≡ pos 0
in_line q p t b n e f = orient-cross q t b ∙ elim (before_total q p) [
  | inl h ↦ with_ahead (minus p q) (minus t q) (minus b q) (ahead_of q p h) (sym (orient-cross q p t) ∙ e)
      (sym (orient-cross q p b) ∙ f)
  | inr (inl h) ↦ absurd (n h)
  | inr (inr h) ↦ with_ahead (opp (minus p q)) (minus t q) (minus b q) (behind_of p q h) (back t e) (back b f)
]
  where
    back : (t : Pair) → orient q p t ≡ pos 0 → cross (opp (minus p q)) (minus t q) ≡ pos 0
    back t e = cross-opp_left (minus p q) (minus t q)
        ∙ zero_opposite _ _ (cross_swap (minus t q) (minus p q)) (sym (orient-cross q p t) ∙ e)

-- a number as far as one whose difference is 0 has the difference 0
same_gap : (x y z a b : ℤ) → x -ℤ y ≡ a → x -ℤ z ≡ b → b ≡ pos 0 → y ≡ z → a ≡ pos 0
same_gap x y z a b e f g h = omega (arith, ints)

-- a number farther than one whose difference is 0 has a difference below 0
beyond : (x y z a b : ℤ) → x -ℤ y ≡ a → x -ℤ z ≡ b → b ≡ pos 0 → z <ℤ y → pos 0 ≤ℤ a → ⊥
beyond x y z a b e f g h k = omega (arith, ints)

-- a point that some points cover is covered by more points
pub covers_more : (T U : List Pair) (q : Pair) → ((t : Pair) → Contains T t → Contains U t) → Covers T q → Covers U q
covers_more T U q f (Member m) = Member (f q m)
covers_more T U q f (OnSegment a b ma mb h) = OnSegment a b (f a ma) (f b mb) h
covers_more T U q f (InTriangle a b c ma mb mc h) = InTriangle a b c (f a ma) (f b mb) (f c mc) h

-- ---- a candidate list on both sides

-- F is a candidate list of S on both sides
module _ (F S : List Pair) (is_set : IsPointSet F) (of_set : IsPointSet S)
    (candidates : (side : Side) → IsCandidateList side (Contains F) (Contains S)) where
  -- the points of F are points of S
  among : (t : Pair) → Contains F t → Contains S t
  among = (candidates Lower).among

  -- t is in F, or less far than a point of it, or as far as one before it and one after it
  abbrev IsBeaten : Pair → Pair → Type 0
  IsBeaten d t = Contains F t ⊎ (((u : Pair) × Contains F u × (product d t <ℤ product d u))
      ⊎ ((a b : Pair) × Contains F a × Contains F b × IsBefore a t × IsBefore t b × (product d a ≡ product d t)
      × (product d b ≡ product d t)))

  -- each point of S is in F, or beaten by points of F
  beaten : (d t : Pair) → Contains S t → IsBeaten d t
  beaten d t m =
      let r = overtaking d in
      elim ((candidates r.0).under t m) [
        | inl h ↦ inl h
        | inr h ↦ elim (r.1 h.0 h.1 t h.4) [
          | inl k ↦ inr (inl (h.0, h.2, k))
          | inr (inl k) ↦ inr (inl (h.1, h.3, k))
          | inr (inr k) ↦ inr (inr (h.0, h.1, h.2, h.3, h.4.0, h.4.1, k.0, k.1))
        ]
      ]

  -- for each point of S, some point of F lies as far or farther
  reached : (d t : Pair) → Contains S t → (u : Pair) × Contains F u × (product d t ≤ℤ product d u)
  reached d t m = elim (beaten d t m) [
    | inl h ↦ (t, h, le_itself _)
    | inr (inl h) ↦ (h.0, h.1, le_less _ _ h.2)
    | inr (inr h) ↦ (h.0, h.2, equal _ _ h.6)
  ]
    where
      equal : (x y : ℤ) → x ≡ y → y ≤ℤ x
      equal x y e = omega (arith, ints)

  -- a point that is separated from F is separated from S
  separated : (q : Pair) → Separated F q → Separated S q
  separated q s = (
    s.0,
    all_of (λ t. product s.0 t <ℤ product s.0 q) S (λ t m. let r = reached s.0 t m in
        le_less_trans _ _ _ r.2 (All-contains (λ u. product s.0 u <ℤ product s.0 q) F r.0 s.1 r.1)),
  )

  -- F and S cover the same points
  covers : (q : Pair) → Covers F q ↔ Covers S q
  covers q = (
    covers_more F S q among,
    λ c. elim (covers_or_separated F q is_set)
        [ inl h ↦ h | inr s ↦ absurd (not_covered S q (separated q s) c) ],
  )

  -- a point that is farthest in F is farthest in S
  farthest : (d q : Pair) → IsFarthest F d q → IsFarthest S d q
  farthest d q h = all_of (λ t. product d t ≤ℤ product d q) S (λ t m. let r = reached d t m in
      le_trans _ _ _ r.2 (All-contains (λ u. product d u ≤ℤ product d q) F r.0 h r.1))

  -- a point that is farthest in S is farthest in F
  farthest_of : (d q : Pair) → IsFarthest S d q → IsFarthest F d q
  farthest_of d q h =
      all_of (λ t. product d t ≤ℤ product d q) F (λ t m. All-contains (λ u. product d u ≤ℤ product d q) S t h (among t
      m))

  -- the first of the farthest points of F is that of S
  first_farthest : (d t : Pair) → IsFirstFarthest F d t → IsFirstFarthest S d t
  first_farthest d t h = (
    among t h.0,
    farthest d t h.1,
    all_of (λ u. IsBefore u t → product d u ≢ product d t) S (λ u m b e. none u b e (beaten d u m)),
  )
    where
      in_candidates : (u : Pair) → Contains F u → IsBefore u t → product d u ≢ product d t
      in_candidates u m = All-contains (λ z. IsBefore z t → product d z ≢ product d t) F u h.2 m

      none : (u : Pair) → IsBefore u t → product d u ≡ product d t → IsBeaten d u → ⊥
      none u b e (inl m) = in_candidates u m b e
      none u b e (inr (inl k)) =
          less_not_le _ _ (subst (λ (z : ℤ). z <ℤ product d k.0) e k.2)
          (All-contains (λ z. product d z ≤ℤ product d t) F k.0 h.1 k.1)
      none u b e (inr (inr k)) = in_candidates k.0 k.2 (before_trans k.0 u t k.4 b) (k.6 ∙ e)

  -- if no point of F lies right of a line, no point of S does
  left_of : (u v : Pair) → IsLeftOf F u v → IsLeftOf S u v
  left_of u v h = all_of (λ t. pos 0 ≤ℤ orient u v t) S (λ t m.
      to_left _ _ _ (product-right u v t) (All-contains (λ z. product (across u v) z ≤ℤ product (across u v) u) S t
      (farthest (across u v) u (all_of (λ z. product (across u v) z ≤ℤ product (across u v) u) F (λ z i.
      from_left _ _ _ (product-right u v z) (All-contains (λ z. pos 0 ≤ℤ orient u v z) F z h i)))) m))
    where
      to_left : (x y z : ℤ) → x -ℤ y ≡ z → y ≤ℤ x → pos 0 ≤ℤ z
      to_left x y z e h = omega (arith, ints)

      from_left : (x y z : ℤ) → x -ℤ y ≡ z → pos 0 ≤ℤ z → y ≤ℤ x
      from_left x y z e h = omega (arith, ints)

  -- ---- vertices

  -- a point that is extreme in F is extreme in S
  extreme : (p : Pair) → IsExtreme F p → IsExtreme S p
  extreme p h = (
    among p h.0,
    λ c. elim (covers_or_separated (without_point p F) p (ordered_without p F is_set)) [
      | inl k ↦ h.1 k
      | inr s ↦ not_covered (without_point p S) p (
        s.0,
        all_without (λ t. product s.0 t <ℤ product s.0 p) p S of_set
            (λ t m n. nearer s t n (beaten s.0 t m)),
      ) c
    ],
  )
    where
      other : (s : Separated (without_point p F) p) (u : Pair) → Contains F u → ¬ (u ≡ p)
          → product s.0 u <ℤ product s.0 p
      other s u m n =
          All-contains (λ z. product s.0 z <ℤ product s.0 p) (without_point p F) u s.1 (in_without p u F n m)

      any : (s : Separated (without_point p F) p) (u : Pair) → Contains F u → product s.0 u ≤ℤ product s.0 p
      any s u m = elim (before_total u p) [
        | inl b ↦ le_less _ _ (other s u m (before_apart u p b))
        | inr (inl e) ↦ subst (λ (z : Pair). product s.0 z ≤ℤ product s.0 p) (sym e) (le_itself _)
        | inr (inr b) ↦ le_less _ _ (other s u m (after_apart u p b))
      ]

      nearer : (s : Separated (without_point p F) p) (t : Pair) → ¬ (t ≡ p) → IsBeaten s.0 t
          → product s.0 t <ℤ product s.0 p
      nearer s t n (inl m) = other s t m n
      nearer s t n (inr (inl k)) = less_le_trans _ _ _ k.2 (any s k.0 k.1)
      nearer s t n (inr (inr k)) = elim (before_total p t) [
        | inl b ↦ subst (λ (z : ℤ). z <ℤ product s.0 p) k.7
            (other s k.1 k.3 (after_apart k.1 p (before_trans p t k.1 b k.5)))
        | inr (inl e) ↦ absurd (n (sym e))
        | inr (inr b) ↦ subst (λ (z : ℤ). z <ℤ product s.0 p) k.6
            (other s k.0 k.2 (before_apart k.0 p (before_trans k.0 t p k.4 b)))
      ]

  -- a point that is extreme in S is extreme in F
  extreme_of : (p : Pair) → IsExtreme S p → IsExtreme F p
  extreme_of p h = (member, λ c. h.1 (covers_more (without_point p F) (without_point p S) p kept c))
    where
      kept : (t : Pair) → Contains (without_point p F) t → Contains (without_point p S) t
      kept t m = let k = (members_without p t F is_set).0 m in in_without p t S k.1 (among t k.0)

      before : (t : Pair) → Contains F t → IsBefore t p → Contains (without_point p S) t
      before t m b = in_without p t S (before_apart t p b) (among t m)

      after : (t : Pair) → Contains F t → IsBefore p t → Contains (without_point p S) t
      after t m b = in_without p t S (after_apart t p b) (among t m)

      member : Contains F p
      member = elim ((candidates Lower).under p h.0) [
        | inl m ↦ m
        | inr k ↦ elim ((candidates Upper).under p h.0) [
          | inl m ↦ m
          | inr l ↦ absurd (h.1 (covered_by_edges (without_point p S) p k.0 k.1 l.1 l.0 (before k.0 k.2 k.4.0)
              (after k.1 k.3 k.4.1) (after l.1 l.3 l.4.1) (before l.0 l.2 l.4.0) k.4.0 k.4.1 l.4.1 l.4.0
              (at_least _ _ (orient-cycle k.0 k.1 p) k.4.2) (at_least _ _ (orient-cycle l.1 l.0 p) l.4.2)))
        ]
      ]

  -- a list that goes round F goes round S
  goes_round : (first u : Pair) (rest : List Pair) → GoesRound F first u rest → GoesRound S first u rest
  goes_round first u [] h = left_of u first h
  goes_round first u (v ∷ rest) h = (left_of u v h.0, goes_round first v rest h.1)

  -- a list in order round F is in order round S
  in_order : (list : List Pair) → IsInOrder F list → IsInOrder S list
  in_order [] h = h
  in_order (v ∷ rest) h = (goes_round v v rest h.0, h.1)

  -- a vertex list of F is a vertex list of S
  vertices : (list : List Pair) → IsVertexList F list → IsVertexList S list
  vertices list v = record {
    distinct = v.distinct;
    members = λ p. (λ m. extreme p ((v.members p).0 m), λ e. (v.members p).1 (extreme_of p e));
    order = in_order list v.order;
  }

  -- ---- tangents

  -- a point on the line of a tangent is no farther
  no_farther : (q p u v t : Pair) → ¬ Covers F q → Contains F p → IsLeftOf F u v
      → ((z : Pair) → orient u v z ≡ pos 0 → orient q p z ≡ pos 0)
      → ((z : Pair) → Contains F z → orient q p z ≡ pos 0 → distance_squared q z ≤ℤ distance_squared q p)
      → Contains S t → orient u v t ≡ pos 0 → distance_squared q t ≤ℤ distance_squared q p
  no_farther q p u v t out mp left line near m e = returned (beaten (across u v) t m)
    where
      on_line : (z : Pair) → product (across u v) z ≡ product (across u v) t → orient u v z ≡ pos 0
      on_line z f = same_gap (product (across u v) u) (product (across u v) z) (product (across u v) t)
          (orient u v z) (orient u v t) (product-right u v z) (product-right u v t) e f

      apart : ¬ (q ≡ p)
      apart f = out (Member (subst (Contains F) (sym f) mp))

      right : (z : Pair) → Contains F z → product (across u v) t <ℤ product (across u v) z → ⊥
      right z i h = beyond (product (across u v) u) (product (across u v) z) (product (across u v) t)
          (orient u v z) (orient u v t) (product-right u v z) (product-right u v t) e h
          (All-contains (λ z. pos 0 ≤ℤ orient u v z) F z left i)

      returned : IsBeaten (across u v) t → distance_squared q t ≤ℤ distance_squared q p
      returned (inl i) = near t i (line t e)
      returned (inr (inl k)) = absurd (right k.0 k.1 k.2)
      returned (inr (inr k)) =
          let za = line k.0 (on_line k.0 k.6) in
          let zb = line k.1 (on_line k.1 k.7) in
          elim (before_total q t) [
            | inl b ↦ le_trans _ _ _
                (le_less _ _ (past_farther q t k.1 b k.5 (in_line q p t k.1 apart (line t e) zb))) (near k.1 k.3 zb)
            | inr (inl f) ↦ absurd (out ((covers q).1 (Member (subst (Contains S) (sym f) m))))
            | inr (inr b) ↦ le_trans _ _ _
                (le_less _ _ (past_farther_back q t k.0 b k.4 (in_line q p t k.0 apart (line t e) za))) (near k.0 k.2
                za)
          ]

  -- a point of F is no farther on a hand than the tangent point
  no_more : (hand : Hand) (q p : Pair) → IsTangent hand F q p → (t : Pair) → Contains F t → IsNoMore hand q p t
  no_more hand q p h t m = All-contains (IsNoMore hand q p) F t h.1 m

  -- the tangents from a point that is not covered touch F and S in the same points
  tangents : (hand : Hand) (q p : Pair) → ¬ Covers F q → IsTangent hand F q p → IsTangent hand S q p
  tangents Left q p out h =
      let left = all_of (λ t. pos 0 ≤ℤ orient p q t) F (λ t m. back _ _ (orient_other q p t) (no_more Left q p h t
      m).0) in (
        among p h.0,
        all_of (IsNoMore Left q p) S (λ t m. (
          forth _ _ (orient_other q p t) (All-contains (λ t. pos 0 ≤ℤ orient p q t) S t (left_of p q left) m),
          λ e. no_farther q p p q t out h.0 left (λ z f. zero_opposite _ _ (orient_other p q z) f)
              (λ z i. (no_more Left q p h z i).1) m (zero_opposite _ _ (orient_other q p t) e),
        )),
      )
    where
      back : (x y : ℤ) → x ≡ neg_ℤ y → y ≤ℤ pos 0 → pos 0 ≤ℤ x
      back x y e h = omega (arith, ints)

      forth : (x y : ℤ) → x ≡ neg_ℤ y → pos 0 ≤ℤ x → y ≤ℤ pos 0
      forth x y e h = omega (arith, ints)
  tangents Right q p out h =
      let left = all_of (λ t. pos 0 ≤ℤ orient q p t) F (λ t m. (no_more Right q p h t m).0) in (
        among p h.0,
        all_of (IsNoMore Right q p) S (λ t m. (
          All-contains (λ t. pos 0 ≤ℤ orient q p t) S t (left_of q p left) m,
          λ e. no_farther q p q p t out h.0 left (λ z f. f) (λ z i. (no_more Right q p h z i).1) m e,
        )),
      )

-- a candidate list of a set on both sides answers for the set
pub candidate_lists_answer : CandidateListsAnswer
candidate_lists_answer F S f s candidates = record {
  covers = covers F S f s candidates;
  outer = λ q. (
    λ h. (h.0, h.1, farthest F S f s candidates h.0 q h.2),
    λ h. (h.0, h.1, farthest_of F S f s candidates h.0 q h.2),
  );
  farthest = first_farthest F S f s candidates;
  vertices = vertices F S f s candidates;
  area = λ n h. (h.0, vertices F S f s candidates h.0 h.1, h.2);
  tangents = tangents F S f s candidates;
}
