-- Seen from a point outside, some vertex or some edge is the nearest.
use Rattle.std.proofs.lemmas.Grind.{common_steps}
use Rattle.std.proofs.Common.{◌≡◌, ℕ, zero, suc, ◌+◌, ◌-◌, ◌≤◌, ◌<◌, ℤ, pos, negsuc, ◌-ℤ◌, ◌≤ℤ◌, ◌<ℤ◌, neg_ℤ, ◌⊎◌, inl}
use Rattle.std.proofs.Common.{inr, refl, sym, ap, ◌∙◌, subst, List, length, arith}
use Rattle.std.specs.List.{Contains}
use Rattle.std.proofs.lemmas.Bool.{cases_lt}
use Rattle.std.proofs.lemmas.Int.{ints}
use Rattle.std.proofs.lemmas.List.Elements.{All-contains}
use Rattle.lattice.specs.Covers.{Covers, OnSegment, IsOnSegment}
use Rattle.lattice.specs.Places.{IsFarthest}
use Rattle.lattice.specs.Plane.{Pair, orient, product}
use Rattle.lattice.specs.Polynomials.{difference-eq, difference_rules}
use Rattle.lattice.specs.Signs.{le_or_lt}
use Rattle.lattice.specs.Vertices.{IsLeftOf, IsVertexList}
use Rattle.lattice.proofs.Vectors.{as_pair, opp}
use Rattle.hull_geometry.specs.Positions.{point_at}
use Rattle.hull_geometry.proofs.Decided.{covers_or_separated}
use Rattle.hull_geometry.proofs.NotCovered.{not_covered}
use Rattle.hull_geometry.proofs.Orientation.{orient_swap_zero}
use Rattle.hull_geometry.proofs.VertexOrder.{not_in_line}
use Rattle.hull_polygon.specs.Meetings.{segment}
use Rattle.hull_polygon.specs.Nearest.{IsOnward, IsBeside, IsTurnedFrom, previous}
use Rattle.hull_polygon.specs.Polygons.{IsPolygonOf}
use Rattle.hull_polygon.specs.Rounds.{vertex, IsSeparated}
use Rattle.hull_polygon.specs.Steps.{step}
use Rattle.hull_polygon.proofs.Cones.{no_farther_in_cone, turned_to_first, turned_to_second, nearer_to_next, not_onward}
use Rattle.hull_polygon.proofs.Cones.{far, way_forward}
use Rattle.hull_polygon.proofs.Vertices.{vertex_back, vertex_extreme, next_left}
use Rattle.hull_geometry.proofs.PointLists.{all_of}
use Rattle.hull_polygon.proofs.SeparatedLists.{farther_back}
use Rattle.hull_polygon.proofs.Shields.{among_on_segment, third_among, one_of_two, start_there, end_there}
use Rattle.hull_polygon.proofs.Switches.{farthest_vertex, placed, less_returned}
use Rattle.lattice.proofs.Numbers.{gap_np, le_itself, le_trans, less_opposites, not_less}
use Rattle.lattice.proofs.LineCrossings.{orient_other}

-- ---- the vertices beside a vertex

-- i comes before j round a list of n vertices
abbrev IsStep : ℕ → ℕ → ℕ → Type 0
IsStep n i j = (j ≡ i + 1) ⊎ ((j ≡ 0) × (i + 1 ≡ n))

-- the index of the vertex before
pub previous_at : (V : List Pair) (j : ℕ) → j < length V
    → (i : ℕ) × (i < length V) × IsStep (length V) i j × (previous V j ≡ vertex V i) × (vertex V (i + 1) ≡ vertex V j)
previous_at V zero l = (
  length V - 1,
  omega (arith, l),
  inr (refl, omega (arith, l)),
  refl,
  ap (vertex V) (omega (arith, l)) ∙ vertex_back V (length V) (omega arith) l,
)
previous_at V (suc j) l = (j, omega (arith, l), inl (omega arith), refl, ap (vertex V) (omega arith))

-- the index of the vertex after
pub next_at : (V : List Pair) (j : ℕ) → j < length V
    → (i : ℕ) × (i < length V) × IsStep (length V) j i × (vertex V (j + 1) ≡ vertex V i) × (previous V i ≡ vertex V j)
next_at V j l = elim (cases_lt (j + 1) (length V)) [
  | inl k ↦ (j + 1, k, inl refl, refl, let e : j + 1 ≡ suc j = omega arith in ap (previous V) e)
  | inr k ↦ (
    0,
    omega (arith, l),
    inr (refl, omega (arith, l, k)),
    vertex_back V (j + 1) k (omega (arith, l)),
    ap (vertex V) (omega (arith, l, k)),
  )
]

-- vertices at two indices are different
vertices_apart : (S V : List Pair) (i j : ℕ) → IsVertexList S V → i < length V → j < length V → ¬ (i ≡ j)
    → ¬ (vertex V i ≡ vertex V j)
vertices_apart S V i j h li lj n e = elim (cases_lt i j) [
  | inl k ↦ h.distinct i j (point_at V 0) k lj e
  | inr k ↦ h.distinct j i (point_at V 0) (omega (arith, k, n)) li (sym e)
]

-- no point lies right of the edge to a vertex
pub left_before : (S V : List Pair) (j : ℕ) → IsVertexList S V → j < length V → IsLeftOf S (previous V j) (vertex V j)
left_before S V j h l =
    let b = previous_at V j l in
    subst (λ (z : Pair). IsLeftOf S z (vertex V j)) (sym b.3)
    (subst (IsLeftOf S (vertex V b.0)) b.4 (next_left S V b.0 (b.0 + 1) h refl b.1))

-- a side that is not negative, and is not zero, is positive
positive : (x : ℤ) → pos 0 ≤ℤ x → ¬ (x ≡ pos 0) → pos 0 <ℤ x
positive x h n = elim (le_or_lt x (pos 0)) [ inl k ↦ absurd (n (omega (arith, ints))) | inr k ↦ k ]

-- at least three vertices bend left at each
pub bends_at : (S V : List Pair) (j : ℕ) → IsVertexList S V → j < length V → 2 < length V
    → pos 0 <ℤ orient (previous V j) (vertex V j) (vertex V (j + 1))
bends_at S V j h l many =
    let b = previous_at V j l in
    let a = next_at V j l in
    let left : pos 0 ≤ℤ orient (previous V j) (vertex V j) (vertex V (j + 1)) =
    All-contains (λ t. pos 0 ≤ℤ orient (previous V j) (vertex V j) t) S (vertex V (j + 1)) (left_before S V j h l)
    (vertex_extreme S V (j + 1) h (omega (arith, l))).0 in
    positive _ left (rw (b.3, a.3)
    (not_in_line S (vertex V b.0) (vertex V j) (vertex V a.0) (vertex_extreme S V b.0 h (omega (arith, l)))
    (vertex_extreme S V j h (omega (arith, l))) (vertex_extreme S V a.0 h (omega (arith, l)))
    (vertices_apart S V b.0 j h b.1 l (omega (arith, b.2, many)))
    (vertices_apart S V b.0 a.0 h b.1 a.1 (omega (arith, b.2, a.2, many)))
    (vertices_apart S V j a.0 h l a.1 (omega (arith, a.2, many)))))

-- of at most two vertices, the one before is the one after
pub same_beside : (V : List Pair) (j : ℕ) → j < length V → length V ≤ 2 → previous V j ≡ vertex V (j + 1)
same_beside V j l few = grind (arith, common_steps, previous_at, next_at, vertex)

-- ---- a vertex from which q is in the direction of neither neighbour is the nearest

-- if a difference is not positive, the first number is at most the second
no_more : (x y : ℤ) → (x -ℤ y) ≤ℤ pos 0 → x ≤ℤ y
no_more x y h = omega (arith, ints)

-- in a direction in which neither of the vertices beside a vertex lies farther, no point does
pub farthest_here : (S V : List Pair) (last j : ℕ) (f : Pair) → IsPolygonOf S V → IsSeparated V last → j < length V
    → (product f (previous V j) -ℤ product f (vertex V j)) ≤ℤ pos 0
    → (product f (vertex V (j + 1)) -ℤ product f (vertex V j)) ≤ℤ pos 0 → IsFarthest S f (vertex V j)
farthest_here S V last j f o p l fp fn = elim (cases_lt 2 (length V)) [
  | inl many ↦ all_of (λ s. product f s ≤ℤ product f c) S (λ s m. no_more _ _
      (no_farther_in_cone f (previous V j) c (vertex V (j + 1)) s (bends_at S V j o.1 l many)
      (All-contains (λ u. pos 0 ≤ℤ orient (previous V j) c u) S s (left_before S V j o.1 l) m)
      (All-contains (λ u. pos 0 ≤ℤ orient c (vertex V (j + 1)) u) S s (next_left S V j (j + 1) o.1 refl l) m) fn fp))
  | inr few ↦
      let r = farthest_vertex S V last f o p (omega (arith, l)) in
      all_of (λ s. product f s ≤ℤ product f c) S (λ s m. le_trans _ _ _
      (All-contains (λ u. product f u ≤ℤ product f (vertex V r.0)) S s r.1.1 m) (one r.0 few))
]
  where
    c : Pair
    c = vertex V j

    behind : (i k : ℕ) → vertex V i ≡ vertex V k → k ≡ (next_at V j l).0 → product f (vertex V i) ≤ℤ product f c
    behind i k e g =
        subst (λ (z : Pair). product f z ≤ℤ product f c) (sym (e ∙ ap (vertex V) g ∙ sym (next_at V j l).3))
        (no_more _ _ fn)

    one : (i : ℕ) → length V ≤ 2 → product f (vertex V i) ≤ℤ product f c
    one i few =
        let k = placed V i (omega (arith, l)) in
        let a = next_at V j l in
        elim (cases_lt k.0 j) [
          | inl h ↦ behind i k.0 k.2 (omega (arith, h, a.1, a.2, few, l))
          | inr h ↦ elim (cases_lt j k.0) [
            | inl g ↦ behind i k.0 k.2 (omega (arith, g, a.1, a.2, few, k.1))
            | inr g ↦ subst (λ (z : Pair). product f z ≤ℤ product f c) (sym (k.2 ∙ ap (vertex V) (omega (arith, g, h))))
                (le_itself (product f c))
          ]
        ]

-- in the direction from there to q no point lies farther
pub farthest_from : (S V : List Pair) (last j : ℕ) (q : Pair) → IsPolygonOf S V → IsSeparated V last → j < length V
    → IsTurnedFrom (previous V j) (vertex V j) (vertex V (j + 1)) q
    → IsFarthest S (step (vertex V j) q) (vertex V j)
farthest_from S V last j q o p l t =
    farthest_here S V last j (step (vertex V j) q) o p l (not_onward (vertex V j) (previous V j) q t.0)
    (not_onward (vertex V j) (vertex V (j + 1)) q t.1)

-- ---- if no edge is seen, q is covered

-- whether one of the first n has a property can be decided
pub search_below : (P : ℕ → Type 0) → ((i : ℕ) → P i ⊎ ¬ P i) → (n : ℕ)
    → ((k : ℕ) × (k < n) × P k) ⊎ ((k : ℕ) → k < n → ¬ P k)
search_below P returned zero = inr (λ k l. absurd (omega (arith, l)))
search_below P returned (suc n) = elim (search_below P returned n) [
  | inl r ↦ inl (r.0, omega (arith, r.1), r.2)
  | inr h ↦ elim (returned n) [
    | inl p ↦ inl (n, omega arith, p)
    | inr f ↦ inr (λ k l. elim (cases_lt k n) [
      | inl m ↦ h k m
      | inr m ↦ λ p. f (subst P (omega (arith, l, m)) p)
    ])
  ]
]

-- if there are at least three vertices, and q is right of no edge, q is covered
unseen_many : (S V : List Pair) (last : ℕ) (q : Pair) → IsPolygonOf S V → IsSeparated V last → 2 < length V → ¬ Covers S q
    → ((j : ℕ) → j < length V → ¬ (orient (vertex V j) (vertex V (j + 1)) q <ℤ pos 0)) → ⊥
unseen_many S V last q o p many out h = elim (covers_or_separated S q o.0) [
  | inl c ↦ out c
  | inr a ↦
      let d : Pair = a.0 in
      let r = farthest_vertex S V last d o p (omega (arith, many)) in
      let k = placed V r.0 (omega (arith, many)) in
      let j : ℕ = k.0 in
      let top : IsFarthest S d (vertex V j) = subst (IsFarthest S d) k.2 r.1.1 in
      let b = previous_at V j k.1 in
      clash _ _ (All-contains (λ t. product d t <ℤ product d q) S (vertex V j) a.1
      (vertex_extreme S V j o.1 (omega (arith, many))).0)
      (no_farther_in_cone d (previous V j) (vertex V j) (vertex V (j + 1)) q (bends_at S V j o.1 k.1 many)
      (not_less _ (pos 0) (rw (b.3, ← b.4) (h b.0 b.1))) (not_less _ (pos 0) (h j k.1))
      (gap_np _ _ (All-contains (λ t. product d t ≤ℤ product d (vertex V j)) S (vertex V (j + 1)) top
      (vertex_extreme S V (j + 1) o.1 (omega (arith, many))).0))
      (gap_np _ _ (All-contains (λ t. product d t ≤ℤ product d (vertex V j)) S (previous V j) top
      (subst (Contains S) (sym b.3) (vertex_extreme S V b.0 o.1 (omega (arith, many))).0))))
]
  where
    clash : (x y : ℤ) → x <ℤ y → (y -ℤ x) ≤ℤ pos 0 → ⊥
    clash x y h k = omega (arith, ints)

-- ---- on the line of two vertices

-- no point of a segment is farther than both its ends
not_over : (d u v t : Pair) → product d u <ℤ product d t → product d v <ℤ product d t → IsOnSegment u v t → ⊥
not_over d u v t h k s =
    not_covered (segment u v) t (
      d,
      all_of (λ z. product d z <ℤ product d t) (segment u v) (λ z m. elim (one_of_two u v z m) [
        | inl e ↦ subst (λ (y : Pair). product d y <ℤ product d t) (sym e) h
        | inr e ↦ subst (λ (y : Pair). product d y <ℤ product d t) (sym e) k
      ]),
    )
    (OnSegment u v (start_there u v) (end_there u v) s)

-- the step back has the opposite products
pub step_back : (a b t : Pair) → product (step b a) t ≡ neg_ℤ (product (step a b) t)
unfolding product
step_back a b t = rw (as_pair a, as_pair b, as_pair t) (simp difference_rules (difference-eq _ _ _ _ (omega arith)))

-- a point of the line of a and b that lies onward from both is on their segment
between_both : (a b q : Pair) → orient a b q ≡ pos 0 → IsOnward a b q → IsOnward b a q → IsOnSegment a b q
between_both a b q z h k =
    among_on_segment a q b z (third_among b q a
    (λ m. not_over (opp f) b q a (farther_back f a b (omega (arith, ints, short))) (farther_back f a q h)
    (among_on_segment b a q (orient_swap_zero b a q (orient_other a b q ∙ ap neg_ℤ z)) m))
    (λ m. not_over f a q b (omega (arith, ints, short)) short
    (among_on_segment a b q (orient_swap_zero a b q z) m)))
  where
    f : Pair
    f = step a b

    short : product f q <ℤ product f b
    short = less_opposites _ _ _ _ (step_back a b b) (step_back a b q) k

-- ---- if no vertex and no edge is the nearest, there is none nearer to go on to

-- none of the vertices and none of the edges is the nearest
abbrev pub NoneNearest : List Pair → Pair → Type 0
NoneNearest V q =
    (k : ℕ) → k < length V
    → ¬ IsTurnedFrom (previous V k) (vertex V k) (vertex V (k + 1)) q × ¬ IsBeside (vertex V k) (vertex V (k + 1)) q

-- q lies right of an edge to the vertex at j or from it
abbrev IsSeenAt : List Pair → Pair → ℕ → Type 0
IsSeenAt V q j = (orient (previous V j) (vertex V j) q <ℤ pos 0) ⊎ (orient (vertex V j) (vertex V (j + 1)) q <ℤ pos 0)

-- no vertex at an edge that is seen has a squared distance below m
abbrev NoneWithin : List Pair → Pair → ℕ → Type 0
NoneWithin V q m = (j : ℕ) → j < length V → IsSeenAt V q j → far (vertex V j) q <ℤ pos m → ⊥

-- whether q lies onward can be decided
onward_returned : (a b q : Pair) → IsOnward a b q ⊎ ¬ IsOnward a b q
onward_returned a b q = less_returned (product (step a b) a) (product (step a b) q)

-- a number less than one below m + 1 is below m
one_less : (m : ℕ) (x y : ℤ) → x <ℤ y → y <ℤ pos (suc m) → x <ℤ pos m
one_less m x y h k = omega (arith, ints)

module _ (S V : List Pair) (q : Pair) (o : IsPolygonOf S V) (none : NoneNearest V q) where
  -- if an edge is seen, with q onward on it, the search goes on to its end
  go_on : (m j : ℕ) → NoneWithin V q m → j < length V → orient (vertex V j) (vertex V (j + 1)) q <ℤ pos 0
      → IsOnward (vertex V j) (vertex V (j + 1)) q → far (vertex V j) q <ℤ pos (suc m) → ⊥
  go_on m j ih l s h b = elim (onward_returned (vertex V (j + 1)) (vertex V j) q) [
    | inl k ↦ (none j l).1 (s, h, k)
    | inr k ↦
        let a = next_at V j l in
        ih a.0 a.1
        (inl (rw (a.4) (subst (λ (z : Pair). orient (vertex V j) z q <ℤ pos 0) a.3 s)))
        (one_less m _ _ (subst (λ (z : Pair). far z q <ℤ far (vertex V j) q) a.3
        (nearer_to_next (vertex V j) (vertex V (j + 1)) q h k)) b)
  ]

  -- if an edge is seen, with q back on it, the search goes back to its start
  go_back : (m j : ℕ) → NoneWithin V q m → j < length V → orient (previous V j) (vertex V j) q <ℤ pos 0
      → IsOnward (vertex V j) (previous V j) q → far (vertex V j) q <ℤ pos (suc m) → ⊥
  go_back m j ih l s h b =
      let p = previous_at V j l in
      elim (onward_returned (previous V j) (vertex V j) q) [
        | inl k ↦ (none p.0 p.1).1 (rw (← p.3, p.4) (s, k, h))
        | inr k ↦
            ih p.0 p.1
            (inr (rw (← p.3, p.4) s))
            (one_less m _ _ (subst (λ (z : Pair). far z q <ℤ far (vertex V j) q) p.3
            (nearer_to_next (vertex V j) (previous V j) q h k)) b)
      ]

  -- if q is right of only the edge from a vertex, and not onward on it, it is not back on the other
  not_back : (j : ℕ) → j < length V → pos 0 ≤ℤ orient (previous V j) (vertex V j) q
      → orient (vertex V j) (vertex V (j + 1)) q <ℤ pos 0 → ¬ IsOnward (vertex V j) (vertex V (j + 1)) q
      → ¬ IsOnward (vertex V j) (previous V j) q
  not_back j l h k n = elim (cases_lt 2 (length V)) [
    | inl many ↦ turned_to_second (previous V j) (vertex V j) (vertex V (j + 1)) q (bends_at S V j o.1 l many) h k n
    | inr few ↦ subst (λ (z : Pair). ¬ IsOnward (vertex V j) z q) (sym (same_beside V j l few)) n
  ]

  -- if q is right of only the edge to a vertex, and not back on it, it is not onward on the other
  not_on : (j : ℕ) → j < length V → orient (previous V j) (vertex V j) q <ℤ pos 0
      → pos 0 ≤ℤ orient (vertex V j) (vertex V (j + 1)) q → ¬ IsOnward (vertex V j) (previous V j) q
      → ¬ IsOnward (vertex V j) (vertex V (j + 1)) q
  not_on j l h k n = elim (cases_lt 2 (length V)) [
    | inl many ↦ turned_to_first (previous V j) (vertex V j) (vertex V (j + 1)) q (bends_at S V j o.1 l many) h k n
    | inr few ↦ subst (λ (z : Pair). ¬ IsOnward (vertex V j) z q) (same_beside V j l few) n
  ]

  -- the search goes on from a vertex if the edge from it is seen
  step_out : (m j : ℕ) → NoneWithin V q m → j < length V → orient (vertex V j) (vertex V (j + 1)) q <ℤ pos 0
      → far (vertex V j) q <ℤ pos (suc m) → ⊥
  step_out m j ih l s b = elim (onward_returned (vertex V j) (vertex V (j + 1)) q) [
    | inl on ↦ go_on m j ih l s on b
    | inr off ↦ elim (le_or_lt (pos 0) (orient (previous V j) (vertex V j) q)) [
      | inl h ↦ (none j l).0 (not_back j l h s off, off)
      | inr h ↦ elim (onward_returned (vertex V j) (previous V j) q) [
        | inl back ↦ go_back m j ih l h back b
        | inr stay ↦ (none j l).0 (stay, off)
      ]
    ]
  ]

  -- the search goes on from a vertex if only the edge to it is seen
  step_in : (m j : ℕ) → NoneWithin V q m → j < length V → orient (previous V j) (vertex V j) q <ℤ pos 0
      → pos 0 ≤ℤ orient (vertex V j) (vertex V (j + 1)) q → far (vertex V j) q <ℤ pos (suc m) → ⊥
  step_in m j ih l s h b = elim (onward_returned (vertex V j) (previous V j) q) [
    | inl back ↦ go_back m j ih l s back b
    | inr stay ↦ (none j l).0 (stay, not_on j l s h stay)
  ]

  -- no vertex at an edge that is seen has a squared distance below m, for any m
  none_within : (m : ℕ) → NoneWithin V q m
  none_within zero j l s b = negative _ (way_forward (vertex V j) q) b
    where
      negative : (x : ℤ) → pos 0 ≤ℤ x → x <ℤ pos 0 → ⊥
      negative x h k = omega (arith, ints)
  none_within (suc m) j l s b = elim (le_or_lt (pos 0) (orient (vertex V j) (vertex V (j + 1)) q)) [
    | inr out ↦ step_out m j (none_within m) l out b
    | inl h ↦ elim s [
      | inl to ↦ step_in m j (none_within m) l to h b
      | inr out ↦ step_out m j (none_within m) l out b
    ]
  ]

  -- each whole number is below some natural number
  above_it : (z : ℤ) → (m : ℕ) × (z <ℤ pos m)
  above_it (pos n) = (suc n, omega (arith, ints))
  above_it (negsuc n) = (0, omega (arith, ints))

  -- if there are one or two vertices, and q is right of no edge, q is covered
  none_few : (length V ≤ 2) → 0 < length V → ¬ Covers S q
      → ((j : ℕ) → j < length V → ¬ (orient (vertex V j) (vertex V (j + 1)) q <ℤ pos 0)) → ⊥
  none_few few n out h =
      let a = next_at V 0 n in
      let back : vertex V (a.0 + 1) ≡ vertex V 0 = sym (same_beside V a.0 a.1 few) ∙ a.4 in
      let there : pos 0 ≤ℤ orient (vertex V 0) (vertex V 1) q = not_less _ (pos 0) (h 0 n) in
      let here : pos 0 ≤ℤ orient (vertex V 1) (vertex V 0) q = not_less _ (pos 0) (rw (a.3, ← back) (h a.0 a.1)) in
      let line : orient (vertex V 0) (vertex V 1) q ≡ pos 0 =
      omega (arith, ints, orient_other (vertex V 0) (vertex V 1) q, there, here) in
      elim (onward_returned (vertex V 0) (vertex V 1) q) [
        | inr off ↦ (none 0 n).0
            (subst (λ (z : Pair). ¬ IsOnward (vertex V 0) z q) (sym (same_beside V 0 n few)) off, off)
        | inl on ↦ elim (onward_returned (vertex V 1) (vertex V 0) q) [
          | inr off ↦ (none a.0 a.1).0 (rw (← a.3, a.4, back) (off, off))
          | inl back_on ↦ out (OnSegment (vertex V 0) (vertex V 1) (vertex_extreme S V 0 o.1 n).0
              (vertex_extreme S V 1 o.1 n).0 (between_both (vertex V 0) (vertex V 1) q line on back_on))
        ]
      ]

  -- some vertex or some edge is the nearest to a point that is not covered
  pub never_none : (last : ℕ) → IsSeparated V last → 0 < length V → ¬ Covers S q → ⊥
  never_none last p n out =
      elim (search_below (λ k. orient (vertex V k) (vertex V (k + 1)) q <ℤ pos 0)
      (λ k. less_returned (orient (vertex V k) (vertex V (k + 1)) q) (pos 0)) (length V)) [
        | inl r ↦
            let m = above_it (far (vertex V r.0) q) in
            none_within m.0 r.0 r.1 (inr r.2) m.1
        | inr h ↦ elim (cases_lt 2 (length V)) [
          | inl many ↦ unseen_many S V last q o p many out h
          | inr few ↦ none_few few n out h
        ]
      ]
