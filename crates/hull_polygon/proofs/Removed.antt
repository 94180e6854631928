-- If no other point lies right of the line between the vertices beside a vertex, the others stay the vertices without it.
use Rattle.std.proofs.Common.{◌≡◌, ℕ, ◌+◌, ◌-◌, ◌≤◌, ◌<◌, pos, ◌≤ℤ◌, ◌<ℤ◌, ◌⊎◌, List, length, get_or, inl, inr, refl, sym, ap, ◌∙◌, subst, arith}
use Rattle.std.specs.List.{Contains, remove}
use Rattle.std.proofs.lemmas.Bool.{cases_lt}
use Rattle.std.proofs.lemmas.List.Edits.{length-remove, get_or-remove_below, get_or-remove_above}
use Rattle.std.proofs.lemmas.List.Elements.{All-contains}
use Rattle.lattice.specs.Covers.{without_point}
use Rattle.lattice.specs.Plane.{Pair, orient, IsBefore}
use Rattle.lattice.specs.Vertices.{IsLeftOf, IsVertexList}
use Rattle.lattice.specs.declared.side.Side.TheVariants.{Lower, Upper}
use Rattle.lattice.proofs.LineCrossings.{orient_cycle}
use Rattle.hull_geometry.specs.Positions.{origin, point_at}
use Rattle.hull_geometry.proofs.ChangedSets.{in_without}
use Rattle.hull_geometry.proofs.SetLaws.{ordered_without, members_without}
use Rattle.hull_geometry.proofs.PointLists.{get_or_free}
use Rattle.hull_polygon.specs.Polygons.{IsPolygon, IsPolygonOf}
use Rattle.hull_polygon.specs.Rounds.{vertex, GoesOn, BendsLeft, IsRound}
use Rattle.hull_polygon.proofs.Vertices.{vertex_back, vertex_extreme, vertex_of}
use Rattle.hull_polygon.proofs.Ends.{ends_of}
use Rattle.hull_polygon.proofs.Made.{round_is_polygon}
use Rattle.hull_polygon.proofs.Convex.{IsLeftOrEnd}
use Rattle.hull_polygon.proofs.RoundChains.{renumbered, left_ahead, left_back}
use Rattle.hull_polygon.proofs.Staying.{later_along}
use Rattle.hull_polygon.proofs.Enclosed.{IsEnclosed, list_of_round, left_of_edge}

-- ---- the list without the vertex at i

-- the first vertex stays
first_stays : (V : List Pair) (i : ℕ) → 0 < i → i < length V → point_at (remove V i) 0 ≡ point_at V 0
first_stays V i p l = get_or-remove_below V i origin 0 p l

-- the vertices before it keep their indices
before_it : (V : List Pair) (i k : ℕ) → 0 < i → i < length V → k < i → vertex (remove V i) k ≡ vertex V k
before_it V i k p l h =
    get_or-remove_below V i (point_at (remove V i) 0) k h l
    ∙ get_or_free V k (point_at (remove V i) 0) (point_at V 0) (omega (arith, l, h))

-- those after it move down
after_it : (V : List Pair) (i k : ℕ) → 0 < i → i < length V → i ≤ k → vertex (remove V i) k ≡ vertex V (k + 1)
after_it V i k p l h =
    get_or-remove_above V i (point_at (remove V i) 0) k h l
    ∙ ap (get_or V (k + 1)) (first_stays V i p l)

-- ---- strict turns

-- vertices at different indices are different
apart : (S V : List Pair) (a b : ℕ) → IsPolygonOf S V → a < length V → b < length V → ¬ (a ≡ b)
    → ¬ (vertex V a ≡ vertex V b)
apart S V a b o la lb ne q = elim (cases_lt a b) [
  | inl h ↦ o.1.distinct a b (point_at V 0) h lb q
  | inr h ↦ o.1.distinct b a (point_at V 0) (omega (arith, h, ne)) la (sym q)
]

-- each vertex lies left of an edge unless it is one of its ends
strictly_left : (S V : List Pair) (last i j k : ℕ) → IsPolygonOf S V → IsRound V last → j ≡ i + 1 → i < length V
    → k < length V → ¬ (k ≡ i) → ¬ (k ≡ j) → (length V ≤ j → 0 < k)
    → pos 0 <ℤ orient (vertex V i) (vertex V j) (vertex V k)
strictly_left S V last i j k o r e l n ki kj wrap = by_end (elim (cases_lt i last) [
  | inl h ↦ left_ahead V last i j k r e h n
  | inr h ↦ left_back V last i j k r e h l n
])
  where
    by_end : IsLeftOrEnd (vertex V i) (vertex V j) (vertex V k) → pos 0 <ℤ orient (vertex V i) (vertex V j) (vertex V k)
    by_end (inl h) = h
    by_end (inr (inl q)) = absurd (apart S V k i o n l ki q)
    by_end (inr (inr q)) = absurd (elim (cases_lt j (length V)) [
      | inl h ↦ apart S V k j o n h kj q
      | inr h ↦ apart S V k 0 o n (omega (arith, n)) (λ z. let w = wrap h in omega (arith, z, w))
          (q ∙ vertex_back V j h (omega (arith, n)))
    ])

-- where the last vertex is after the one at i is removed
abbrev pub IsLastWithout : ℕ → ℕ → ℕ → Type 0
IsLastWithout i last new = ((i < last) × (new + 1 ≡ last)) ⊎ ((last < i) × (new ≡ last))

-- ---- the round without the vertex at i

-- the steps go on
steps_without : (V : List Pair) (last i new k : ℕ) → IsRound V last → 0 < i → i < length V → IsLastWithout i last new
    → k + 1 < length V → GoesOn (remove V i) new k
steps_without V last i new k r p l c n = elim (cases_lt (k + 1) i) [
  | inl h ↦ both k (k + 1) (before_it V i k p l (omega (arith, h))) (before_it V i (k + 1) p l h)
      (λ q. (r.steps k (omega (arith, n))).0 (low q)) (λ q. (r.steps k (omega (arith, n))).1 (high h q))
  | inr h ↦ elim (cases_lt k i) [
    | inl b ↦ both k (k + 2) (before_it V i k p l b)
        (after_it V i (k + 1) p l (omega (arith, h)) ∙ ap (vertex V) (omega arith)) (over b h) (under b h)
    | inr b ↦ both (k + 1) (k + 2) (after_it V i k p l b)
        (after_it V i (k + 1) p l (omega (arith, h)) ∙ ap (vertex V) (omega arith))
        (λ q. renumbered V (IsBefore (vertex V (k + 1))) (k + 1 + 1) (k + 2) (omega arith)
        ((r.steps (k + 1) n).0 (above b q)))
        (λ q. renumbered V (λ z. IsBefore z (vertex V (k + 1))) (k + 1 + 1) (k + 2) (omega arith)
        ((r.steps (k + 1) n).1 (beyond q)))
  ]
]
  where
    both : (a b : ℕ) → vertex (remove V i) k ≡ vertex V a → vertex (remove V i) (k + 1) ≡ vertex V b
        → (k < new → IsBefore (vertex V a) (vertex V b)) → (new ≤ k → IsBefore (vertex V b) (vertex V a))
        → GoesOn (remove V i) new k
    both a b e f g h = rw (e, f) (g, h)

    low : k < new → k < last
    low q = elim c [ inl h ↦ omega (arith, h.1, q) | inr h ↦ omega (arith, h.1, q) ]

    high : k + 1 < i → new ≤ k → last ≤ k
    high b q = elim c [ inl h ↦ absurd (omega (arith, h.0, h.1, q, b)) | inr h ↦ omega (arith, h.1, q) ]

    above : i ≤ k → k < new → k + 1 < last
    above b q = elim c [ inl h ↦ omega (arith, h.1, q) | inr h ↦ absurd (omega (arith, h.0, h.1, q, b)) ]

    beyond : new ≤ k → last ≤ k + 1
    beyond q = elim c [ inl h ↦ omega (arith, h.1, q) | inr h ↦ omega (arith, h.1, q) ]

    over : k < i → i ≤ k + 1 → k < new → IsBefore (vertex V k) (vertex V (k + 2))
    over b h q = later_along Lower V last k 1 r (omega arith)
        (elim c [ inl d ↦ omega (arith, d.0, d.1, q, b, h) | inr d ↦ absurd (omega (arith, d.0, d.1, q, b, h)) ])

    under : k < i → i ≤ k + 1 → new ≤ k → IsBefore (vertex V (k + 2)) (vertex V k)
    under b h q = later_along Upper V last k 1 r
        (elim c [ inl d ↦ absurd (omega (arith, d.0, d.1, q, b, h)) | inr d ↦ omega (arith, d.1, q) ])
        (omega (arith, n))

-- they bend left
bends_without : (S V : List Pair) (last i new k : ℕ) → IsPolygonOf S V → IsRound V last → 0 < i → i < length V
    → IsLastWithout i last new → BendsLeft (remove V i) new k
bends_without S V last i new k o r p l c apart m = elim (cases_lt (k + 1) i) [
  | inl h ↦ elim (cases_lt (k + 2) i) [
    | inl b ↦ all k (k + 1) (k + 2) (before_it V i k p l (omega (arith, b))) (before_it V i (k + 1) p l h)
        (before_it V i (k + 2) p l b) (r.bends k (omega (arith, b, l)) (λ q. apart (kept h q)) (omega (arith, b, l)))
    | inr b ↦ all k (k + 1) (k + 3) (before_it V i k p l (omega (arith, h))) (before_it V i (k + 1) p l h)
        (after_it V i (k + 2) p l b ∙ ap (vertex V) (omega arith)) (ahead h b)
  ]
  | inr h ↦ elim (cases_lt k i) [
    | inl b ↦ all k (k + 2) (k + 3) (before_it V i k p l b)
        (after_it V i (k + 1) p l h ∙ ap (vertex V) (omega arith))
        (after_it V i (k + 2) p l (omega (arith, h)) ∙ ap (vertex V) (omega arith)) (across b h)
    | inr b ↦ all (k + 1) (k + 2) (k + 3) (after_it V i k p l b ∙ ap (vertex V) (omega arith))
        (after_it V i (k + 1) p l h ∙ ap (vertex V) (omega arith))
        (after_it V i (k + 2) p l (omega (arith, h)) ∙ ap (vertex V) (omega arith))
        (renumbered V (λ z. pos 0 <ℤ orient (vertex V (k + 1)) z (vertex V (k + 3))) (k + 1 + 1) (k + 2) (omega arith)
        (renumbered V (λ z. pos 0 <ℤ orient (vertex V (k + 1)) (vertex V (k + 1 + 1)) z) (k + 1 + 2) (k + 3) (omega arith)
        (r.bends (k + 1) (omega (arith, long)) (λ q. apart (later b q)) (omega (arith, long)))))
  ]
]
  where
    long : k + 2 < length V
    long = let n = length-remove V i l in omega (arith, n, m)

    all : (a b d : ℕ) → vertex (remove V i) k ≡ vertex V a → vertex (remove V i) (k + 1) ≡ vertex V b
        → vertex (remove V i) (k + 2) ≡ vertex V d → pos 0 <ℤ orient (vertex V a) (vertex V b) (vertex V d)
        → pos 0 <ℤ orient (vertex (remove V i) k) (vertex (remove V i) (k + 1)) (vertex (remove V i) (k + 2))
    all a b d e f g h = rw (e, f, g) h

    kept : k + 1 < i → k + 1 ≡ last → k + 1 ≡ new
    kept h q = elim c [ inl d ↦ absurd (omega (arith, d.0, d.1, h, q)) | inr d ↦ omega (arith, d.1, q) ]

    later : i ≤ k → k + 1 + 1 ≡ last → k + 1 ≡ new
    later h q = elim c [ inl d ↦ omega (arith, d.1, q) | inr d ↦ absurd (omega (arith, d.0, q, h)) ]

    ahead : k + 1 < i → i ≤ k + 2 → pos 0 <ℤ orient (vertex V k) (vertex V (k + 1)) (vertex V (k + 3))
    ahead h b = elim (cases_lt (k + 3) (length V)) [
      | inl q ↦ strictly_left S V last k (k + 1) (k + 3) o r refl (omega (arith, q)) q (λ z. omega (arith, z))
          (λ z. omega (arith, z)) (λ z. omega (arith, z))
      | inr q ↦ subst (λ (z : Pair). pos 0 <ℤ orient (vertex V k) (vertex V (k + 1)) z)
          (sym (vertex_back V (k + 3) q (omega (arith, l))))
          (strictly_left S V last k (k + 1) 0 o r refl (omega (arith, long)) (omega (arith, l)) (away h b q)
          (λ z. omega (arith, z)) (λ z. absurd (omega (arith, z, long))))
    ]
      where
        away : k + 1 < i → i ≤ k + 2 → length V ≤ k + 3 → ¬ (0 ≡ k)
        away h b q z = elim c [
          | inl d ↦ omega (arith, d.0, h, b, q, r.within)
          | inr d ↦ apart (omega (arith, d.0, d.1, h, b, z, r.starts))
        ]

    across : k < i → i ≤ k + 1 → pos 0 <ℤ orient (vertex V k) (vertex V (k + 2)) (vertex V (k + 3))
    across b h = subst (λ z. pos 0 <ℤ z) (sym (orient_cycle (vertex V k) (vertex V (k + 2)) (vertex V (k + 3))))
        (strictly_left S V last (k + 2) (k + 3) k o r (omega arith) long (omega (arith, l, b)) (λ z. omega (arith, z))
        (λ z. omega (arith, z)) (λ z. positive z))
      where
        positive : length V ≤ k + 3 → 0 < k
        positive z = elim (cases_lt 0 k) [
          | inl q ↦ q
          | inr q ↦ absurd (apart (elim c [
            | inl d ↦ omega (arith, d.0, d.1, b, h, q, z, r.within)
            | inr d ↦ absurd (omega (arith, d.0, b, h, q, r.starts))
          ]))
        ]

-- the round without the vertex
round_without : (S V : List Pair) (last i new : ℕ) → IsPolygonOf S V → IsRound V last → 0 < i → i < length V
    → IsLastWithout i last new → IsRound (remove V i) new
round_without S V last i new o r p l c = let n = length-remove V i l in record {
  starts = elim c [ inl d ↦ omega (arith, d.0, d.1, p) | inr d ↦ omega (arith, d.1, r.starts) ];
  within = elim c [ inl d ↦ omega (arith, d.0, d.1, n, r.within) | inr d ↦ omega (arith, d.0, d.1, n, l) ];
  steps = λ k m. steps_without V last i new k r p l c (omega (arith, m, n));
  bends = λ k m. bends_without S V last i new k o r p l c;
}

-- ---- the set without the vertex

-- the vertices without the one at i are points of the set without it
still_there : (S V : List Pair) (i : ℕ) → IsPolygonOf S V → 0 < i → i < length V → (t : Pair) → Contains (remove V i) t
    → Contains (without_point (vertex V i) S) t
still_there S V i o p l t m =
    let n = length-remove V i l in
    let c = vertex_of (remove V i) t m in
    elim (cases_lt c.0 i) [
      | inl h ↦ member c.0 (omega (arith, h, l)) (λ q. omega (arith, h, q)) (c.2 ∙ before_it V i c.0 p l h)
      | inr h ↦ member (c.0 + 1) (omega (arith, c.1, n)) (λ q. omega (arith, h, q)) (c.2 ∙ after_it V i c.0 p l h)
    ]
  where
    member : (k : ℕ) → k < length V → ¬ (k ≡ i) → t ≡ vertex V k → Contains (without_point (vertex V i) S) t
    member k h ne e = subst (Contains (without_point (vertex V i) S)) (sym e)
        (in_without (vertex V i) (vertex V k) S (apart S V k i o h l ne) (vertex_extreme S V k o.1 (omega (arith, l))).0)

-- the vertices without the one at i enclose the set without it
still_enclosed : (S V : List Pair) (last i new : ℕ) → IsPolygonOf S V → IsRound V last → 0 < i → i < length V
    → IsLastWithout i last new → IsLeftOf (without_point (vertex V i) S) (vertex V (i - 1)) (vertex V (i + 1)) → (t : Pair)
    → Contains (without_point (vertex V i) S) t → IsEnclosed (remove V i) new t
still_enclosed S V last i new o r p l c a t m =
    let k : Contains S t = ((members_without (vertex V i) t S o.0).0 m).0 in
    let ends = ends_of S V last o (λ h. r.within, λ h. r) (omega (arith, l)) in record {
      from = rw (before_it V i 0 p l p) (ends.0 t k);
      to = subst (λ (z : Pair). ¬ (IsBefore z t)) (sym last_there) (ends.1 t k);
      left = λ j h. left j (omega (arith, h, length-remove V i l)) k;
    }
  where
    last_there : vertex (remove V i) new ≡ vertex V last
    last_there = elim c [
      | inl d ↦ after_it V i new p l (omega (arith, d.0, d.1)) ∙ ap (vertex V) d.1
      | inr d ↦ before_it V i new p l (omega (arith, d.0, d.1)) ∙ ap (vertex V) d.1
    ]

    both : (j u v : ℕ) → vertex (remove V i) j ≡ vertex V u → vertex (remove V i) (j + 1) ≡ vertex V v
        → pos 0 ≤ℤ orient (vertex V u) (vertex V v) t
        → pos 0 ≤ℤ orient (vertex (remove V i) j) (vertex (remove V i) (j + 1)) t
    both j u v e f h = rw (e, f) h

    across : pos 0 ≤ℤ orient (vertex V (i - 1)) (vertex V (i + 1)) t
    across = All-contains (λ z. pos 0 ≤ℤ orient (vertex V (i - 1)) (vertex V (i + 1)) z) (without_point (vertex V i) S) t a m

    left : (j : ℕ) → j + 1 < length V → Contains S t
        → pos 0 ≤ℤ orient (vertex (remove V i) j) (vertex (remove V i) (j + 1)) t
    left j h k = elim (cases_lt (j + 1) i) [
      | inl b ↦ both j j (j + 1) (before_it V i j p l (omega (arith, b))) (before_it V i (j + 1) p l b)
          (left_of_edge S V j (j + 1) t o refl (omega (arith, h)) k)
      | inr b ↦ elim (cases_lt j i) [
        | inl q ↦ both j (i - 1) (i + 1) (before_it V i j p l q ∙ ap (vertex V) (omega (arith, b, q)))
            (after_it V i (j + 1) p l b ∙ ap (vertex V) (omega (arith, b, q))) across
        | inr q ↦ both j (j + 1) (j + 2) (after_it V i j p l q)
            (after_it V i (j + 1) p l b ∙ ap (vertex V) (omega arith)) (left_of_edge S V (j + 1) (j + 2) t o (omega arith) h k)
      ]
    ]

-- there is a last vertex without any other
last_without : (last i : ℕ) → ¬ (i ≡ last) → (new : ℕ) × IsLastWithout i last new
last_without last i n = elim (cases_lt i last) [
  | inl h ↦ (last - 1, inl (h, omega (arith, h)))
  | inr h ↦ (last, inr (omega (arith, h, n), refl))
]

-- the vertices without the one at i are a polygon
pub polygon_without : (V : List Pair) (last i : ℕ) → IsRound V last → 0 < i → i < length V → ¬ (i ≡ last)
    → IsPolygon (remove V i)
polygon_without V last i r p l n =
    let some = round_is_polygon V last r in
    let c = last_without last i n in
    round_is_polygon (remove V i) c.0 (round_without some.0 V last i c.0 some.1 r p l c.1)

-- if no other point lies right of the line between those beside it, they are the vertices of the set without it
pub without_vertex : (S V : List Pair) (last i : ℕ) → IsPolygonOf S V → IsRound V last → 0 < i → i < length V → ¬ (i ≡ last)
    → IsLeftOf (without_point (vertex V i) S) (vertex V (i - 1)) (vertex V (i + 1))
    → IsVertexList (without_point (vertex V i) S) (remove V i)
without_vertex S V last i o r p l n a =
    let c = last_without last i n in
    list_of_round (without_point (vertex V i) S) (remove V i) c.0 (ordered_without (vertex V i) S o.0)
    (round_without S V last i c.0 o r p l c.1) (still_there S V i o p l)
    (λ t m. inr (still_enclosed S V last i c.0 o r p l c.1 a t m))
