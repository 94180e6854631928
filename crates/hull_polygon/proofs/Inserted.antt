-- If p lies between two vertices of a chain, from the one of which to p and on to the other no point lies right, then p
-- takes the place of what is between them.
use Rattle.std.proofs.Common.{◌≡◌, ℕ, zero, suc, ◌+◌, ◌-◌, ◌≤◌, ◌<◌, pos, ◌≤ℤ◌, ◌<ℤ◌, List, ◌∷◌, length, get_or, take, drop}
use Rattle.std.proofs.Common.{inl, inr, refl, sym, ap, ◌∙◌, subst, arith, length-append, length-drop}
use Rattle.std.specs.List.{Contains}
use Rattle.std.proofs.lemmas.Bool.{cases_lt}
use Rattle.std.proofs.lemmas.List.{get_or_append_left, get_or_at, get_or-append_right, get_or-take, get_or-drop, length-take-le}
use Rattle.std.proofs.lemmas.List.Elements.{All-contains}
use Rattle.lattice.specs.Covers.{with_point}
use Rattle.lattice.specs.Plane.{Pair, orient, IsBefore}
use Rattle.lattice.specs.Vertices.{IsLeftOf, IsVertexList}
use Rattle.lattice.specs.declared.side.Side.{Side}
use Rattle.lattice.specs.declared.side.Side.TheVariants.{Lower, Upper}
use Rattle.hull_geometry.specs.Edges.{IsAlong}
use Rattle.hull_geometry.specs.Positions.{origin, point_at}
use Rattle.hull_geometry.proofs.SetLaws.{ordered_with, members_with}
use Rattle.hull_geometry.proofs.PointLists.{get_or_free}
use Rattle.hull_polygon.specs.Insertions.{put_between}
use Rattle.hull_polygon.specs.Polygons.{IsPolygonOf}
use Rattle.hull_polygon.specs.Rounds.{vertex, GoesOn, BendsLeft, IsRound}
use Rattle.hull_polygon.specs.Touches.{starts_at, ends_at}
use Rattle.hull_polygon.proofs.Vertices.{vertex_extreme, vertex_there, vertex_of}
use Rattle.hull_polygon.proofs.Ends.{ends_of}
use Rattle.hull_polygon.proofs.Enclosed.{IsEnclosed, list_of_round, left_of_edge}

-- ---- the list with p between the vertices at l and r

-- how many points it has
pub length_put : (V : List Pair) (l r : ℕ) (p : Pair) → l < length V → r ≤ length V
    → length (put_between V l r p) + r ≡ length V + l + 2
length_put V l r p h k =
    let a = length-append (take (l + 1) V) (p ∷ drop r V) in
    let b = length-take-le (l + 1) V (omega (arith, h)) in
    let d = length-drop r V in omega (arith, a, b, d, k)

-- the members before p keep their indices
read_before : (V : List Pair) (l r k : ℕ) (p d : Pair) → l < length V → k ≤ l
    → get_or (put_between V l r p) k d ≡ get_or V k d
read_before V l r k p d h u =
    let b = length-take-le (l + 1) V (omega (arith, h)) in
    get_or_append_left (take (l + 1) V) (p ∷ drop r V) d k (omega (arith, b, u))
    ∙ get_or-take (l + 1) V k d (omega (arith, u))

-- the first one stays
first_kept : (V : List Pair) (l r : ℕ) (p : Pair) → l < length V → point_at (put_between V l r p) 0 ≡ point_at V 0
first_kept V l r p h = read_before V l r 0 p origin h (omega arith)

-- the vertices before p keep their indices
pub before_put : (V : List Pair) (l r k : ℕ) (p : Pair) → l < length V → k ≤ l → vertex (put_between V l r p) k ≡ vertex V k
before_put V l r k p h u =
    read_before V l r k p (point_at (put_between V l r p) 0) h u
    ∙ get_or_free V k (point_at (put_between V l r p) 0) (point_at V 0) (omega (arith, h, u))

-- after that at l is p
pub at_put : (V : List Pair) (l r : ℕ) (p : Pair) → l < length V → vertex (put_between V l r p) (l + 1) ≡ p
at_put V l r p h =
    get_or_at (take (l + 1) V) p (drop r V) (point_at (put_between V l r p) 0) (l + 1)
    (length-take-le (l + 1) V (omega (arith, h)))

-- after p are the vertices from that at r on
pub after_put : (V : List Pair) (l r k n m : ℕ) (p : Pair) → l < length V → k ≡ l + 2 + n → m ≡ r + n
    → vertex (put_between V l r p) k ≡ vertex V m
after_put V l r k n m p h e f =
    let d = point_at (put_between V l r p) 0 in
    let past : k - (l + 1) ≡ suc n = omega (arith, e) in
    get_or-append_right (take (l + 1) V) (p ∷ drop r V) (l + 1) k d
    (length-take-le (l + 1) V (omega (arith, h))) (omega (arith, e))
    ∙ ap (λ (i : ℕ). get_or (p ∷ drop r V) i d) past
    ∙ get_or-drop r V n d
    ∙ ap (get_or V (r + n)) (first_kept V l r p h)
    ∙ ap (vertex V) (sym f)

-- ---- p between two vertices

-- p comes between the vertices at l and r of a chain, left of the edge to the one and of that from the other, and from the
-- one to p and on to the other is a left turn
pub record IsPut (side : Side) (V : List Pair) (last l r : ℕ) (p : Pair) : Type 0 where
  pub starts : starts_at side last ≤ l
  pub before : l < r
  pub ends : r ≤ ends_at side V last
  pub from : IsAlong side (vertex V l) p
  pub to : IsAlong side p (vertex V r)
  pub bend : pos 0 <ℤ orient (vertex V l) p (vertex V r)
  pub bends_from : starts_at side last < l → pos 0 <ℤ orient (vertex V (l - 1)) (vertex V l) p
  pub bends_to : r < ends_at side V last → pos 0 <ℤ orient p (vertex V r) (vertex V (r + 1))

-- where the last vertex is then
abbrev pub IsLastPut : Side → ℕ → ℕ → ℕ → ℕ → Type 0
IsLastPut Lower last l r new = new + r ≡ last + l + 2
IsLastPut Upper last l r new = new ≡ last

-- the indices are within the list
pub within_list : (side : Side) (V : List Pair) (last l r : ℕ) (p : Pair) → IsRound V last → IsPut side V last l r p
    → (l < length V) × (r ≤ length V)
within_list Lower V last l r p o h = (omega (arith, h.before, h.ends, o.within), omega (arith, h.ends, o.within))
within_list Upper V last l r p o h = (omega (arith, h.before, h.ends), h.ends)

-- an index is before p, at one of the two that p is next to, or after it
data At (l k : ℕ) : Type 0 where
  First : k < l → At l k
  Onto : k ≡ l → At l k
  From : k ≡ l + 1 → At l k
  Rest : (n : ℕ) → k ≡ l + 2 + n → At l k

-- each index is one of these
at : (l k : ℕ) → At l k
at l k = elim (cases_lt k l) [
  | inl h ↦ First h
  | inr h ↦ elim (cases_lt k (l + 1)) [
    | inl b ↦ Onto (omega (arith, h, b))
    | inr b ↦ elim (cases_lt k (l + 2)) [
      | inl q ↦ From (omega (arith, b, q))
      | inr q ↦ Rest (k - l - 2) (omega (arith, q))
    ]
  ]
]

-- a property of each step of the new list: of the steps of the old one, and of those to p and from it
by_steps : (V : List Pair) (l r k : ℕ) (p : Pair) (P : Pair → Pair → Type 0) → l < length V → r ≤ length V
    → k < length (put_between V l r p) → (k < l → P (vertex V k) (vertex V (k + 1))) → (k ≡ l → P (vertex V l) p)
    → (k ≡ l + 1 → P p (vertex V r)) → ((n : ℕ) → k ≡ l + 2 + n → r + n < length V → P (vertex V (r + n)) (vertex V (r + n + 1)))
    → P (vertex (put_between V l r p) k) (vertex (put_between V l r p) (k + 1))
by_steps V l r k p P hl hr m first onto from rest = elim (at l k) [
  | First h ↦ rw (before_put V l r k p hl (omega (arith, h)), before_put V l r (k + 1) p hl (omega (arith, h))) (first h)
  | Onto e ↦ rw (
    ap (vertex (put_between V l r p)) e ∙ before_put V l r l p hl (omega arith),
    next (k + 1) (l + 1) (omega (arith, e)) ∙ at_put V l r p hl,
  ) (onto e)
  | From e ↦ rw (
    ap (vertex (put_between V l r p)) e ∙ at_put V l r p hl,
    after_put V l r (k + 1) 0 r p hl (omega (arith, e)) (omega arith),
  ) (from e)
  | Rest n e ↦ rw (
    after_put V l r k n (r + n) p hl e refl,
    after_put V l r (k + 1) (n + 1) (r + n + 1) p hl (omega (arith, e)) (omega arith),
  ) (rest n e (let c = length_put V l r p hl hr in omega (arith, c, e, m)))
]
  where
    next : (i j : ℕ) → i ≡ j → vertex (put_between V l r p) i ≡ vertex (put_between V l r p) j
    next i j e = ap (vertex (put_between V l r p)) e

-- the steps go on
steps_put : (side : Side) (V : List Pair) (last l r new k : ℕ) (p : Pair) → IsRound V last → IsPut side V last l r p
    → IsLastPut side last l r new → k < length (put_between V l r p) → GoesOn (put_between V l r p) new k
steps_put side V last l r new k p o h e m =
    let w = within_list side V last l r p o h in
    by_steps V l r k p (λ u v. (k < new → IsBefore u v) × (new ≤ k → IsBefore v u)) w.0 w.1 m
    (λ a. (λ q. (o.steps k (omega (arith, a, w))).0 (low side h e a q), λ q. (o.steps k (omega (arith, a, w))).1 (high side h e a q)))
    (λ a. (λ q. onto side h e a q, λ q. onto_back side h e a q))
    (λ a. (λ q. from side h e a q, λ q. from_back side h e a q))
    (λ n a i. (λ q. (o.steps (r + n) i).0 (rest side h e n a q), λ q. (o.steps (r + n) i).1 (rest_back side h e n a q)))
  where
    low : (side : Side) → IsPut side V last l r p → IsLastPut side last l r new → k < l → k < new → k < last
    low Lower h e a q = omega (arith, h.before, h.ends, a)
    low Upper h e a q = omega (arith, e, q)

    high : (side : Side) → IsPut side V last l r p → IsLastPut side last l r new → k < l → new ≤ k → last ≤ k
    high Lower h e a q = absurd (omega (arith, e, h.ends, a, q))
    high Upper h e a q = omega (arith, e, q)

    onto : (side : Side) → IsPut side V last l r p → IsLastPut side last l r new → k ≡ l → k < new → IsBefore (vertex V l) p
    onto Lower h e a q = h.from
    onto Upper h e a q = absurd (omega (arith, e, h.starts, a, q))

    onto_back : (side : Side) → IsPut side V last l r p → IsLastPut side last l r new → k ≡ l → new ≤ k
        → IsBefore p (vertex V l)
    onto_back Lower h e a q = absurd (omega (arith, e, h.ends, a, q))
    onto_back Upper h e a q = h.from

    from : (side : Side) → IsPut side V last l r p → IsLastPut side last l r new → k ≡ l + 1 → k < new
        → IsBefore p (vertex V r)
    from Lower h e a q = h.to
    from Upper h e a q = absurd (omega (arith, e, h.starts, a, q))

    from_back : (side : Side) → IsPut side V last l r p → IsLastPut side last l r new → k ≡ l + 1 → new ≤ k
        → IsBefore (vertex V r) p
    from_back Lower h e a q = absurd (omega (arith, e, h.ends, a, q))
    from_back Upper h e a q = h.to

    rest : (side : Side) → IsPut side V last l r p → IsLastPut side last l r new → (n : ℕ) → k ≡ l + 2 + n → k < new
        → r + n < last
    rest Lower h e n a q = omega (arith, e, a, q)
    rest Upper h e n a q = absurd (omega (arith, e, h.starts, a, q))

    rest_back : (side : Side) → IsPut side V last l r p → IsLastPut side last l r new → (n : ℕ) → k ≡ l + 2 + n → new ≤ k
        → last ≤ r + n
    rest_back Lower h e n a q = omega (arith, e, a, q)
    rest_back Upper h e n a q = omega (arith, h.starts, h.before)

-- they bend left
bends_put : (side : Side) (V : List Pair) (last l r new k : ℕ) (p : Pair) → IsRound V last → IsPut side V last l r p
    → IsLastPut side last l r new → BendsLeft (put_between V l r p) new k
bends_put side V last l r new k p o h e apart m =
    let w = within_list side V last l r p o h in
    let c = length_put V l r p w.0 w.1 in
    elim (at l (k + 1)) [
      | First a ↦ all _ _ _ (before_put V l r k p w.0 (omega (arith, a))) (before_put V l r (k + 1) p w.0 (omega (arith, a)))
          (before_put V l r (k + 2) p w.0 (omega (arith, a)))
          (o.bends k (omega (arith, a, w)) (λ q. apart (early side h e a q)) (omega (arith, a, w)))
      | Onto a ↦ all _ _ _ (next k (l - 1) (omega (arith, a)) ∙ before_put V l r (l - 1) p w.0 (omega arith))
          (next (k + 1) l a ∙ before_put V l r l p w.0 (omega arith))
          (next (k + 2) (l + 1) (omega (arith, a)) ∙ at_put V l r p w.0) (h.bends_from (onto side h e a))
      | From a ↦ all _ _ _ (next k l (omega (arith, a)) ∙ before_put V l r l p w.0 (omega arith))
          (next (k + 1) (l + 1) a ∙ at_put V l r p w.0)
          (after_put V l r (k + 2) 0 r p w.0 (omega (arith, a)) (omega arith)) h.bend
      | Rest n a ↦ rest n a w.0 (λ d. omega (arith, a, c, m, d))
    ]
  where
    next : (i j : ℕ) → i ≡ j → vertex (put_between V l r p) i ≡ vertex (put_between V l r p) j
    next i j e = ap (vertex (put_between V l r p)) e

    all : (a b d : Pair) → vertex (put_between V l r p) k ≡ a → vertex (put_between V l r p) (k + 1) ≡ b
        → vertex (put_between V l r p) (k + 2) ≡ d → pos 0 <ℤ orient a b d
        → pos 0 <ℤ orient (vertex (put_between V l r p) k) (vertex (put_between V l r p) (k + 1)) (vertex (put_between V l r p) (k + 2))
    all a b d e f g h = rw (e, f, g) h

    early : (side : Side) → IsPut side V last l r p → IsLastPut side last l r new → k + 1 < l → k + 1 ≡ last → k + 1 ≡ new
    early Lower h e a q = absurd (omega (arith, h.before, h.ends, a, q))
    early Upper h e a q = omega (arith, e, q)

    onto : (side : Side) → IsPut side V last l r p → IsLastPut side last l r new → k + 1 ≡ l → starts_at side last < l
    onto Lower h e a = omega (arith, a)
    onto Upper h e a = elim (cases_lt last l) [
      | inl q ↦ q
      | inr q ↦ absurd (apart (omega (arith, a, e, q, h.starts)))
    ]

    goes_on : (side : Side) → IsPut side V last l r p → IsLastPut side last l r new → k + 1 ≡ l + 2 → r < length V
        → r < ends_at side V last
    goes_on Lower h e a d = elim (cases_lt r last) [
      | inl q ↦ q
      | inr q ↦ absurd (apart (omega (arith, a, e, q, h.ends)))
    ]
    goes_on Upper h e a d = d

    later : (side : Side) → IsPut side V last l r p → IsLastPut side last l r new → (n : ℕ) → k + 1 ≡ l + 2 + suc n
        → r + n + 1 ≡ last → k + 1 ≡ new
    later Lower h e n a q = omega (arith, e, a, q)
    later Upper h e n a q = absurd (omega (arith, h.starts, h.before, q))

    rest : (n : ℕ) → k + 1 ≡ l + 2 + n → l < length V → (length V ≤ r + n → ⊥)
        → pos 0 <ℤ orient (vertex (put_between V l r p) k) (vertex (put_between V l r p) (k + 1)) (vertex (put_between V l r p) (k + 2))
    rest zero a w d = all _ _ _ (next k (l + 1) (omega (arith, a)) ∙ at_put V l r p w)
        (after_put V l r (k + 1) 0 r p w a (omega arith))
        (after_put V l r (k + 2) 1 (r + 1) p w (omega (arith, a)) refl)
        (h.bends_to (goes_on side h e (omega (arith, a)) (omega (arith, d))))
    rest (suc n) a w d = all _ _ _ (after_put V l r k n (r + n) p w (omega (arith, a)) refl)
        (after_put V l r (k + 1) (n + 1) (r + n + 1) p w (omega (arith, a)) (omega arith))
        (after_put V l r (k + 2) (n + 2) (r + n + 2) p w (omega (arith, a)) (omega arith))
        (o.bends (r + n) (omega (arith, d)) (λ q. apart (later side h e n a q)) (omega (arith, d)))

-- the round with p
round_put : (side : Side) (V : List Pair) (last l r new : ℕ) (p : Pair) → IsRound V last → IsPut side V last l r p
    → IsLastPut side last l r new → IsRound (put_between V l r p) new
round_put side V last l r new p o h e =
    let w = within_list side V last l r p o h in
    let c = length_put V l r p w.0 w.1 in record {
      starts = starts side h e;
      within = within side h e w c;
      steps = λ k m. steps_put side V last l r new k p o h e m;
      bends = λ k m. bends_put side V last l r new k p o h e;
    }
  where
    starts : (side : Side) → IsPut side V last l r p → IsLastPut side last l r new → 0 < new
    starts Lower h e = omega (arith, e, h.ends)
    starts Upper h e = omega (arith, e, o.starts)

    within : (side : Side) → IsPut side V last l r p → IsLastPut side last l r new → (l < length V) × (r ≤ length V)
        → length (put_between V l r p) + r ≡ length V + l + 2 → new < length (put_between V l r p)
    within Lower h e w c = omega (arith, e, c, o.within)
    within Upper h e w c = omega (arith, e, c, w.1, h.starts)

-- p and the vertices before and after it are points of the set with p
members_put : (S V : List Pair) (l r : ℕ) (p : Pair) → IsPolygonOf S V → l < length V → r ≤ length V → (t : Pair)
    → Contains (put_between V l r p) t → Contains (with_point p S) t
members_put S V l r p o hl hr t m =
    let c = vertex_of (put_between V l r p) t m in elim (at l c.0) [
      | First h ↦ old c.0 (c.2 ∙ before_put V l r c.0 p hl (omega (arith, h)))
      | Onto e ↦ old l (c.2 ∙ ap (vertex (put_between V l r p)) e ∙ before_put V l r l p hl (omega arith))
      | From e ↦ (members_with p t S).1 (inl (c.2 ∙ ap (vertex (put_between V l r p)) e ∙ at_put V l r p hl))
      | Rest n e ↦ old (r + n) (c.2 ∙ after_put V l r c.0 n (r + n) p hl e refl)
    ]
  where
    old : (k : ℕ) → t ≡ vertex V k → Contains (with_point p S) t
    old k e = (members_with p t S).1 (inr (subst (Contains S) (sym e) (vertex_extreme S V k o.1 (omega (arith, hl))).0))

-- the vertices with p enclose the points of the set
enclosed_put : (side : Side) (S V : List Pair) (last l r new : ℕ) (p : Pair) → IsPolygonOf S V → IsRound V last
    → IsPut side V last l r p → IsLastPut side last l r new → IsLeftOf S (vertex V l) p → IsLeftOf S p (vertex V r) → (t : Pair)
    → Contains S t → IsEnclosed (put_between V l r p) new t
enclosed_put side S V last l r new p o q h e a b t m =
    let w = within_list side V last l r p q h in
    let ends = ends_of S V last o (λ _. q.within, λ _. q) (omega (arith, w)) in record {
      from = rw (before_put V l r 0 p w.0 (omega arith)) (ends.0 t m);
      to = rw (last_there side h e w.0) (ends.1 t m);
      left = λ k n. by_steps V l r k p (λ u v. pos 0 ≤ℤ orient u v t) w.0 w.1 n
          (λ i. left_of_edge S V k (k + 1) t o refl (omega (arith, i, w)) m) (λ _. All-contains (λ z. pos 0 ≤ℤ orient (vertex V l) p z) S t a m)
          (λ _. All-contains (λ z. pos 0 ≤ℤ orient p (vertex V r) z) S t b m) (λ n _ i. left_of_edge S V (r + n) (r + n + 1) t o refl i m);
    }
  where
    last_there : (side : Side) → IsPut side V last l r p → IsLastPut side last l r new → l < length V
        → vertex (put_between V l r p) new ≡ vertex V last
    last_there Lower h e i =
        after_put V l r new (last - r) last p i (omega (arith, e, h.ends)) (omega (arith, h.ends))
    last_there Upper h e i =
        before_put V l r new p i (omega (arith, e, h.starts)) ∙ ap (vertex V) e

-- if no point lies right of the lines from one vertex to p and on to another, p takes the place of those between
pub with_vertex : (side : Side) (S V : List Pair) (last l r : ℕ) (p : Pair) → IsPolygonOf S V → IsRound V last
    → IsPut side V last l r p → IsLeftOf S (vertex V l) p → IsLeftOf S p (vertex V r)
    → IsVertexList (with_point p S) (put_between V l r p)
with_vertex side S V last l r p o q h a b =
    let c = where_last side h in
    let w = within_list side V last l r p q h in
    list_of_round (with_point p S) (put_between V l r p) c.0 (ordered_with p S o.0) (round_put side V last l r c.0 p q h c.1)
    (members_put S V l r p o w.0 w.1)
    (λ t m. elim ((members_with p t S).0 m) [
      | inl e ↦ inl (subst (Contains (put_between V l r p)) (at_put V l r p w.0 ∙ sym e)
          (vertex_there (put_between V l r p) (l + 1) (let d = length_put V l r p w.0 w.1 in omega (arith, d, w))))
      | inr k ↦ inr (enclosed_put side S V last l r c.0 p o q h c.1 a b t k)
    ])
  where
    where_last : (side : Side) → IsPut side V last l r p → (new : ℕ) × IsLastPut side last l r new
    where_last Lower h = (last + l + 2 - r, omega (arith, h.ends))
    where_last Upper h = (last, refl)
