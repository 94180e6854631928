-- The relation of a set to a segment, by its points farthest to the left and to the right of the segment's line.
use Rattle.std.proofs.Common.{◌≡◌, zero, suc, ℤ, pos, ◌-ℤ◌, ◌*ℤ◌, ◌≤ℤ◌, ◌<ℤ◌, neg_ℤ, ◌⊎◌, inl, inr, refl, sym, ap}
use Rattle.std.proofs.Common.{◌∙◌, subst, List, [], ◌∷◌, arith}
use Rattle.std.specs.List.{Contains}
use Rattle.std.proofs.lemmas.Int.{ints}
use Rattle.std.proofs.lemmas.List.Elements.{All-contains}
use Rattle.lattice.specs.Covers.{Covers, OnSegment, IsOnSegment, IsBetween, IsPointSet}
use Rattle.lattice.specs.Plane.{Pair, orient, product, IsBefore}
use Rattle.lattice.specs.Polynomials.{difference-eq, as_difference, difference_rules}
use Rattle.lattice.proofs.Vectors.{as_pair}
use lib.IntN.{*ℤ_comm}
use Rattle.lattice.specs.Signs.{le_or_lt, product_nn, cancel_nn}
use Rattle.lattice.proofs.Order.{before_total, before_not, before_irrefl}
use Rattle.lattice.proofs.LineCrossings.{orient_end, orient_other}
use Rattle.hull_geometry.specs.Positions.{origin}
use Rattle.hull_geometry.proofs.CoveredByEdges.{on_segment}
use Rattle.hull_geometry.proofs.Decided.{covers_or_separated}
use Rattle.hull_geometry.proofs.NotCovered.{not_covered}
use Rattle.hull_polygon.specs.Encounters.{IsAmong, IsShielded, IsLeftmost}
use Rattle.hull_polygon.specs.Meetings.{Parts, AreDisjoint, segment}
use Rattle.hull_polygon.specs.Steps.{left_of}
use Rattle.hull_geometry.proofs.PointLists.{all_of}
use Rattle.hull_polygon.proofs.EdgesOf.{other_line}
use Rattle.hull_polygon.proofs.SeparatedLists.{weights_x, weights_y, weights_sum, weights_from, below_both}
use Rattle.lattice.proofs.Numbers.{below_opposite, gap_below, gap_none, less_across, less_le_trans, nn_above}
use Rattle.lattice.proofs.Numbers.{np_below}
use Rattle.hull_geometry.proofs.EdgeSteps.{product_same}
use Rattle.hull_geometry.proofs.Orientation.{orient-cycle}

-- ---- the ends of a segment

-- a member of two is one of them
pub one_of_two : (a b t : Pair) → Contains (segment a b) t → (t ≡ a) ⊎ (t ≡ b)
one_of_two a b t (zero, l, e) = inl (sym e)
one_of_two a b t (suc zero, l, e) = inr (sym e)
one_of_two a b t (suc (suc k), l, e) = absurd (omega (arith, l))

-- a is an end of the segment
pub start_there : (a b : Pair) → Contains (segment a b) a
start_there a b = (0, omega arith, refl)

-- b is an end of the segment
pub end_there : (a b : Pair) → Contains (segment a b) b
end_there a b = (1, omega arith, refl)

-- if b is no nearer than a in a direction, and S is nearer, the direction separates S from both
pub parts_both : (S : List Pair) (d a b : Pair) → ((s : Pair) → Contains S s → product d s <ℤ product d a)
    → product d a ≤ℤ product d b → Parts d S (segment a b)
parts_both S d a b h l s t ms mt = elim (one_of_two a b t mt) [
  | inl e ↦ subst (λ (z : Pair). product d s <ℤ product d z) (sym e) (h s ms)
  | inr e ↦ subst (λ (z : Pair). product d s <ℤ product d z) (sym e) (less_le_trans _ _ _ (h s ms) l)
]

-- a is shielded if b is no nearer in each direction that separates S from a
shielded : (S : List Pair) (a b : Pair) → ¬ Covers S a
    → ((d : Pair) → ((s : Pair) → Contains S s → product d s <ℤ product d a) → product d a ≤ℤ product d b)
    → IsShielded S a b
shielded S a b n h = (
  n,
  λ d p. let f : (s : Pair) → Contains S s → product d s <ℤ product d a = λ s m. p s a m (0, omega arith, refl) in
      parts_both S d a b f (h d f),
)

-- ---- on the line of the segment

-- the first of two is between them
at_first : (a b v : ℤ) → v ≡ a → IsBetween a b v
at_first a b v e = elim (le_or_lt a b)
    [ inl h ↦ inl (omega (arith, ints), omega (arith, ints)) | inr h ↦ inr (omega (arith, ints), omega (arith, ints)) ]

-- either of two may come first
pub between_back : (x y v : ℤ) → IsBetween x y v → IsBetween y x v
between_back x y v (inl h) = inr h
between_back x y v (inr h) = inl h

-- a point of the line that is at or after p, and at or before r, is on the segment
up_to : (p q r : Pair) → orient p r q ≡ pos 0 → ¬ IsBefore q p → ¬ IsBefore r q → IsOnSegment p r q
up_to p q r z nqp nrq = elim (before_total p q) [
  | inr (inr b) ↦ absurd (nqp b)
  | inr (inl e) ↦ (
    z,
    at_first p.x r.x q.x (ap (λ (t : Pair). t.x) (sym e)),
    at_first p.y r.y q.y (ap (λ (t : Pair). t.y) (sym e)),
  )
  | inl b ↦ elim (before_total q r) [
    | inr (inr k) ↦ absurd (nrq k)
    | inr (inl e) ↦ (
      z,
      between_back r.x p.x q.x (at_first r.x p.x q.x (ap (λ (t : Pair). t.x) e)),
      between_back r.y p.y q.y (at_first r.y p.y q.y (ap (λ (t : Pair). t.y) e)),
    )
    | inl k ↦ on_segment p r q b k (sym (orient-cycle p r q) ∙ z)
  ]
]

-- a point of the line that is among both is on the segment
pub among_on_segment : (p q r : Pair) → orient p r q ≡ pos 0 → IsAmong p q r → IsOnSegment p r q
among_on_segment p q r z (inl h) = up_to p q r z h.0 h.1
among_on_segment p q r z (inr h) =
    let k = up_to r q p (other_line p r q z) h.0 h.1 in
    (z, between_back r.x p.x q.x k.1, between_back r.y p.y q.y k.2)

-- of three points that are in line, if two are not among the others, the third is
pub third_among : (a b u : Pair) → ¬ IsAmong a u b → ¬ IsAmong u a b → IsAmong u b a
third_among a b u nu na = elim (before_total a u) [
  | inl au ↦ elim (before_total b u) [
    | inl bu ↦ elim (before_total a b) [
      | inl ab ↦ inr (before_not a b ab, before_not b u bu)
      | inr (inl e) ↦ absurd (na (inr (subst (λ (z : Pair). ¬ IsBefore a z) e (before_irrefl a), before_not a u au)))
      | inr (inr ba) ↦ absurd (na (inr (before_not b a ba, before_not a u au)))
    ]
    | inr (inl e) ↦ absurd (nu (inl (before_not a u au, subst (λ (z : Pair). ¬ IsBefore b z) e (before_irrefl b))))
    | inr (inr ub) ↦ absurd (nu (inl (before_not a u au, before_not u b ub)))
  ]
  | inr (inl e) ↦ let same : ¬ IsBefore u a = subst (λ (z : Pair). ¬ IsBefore z a) e (before_irrefl a) in
      let other : ¬ IsBefore a u = subst (λ (z : Pair). ¬ IsBefore a z) e (before_irrefl a) in
      elim (before_total b u) [
        | inl bu ↦ absurd (nu (inr (before_not b u bu, other)))
        | inr (inl f) ↦ absurd (nu (inl (same, subst (λ (z : Pair). ¬ IsBefore b z) f (before_irrefl b))))
        | inr (inr ub) ↦ absurd (nu (inl (same, before_not u b ub)))
      ]
  | inr (inr ua) ↦ elim (before_total u b) [
    | inl ub ↦ elim (before_total b a) [
      | inl ba ↦ inl (before_not u b ub, before_not b a ba)
      | inr (inl e) ↦ absurd (na (inl (before_not u a ua, subst (λ (z : Pair). ¬ IsBefore b z) e (before_irrefl b))))
      | inr (inr ab) ↦ absurd (na (inl (before_not u a ua, before_not a b ab)))
    ]
    | inr (inl e) ↦ absurd (nu (inr (subst (λ (z : Pair). ¬ IsBefore u z) e (before_irrefl u), before_not u a ua)))
    | inr (inr bu) ↦ absurd (nu (inr (before_not b u bu, before_not u a ua)))
  ]
]

-- if a is on the segment from u to b, and farther than u, b is no nearer
no_nearer : (d u a b : Pair) → IsOnSegment u b a → product d u <ℤ product d a → product d a ≤ℤ product d b
no_nearer d u a b h l = elim (le_or_lt (product d a) (product d b)) [
  | inl k ↦ k
  | inr k ↦ absurd (not_covered (segment u b) a (
    d,
    all_of (λ t. product d t <ℤ product d a) (segment u b) (λ t m. elim (one_of_two u b t m) [
      | inl e ↦ subst (λ (z : Pair). product d z <ℤ product d a) (sym e) l
      | inr e ↦ subst (λ (z : Pair). product d z <ℤ product d a) (sym e) k
    ]),
  )
      (OnSegment u b (start_there u b) (end_there u b) h))
]

-- if a lies between a point of S and b, it shields b
pub shielded_in_line : (S : List Pair) (u a b : Pair) → Contains S u → ¬ Covers S a → IsOnSegment u b a
    → IsShielded S a b
shielded_in_line S u a b m n h = shielded S a b n (λ d f. no_nearer d u a b h (f u m))

-- ---- across the line of the segment

-- if a weighted sum of two numbers below 0 is a negative multiple of another number, that one is above 0
pub pushed : (p q r s x w y z : ℤ) → p <ℤ pos 0 → w ≡ pos 0 → pos 0 ≤ℤ r → s ≤ℤ pos 0 → s <ℤ r → y <ℤ pos 0
    → z <ℤ pos 0 → p *ℤ x -ℤ q *ℤ w ≡ r *ℤ y -ℤ s *ℤ z → pos 0 <ℤ x
pushed p q r s x w y z hp hw hr hs l hy hz e = elim (le_or_lt x (pos 0)) [
  | inr h ↦ h
  | inl h ↦
      let a = product_same p x (omega (arith, ints)) h in
      let b : q *ℤ w ≡ pos 0 = ap (λ (k : ℤ). q *ℤ k) hw ∙ omega (arith, ints) in
      let c = below_both r s y z hr hs l hy hz in
      absurd (omega (arith, ints))
]

-- if a difference is above 0, the first number is the greater
not_less : (x y : ℤ) → pos 0 <ℤ (x -ℤ y) → y ≤ℤ x
not_less x y h = omega (arith, ints)

-- a side seen from the other end
pub side_back : (u v t : Pair) → pos 0 <ℤ orient u v t → orient v u t <ℤ pos 0
side_back u v t h = below_opposite _ _ (orient_other u v t) h

-- if the line of a and b goes between two points of S, and both ends lie beyond the line of those, the nearer end
-- shields the other
pub shielded_across : (S : List Pair) (a b left right : Pair) → Contains S left → Contains S right → ¬ Covers S a
    → pos 0 <ℤ orient a b left → pos 0 <ℤ orient b a right → pos 0 <ℤ orient left right a → IsShielded S a b
shielded_across S a b left right ml mr n above below beyond =
    shielded S a b n (λ d f. not_less _ _ (pushed (orient right left a) (orient right left b) (orient a b left)
    (orient a b right) (product d b -ℤ product d a) (product d a -ℤ product d a) (product d right -ℤ product d a)
    (product d left -ℤ product d a) (side_back left right a beyond) (gap_none (product d a)) (nn_above _ above)
    (np_below _ (side_back b a right below)) (less_across _ _ (side_back b a right below) above)
    (gap_below _ _ (f right mr)) (gap_below _ _ (f left ml)) (weights_from d a b right left (product d a))))

-- a product with a difference
spread : (s e a : ℤ) → s *ℤ (e -ℤ a) ≡ s *ℤ e -ℤ s *ℤ a
spread s e a = rw (as_difference s, as_difference e, as_difference a)
    (simp difference_rules (difference-eq _ _ _ _ (omega arith)))

-- the rest of a weighted sum after subtracting the multiple of the second number
rest_first : (p q a b : ℤ) → (p *ℤ b -ℤ q *ℤ a) -ℤ (p -ℤ q) *ℤ a ≡ p *ℤ (b -ℤ a)
rest_first p q a b = rw (as_difference p, as_difference q, as_difference a, as_difference b)
    (simp difference_rules (difference-eq _ _ _ _ (omega arith)))

-- the rest of the multiple of the first number after subtracting the weighted sum
rest_second : (p q a b : ℤ) → (p -ℤ q) *ℤ b -ℤ (p *ℤ b -ℤ q *ℤ a) ≡ q *ℤ (a -ℤ b)
rest_second p q a b = rw (as_difference p, as_difference q, as_difference a, as_difference b)
    (simp difference_rules (difference-eq _ _ _ _ (omega arith)))

-- if a product with a positive number is not negative, the other factor is not
positive_part : (s x : ℤ) → pos 0 <ℤ s → pos 0 ≤ℤ (s *ℤ x) → pos 0 ≤ℤ x
positive_part s x h k = cancel_nn x s h (rw (*ℤ_comm x s) k)

-- a weighted mean of b and a, with weights not below 0, is between them
between_ordered : (p q s a b e : ℤ) → pos 0 ≤ℤ p → q ≤ℤ pos 0 → pos 0 <ℤ s → s ≡ p -ℤ q
    → s *ℤ e ≡ p *ℤ b -ℤ q *ℤ a → a ≤ℤ b → (a ≤ℤ e) × (e ≤ℤ b)
between_ordered p q s a b e hp hq hs w h l =
    let above : s *ℤ (e -ℤ a) ≡ p *ℤ (b -ℤ a) =
    spread s e a ∙ ap (λ (k : ℤ). k -ℤ s *ℤ a) h ∙ ap (λ (k : ℤ). (p *ℤ b -ℤ q *ℤ a) -ℤ k *ℤ a) w
    ∙ rest_first p q a b in
    let below : s *ℤ (b -ℤ e) ≡ q *ℤ (a -ℤ b) =
    spread s b e ∙ ap (λ (k : ℤ). s *ℤ b -ℤ k) h ∙ ap (λ (k : ℤ). k *ℤ b -ℤ (p *ℤ b -ℤ q *ℤ a)) w
    ∙ rest_second p q a b in
    let u = positive_part s (e -ℤ a) hs (rw above (product_nn p (b -ℤ a) hp (omega (arith, ints)))) in
    let v = positive_part s (b -ℤ e) hs (rw below (product_same q (a -ℤ b) hq (omega (arith, ints)))) in
    (omega (arith, ints), omega (arith, ints))

-- the two weights exchanged
exchanged : (p q a b : ℤ) → p *ℤ b -ℤ q *ℤ a ≡ neg_ℤ q *ℤ a -ℤ neg_ℤ p *ℤ b
exchanged p q a b = rw (as_difference p, as_difference q, as_difference a, as_difference b)
    (simp difference_rules (difference-eq _ _ _ _ (omega arith)))

-- the same, whichever of them is less
pub between_by : (p q s a b e : ℤ) → pos 0 ≤ℤ p → q ≤ℤ pos 0 → pos 0 <ℤ s → s ≡ p -ℤ q → s *ℤ e ≡ p *ℤ b -ℤ q *ℤ a
    → IsBetween a b e
between_by p q s a b e hp hq hs w h = elim (le_or_lt a b) [
  | inl l ↦ inl (between_ordered p q s a b e hp hq hs w h l)
  | inr l ↦ inr (between_ordered (neg_ℤ q) (neg_ℤ p) s b a e (omega (arith, ints)) (omega (arith, ints)) hs
      (omega (arith, ints)) (h ∙ exchanged p q a b) (omega (arith, ints)))
]

-- if one weight is 0, only the other product is left, negated
other_left : (p q a b w : ℤ) → p ≡ pos 0 → p *ℤ b -ℤ q *ℤ a ≡ w → neg_ℤ q *ℤ a ≡ w
other_left p q a b w z e = negated q a ∙ omega (arith, ints) ∙ ap (λ (k : ℤ). k *ℤ b -ℤ q *ℤ a) (sym z) ∙ e
  where
    negated : (x y : ℤ) → neg_ℤ x *ℤ y ≡ pos 0 *ℤ b -ℤ x *ℤ y
    negated x y = rw (as_difference x, as_difference y, as_difference b, as_difference (pos 0))
        (simp difference_rules (difference-eq _ _ _ _ (omega arith)))

-- if the line of a and b goes between left and right, and a lies on the line of those, a is on their segment
pub start_on : (a b left right : Pair) → pos 0 <ℤ orient a b left → orient a b right <ℤ pos 0
    → orient right left a ≡ pos 0 → IsOnSegment left right a
start_on a b left right above below e =
    let w = weights_sum a b right left in (
      other_line right left a e,
      between a.x b.x left.x right.x (weights_x a b right left) w,
      between a.y b.y left.y right.y (weights_y a b right left) w,
    )
  where
    between : (x y u v : ℤ)
        → orient right left a *ℤ y -ℤ orient right left b *ℤ x ≡ orient a b left *ℤ v -ℤ orient a b right *ℤ u
        → orient right left a -ℤ orient right left b ≡ orient a b left -ℤ orient a b right → IsBetween u v x
    between x y u v h w =
        between_by (orient a b left) (orient a b right) (neg_ℤ (orient right left b)) u v x (omega (arith, ints))
        (omega (arith, ints)) (omega (arith, ints)) (omega (arith, ints))
        (other_left (orient right left a) (orient right left b) x y _ e h)

-- ---- the direction that separates them

-- how far a point lies to the left of a line
pub product_left : (a b t : Pair) → product (left_of a b) t -ℤ product (left_of a b) a ≡ orient a b t
unfolding orient product
product_left a b t = rw (as_pair a, as_pair b, as_pair t) (simp difference_rules (difference-eq _ _ _ _ (omega arith)))

-- a set that lies right of the line from a to b is separated from both
pub separated_right : (S : List Pair) (a b p : Pair) → IsLeftmost S a b p → orient a b p <ℤ pos 0
    → Parts (left_of a b) S (segment a b)
separated_right S a b p l h =
    parts_both S (left_of a b) a b
    (λ s m. less _ _ _ _ (product_left a b p) h (All-contains (λ t. product (left_of a b) t ≤ℤ product (left_of a b) p)
    S s l.1 m))
    (level _ _ _ (product_left a b b) (orient_end a b))
  where
    less : (x y z w : ℤ) → x -ℤ y ≡ w → w <ℤ pos 0 → z ≤ℤ x → z <ℤ y
    less x y z w e h k = omega (arith, ints)

    level : (x y w : ℤ) → x -ℤ y ≡ w → w ≡ pos 0 → y ≤ℤ x
    level x y w e f = omega (arith, ints)

-- exchanging the ends keeps the separation
pub parts_turned : (S : List Pair) (d a b : Pair) → Parts d S (segment b a) → Parts d S (segment a b)
parts_turned S d a b h s t ms mt = elim (one_of_two a b t mt) [
  | inl e ↦ subst (λ (z : Pair). product d s <ℤ product d z) (sym e) (h s a ms (end_there b a))
  | inr e ↦ subst (λ (z : Pair). product d s <ℤ product d z) (sym e) (h s b ms (start_there b a))
]

-- a set that lies behind a is disjoint from the segment
pub apart_behind : (S : List Pair) (a b : Pair) → IsPointSet S → IsShielded S a b → AreDisjoint S (segment a b)
apart_behind S a b o h = elim (covers_or_separated S a o) [
  | inl c ↦ absurd (h.0 c)
  | inr p ↦ (
    p.0,
    h.1 p.0 (λ s t ms mt. only p.0 s t mt (All-contains (λ u. product p.0 u <ℤ product p.0 a) S s p.1 ms)),
  )
]
  where
    only : (d s t : Pair) → Contains (a ∷ []) t → product d s <ℤ product d a → product d s <ℤ product d t
    only d s t (zero, l, e) k = subst (λ (z : Pair). product d s <ℤ product d z) e k
    only d s t (suc i, l, e) k = absurd (omega (arith, l))

-- a set that lies beyond b is disjoint from the segment
pub apart_beyond : (S : List Pair) (a b : Pair) → IsPointSet S → IsShielded S b a → AreDisjoint S (segment a b)
apart_beyond S a b o h = let p = apart_behind S b a o h in (p.0, parts_turned S p.0 a b p.1)

-- the empty set is disjoint from each set
pub apart_empty : (S T : List Pair) → S ≡ [] → AreDisjoint S T
apart_empty S T e = (
  left_of origin origin,
  λ s t ms mt. absurd (let m = subst (λ (z : List Pair). Contains z s) e ms in omega (arith, m.1)),
)
