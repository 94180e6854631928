-- A vertex that enters across an edge before any point of its own set can: the sets do not meet before it arrives.
use Rattle.std.proofs.Common.{◌≡◌, ℕ, ◌*◌, ◌<◌, ◌≤◌, ℤ, pos, ◌+ℤ◌, ◌-ℤ◌, ◌*ℤ◌, ◌≤ℤ◌, ◌<ℤ◌, neg_ℤ, inl, inr, refl, sym, ap, ◌∙◌, subst}
use Rattle.std.proofs.Common.{List, [], ◌∷◌, ◌++◌, Bool, true, Option, Some, None, IfSome, arith}
use Rattle.std.specs.Prelude.{MatchOption}
use Rattle.std.specs.List.{All, Contains}
use Rattle.std.proofs.lemmas.Bool.{cases_lt}
use Rattle.std.proofs.lemmas.Int.{ints}
use Rattle.std.proofs.lemmas.List.Elements.{All-contains, Contains-append_cases, Contains-append_left}
use Rattle.lattice.specs.Covers.{IsExtreme}
use Rattle.lattice.specs.Places.{IsFarthest}
use Rattle.lattice.specs.Plane.{Pair, orient, product}
use Rattle.lattice.specs.Polynomials.{difference-eq, as_difference, difference_rules}
use Rattle.lattice.specs.Signs.{product_nn}
use Rattle.hull_geometry.proofs.PointLists.{all_of}
use Rattle.hull_polygon.specs.Closest.{magnified}
use Rattle.hull_polygon.specs.Polygons.{IsPolygonOf}
use Rattle.hull_polygon.specs.Raycasts.{IsEntry, IsHit, moved, part_of, whole_of}
use Rattle.hull_polygon.specs.Steps.{left_of}
use Rattle.hull_polygon.specs.declared.raycasts.Entry.TheVariants.{Edge}
use Rattle.hull_polygon.specs.declared.raycasts.Hit.{Hit}
use Rattle.hull_polygon.proofs.SeparatedLists.{never_both}
use Rattle.hull_polygon.proofs.Shields.{product_left}
use Rattle.first_meeting.specs.Arrivals.{ArrivesFirst, CoversAfter, ReturnsFirst}
use Rattle.first_meeting.specs.FirstMeetings.{carried, IsArrival, IsFirstMeeting, Leads, MeetAfter, ReturnsArrival}
use Rattle.first_meeting.specs.declared.arrivals.Arrival.{Arrival}
use Rattle.first_meeting.proofs.Earlier.{image_of}
use Rattle.first_meeting.proofs.FirstOfBoth.{covered_at, reached}
use Rattle.first_meeting.proofs.Hits.{denominator_above, only_one}
use Rattle.first_meeting.proofs.Reached.{carried_point, times, product_carried, product_times}

-- how far a motion leads to the left of an edge
motion_left : (u d p q : Pair) → orient u (moved u d) p -ℤ orient u (moved u d) q ≡ product (left_of p q) d
unfolding orient product
motion_left u d p q = parts u.x u.y d.x d.y p.x p.y q.x q.y
  where
    parts : (x y z w a b c e : ℤ)
        → (((x +ℤ z) -ℤ x) *ℤ (b -ℤ y) -ℤ ((y +ℤ w) -ℤ y) *ℤ (a -ℤ x))
        -ℤ (((x +ℤ z) -ℤ x) *ℤ (e -ℤ y) -ℤ ((y +ℤ w) -ℤ y) *ℤ (c -ℤ x))
        ≡ (b -ℤ e) *ℤ z +ℤ (c -ℤ a) *ℤ w
    parts x y z w a b c e =
        rw (
          as_difference x,
          as_difference y,
          as_difference z,
          as_difference w,
          as_difference a,
          as_difference b,
          as_difference c,
          as_difference e,
        ) (simp difference_rules (difference-eq _ _ _ _ (omega arith)))

-- before that part of the motion a point that starts no farther to the left is right of all that does not lie right of the line
still_right : (k n i j : ℕ) (s u p t d x y : ℤ) → n * j < i * k → s ≤ℤ u → u ≡ p -ℤ pos i → d ≡ pos j → p ≤ℤ t
    → x ≡ pos k *ℤ s +ℤ pos n *ℤ d → y ≡ pos k *ℤ t → x <ℤ y
still_right k n i j s u p t d x y l h e f g ex ey =
    let a = product_nn (pos k) (u -ℤ s) (omega (arith, ints)) (omega (arith, ints)) in
    let b = product_nn (pos k) (t -ℤ p) (omega (arith, ints)) (omega (arith, ints)) in
    let c : pos k *ℤ u ≡ pos k *ℤ p -ℤ pos k *ℤ pos i = ap (λ (z : ℤ). pos k *ℤ z) e ∙ spread (pos k) p (pos i) in
    let m : pos n *ℤ d ≡ pos (n * j) = ap (λ (z : ℤ). pos n *ℤ z) f in
    omega (arith, ints, spread (pos k) u s, spread (pos k) t p, c, m, ex, ey)
  where
    spread : (k u v : ℤ) → k *ℤ (u -ℤ v) ≡ k *ℤ u -ℤ k *ℤ v
    spread k u v = rw (as_difference k, as_difference u, as_difference v)
        (simp difference_rules (difference-eq _ _ _ _ (omega arith)))

-- sets do not meet before a point of the one that none of its points precedes enters across an edge of the other
pub lead_first : (S T : List Pair) (d u p q : Pair) (hit : Hit) (n k : ℕ) → IsHit T u (moved u d) hit
    → hit.place ≡ Edge p q → ((s : Pair) → Contains S s → orient p q s ≤ℤ orient p q u) → MeetAfter S T d n k
    → hit.numerator * k ≤ n * hit.denominator
lead_first S T d u p q hit n k h e lead meet = elim (cases_lt (n * hit.denominator) (hit.numerator * k)) [
  | inr l ↦ l
  | inl l ↦ absurd (never_both (carried k n d S) (magnified k T) meet (
    left_of p q,
    λ s t ms mt. parted l s t (image_of (carried_point k n d) S s ms) (image_of (times k) T t mt),
  ))
]
  where
    entry : IsEntry T u (moved u d) (Edge p q)
    entry = subst (IsEntry T u (moved u d)) e h.entry

    part : pos hit.numerator ≡ neg_ℤ (orient p q u)
    part = h.part ∙ ap (part_of u (moved u d)) e

    whole : pos hit.denominator ≡ orient u (moved u d) p -ℤ orient u (moved u d) q
    whole = h.whole ∙ ap (whole_of u (moved u d)) e

    no_farther : (x y z w v : ℤ) → x -ℤ z ≡ w → y -ℤ z ≡ v → w ≤ℤ v → x ≤ℤ y
    no_farther x y z w v f g l = omega (arith, ints)

    start : (x z w : ℤ) → x -ℤ z ≡ w → pos hit.numerator ≡ neg_ℤ w → x ≡ z -ℤ pos hit.numerator
    start x z w f g = omega (arith, ints)

    beyond : (x z w : ℤ) → x -ℤ z ≡ w → pos 0 ≤ℤ w → z ≤ℤ x
    beyond x z w f l = omega (arith, ints)

    parted : n * hit.denominator < hit.numerator * k → (s t : Pair) → ((a : Pair) × Contains S a × (s ≡ carried_point k n d a))
        → ((b : Pair) × Contains T b × (t ≡ times k b)) → product (left_of p q) s <ℤ product (left_of p q) t
    parted l s t (a, ma, i) (b, mb, j) =
        subst (λ (z : Pair). product (left_of p q) z <ℤ product (left_of p q) t) (sym i)
        (subst (λ (z : Pair). product (left_of p q) (carried_point k n d a) <ℤ product (left_of p q) z) (sym j)
        (still_right k n hit.numerator hit.denominator (product (left_of p q) a) (product (left_of p q) u)
        (product (left_of p q) p) (product (left_of p q) b) (product (left_of p q) d) _ _ l
        (no_farther _ _ _ _ _ (product_left p q a) (product_left p q u) (lead a ma))
        (start _ _ _ (product_left p q u) part) (sym (whole ∙ motion_left u d p q))
        (beyond _ _ _ (product_left p q b) (All-contains (λ z. pos 0 ≤ℤ orient p q z) T b entry.0.left mb))
        (product_carried k n (left_of p q) d a) (product_times k (left_of p q) b)))

-- a vertex that lies no nearer to the line of the edge comes in no sooner
pub no_sooner_behind : (T V : List Pair) (d v p q : Pair) (found : Arrival) → found.hit.place ≡ Edge p q
    → orient p q v ≤ℤ orient p q found.vertex → ArrivesFirst T d V found → ArrivesFirst T d (V ++ (v ∷ [])) found
no_sooner_behind T V d v p q found e l h = record {
  there = Contains-append_left V (v ∷ []) found.vertex h.there;
  hit = h.hit;
  within = h.within;
  first = λ a n k m hk c. elim (Contains-append_cases V (v ∷ []) a m) [
    | inl b ↦ h.first a n k b hk c
    | inr b ↦ lead_first (v ∷ []) T d found.vertex p q found.hit n k h.hit e
        (λ s ms. subst (λ (z : Pair). orient p q z ≤ℤ orient p q found.vertex) (sym (only_one v s ms)) l)
        (reached (v ∷ []) T d a n k b c)
  ];
}

-- a point as far to the left as the farthest one in that direction
pub leftmost_by : (S : List Pair) (p q f t : Pair) → IsFarthest S (left_of p q) f → orient p q f ≤ℤ orient p q t
    → All (λ s. orient p q s ≤ℤ orient p q t) S
leftmost_by S p q f t h l =
    all_of (λ s. orient p q s ≤ℤ orient p q t) S (λ s m. no_more _ _ _ _ _ _ (product_left p q s) (product_left p q f)
    (All-contains (λ z. product (left_of p q) z ≤ℤ product (left_of p q) f) S s h m) l)
  where
    no_more : (x y z w v t : ℤ) → x -ℤ z ≡ w → y -ℤ z ≡ v → x ≤ℤ y → v ≤ℤ t → w ≤ℤ t
    no_more x y z w v t e f g l = omega (arith, ints)

-- the first of the vertices of S to arrive makes the first meeting if it leads S
pub first_if_leading : (S T V : List Pair) (d : Pair) (r : Option Arrival) → IsPolygonOf S V → ReturnsFirst T d V r
    → IfSome r (λ found. found.moves ≡ true) → MatchOption r ⊥ (λ found. Leads S found) → ReturnsArrival S T d r
first_if_leading S T V d None o h moves l = absurd l
first_if_leading S T V d (Some found) o h moves (p, q, e, lead) = record {
  arrival = subst (λ (b : Bool). IsArrival S T d b found) (sym moves) (extreme, h.hit);
  whole = denominator_above T found.vertex (moved found.vertex d) found.hit h.hit;
  within = h.within;
  meet = reached S T d found.vertex _ _ extreme.0 (covered_at T d found.vertex found.hit h.hit);
  first = λ n k hk meet. lead_first S T d found.vertex p q found.hit n k h.hit e
      (λ s ms. All-contains (λ z. orient p q z ≤ℤ orient p q found.vertex) S s lead ms) meet;
}
  where
    extreme : IsExtreme S found.vertex
    extreme = (o.1.members found.vertex).0 h.there
