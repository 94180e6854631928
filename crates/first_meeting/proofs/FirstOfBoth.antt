-- The first meeting of two sets, by the first arrivals of the vertices of both.
use Rattle.std.proofs.Common.{◌≡◌, ℕ, ◌*◌, ◌<◌, ◌≤◌, ℤ, pos, ◌+ℤ◌, ◌-ℤ◌, ◌*ℤ◌, ◌<ℤ◌, neg_ℤ, inl, inr, sym, ap, ◌∙◌, subst}
use Rattle.std.proofs.Common.{List, Bool, true, false, Option, Some, None, IfSome, refl, arith}
use Rattle.std.specs.List.{Contains}
use Rattle.std.proofs.lemmas.Bool.{cases_lt}
use Rattle.std.proofs.lemmas.Int.{ints}
use Rattle.std.proofs.Math.Nat.{mul-le-mul_right}
use Rattle.lattice.specs.Covers.{Covers, IsBetween, IsExtreme, Member, OnSegment, InTriangle}
use Rattle.lattice.specs.Plane.{IsZero, Pair, orient, product}
use Rattle.lattice.specs.Polynomials.{difference-eq, as_difference, difference_rules}
use Rattle.lattice.specs.Signs.{le_or_lt, product_nn, product_pp}
use Rattle.lattice.proofs.Order.{same_pair}
use Rattle.hull_polygon.specs.Closest.{magnified}
use Rattle.hull_polygon.specs.Meetings.{AreDisjoint, Reaches, IsReached, StayApart}
use Rattle.hull_polygon.specs.Polygons.{IsPolygonOf}
use Rattle.hull_polygon.specs.Raycasts.{IsHit, moved, on_way}
use Rattle.hull_polygon.specs.Rounds.{IsSeparated}
use Rattle.hull_polygon.specs.Steps.{backward}
use Rattle.hull_polygon.specs.declared.raycasts.Hit.{Hit}
use Rattle.hull_polygon.proofs.Casting.{enters_there}
use Rattle.hull_polygon.proofs.Neighbours.{disjoint_first}
use Rattle.hull_polygon.proofs.SeparatedLists.{never_both, product_ns}
use Rattle.first_meeting.specs.Arrivals.{ArrivesFirst, CoversAfter, NoneArrives, ReturnsFirst, ReturnsSooner}
use Rattle.first_meeting.specs.FirstMeetings.{carried, IsArrival, IsFirstMeeting, MeetAfter, NeverMeet, ReturnsArrival}
use Rattle.first_meeting.specs.declared.arrivals.Arrival.{Arrival}
use Rattle.first_meeting.proofs.Reached.{carried_point, times, magnified_there, product_carried, product_times}
use Rattle.first_meeting.proofs.Earlier.{SomeArrives, arrives_before, carried_there, image_of}
use Rattle.first_meeting.proofs.Hits.{denominator_above}
use Rattle.first_meeting.proofs.Sooner.{NoneSooner, before_beyond, between_fractions, cancel, none_at_all, none_by_first}

-- ---- they meet

-- a vertex of S arrives
pub reached : (S T : List Pair) (d v : Pair) (n k : ℕ) → Contains S v → CoversAfter T d v n k → MeetAfter S T d n k
reached S T d v n k m c =
    IsReached (carried_point k n d v) (carried_there S v k n d m) (subst (Covers (magnified k T)) same c)
  where
    at : (x w : ℤ) → pos k *ℤ x +ℤ pos n *ℤ ((x +ℤ w) -ℤ x) ≡ pos k *ℤ x +ℤ pos n *ℤ w
    at x w = ap (λ (z : ℤ). pos k *ℤ x +ℤ pos n *ℤ z) (omega (arith, ints))

    same : on_way k n v (moved v d) ≡ carried_point k n d v
    same = same_pair _ _ (at v.x d.x) (at v.y d.y)

-- a point after a translation
abbrev shifted : ℕ → Pair → Pair → Pair
shifted n d p = record { x = p.x +ℤ pos n *ℤ d.x; y = p.y +ℤ pos n *ℤ d.y }

-- a translation keeps sides
orient_shifted : (n : ℕ) (d a b c : Pair) → orient (shifted n d a) (shifted n d b) (shifted n d c) ≡ orient a b c
unfolding orient
orient_shifted n d a b c = steps _ _ _ _ _ _ _ _ (step (pos n *ℤ d.x) a.x b.x) (step (pos n *ℤ d.y) a.y c.y)
    (step (pos n *ℤ d.y) a.y b.y) (step (pos n *ℤ d.x) a.x c.x)
  where
    step : (z x y : ℤ) → (y +ℤ z) -ℤ (x +ℤ z) ≡ y -ℤ x
    step z x y = omega (arith, ints)

    steps : (x y z w p q r s : ℤ) → x ≡ p → y ≡ q → z ≡ r → w ≡ s → x *ℤ y -ℤ z *ℤ w ≡ p *ℤ q -ℤ r *ℤ s
    steps x y z w p q r s e f g h = rw (e, f, g, h) refl

-- a translation keeps what is between
between_shifted : (z a b v : ℤ) → IsBetween a b v → IsBetween (a +ℤ z) (b +ℤ z) (v +ℤ z)
between_shifted z a b v (inl h) = let i = h.0 in let j = h.1 in inl (omega (arith, ints), omega (arith, ints))
between_shifted z a b v (inr h) = let i = h.0 in let j = h.1 in inr (omega (arith, ints), omega (arith, ints))

-- a translated point of the magnified set is one of the carried set
shifted_there : (S : List Pair) (d : Pair) (n k : ℕ) (p : Pair) → Contains (magnified k S) p
    → Contains (carried k n d S) (shifted n d p)
shifted_there S d n k p m = let r = image_of (times k) S p m in
    subst (λ (z : Pair). Contains (carried k n d S) (shifted n d z)) (sym r.2) (carried_there S r.0 k n d r.1)

-- a point that a set covers is covered after a translation of both
covers_shifted : (S : List Pair) (d q : Pair) (n k : ℕ) → Covers (magnified k S) q → Covers (carried k n d S) (shifted n d q)
covers_shifted S d q n k (Member m) = Member (shifted_there S d n k q m)
covers_shifted S d q n k (OnSegment a b ma mb h) =
    OnSegment (shifted n d a) (shifted n d b) (shifted_there S d n k a ma) (shifted_there S d n k b mb) (
      orient_shifted n d a b q ∙ h.0,
      between_shifted (pos n *ℤ d.x) a.x b.x q.x h.1,
      between_shifted (pos n *ℤ d.y) a.y b.y q.y h.2,
    )
covers_shifted S d q n k (InTriangle a b c ma mb mc h) =
    InTriangle (shifted n d a) (shifted n d b) (shifted n d c) (shifted_there S d n k a ma) (shifted_there S d n k b mb) (shifted_there S d n k c mc) (
      rw (orient_shifted n d a b c) h.0,
      rw (orient_shifted n d a b q) h.1,
      rw (orient_shifted n d b c q) h.2,
      rw (orient_shifted n d c a q) h.3,
    )

-- S arrives at a vertex of T
reaches : (S T : List Pair) (d v : Pair) (n k : ℕ) → Contains T v → CoversAfter S (backward d) v n k → MeetAfter S T d n k
reaches S T d v n k m c =
    Reaches (times k v) (magnified_there T v k m) (subst (Covers (carried k n d S)) same (covers_shifted S d _ n k c))
  where
    back : (n w : ℤ) → n *ℤ neg_ℤ w +ℤ n *ℤ w ≡ pos 0
    back n w = omega (arith, ints, turned n w)
      where
        turned : (n w : ℤ) → n *ℤ neg_ℤ w ≡ neg_ℤ (n *ℤ w)
        turned n w = rw (as_difference n, as_difference w) (simp difference_rules (difference-eq _ _ _ _ (omega arith)))

    at : (x w : ℤ) → (pos k *ℤ x +ℤ pos n *ℤ ((x +ℤ neg_ℤ w) -ℤ x)) +ℤ pos n *ℤ w ≡ pos k *ℤ x
    at x w = ap (λ (z : ℤ). (pos k *ℤ x +ℤ pos n *ℤ z) +ℤ pos n *ℤ w) (step x w) ∙ omega (arith, ints, back (pos n) w)
      where
        step : (x w : ℤ) → (x +ℤ neg_ℤ w) -ℤ x ≡ neg_ℤ w
        step x w = omega (arith, ints)

    same : shifted n d (on_way k n v (moved v (backward d))) ≡ times k v
    same = same_pair _ _ (at v.x d.x) (at v.y d.y)

-- where a ray hits, its point is covered
pub covered_at : (T : List Pair) (d v : Pair) (hit : Hit) → IsHit T v (moved v d) hit
    → CoversAfter T d v hit.numerator hit.denominator
covered_at T d v hit h = enters_there T v (moved v d) hit.place hit.denominator hit.numerator h.entry h.part h.whole

-- ---- and not before

-- within the motion they meet no sooner than the vertices arrive
meet_within : (S T V W : List Pair) (last end : ℕ) (d : Pair) (x y n k : ℕ) → IsPolygonOf S V → IsSeparated V last
    → IsPolygonOf T W → IsSeparated W end → AreDisjoint S T → NoneSooner T d V x y → NoneSooner S (backward d) W x y
    → 0 < k → n ≤ k → MeetAfter S T d n k → x * k ≤ n * y
meet_within S T V W last end d x y n k o p q r a f g hk nk meet =
    found (arrives_before S T V W last end d n k o p q r hk a meet)
  where
    no_later : (i j : ℕ) → i * k ≤ n * j → i ≤ j
    no_later i j h = cancel i j k hk (let m : n * j ≤ k * j = mul-le-mul_right j nk in omega (arith, m, h))

    found : SomeArrives S T V W d n k → x * k ≤ n * y
    found (inl (v, m, t)) = between_fractions x y t.n t.k n k t.whole
        (f v t.n t.k m t.whole (no_later t.n t.k t.early) t.covered) t.early
    found (inr (v, m, t)) = between_fractions x y t.n t.k n k t.whole
        (g v t.n t.k m t.whole (no_later t.n t.k t.early) t.covered) t.early

-- if none arrives, they never meet
never_meet : (S T V W : List Pair) (last end : ℕ) (d : Pair) → IsPolygonOf S V → IsSeparated V last → IsPolygonOf T W
    → IsSeparated W end → AreDisjoint S T → NoneArrives T d V → NoneArrives S (backward d) W → NeverMeet S T d
never_meet S T V W last end d o p q r a f g n k hk nk meet =
    clash (meet_within S T V W last end d 2 1 n k o p q r a (none_at_all T d V 2 1 f) (none_at_all S (backward d) W 2 1 g) hk nk meet)
  where
    clash : 2 * k ≤ n * 1 → ⊥
    clash h = omega arith

-- a vertex of the one that arrives before all others makes the first meeting
first_meeting_of : (S T V W : List Pair) (last end : ℕ) (d : Pair) (found : Arrival) → IsPolygonOf S V → IsSeparated V last
    → IsPolygonOf T W → IsSeparated W end → AreDisjoint S T → IsArrival S T d found.moves found
    → 0 < found.hit.denominator → found.hit.numerator ≤ found.hit.denominator
    → MeetAfter S T d found.hit.numerator found.hit.denominator
    → NoneSooner T d V found.hit.numerator found.hit.denominator
    → NoneSooner S (backward d) W found.hit.numerator found.hit.denominator → IsFirstMeeting S T d found
first_meeting_of S T V W last end d found o p q r a i w l m f g = record {
  arrival = i;
  whole = w;
  within = l;
  meet = m;
  first = λ n k hk meet. elim (cases_lt k n) [
    | inl b ↦ before_beyond found.hit.numerator found.hit.denominator n k l b
    | inr b ↦ meet_within S T V W last end d found.hit.numerator found.hit.denominator n k o p q r a f g hk b meet
  ];
}

-- the first arrival of the vertices of S, if it is no later than that of the vertices of T
by_moving : (S T V W : List Pair) (last end : ℕ) (d : Pair) (found : Arrival) → IsPolygonOf S V → IsSeparated V last
    → IsPolygonOf T W → IsSeparated W end → AreDisjoint S T → found.moves ≡ true → ArrivesFirst T d V found
    → NoneSooner S (backward d) W found.hit.numerator found.hit.denominator → IsFirstMeeting S T d found
by_moving S T V W last end d found o p q r a e h g =
    first_meeting_of S T V W last end d found o p q r a
    (subst (λ (b : Bool). IsArrival S T d b found) (sym e) (extreme, h.hit))
    (denominator_above T found.vertex (moved found.vertex d) found.hit h.hit) h.within
    (reached S T d found.vertex _ _ extreme.0 (covered_at T d found.vertex found.hit h.hit))
    (none_by_first T d V _ _ found h (omega arith)) g
  where
    extreme : IsExtreme S found.vertex
    extreme = (o.1.members found.vertex).0 h.there

-- the first arrival of the vertices of T, if it is no later than that of the vertices of S
by_other : (S T V W : List Pair) (last end : ℕ) (d : Pair) (found : Arrival) → IsPolygonOf S V → IsSeparated V last
    → IsPolygonOf T W → IsSeparated W end → AreDisjoint S T → found.moves ≡ false → ArrivesFirst S (backward d) W found
    → NoneSooner T d V found.hit.numerator found.hit.denominator → IsFirstMeeting S T d found
by_other S T V W last end d found o p q r a e h f =
    first_meeting_of S T V W last end d found o p q r a
    (subst (λ (b : Bool). IsArrival S T d b found) (sym e) (extreme, h.hit))
    (denominator_above S found.vertex (moved found.vertex (backward d)) found.hit h.hit) h.within
    (reaches S T d found.vertex _ _ extreme.0 (covered_at S (backward d) found.vertex found.hit h.hit)) f
    (none_by_first S (backward d) W _ _ found h (omega arith))
  where
    extreme : IsExtreme T found.vertex
    extreme = (q.1.members found.vertex).0 h.there

-- the sooner of both first arrivals makes the first meeting
pub first_of_both : (S T V W : List Pair) (last end : ℕ) (d : Pair) (f g r : Option Arrival) → IsPolygonOf S V
    → IsSeparated V last → IsPolygonOf T W → IsSeparated W end → AreDisjoint S T → ReturnsFirst T d V f
    → IfSome f (λ found. found.moves ≡ true) → ReturnsFirst S (backward d) W g → IfSome g (λ found. found.moves ≡ false)
    → ReturnsSooner f g r → ReturnsArrival S T d r
first_of_both S T V W last end d None None r o p q s a hf ef hg eg e =
    subst (λ (z : Option Arrival). ReturnsArrival S T d z) (sym e)
    (never_meet S T V W last end d o p q s a hf hg)
first_of_both S T V W last end d None (Some b) r o p q s a hf ef hg eg e =
    subst (λ (z : Option Arrival). ReturnsArrival S T d z) (sym e)
    (by_other S T V W last end d b o p q s a eg hg (none_at_all T d V _ _ hf))
first_of_both S T V W last end d (Some b) None r o p q s a hf ef hg eg e =
    subst (λ (z : Option Arrival). ReturnsArrival S T d z) (sym e)
    (by_moving S T V W last end d b o p q s a ef hf (none_at_all S (backward d) W _ _ hg))
first_of_both S T V W last end d (Some b) (Some c) r o p q s a hf ef hg eg (inl e) =
    subst (λ (z : Option Arrival). ReturnsArrival S T d z) (sym e.0)
    (by_moving S T V W last end d b o p q s a ef hf (none_by_first S (backward d) W _ _ c hg e.1))
first_of_both S T V W last end d (Some b) (Some c) r o p q s a hf ef hg eg (inr e) =
    subst (λ (z : Option Arrival). ReturnsArrival S T d z) (sym e.0)
    (by_other S T V W last end d c o p q s a eg hg (none_by_first T d V _ _ b hf (weaker _ _ e.1)))
  where
    weaker : (x y : ℕ) → x < y → x ≤ y
    weaker x y h = omega arith

-- ---- no motion

-- no direction goes along no motion
no_way : (e d : Pair) → IsZero d → product e d ≡ pos 0
unfolding product
no_way e d z = rw (z.0, z.1) (nothing e.x e.y)
  where
    nothing : (x y : ℤ) → x *ℤ pos 0 +ℤ y *ℤ pos 0 ≡ pos 0
    nothing x y = omega (arith, ints)

-- sets that a direction separates before and after the motion never meet
pub never_apart : (S T : List Pair) (d : Pair) → StayApart S T d → NeverMeet S T d
never_apart S T d (e, h) n k hk l meet =
    never_both (carried k n d S) (magnified k T) meet (
      e,
      λ s t ms mt. parted s t (image_of (carried_point k n d) S s ms) (image_of (times k) T t mt),
    )
  where
    less : (x y u v w : ℤ) → x <ℤ y → (x +ℤ w) <ℤ y → u ≡ pos k *ℤ x +ℤ pos n *ℤ w → v ≡ pos k *ℤ y → u <ℤ v
    less x y u v w h i e f =
        let p = product_pp (pos k) (y -ℤ x) (omega (arith, ints)) (omega (arith, ints)) in
        let q = product_pp (pos k) ((y -ℤ x) -ℤ w) (omega (arith, ints)) (omega (arith, ints)) in
        elim (le_or_lt w (pos 0)) [
          | inl g ↦ let r = product_ns (pos n) w (omega (arith, ints)) g in omega (arith, ints, spread (pos k) y x, p, r, e, f)
          | inr g ↦ let r = product_nn (pos k -ℤ pos n) w (omega (arith, ints)) (omega (arith, ints)) in
              omega (arith, ints, spread (pos k) y x, spread (pos k) (y -ℤ x) w, part (pos k) (pos n) w, q, r, e, f)
        ]
      where
        spread : (k u v : ℤ) → k *ℤ (u -ℤ v) ≡ k *ℤ u -ℤ k *ℤ v
        spread k u v = rw (as_difference k, as_difference u, as_difference v)
            (simp difference_rules (difference-eq _ _ _ _ (omega arith)))

        part : (k n w : ℤ) → (k -ℤ n) *ℤ w ≡ k *ℤ w -ℤ n *ℤ w
        part k n w = rw (as_difference k, as_difference n, as_difference w)
            (simp difference_rules (difference-eq _ _ _ _ (omega arith)))

    parted : (s t : Pair) → ((a : Pair) × Contains S a × (s ≡ carried_point k n d a))
        → ((b : Pair) × Contains T b × (t ≡ times k b)) → product e s <ℤ product e t
    parted s t (a, ma, i) (b, mb, j) =
        let c = h a b ma mb in
        subst (λ (z : Pair). product e z <ℤ product e t) (sym i)
        (subst (λ (z : Pair). product e (carried_point k n d a) <ℤ product e z) (sym j)
        (less _ _ _ _ _ c.0 c.1 (product_carried k n e d a) (product_times k e b)))

-- without a motion, disjoint sets stay apart
pub stays_apart : (S T : List Pair) (d : Pair) → IsZero d → AreDisjoint S T → NeverMeet S T d
stays_apart S T d z (e, h) =
    never_apart S T d (e, λ s t ms mt. (h s t ms mt, still _ _ _ (h s t ms mt) (no_way e d z)))
  where
    still : (x y w : ℤ) → x <ℤ y → w ≡ pos 0 → (x +ℤ w) <ℤ y
    still x y w h e = omega (arith, ints)

-- sets that stay apart are disjoint and never meet
pub apart_and_never : (S T : List Pair) (d : Pair) → StayApart S T d → AreDisjoint S T × NeverMeet S T d
apart_and_never S T d h = (disjoint_first S T d h, never_apart S T d h)
