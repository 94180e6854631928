-- One turn of the search for the other end of a bridge, by the turns of bridge search and by the bounds of the end.
use Rattle.std.proofs.Common.{◌≡◌, ℕ, ◌+◌, refl, sym, arith, inl, inr, Some, None, subst}
use lib.IntN.{pos}
use Rattle.lattice.specs.Bridges.{IsBridge, IsNotBeyond}
use Rattle.lattice.specs.Plane.{Pair, IsBefore, orient, turned_point}
use Rattle.lattice.specs.Signs.{le_or_lt}
use Rattle.lattice.specs.declared.side.Side.{Side}
use Rattle.lattice.specs.declared.side.Side.TheVariants.{Lower, Upper}
use Rattle.lattice.proofs.Order.{before_total, before_trans, equal_by}
use Rattle.lattice.proofs.TurnedBridges.{turned_twice, before_turned_back, before_turned}
use Rattle.lattice.proofs.UniqueBridge.{one_bridge}
use Rattle.bridge_search.specs.Trees.{Tree, Leaf, Fork, On, IsBridged, edge_of, left_of, right_of, first_of}
use Rattle.bridge_search.specs.TurnedTrees.{turned_tree, halves_turned, lower_from_turned}
use Rattle.bridge_search.proofs.Turns as turns
use Rattle.bucket_tree.specs.OtherEnds.{IsBeside, IsEndAt, IsEndWithin, IsFound, IsRange, IsToTheRight, opposite}
use Rattle.bucket_tree.specs.declared.other_end.BridgeEnd.{BridgeEnd}
use Rattle.bucket_tree.specs.declared.other_end.BridgeEnd.TheVariants.{Start, End}
use Rattle.bucket_tree.proofs.EdgeEnds.{end_not_inwards, start_not_inwards, to_orient_on}
use Rattle.bucket_tree.proofs.SomeBridge.{some_bridge}

-- two edges that are returned as the same result are equal
same_edge : {e d : Pair × Pair} → Some e ≡ Some d → e ≡ d
same_edge h = cc

-- ---- bounds

-- what is not before the first bound is after what is before that or at it
not_before : (first d q : Pair) → ¬ IsBefore first d → ¬ IsBefore q first → IsBefore q d → ⊥
not_before first d q k n b = elim (before_total first d) [
  | inl h ↦ k h
  | inr h ↦ elim h [
    | inl e ↦ n (subst (IsBefore q) (sym e) b)
    | inr h ↦ n (before_trans q d first b h)
  ]
]

-- what is not after the last bound is before what is after that or at it
not_after : (c last q : Pair) → ¬ IsBefore c last → ¬ IsBefore last q → IsBefore c q → ⊥
not_after c last q k n b = elim (before_total c last) [
  | inl h ↦ k h
  | inr h ↦ elim h [
    | inl e ↦ n (subst (λ z. IsBefore z q) e b)
    | inr h ↦ n (before_trans last c q h b)
  ]
]

-- ---- both ends

-- a half beside a point has an end of the bridge on each side
some_end : (end : BridgeEnd) (side : Side) (p : Pair) (v : Tree) → IsBridged v → IsBeside end p v → (q : Pair)
    × IsEndAt end side p v q
some_end Start side p v b o =
    let s = some_bridge side v (Leaf p) b tt o in
    (s.0, subst (λ z. IsBridge side (On v) (On (Leaf p)) s.0 z) s.2.to_right s.2)
some_end End side p v b o =
    let s = some_bridge side (Leaf p) v tt b o in
    (s.1, subst (λ z. IsBridge side (On (Leaf p)) (On v) z s.1) s.2.from_left s.2)

-- and only one
one_end : (end : BridgeEnd) (p : Pair) (v : Tree) (q t : Pair) → IsBeside end p v → IsEndAt end Upper p v q
    → IsEndAt end Upper p v t → q ≡ t
one_end Start p v q t o h k = (one_bridge (On v) (On (Leaf p)) q p t p o h k).0
one_end End p v q t o h k = (one_bridge (On (Leaf p)) (On v) p q p t o h k).1

-- it is a point of the half
on_half : (end : BridgeEnd) (p : Pair) (v : Tree) (q : Pair) → IsEndAt end Upper p v q → On v q
on_half Start p v q h = h.from_left
on_half End p v q h = h.to_right

-- if the half is one point, that is the end
last_end : (end : BridgeEnd) (p : Pair) (v : Tree) → IsBridged v → IsBeside end p v → edge_of v ≡ None
    → IsEndAt end Upper p v (first_of v)
last_end Start p v b o e = (turns.done v (Leaf p) p (turns.start v (Leaf p) b tt o) e refl).bridge
last_end End p v b o e = (turns.done (Leaf p) v (first_of v) (turns.start (Leaf p) v tt b o) refl e).bridge

-- a part of a half is beside the point too
part_beside : (end : BridgeEnd) (p : Pair) (v w : Tree) → ((t : Pair) → On v t → On w t) → IsBeside end p w
    → IsBeside end p v
part_beside Start p v w i o = λ x y j d. o x y (i x j) d
part_beside End p v w i o = λ x y d j. o x y d (i y j)

-- an end that lies in a part of the half is that of the part
of_part : (end : BridgeEnd) (p : Pair) (v w : Tree) (q : Pair) → ((t : Pair) → On v t → On w t)
    → IsEndAt end Upper p w q
    → On v q → IsEndAt end Upper p v q
of_part Start p v w q i h j = record {
  from_left = j;
  to_right = h.to_right;
  inner_left = λ t k. h.inner_left t (i t k);
  inner_right = h.inner_right;
  tie_left = λ t k. h.tie_left t (i t k);
  tie_right = h.tie_right;
}
of_part End p v w q i h j = record {
  from_left = h.from_left;
  to_right = j;
  inner_left = h.inner_left;
  inner_right = λ t k. h.inner_right t (i t k);
  tie_left = h.tie_left;
  tie_right = λ t k. h.tie_right t (i t k);
}

-- if the half's end lies in the part, the part's end is the half's
from_part : (end : BridgeEnd) (p : Pair) (v w : Tree) → IsBridged w → IsBeside end p w → ((t : Pair) → On v t → On w t)
    → ((q : Pair) → IsEndAt end Upper p w q → On v q) → (q : Pair) → IsEndAt end Upper p v q → IsEndAt end Upper p w q
from_part end p v w b o i in_part q k =
    let s = some_end end Upper p w b o in
    subst (IsEndAt end Upper p w)
    (one_end end p v s.0 q (part_beside end p v w i o) (of_part end p v w s.0 i s.1 (in_part s.0 s.1)) k) s.1

-- the end does not lie between the ends of the half's edge
not_between : (end : BridgeEnd) (p : Pair) (e f : Pair × Pair) (u w : Tree) (q : Pair) → IsBridged (Fork e f u w)
    → IsBeside end p (Fork e f u w) → IsEndAt end Upper p (Fork e f u w) q → ¬ (IsBefore e.0 q × IsBefore q e.1)
not_between Start p e f u w q h o k m = start_not_inwards Upper q p e.0 e.1 (o q p k.from_left refl) (
  m.0,
  m.1,
  to_orient_on Upper e.0 e.1 q (elim k.from_left [
    | inl i ↦ h.1.inner_left q i
    | inr i ↦ h.1.inner_right q
        i
  ]),
)
    (k.inner_left e.0 (inl h.1.from_left), k.tie_left e.0 (inl h.1.from_left))
    (k.inner_left e.1 (inr h.1.to_right), k.tie_left e.1 (inr h.1.to_right))
not_between End p e f u w q h o k m = end_not_inwards Upper p q e.0 e.1 (o p q refl k.to_right)
    (m.0, m.1, to_orient_on Upper e.0 e.1 q (elim k.to_right [ inl i ↦ h.1.inner_left q i | inr i ↦ h.1.inner_right q i ]))
    (k.inner_right e.0 (inl h.1.from_left), k.tie_right e.0 (inl h.1.from_left))
    (k.inner_right e.1 (inr h.1.to_right), k.tie_right e.1 (inr h.1.to_right))

-- ---- a turn

-- if the half's edge does not begin before the last bound, the end is in the left half
pub skip_left : (end : BridgeEnd) (p : Pair) (t : Tree) (c d first last : Pair) → IsBridged t → IsBeside end p t
    → edge_of t ≡ Some (c, d) → IsEndWithin end Upper p t first last → ¬ IsBefore c last
    → IsRange end p t (left_of t) first last 1
skip_left end p (Leaf x) c d first last h o s i n = absurd (cc)
skip_left end p (Fork e f u w) c d first last h o s i n =
    let g : ¬ IsBefore e.0 last = subst (λ (z : Pair × Pair). ¬ IsBefore z.0 last) (sym (same_edge s)) n in
    let lifts = from_part end p u (Fork e f u w) h o (λ t j. inl j) (λ q k. elim (on_half end p (Fork e f u w) q k) [
      | inl j ↦ j
      | inr j ↦ absurd (not_after e.0 last q g (i q k).1 (h.0 e.0 q h.1.from_left j))
    ]) in
    record {
      beside = part_beside end p u (Fork e f u w) (λ t j. inl j) o;
      lifts = lifts;
      within = λ q k. i q (lifts q k);
      lower = omega arith;
    }

-- if it does not end after the first bound, in the right half
pub skip_right : (end : BridgeEnd) (p : Pair) (t : Tree) (c d first last : Pair) → IsBridged t → IsBeside end p t
    → edge_of t ≡ Some (c, d) → IsEndWithin end Upper p t first last → ¬ IsBefore first d
    → IsRange end p t (right_of t) first last 1
skip_right end p (Leaf x) c d first last h o s i n = absurd (cc)
skip_right end p (Fork e f u w) c d first last h o s i n =
    let g : ¬ IsBefore first e.1 = subst (λ (z : Pair × Pair). ¬ IsBefore first z.1) (sym (same_edge s)) n in
    let lifts = from_part end p w (Fork e f u w) h o (λ t j. inr j) (λ q k. elim (on_half end p (Fork e f u w) q k) [
      | inl j ↦ absurd (not_before first e.1 q g (i q k).0 (h.0 q e.1 j h.1.to_right))
      | inr j ↦ j
    ]) in
    record {
      beside = part_beside end p w (Fork e f u w) (λ t j. inr j) o;
      lifts = lifts;
      within = λ q k. i q (lifts q k);
      lower = omega arith;
    }

-- the range of the right half, to which a turn leads: the end is not before that of the edge
right_range : (end : BridgeEnd) (p : Pair) (e f : Pair × Pair) (u w : Tree) (first last : Pair)
    → IsBridged (Fork e f u w)
    → IsBeside end p (Fork e f u w) → IsEndWithin end Upper p (Fork e f u w) first last
    → ((q : Pair) → IsEndAt end Upper p w q → IsEndAt end Upper p (Fork e f u w) q)
    → IsRange end p (Fork e f u w) w e.1 last 1
right_range end p e f u w first last h o i lifts = record {
  beside = part_beside end p w (Fork e f u w) (λ t j. inr j) o;
  lifts = lifts;
  within = λ q k. (
    λ b. not_between end p e f u w q h o (lifts q k) (h.0 e.0 q h.1.from_left (on_half end p w q k), b),
    (i q (lifts q k)).1,
  );
  lower = omega arith;
}

-- and that of the left half: it is not after the start of the edge
left_range : (end : BridgeEnd) (p : Pair) (e f : Pair × Pair) (u w : Tree) (first last : Pair)
    → IsBridged (Fork e f u w)
    → IsBeside end p (Fork e f u w) → IsEndWithin end Upper p (Fork e f u w) first last
    → ((q : Pair) → IsEndAt end Upper p u q → IsEndAt end Upper p (Fork e f u w) q)
    → IsRange end p (Fork e f u w) u first e.0 1
left_range end p e f u w first last h o i lifts = record {
  beside = part_beside end p u (Fork e f u w) (λ t j. inl j) o;
  lifts = lifts;
  within = λ q k. (
    (i q (lifts q k)).0,
    λ b. not_between end p e f u w q h o (lifts q k) (b, h.0 q e.1 (on_half end p u q k) h.1.to_right),
  );
  lower = omega arith;
}

-- the turns of bridge search, with a half of one point
lifts_right : (end : BridgeEnd) (p : Pair) (e f : Pair × Pair) (u w : Tree) → IsBridged (Fork e f u w)
    → IsBeside end p (Fork e f u w) → IsToTheRight end p e → (q : Pair) → IsEndAt end Upper p w q
    → IsEndAt end Upper p (Fork e f u w) q
lifts_right Start p e f u w h o g q =
    (turns.turn_right_left_one (Fork e f u w) (Leaf p) p e.0 e.1 p (turns.start (Fork e f u w) (Leaf p) h tt o) refl
    refl refl
    g).lifts q p
lifts_right End p e f u w h o g q =
    (turns.turn_right (Leaf p) (Fork e f u w) (first_of (Fork e f u w)) p e.0 e.1 (turns.start (Leaf p) (Fork e f u w)
    tt h o) refl
    refl g).lifts p q

lifts_left : (end : BridgeEnd) (p : Pair) (e f : Pair × Pair) (u w : Tree) → IsBridged (Fork e f u w)
    → IsBeside end p (Fork e f u w) → ¬ IsToTheRight end p e → (q : Pair) → IsEndAt end Upper p u q
    → IsEndAt end Upper p (Fork e f u w) q
lifts_left Start p e f u w h o n q = elim (le_or_lt (pos 0) (orient e.0 e.1 p)) [
  | inl g ↦ (turns.turn_left (Fork e f u w) (Leaf p) p e.0 e.1 p (turns.start (Fork e f u w) (Leaf p) h tt o) refl refl
      g).lifts q p
  | inr g ↦ absurd (n g)
]
lifts_left End p e f u w h o n q = elim (le_or_lt (pos 0) (orient p e.0 e.1)) [
  | inl g ↦ absurd (n g)
  | inr g ↦ (turns.turn_left_right_one (Leaf p) (Fork e f u w) (first_of (Fork e f u w)) p e.0 e.1
      (turns.start (Leaf p) (Fork e f u w) tt h o) refl refl refl g).lifts p q
]

-- the turn to the right
pub to_right_half : (end : BridgeEnd) (p : Pair) (t : Tree) (c d first last : Pair) → IsBridged t → IsBeside end p t
    → edge_of t ≡ Some (c, d) → IsEndWithin end Upper p t first last → IsToTheRight end p (c, d)
    → IsRange end p t (right_of t) d last 1
to_right_half end p (Leaf x) c d first last h o s i g = absurd (cc)
to_right_half end p (Fork e f u w) c d first last h o s i g =
    let k = same_edge s in
    subst (λ (z : Pair × Pair). IsRange end p (Fork e f u w) w z.1 last 1) k
    (right_range end p e f u w first last h o i (lifts_right end p e f u w h o (subst (IsToTheRight end p) (sym k) g)))

-- and the turn to the left
pub to_left_half : (end : BridgeEnd) (p : Pair) (t : Tree) (c d first last : Pair) → IsBridged t → IsBeside end p t
    → edge_of t ≡ Some (c, d) → IsEndWithin end Upper p t first last → ¬ IsToTheRight end p (c, d)
    → IsRange end p t (left_of t) first c 1
to_left_half end p (Leaf x) c d first last h o s i g = absurd (cc)
to_left_half end p (Fork e f u w) c d first last h o s i g =
    let k = same_edge s in
    subst (λ (z : Pair × Pair). IsRange end p (Fork e f u w) u first z.0 1) k
    (left_range end p e f u w first last h o i (lifts_left end p e f u w h o (λ j. g (subst (IsToTheRight end p) k j))))

-- ---- turns

-- no turn leads to the half itself
pub no_turn : (end : BridgeEnd) (p : Pair) (w : Tree) (first last : Pair) → IsBeside end p w
    → IsEndWithin end Upper p w first last
    → IsRange end p w w first last 0
no_turn end p w first last o i = record { beside = o; lifts = λ q h. h; within = i; lower = omega arith }

-- n turns and one more are n + 1
pub one_turn_more : (end : BridgeEnd) (p : Pair) (w v z : Tree) (first last a b : Pair) (n : ℕ)
    → IsRange end p w v first last n
    → IsRange end p v z a b 1 → IsRange end p w z a b (n + 1)
one_turn_more end p w v z first last a b n h k = record {
  beside = k.beside;
  lifts = λ q j. h.lifts q (k.lifts q j);
  within = k.within;
  lower = omega (arith, h.lower, k.lower);
}

-- bounds that meet are the end
pub meeting_bounds : (end : BridgeEnd) (side : Side) (p : Pair) (v : Tree) (first last : Pair) → IsBridged v
    → IsBeside end p v → IsEndWithin end side p v first last → first ≡ last → IsEndAt end side p v first
meeting_bounds end side p v first last b o i e =
    let s = some_end end side p v b o in
    let k = i s.0 s.1 in
    subst (IsEndAt end side p v) (equal_by s.0 first k.0 (subst (λ z. ¬ IsBefore z s.0) (sym e) k.1)) s.1

-- so they are the end if they meet after some turns
pub bounds_met : (end : BridgeEnd) (p : Pair) (w v : Tree) (first last : Pair) (n : ℕ) → IsBridged v
    → IsRange end p w v first last n → first ≡ last → IsEndAt end Upper p w first
bounds_met end p w v first last n b r e = r.lifts first (meeting_bounds end Upper p v first last b r.beside r.within e)

-- if they do not, and the end is found, it is the one point that is left
pub one_left : (end : BridgeEnd) (p : Pair) (w v : Tree) (first last : Pair) (n : ℕ) → IsBridged v
    → IsRange end p w v first last n → IsFound v first last → ¬ (first ≡ last) → IsEndAt end Upper p w (first_of v)
one_left end p w v first last n b r (inl e) m = absurd (m e)
one_left end p w v first last n b r (inr e) m = r.lifts (first_of v) (last_end end p v b r.beside e)

-- ---- a rotation by 180 degrees

-- what is beside a point on one hand is beside it on the other after a rotation
pub beside_by_turn : (end : BridgeEnd) (p : Pair) (v : Tree) → IsBeside end p v
    → IsBeside (opposite end) (turned_point p) (turned_tree v)
beside_by_turn Start p v o = halves_turned v (Leaf p) o
beside_by_turn End p v o = halves_turned (Leaf p) v o

-- the other end of the upper bridge to the rotated half, rotated, is the end of the lower bridge
pub lower_by_turn : (end : BridgeEnd) (p : Pair) (v : Tree) (q : Pair)
    → IsEndAt (opposite end) Upper (turned_point p) (turned_tree v) q → IsEndAt end Lower p v (turned_point q)
lower_by_turn Start p v q h =
    subst (λ z. IsBridge Lower (On v) (On (Leaf p)) (turned_point q) z) (turned_twice p)
    (lower_from_turned v (Leaf p) (turned_point p) q h)
lower_by_turn End p v q h =
    subst (λ z. IsBridge Lower (On (Leaf p)) (On v) z (turned_point q)) (turned_twice p)
    (lower_from_turned (Leaf p) v q (turned_point p) h)

-- a rotation exchanges the bounds
turned_within : (first last q : Pair) → IsNotBeyond first last (turned_point q)
    → IsNotBeyond (turned_point last) (turned_point first) q
turned_within first last q i = (
  λ b. i.1 (before_turned_back q last b),
  λ b. i.0 (before_turned q first b),
)

-- so the other end of the rotated bridge is within the rotated bounds
pub within_by_turn : (end : BridgeEnd) (p : Pair) (v : Tree) (first last : Pair) → IsEndWithin end Lower p v first last
    → IsEndWithin (opposite end) Upper (turned_point p) (turned_tree v) (turned_point last) (turned_point first)
within_by_turn end p v first last i q k = turned_within first last q (i (turned_point q) (lower_by_turn end p v q k))
