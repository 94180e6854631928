-- The half that has the tangent point on one hand, seen from a point below both.
use Rattle.std.proofs.Common.{◌≡◌, ◌<◌, ℤ, pos, ◌≤ℤ◌, ◌<ℤ◌, neg_ℤ, ◌⊎◌, inl, inr, sym, ap, ◌∙◌, subst, List, arith, ◌++◌, []}
use Rattle.std.proofs.Common.{◌∷◌, Some, None}
use Rattle.std.specs.List.{Contains}
use Rattle.std.proofs.lemmas.Int.{ints}
use Rattle.std.proofs.lemmas.List.Elements.{All-contains}
use Rattle.lattice.specs.Plane.{Pair, orient, IsBefore}
use Rattle.lattice.specs.Signs.{le_or_lt}
use Rattle.bridge_search.specs.Trees.{Tree, Leaf, Fork, On, IsBridged, lower_of, first_of, last_of, height_of}
use Rattle.bridge_search.specs.Leaves.{points_of}
use Rattle.bridge_search.proofs.Ends.{last_by, on_last}
use Rattle.bridge_search.proofs.Leaves.{on_of_contains, contains_of_on}
use Rattle.hull_geometry.proofs.PointLists.{all_of}
use Rattle.bridge_search.proofs.Turns.{first_by, on_first}
use Rattle.hull_geometry.proofs.EdgeSteps.{past_farther, past_farther_back}
use Rattle.lattice.proofs.Order.{before_total, before_trans}
use Rattle.hull_geometry.proofs.Orientation.{orient_swap, at_least, above, orient-cycle}
use Rattle.hull_geometry.proofs.SameSide.{OneSide, more_beside}
use Rattle.hull_geometry.proofs.Sightings.{orient_by_back, no_more, tangent_of}
use Rattle.hull_geometry.proofs.EdgesAt.{up_to, on_from}
use Rattle.hull_geometry.specs.Hands.{other_hand, orient_by, IsMore, IsOnHand, end_on}
use Rattle.hull_geometry.specs.Tangents.{IsNoMore, IsTangent}
use Rattle.hull_questions.specs.Hands.{half_on, outermost, IsBeyond}
use Rattle.hull_questions.proofs.Halves.{AreHalves, swapped, halves_of}
use Rattle.hull_questions.specs.Parts.{IsTangentPart}
use Rattle.hull_geometry.specs.Locations.{IsBelow}
use Rattle.hull_geometry.specs.declared.hand.Hand.{Hand}
use Rattle.hull_geometry.specs.declared.hand.Hand.TheVariants.{Left, Right}
use Rattle.lattice.specs.declared.side.Side.TheVariants.{Lower}
use Rattle.hull_geometry.proofs.Orientations.{strict_on, strict_back, fans_from, fans_to}

-- ---- the order in which q sees the points that lie above it

-- a point of S is on this hand of q, or q is on this hand of it
side_of : (hand : Hand) (S : List Pair) (q t : Pair) → IsBelow S q → Contains S t → IsOnHand hand t q ⊎ IsOnHand hand q t
side_of hand S q t h m = sort hand (before_total t q)
  where
    sort : (hand : Hand) → IsBefore t q ⊎ ((t ≡ q) ⊎ IsBefore q t) → IsOnHand hand t q ⊎ IsOnHand hand q t
    sort hand (inr (inl e)) = absurd (h.absent (subst (Contains S) e m))
    sort Left (inl b) = inl b
    sort Left (inr (inr b)) = inr b
    sort Right (inl b) = inr b
    sort Right (inr (inr b)) = inl b

-- a point on this hand of q is seen farther there than each point on the other
across : (hand : Hand) (S : List Pair) (q s t : Pair) → IsBelow S q → Contains S s → Contains S t → IsOnHand hand s q
    → IsOnHand hand q t → pos 0 <ℤ orient_by hand q s t
across Left S q s t h m n b k = let a : orient s t q <ℤ pos 0 = h.outwards s t m n b k in let e = orient-cycle s t q in
    let f = orient_swap q t s in omega (arith, ints)
across Right S q s t h m n b k = let a : orient t s q <ℤ pos 0 = h.outwards t s n m k b in let e = orient-cycle t s q in
    let f = orient_swap q s t in omega (arith, ints)

-- of two points not each is farther on this hand
clash : (hand : Hand) (q s t : Pair) → pos 0 <ℤ orient_by hand q s t → IsMore hand q t s → ⊥
clash hand q s t a (inl g) = let e = orient_by_back hand q s t in omega (arith, ints)
clash hand q s t a (inr g) = let e = orient_by_back hand q s t in omega (arith, ints, g.0)

-- three points on this hand of q are on one side of it
all_on : (hand : Hand) (q u v w : Pair) → IsOnHand hand u q → IsOnHand hand v q → IsOnHand hand w q → OneSide q u v w
all_on Left q u v w a b c = inr (a, b, c)
all_on Right q u v w a b c = inl (a, b, c)

-- three points on the other hand of q are on one side of it
all_off : (hand : Hand) (q u v w : Pair) → IsOnHand hand q u → IsOnHand hand q v → IsOnHand hand q w → OneSide q u v w
all_off Left q u v w a b c = inl (a, b, c)
all_off Right q u v w a b c = inr (a, b, c)

-- farther on this hand is transitive
more_trans : (hand : Hand) (S : List Pair) (q u v w : Pair) → IsBelow S q → Contains S u → Contains S v → Contains S w
    → IsMore hand q u v → IsMore hand q v w → IsMore hand q u w
more_trans hand S q u v w h mu mv mw a b =
    elim (side_of hand S q u h mu) [
      | inl bu ↦ elim (side_of hand S q w h mw) [
        | inr aw ↦ inl (across hand S q u w h mu mw bu aw)
        | inl bw ↦ elim (side_of hand S q v h mv) [
          | inl bv ↦ more_beside hand q u v w (all_on hand q u v w bu bv bw) a b
          | inr av ↦ absurd (clash hand q w v (across hand S q w v h mw mv bw av) b)
        ]
      ]
      | inr au ↦ elim (side_of hand S q v h mv) [
        | inl bv ↦ absurd (clash hand q v u (across hand S q v u h mv mu bv au) a)
        | inr av ↦ elim (side_of hand S q w h mw) [
          | inl bw ↦ absurd (clash hand q w v (across hand S q w v h mw mv bw av) b)
          | inr aw ↦ more_beside hand q u v w (all_off hand q u v w au av aw) a b
        ]
      ]
    ]

-- ---- the tangent point of a half

-- a point below a set is below each half of it
below_half : (S : List Pair) (near far : Tree) (q : Pair) → AreHalves S near far → IsBelow S q → IsBelow (points_of near) q
below_half S near far q k h = record {
  absent = λ m. h.absent (k.in_near q (on_of_contains near q m));
  outwards = λ s t m n. h.outwards s t (k.in_near s (on_of_contains near s m)) (k.in_near t (on_of_contains near t n));
}

-- if each point of one half is less far on this hand than some point of the other, the tangent point of the other is
-- that of both
kept : (hand : Hand) (S : List Pair) (near far : Tree) (q p : Pair) → AreHalves S near far → IsBelow S q
    → ((t : Pair) → On far t → (s : Pair) × On near s × IsMore hand q s t) → IsTangent hand (points_of near) q p
    → IsTangent hand S q p
kept hand S near far q p k h more n = tangent_of hand S q p here (all_of (λ t. ¬ (IsMore hand q t p)) S (λ t m g. refuse t m g (k.which t m)))
  where
    here : Contains S p
    here = k.in_near p (on_of_contains near p n.0)

    none : (t : Pair) → On near t → IsMore hand q t p → ⊥
    none t i g =
        no_more hand q p t (All-contains (IsNoMore hand q p) (points_of near) t n.1 (contains_of_on near t i)) g

    refuse : (t : Pair) → Contains S t → IsMore hand q t p → On near t ⊎ On far t → ⊥
    refuse t m g (inl i) = none t i g
    refuse t m g (inr i) = let s = more t i in
        none s.0 s.1 (more_trans hand S q s.0 t p h (k.in_near s.0 s.1) m here s.2 g)

-- ---- the bridge as seen from q

-- a number at least 0 is above it or is 0
above_or_zero : (x : ℤ) → pos 0 ≤ℤ x → (pos 0 <ℤ x) ⊎ (x ≡ pos 0)
above_or_zero x h = elim (le_or_lt x (pos 0)) [ inl k ↦ inr (omega (arith, ints)) | inr k ↦ inl k ]

-- if q is beyond the end of the bridge on this hand, and not over its line, that end is seen farther there than each
-- point t over the line on the other hand of it
near_more : (hand : Hand) (S : List Pair) (q t : Pair) (e : Pair × Pair) → IsBelow S q → Contains S (end_on hand e)
    → Contains S t → IsBefore e.0 e.1 → IsOnHand hand (end_on hand e) t → IsOnHand hand (end_on hand e) q
    → pos 0 ≤ℤ orient e.0 e.1 t → orient e.0 e.1 q ≤ℤ pos 0 → IsMore hand q (end_on hand e) t
near_more Left S q t (a, b) h ma mt ab at aq over under =
    elim (side_of Left S q t h mt) [
      | inr k ↦ inl (across Left S q a t h ma mt aq k)
      | inl k ↦
          let y : pos 0 ≤ℤ orient a q t = fans_from Lower a b q t ab aq at under over in
          let z : pos 0 ≤ℤ orient q t a = at_least _ _ (orient-cycle a q t ∙ orient-cycle t a q) y in
          elim (above_or_zero _ z) [ inl g ↦ inl g | inr e ↦ inr (e, past_farther_back q t a k at e) ]
    ]
near_more Right S q t (a, b) h mb mt ab tb qb over under =
    elim (side_of Right S q t h mt) [
      | inr k ↦ inl (across Right S q b t h mb mt qb k)
      | inl k ↦
          elim (above_or_zero _ (fans_to Lower a b q t ab qb tb under over))
          [ inl g ↦ inl g | inr e ↦ inr (e, past_farther q t b k tb (orient_swap q t b ∙ ap neg_ℤ e)) ]
    ]

-- if q is beyond the end of the bridge on the other hand, and over its line, that end is seen farther on this hand than
-- each point t over the line on this hand of it
far_more : (hand : Hand) (q t : Pair) (e : Pair × Pair) → IsBefore e.0 e.1 → IsOnHand hand t (end_on (other_hand hand) e)
    → IsBeyond hand e q → pos 0 ≤ℤ orient e.0 e.1 t → IsMore hand q (end_on (other_hand hand) e) t
far_more Left q t (a, b) ab tb (bq, left) over =
    inl (above _ _ (orient-cycle b q t ∙ orient-cycle t b q) (strict_back Lower a b q t ab bq tb over left))
far_more Right q t (a, b) ab at (qa, left) over =
    inl (strict_on Lower q a b t qa ab at (above _ _ (orient-cycle a b q) left) over)

-- ---- one step down

-- the half on this hand and the other one, with the lower bridge between them
record IsSplit (hand : Hand) (S : List Pair) (near far : Tree) (e : Pair × Pair) : Type 0 where
  pub halves : AreHalves S near far
  pub apart : (s t : Pair) → On near s → On far t → IsOnHand hand s t
  pub from : On near (end_on hand e)
  pub to : On far (end_on (other_hand hand) e)
  pub forward : IsBefore e.0 e.1
  pub over : (t : Pair) → Contains S t → pos 0 ≤ℤ orient e.0 e.1 t

-- the two halves of a fork are such a split
split_at : (hand : Hand) (e f : Pair × Pair) (u w : Tree) → IsBridged (Fork e f u w)
    → IsSplit hand (points_of u ++ points_of w) (half_on hand (Fork e f u w)) (half_on (other_hand hand) (Fork e f u w)) f
split_at hand e f u w h = turned hand
  where
    forward : IsBefore f.0 f.1
    forward = h.0 f.0 f.1 h.2.from_left h.2.to_right

    over : (t : Pair) → Contains (points_of u ++ points_of w) t → pos 0 ≤ℤ orient f.0 f.1 t
    over t m = elim ((halves_of u w).which t m) [ inl i ↦ h.2.inner_left t i | inr i ↦ h.2.inner_right t i ]

    turned : (hand : Hand)
        → IsSplit hand (points_of u ++ points_of w) (half_on hand (Fork e f u w)) (half_on (other_hand hand) (Fork e f u w)) f
    turned Left = record {
      halves = halves_of u w;
      apart = h.0;
      from = h.2.from_left;
      to = h.2.to_right;
      forward = forward;
      over = over;
    }
    turned Right = record {
      halves = swapped (points_of u ++ points_of w) u w (halves_of u w);
      apart = λ s t i j. h.0 t s j i;
      from = h.2.to_right;
      to = h.2.from_left;
      forward = forward;
      over = over;
    }

-- the order on this hand is transitive
hand_trans : (hand : Hand) (p q r : Pair) → IsOnHand hand p q → IsOnHand hand q r → IsOnHand hand p r
hand_trans Left p q r a b = before_trans p q r a b
hand_trans Right p q r a b = before_trans r q p b a

-- the outermost point is one of the half
on_outermost : (hand : Hand) (t : Tree) → On t (outermost hand t)
on_outermost Left t = on_first t
on_outermost Right t = on_last t

-- a point between the ends of the bridge lies under its line
under_bridge : (hand : Hand) (S : List Pair) (q : Pair) (e : Pair × Pair) → IsBelow S q → Contains S (end_on hand e)
    → Contains S (end_on (other_hand hand) e) → IsOnHand hand (end_on hand e) q
    → IsOnHand hand q (end_on (other_hand hand) e) → orient e.0 e.1 q ≤ℤ pos 0
under_bridge Left S q e h m n a b = let k = h.outwards e.0 e.1 m n a b in omega (arith, ints)
under_bridge Right S q e h m n a b = let k = h.outwards e.0 e.1 n m b a in omega (arith, ints)

-- if q is not both beyond the bridge and over it, some point of the near half is seen farther on this hand than each
-- point of the far one
near_keeps : (hand : Hand) (S : List Pair) (near far : Tree) (e : Pair × Pair) (q : Pair) → IsSplit hand S near far e
    → IsBelow S q → IsOnHand hand (outermost hand near) q → ¬ (IsBeyond hand e q) → (t : Pair) → On far t
    → (s : Pair) × On near s × IsMore hand q s t
near_keeps hand S near far e q k h first n t i =
    elim (side_of hand S q (end_on hand e) h (k.halves.in_near _ k.from)) [
      | inr qa ↦ (
        outermost hand near,
        on_outermost hand near,
        inl (across hand S q (outermost hand near) t h (k.halves.in_near _ (on_outermost hand near))
            (k.halves.in_far t i) first (hand_trans hand q (end_on hand e) t qa (k.apart (end_on hand e) t k.from i))),
      )
      | inl aq ↦ (
        end_on hand e,
        k.from,
        near_more hand S q t e h (k.halves.in_near _ k.from) (k.halves.in_far t i) k.forward
            (k.apart (end_on hand e) t k.from i) aq (k.over t (k.halves.in_far t i)) (under aq),
      )
    ]
  where
    under : IsOnHand hand (end_on hand e) q → orient e.0 e.1 q ≤ℤ pos 0
    under aq = elim (side_of hand S q (end_on (other_hand hand) e) h (k.halves.in_far _ k.to)) [
      | inr qb ↦ under_bridge hand S q e h (k.halves.in_near _ k.from) (k.halves.in_far _ k.to) aq qb
      | inl bq ↦ elim (le_or_lt (orient e.0 e.1 q) (pos 0)) [ inl m ↦ m | inr m ↦ absurd (n (bq, m)) ]
    ]

-- a half of a fork has less height
half_lower : (hand : Hand) (e f : Pair × Pair) (u w : Tree)
    → height_of (half_on hand (Fork e f u w)) < height_of (Fork e f u w)
half_lower Left e f u w = omega arith
half_lower Right e f u w = omega arith

-- a point inwards of the outermost point of a fork is inwards of that of its half there
inwards_near : (hand : Hand) (e f : Pair × Pair) (u w : Tree) (q : Pair)
    → IsOnHand hand (outermost hand (Fork e f u w)) q → IsOnHand hand (outermost hand (half_on hand (Fork e f u w))) q
inwards_near Left e f u w q h = h
inwards_near Right e f u w q h = h

-- a point beyond the bridge is inwards of the outermost point of the other half
inwards_far : (hand : Hand) (e f : Pair × Pair) (u w : Tree) (q : Pair) → IsBridged (Fork e f u w)
    → IsOnHand hand (end_on (other_hand hand) f) q
    → IsOnHand hand (outermost hand (half_on (other_hand hand) (Fork e f u w))) q
inwards_far Left e f u w q h k = up_to (first_of w) f.1 q (first_by w h.4 f.1 h.2.to_right) k
inwards_far Right e f u w q h k = on_from q f.0 (last_of u) k (last_by u h.3 f.0 h.2.from_left)

-- if q is not both beyond the bridge and over it, the tangent point is in the half on this hand
pub near_part : (hand : Hand) (t part : Tree) (q : Pair) (g : Pair × Pair) → IsBridged t → Some g ≡ lower_of t
    → IsBelow (points_of t) q → IsOnHand hand (outermost hand t) q → ¬ (IsBeyond hand g q) → part ≡ half_on hand t
    → IsTangentPart hand q t part
near_part hand (Leaf x) part q g h s below first n m = absurd (cc)
near_part hand (Fork e f u w) part q g h s below first n m =
    let t : Tree = Fork e f u w in
    let near : Tree = half_on hand t in
    let far : Tree = half_on (other_hand hand) t in
    let k : IsSplit hand (points_of t) near far f = split_at hand e f u w h in
    let o : IsOnHand hand (outermost hand near) q = inwards_near hand e f u w q first in
    let i : g ≡ f = cc in
    rw m record {
      part_for = record {
        lifts = λ p a. kept hand (points_of t) near far q p k.halves below
            (near_keeps hand (points_of t) near far f q k below o (subst (λ z. ¬ (IsBeyond hand z q)) i n)) a;
        lower = half_lower hand e f u w;
      };
      below = below_half (points_of t) near far q k.halves below;
      inwards = o;
    }

-- if q is beyond the bridge and over it, the tangent point is in the half on the other hand
pub far_part : (hand : Hand) (t part : Tree) (q : Pair) (g : Pair × Pair) → IsBridged t → Some g ≡ lower_of t
    → IsBelow (points_of t) q → IsBeyond hand g q → part ≡ half_on (other_hand hand) t → IsTangentPart hand q t part
far_part hand (Leaf x) part q g h s below b m = absurd (cc)
far_part hand (Fork e f u w) part q g h s below b m =
    let t : Tree = Fork e f u w in
    let near : Tree = half_on hand t in
    let far : Tree = half_on (other_hand hand) t in
    let k : IsSplit hand (points_of t) near far f = split_at hand e f u w h in
    let o : AreHalves (points_of t) far near = swapped (points_of t) near far k.halves in
    let i : g ≡ f = cc in
    let c : IsBeyond hand f q = subst (λ z. IsBeyond hand z q) i b in
    rw m record {
      part_for = record {
        lifts = λ p a. kept hand (points_of t) far near q p o below
            (λ t i. (
              end_on (other_hand hand) f,
              k.to,
              far_more hand q t f k.forward (k.apart t (end_on (other_hand hand) f) i k.to) c
                  (k.over t (k.halves.in_near t i)),
            )) a;
        lower = half_lower (other_hand hand) e f u w;
      };
      below = below_half (points_of t) far near q o below;
      inwards = inwards_far hand e f u w q h c.0;
    }

-- the only point is the tangent point
pub alone : (hand : Hand) (t : Tree) (q p : Pair) → lower_of t ≡ None → p ≡ first_of t → IsTangent hand (points_of t) q p
alone hand (Fork e f u w) q p n k = absurd (cc)
alone hand (Leaf x) q p n k =
    tangent_of hand (x ∷ []) q p (contains_of_on (Leaf x) p k)
    (all_of (λ t. ¬ (IsMore hand q t p)) (x ∷ []) (λ t m. itself t (on_of_contains (Leaf x) t m ∙ sym k)))
  where
    itself : (t : Pair) → t ≡ p → IsMore hand q t p → ⊥
    itself t e (inl g) = let h = rw e at g in clash hand q p p h (inl h)
    itself t e (inr g) = let h = rw e at g.1 in omega (arith, ints)
