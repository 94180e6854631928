-- The half that has the first of the farthest points.
use Rattle.std.proofs.Common.{◌≡◌, ℕ, subst, pos, ◌≤ℤ◌, ◌<ℤ◌, inl, inr, refl}
use Rattle.std.proofs.Common.{arith, ◌++◌, [], ◌∷◌, Some, None}
use Rattle.std.specs.List.{All, Contains}
use Rattle.std.specs.Prelude.{◌≢◌}
use Rattle.std.proofs.lemmas.Int.{ints}
use Rattle.std.proofs.lemmas.List.Elements.{All-contains, All-append, Contains-append_left, Contains-append_right}
use Rattle.lattice.specs.Plane.{Pair, orient, product, IsBefore}
use Rattle.lattice.specs.Bridges.{IsAllBefore}
use Rattle.lattice.specs.Signs.{le_or_lt}
use Rattle.bridge_search.specs.Trees.{Tree, Leaf, Fork, On, IsBridged, IsFork, edge_of, left_of, right_of, first_of}
use Rattle.bridge_search.specs.Trees.{IsAtDepth}
use Rattle.bridge_search.specs.Leaves.{points_of}
use Rattle.bridge_search.proofs.Leaves.{on_of_contains, contains_of_on}
use Rattle.hull_geometry.proofs.PointLists.{all_of}
use Rattle.hull_geometry.specs.Tangents.{IsFirstFarthest, Faces}
use Rattle.lattice.proofs.Order.{before_not, before_irrefl}
use Rattle.hull_geometry.proofs.Slopes.{stays, goes}
use Rattle.lattice.proofs.Numbers.{nn_opposite}
use Rattle.lattice.specs.Orientations.{orient_on}
use Rattle.lattice.specs.declared.side.Side.{Side}
use Rattle.lattice.specs.declared.side.Side.TheVariants.{Lower, Upper}
use Rattle.hull_questions.proofs.StoredEdges.{same_ends}
use Rattle.hull_questions.specs.Parts.{IsFacing, IsFartherPart, IsOneDown}
use Rattle.lattice.proofs.LineCrossings.{orient_other}

-- the first of the farthest is in the left half if no point of the right one lies farther than some point of the left
-- one
in_left : (u w : Tree) (d r : Pair) → IsAllBefore (On u) (On w) → IsFirstFarthest (points_of u) d r
    → ((s : Pair) → On w s → (p : Pair) × On u p × (product d s ≤ℤ product d p))
    → IsFirstFarthest (points_of u ++ points_of w) d r
in_left u w d r o f g = (
  Contains-append_left (points_of u) (points_of w) r f.0,
  All-append (λ s. product d s ≤ℤ product d r) (points_of u) (points_of w) f.1
      (all_of (λ s. product d s ≤ℤ product d r) (points_of w)
      (λ s m. let n : (p : Pair) × On u p × (product d s ≤ℤ product d p) = g s (on_of_contains w s m) in
      let k : product d n.0 ≤ℤ product d r =
      All-contains (λ s. product d s ≤ℤ product d r) (points_of u) n.0 f.1 (contains_of_on u n.0 n.1) in
      let h : product d s ≤ℤ product d n.0 = n.2 in omega (arith, ints))),
  All-append (λ s. IsBefore s r → product d s ≢ product d r) (points_of u) (points_of w) f.2
      (all_of (λ s. IsBefore s r → product d s ≢ product d r) (points_of w)
      (λ s m b e. before_not s r b (o r s (on_of_contains u r f.0) (on_of_contains w s m)))),
)

-- the first of the farthest is in the right half if each point of the left one is less far than some point of the right
-- one
in_right : (u w : Tree) (d r : Pair) → IsFirstFarthest (points_of w) d r
    → ((s : Pair) → On u s → (q : Pair) × On w q × (product d s <ℤ product d q))
    → IsFirstFarthest (points_of u ++ points_of w) d r
in_right u w d r f g =
    let less : (s : Pair) → Contains (points_of u) s → product d s <ℤ product d r = λ s m.
    let n : (q : Pair) × On w q × (product d s <ℤ product d q) = g s (on_of_contains u s m) in
    let k : product d n.0 ≤ℤ product d r =
    All-contains (λ s. product d s ≤ℤ product d r) (points_of w) n.0 f.1 (contains_of_on w n.0 n.1) in
    let h : product d s <ℤ product d n.0 = n.2 in omega (arith, ints) in (
      Contains-append_right (points_of u) (points_of w) r f.0,
      All-append (λ s. product d s ≤ℤ product d r) (points_of u) (points_of w)
          (all_of (λ s. product d s ≤ℤ product d r) (points_of u) (λ s m. let h = less s m in omega (arith, ints))) f.1,
      All-append (λ s. IsBefore s r → product d s ≢ product d r) (points_of u) (points_of w)
          (all_of (λ s. IsBefore s r → product d s ≢ product d r) (points_of u)
          (λ s m b e. let h = less s m in omega (arith, ints))) f.2,
    )

-- if a point is not less far, the stored end is not
at_most : (d p q a b : Pair) → (p ≡ a) × (q ≡ b) → ¬ (product d p <ℤ product d q) → product d b ≤ℤ product d a
at_most d p q a b e n =
    elim (le_or_lt (product d q) (product d p)) [ inl k ↦ rw (e.0, e.1) at k | inr k ↦ absurd (n k) ]

-- if a point is less far, the stored end is
less_far : (d p q a b : Pair) → (p ≡ a) × (q ≡ b) → product d p <ℤ product d q → product d a <ℤ product d b
less_far d p q a b e k = rw (e.0, e.1) at k

-- a half with an edge on the side that d faces has two halves
pub facing_fork : (d : Pair) (t : Tree) (e : Pair × Pair) → IsFacing d t (Some e) → IsFork t
facing_fork d (Leaf x) e (inl h) = absurd (cc)
facing_fork d (Leaf x) e (inr h) = absurd (cc)
facing_fork d (Fork e f u w) g h = tt

-- if the left end of a bridge that d faces is not less far than the right one, the first of the farthest is in the left
-- half
stays_left : (side : Side) (u w : Tree) (d a b r : Pair) → Faces side d → IsAllBefore (On u) (On w) → On u a → On w b
    → ((s : Pair) → On w s → pos 0 ≤ℤ orient_on side a b s) → product d b ≤ℤ product d a → IsFirstFarthest (points_of u) d r
    → IsFirstFarthest (points_of u ++ points_of w) d r
stays_left side u w d a b r faces o ia ib inner f h =
    in_left u w d r o h (λ s i. (a, ia, stays side d a b s faces (o a b ia ib) (o a s ia i) (inner s i) f))

-- if the left end is less far than the right one, the first of the farthest is in the right half
goes_right : (side : Side) (u w : Tree) (d a b r : Pair) → Faces side d → IsAllBefore (On u) (On w) → On u a → On w b
    → ((s : Pair) → On u s → pos 0 ≤ℤ orient_on side a b s) → product d a <ℤ product d b → IsFirstFarthest (points_of w) d r
    → IsFirstFarthest (points_of u ++ points_of w) d r
goes_right side u w d a b r faces o ia ib inner f h =
    in_right u w d r h (λ s i. (b, ib, goes side d a b s faces (o a b ia ib) (o s b i ib) (inner s i) f))

-- a point not left of an upper bridge is inwards of it
under : (e : Pair × Pair) (s : Pair) → orient e.0 e.1 s ≤ℤ pos 0 → pos 0 ≤ℤ orient_on Upper e.0 e.1 s
under e s h = nn_opposite _ _ (orient_other e.0 e.1 s) h

-- if the left end of the edge that d faces is not less far than the right one, the left half is the farther part
pub farther_left : (d : Pair) (t : Tree) (p q : Pair) → IsBridged t → IsFacing d t (Some (p, q))
    → ¬ (product d p <ℤ product d q) → IsFartherPart d t (left_of t)
farther_left d (Leaf x) p q h (inl g) k = absurd (cc)
farther_left d (Leaf x) p q h (inr g) k = absurd (cc)
farther_left d (Fork e f u w) p q h (inl g) k = record {
  lifts = λ r a. stays_left Upper u w d e.0 e.1 r g.0 h.0 h.1.from_left h.1.to_right
      (λ s i. under e s (h.1.inner_right s i)) (at_most d p q _ _ (same_ends g.1) k) a;
  lower = omega arith;
}
farther_left d (Fork e f u w) p q h (inr g) k = record {
  lifts = λ r a. stays_left Lower u w d f.0 f.1 r g.0 h.0 h.2.from_left h.2.to_right h.2.inner_right
      (at_most d p q _ _ (same_ends g.1) k) a;
  lower = omega arith;
}

-- if the left end is less far, the right half is the farther part
pub farther_right : (d : Pair) (t : Tree) (p q : Pair) → IsBridged t → IsFacing d t (Some (p, q))
    → product d p <ℤ product d q → IsFartherPart d t (right_of t)
farther_right d (Leaf x) p q h (inl g) k = absurd (cc)
farther_right d (Leaf x) p q h (inr g) k = absurd (cc)
farther_right d (Fork e f u w) p q h (inl g) k = record {
  lifts = λ r a. goes_right Upper u w d e.0 e.1 r g.0 h.0 h.1.from_left h.1.to_right
      (λ s i. under e s (h.1.inner_left s i)) (less_far d p q _ _ (same_ends g.1) k) a;
  lower = omega arith;
}
farther_right d (Fork e f u w) p q h (inr g) k = record {
  lifts = λ r a. goes_right Lower u w d f.0 f.1 r g.0 h.0 h.2.from_left h.2.to_right h.2.inner_left
      (less_far d p q _ _ (same_ends g.1) k) a;
  lower = omega arith;
}

-- the only point is the first of the farthest
pub farthest_alone : (t : Tree) (d p : Pair) → edge_of t ≡ None → p ≡ first_of t → IsFirstFarthest (points_of t) d p
farthest_alone (Fork e f u w) d p n k = absurd (cc)
farthest_alone (Leaf x) d p n k =
    let one : (P : Pair → Type 0) → P p → All P (x ∷ []) =
    λ P y. all_of P (x ∷ []) (λ t m. rw (on_of_contains (Leaf x) t m, ← k) y) in (
      contains_of_on (Leaf x) p k,
      one (λ s. product d s ≤ℤ product d p) (omega (arith, ints)),
      one (λ s. IsBefore s p → product d s ≢ product d p) (λ b e. before_irrefl p b),
    )

-- the depth of the only point is 0
pub depth_alone : (t : Tree) (p : Pair) → edge_of t ≡ None → p ≡ first_of t → IsAtDepth t p 0
depth_alone (Leaf x) p h e = (e, refl)
depth_alone (Fork e f u w) p h k = absurd (cc)

-- the left half of a fork is one fork down
pub down_left : (t : Tree) → IsFork t → IsOneDown t (left_of t)
down_left (Leaf x) h p n i = absurd h
down_left (Fork e f u w) h p n i = (n, refl, inl i)

-- the right half of a fork is one fork down
pub down_right : (t : Tree) → IsFork t → IsOneDown t (right_of t)
down_right (Leaf x) h p n i = absurd h
down_right (Fork e f u w) h p n i = (n, refl, inr i)

-- a depth holds under another name of the number
pub deeper_on : (t : Tree) (p : Pair) (m n : ℕ) → m ≡ n → IsAtDepth t p m → IsAtDepth t p n
deeper_on t p m n e h = subst (λ (k : ℕ). IsAtDepth t p k) e h
