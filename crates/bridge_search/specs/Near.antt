-- Trees all of whose points are near.
use Rattle.std.specs.Prelude.{◌≡◌, ◌↔◌, ◌&&◌, Bool, IsTrue, neg_ℤ, ◌≤ℤ◌, ℤ, T}
use Rattle.std.proofs.Common.{arith, refl, sym, inl, inr, true, false, subst}
use Rattle.std.specs.Int.Signed.{le_z, le_z_yes}
use Rattle.std.proofs.lemmas.Float.{T_from_true}
use Rattle.std.proofs.lemmas.Bool.{and_parts, and_from}
use Rattle.lattice.specs.declared.TheConstants.{NEAR_LIMIT}
use Rattle.lattice.specs.Plane.{Pair, IsNear, turned_point}
use Rattle.lattice.specs.Integers.{linear}
use Rattle.bridge_search.specs.Trees.{Tree, Leaf, Fork, On}

-- each point of the tree is near
abbrev pub IsAllNear : Tree → Type 0
IsAllNear t = (p : Pair) → On t p → IsNear p

-- a near point is near after a rotation by 180 degrees
pub near_turned : (p : Pair) → IsNear p → IsNear (turned_point p)
near_turned p h = (
  omega (arith, linear, h),
  omega (arith, linear, h),
  omega (arith, linear, h),
  omega (arith, linear, h),
)

-- whether a point is near
abbrev pub is_near : Pair → Bool
is_near p = le_z (neg_ℤ NEAR_LIMIT) p.x && le_z p.x NEAR_LIMIT && le_z (neg_ℤ NEAR_LIMIT) p.y && le_z p.y NEAR_LIMIT

-- whether all points of the tree are near
abbrev pub are_near : Tree → Bool
are_near (Leaf x) = is_near x
are_near (Fork e f u w) = are_near u && are_near w

-- a comparison that computes to true holds
holds : {a b : ℤ} → le_z a b ≡ true → a ≤ℤ b
holds {a} {b} h = le_z_yes (T_from_true (le_z a b) h)

-- a comparison that holds computes to true
passes : {a b : ℤ} → a ≤ℤ b → le_z a b ≡ true
passes {a} {b} h = is_true (le_z a b) h.le
  where
    is_true : (b : Bool) → T b → b ≡ true
    is_true true h = refl
    is_true false h = absurd h

-- the test of a point is true if and only if the point is near
pub near_returned : (p : Pair) → IsTrue (is_near p) ↔ IsNear p
near_returned p = (
  λ h.
      let b = and_parts _ _ h in
      let c = and_parts _ _ b.0 in
      let d = and_parts _ _ c.0 in
      (holds d.0, holds d.1, holds c.1, holds b.1),
  λ h. and_from _ _ (and_from _ _ (and_from _ _ (passes h.0) (passes h.1)) (passes h.2)) (passes h.3),
)

-- the test of a tree is true if and only if all its points are near
pub all_returned : (t : Tree) → IsTrue (are_near t) ↔ IsAllNear t
all_returned (Leaf x) = (λ h p i. subst IsNear (sym i) ((near_returned x).0 h), λ h. (near_returned x).1 (h x refl))
all_returned (Fork e f u w) = (
  λ h p i. let b = and_parts (are_near u) (are_near w) h in
      elim i [ inl j ↦ (all_returned u).0 b.0 p j | inr j ↦ (all_returned w).0 b.1 p j ],
  λ h. and_from (are_near u) (are_near w) ((all_returned u).1 (λ p i. h p (inl i))) ((all_returned w).1 (λ p i. h p (inr i))),
)
