-- A point that is removed from one of two nodes in a row.
use Rattle.std.proofs.lemmas.Grind.{common_steps}
use Rattle.std.proofs.Common.{◌≡◌, ℕ, zero, suc, ◌+◌, ◌<◌, refl, sym, ap, ◌∙◌, subst, List, []}
use Rattle.std.proofs.Common.{◌∷◌}
use Rattle.std.proofs.Common.{length, arith, Ok, Err, get_or}
use Rattle.std.specs.Prelude.{take, drop}
use Rattle.hull_buckets.proofs.Around.{taken_away}
use Rattle.hull_buckets.proofs.Changed.{removed}
use Rattle.std.specs.List.{All, Contains, remove}
use Rattle.std.proofs.lemmas.List.Elements.{All-head, All-tail}
use Rattle.lattice.specs.Covers.{IsPointSet, without_point}
use Rattle.lattice.specs.Plane.{Pair}
use Rattle.lattice.proofs.Order.{before_irrefl}
use Rattle.lattice.proofs.Order.{is_before-false}
use Rattle.hull_geometry.specs.Positions.{IsPositionOf, origin, point_at}
use Rattle.hull_geometry.proofs.PointLists.{all_of, cut, only_member}
use Rattle.hull_geometry.proofs.ChangedSets.{absent_between}
use Rattle.hull_geometry.proofs.SetLaws.{members_without}
use Rattle.hull_set.specs.Held.{once}
use Rattle.hull_set.proofs.HeldMultiplicities.{same_false, same_true}
use Rattle.bucket_tree.specs.Counts.{counted}
use Rattle.leaf_trees.specs.Entries.{several}

-- a list of one point without it
pub without_only : (p : Pair) → without_point p (p ∷ []) ≡ []
without_only p = rw (is_before-false p p (before_irrefl p)) refl

-- the multiplicity of a point that is not there is 0
pub counted_none : (S : List Pair) (T : List ℕ) (p : Pair) → All (λ t. ¬ (t ≡ p)) S → counted S T p ≡ 0
counted_none [] T p a = refl
counted_none (x ∷ xs) [] p a = refl
counted_none (x ∷ xs) (t ∷ ts) p a =
    let n = All-head (λ z. ¬ (z ≡ p)) x xs a in
    let r = counted_none xs ts p (All-tail (λ z. ¬ (z ≡ p)) x xs a) in
    rw (same_false x p n) (omega (arith, r))

-- the multiplicities of a list are those without the entry at an index, and that entry's
pub counted_remove : (S : List Pair) (T : List ℕ) (i : ℕ) (q : Pair) → length T ≡ length S → i < length S
    → counted S T q ≡ counted (remove S i) (remove T i) q + several (get_or T i 0) (point_at S i) q
counted_remove [] T i q e l = absurd (omega (arith, l))
counted_remove (x ∷ xs) [] i q e l = absurd (omega (arith, e))
counted_remove (x ∷ xs) (t ∷ ts) zero q e l = omega arith
counted_remove (x ∷ xs) (t ∷ ts) (suc i) q e l =
    let r = counted_remove xs ts i q (omega (arith, e)) (omega (arith, l)) in omega (arith, r)

-- ---- a bucket

-- the multiplicity of a point is the one that its entry has
several_same : (t : ℕ) (p : Pair) → several t p p ≡ t
several_same t p = rw (same_true p) refl

-- a point that has no index is not among them
pub no_place : (S : List Pair) (i : ℕ) (p : Pair) → IsPositionOf S p (Err i) → ¬ Contains S p
no_place S i p at m = absent_between p (take i S) (drop i S) at.1 at.2 (subst (λ z. Contains z p) (cut S i at.0) m)

-- and its multiplicity is 0
pub count_none : (S : List Pair) (T : List ℕ) (i : ℕ) (p : Pair) → IsPositionOf S p (Err i) → counted S T p ≡ 0
count_none S T i p at =
    counted_none S T p (all_of (λ t. ¬ (t ≡ p)) S (λ t m e. no_place S i p at (subst (Contains S) e m)))

pub not_held : (S : List Pair) (T : List ℕ) (i : ℕ) (p : Pair) → IsPositionOf S p (Err i) → ¬ (counted S T p ≡ 1)
not_held S T i p at h = omega (arith, count_none S T i p at, h)

-- a bucket's points and counts, of which p has the index i and has multiplicity one
module _ (S : List Pair) (T : List ℕ) (i : ℕ) (p : Pair) (s : IsPointSet S) (e : length T ≡ length S)
    (at : IsPositionOf S p (Ok i)) (h : counted S T p ≡ 1) where
  -- the points without it
  rest_points : remove S i ≡ without_point p S
  rest_points = removed S i ∙ taken_away S i s at.0 ∙ ap (λ z. without_point z S) (at.1 origin)

  -- the count at its index is 1
  one_there : get_or T i 0 ≡ 1
  one_there =
      let z : counted (remove S i) (remove T i) p ≡ 0 =
      ap (λ y. counted y (remove T i) p) rest_points
      ∙ counted_none (without_point p S) (remove T i) p
      (all_of (λ t. ¬ (t ≡ p)) (without_point p S) (λ t m. ((members_without p t S s).0 m).1)) in
      let v : several (get_or T i 0) (point_at S i) p ≡ get_or T i 0 =
      ap (λ y. several (get_or T i 0) y p) (at.1 origin) ∙ several_same (get_or T i 0) p in
      omega (arith, h, counted_remove S T i p e at.0, z, v)

  -- the multiplicities without it
  pub held_without : (q : Pair) → counted S T q ≡ counted (without_point p S) (remove T i) q + once p q
  held_without q = counted_remove S T i q e at.0
      ∙ ap (λ y. counted y (remove T i) q + several (get_or T i 0) (point_at S i) q) rest_points
      ∙ ap (λ y. counted (without_point p S) (remove T i) q + several y (point_at S i) q) one_there
      ∙ ap (λ y. counted (without_point p S) (remove T i) q + several 1 y q) (at.1 origin)

  -- if it is the only one
  pub only_point : length S ≡ 1 → S ≡ p ∷ []
  only_point l = alone S l (i, at.0, at.1 p)
    where
      alone : (S : List Pair) → length S ≡ 1 → Contains S p → S ≡ p ∷ []
      alone [] l m = absurd (omega (arith, l))
      alone (x ∷ []) l m = ap (λ y. y ∷ []) (sym (only_member x p m))
      alone (x ∷ y ∷ ys) l m = absurd (omega (arith, l))

  pub held_alone : length S ≡ 1 → (q : Pair) → counted S T q ≡ once p q
  held_alone l q = grind (arith, common_steps, counted, without_point, remove, only_point, without_only, held_without)

-- ---- finding

-- the multiplicity of a point at an index is the count there
pub count_at : (S : List Pair) (T : List ℕ) (i : ℕ) (p : Pair) → IsPointSet S → length T ≡ length S
    → IsPositionOf S p (Ok i) → counted S T p ≡ get_or T i 0
count_at S T i p s e at =
    let z : counted (remove S i) (remove T i) p ≡ 0 =
    ap (λ y. counted y (remove T i) p) (removed S i ∙ taken_away S i s at.0 ∙ ap (λ z. without_point z S) (at.1 origin))
    ∙ counted_none (without_point p S) (remove T i) p
    (all_of (λ t. ¬ (t ≡ p)) (without_point p S) (λ t m. ((members_without p t S s).0 m).1)) in
    let v : several (get_or T i 0) (point_at S i) p ≡ get_or T i 0 =
    ap (λ y. several (get_or T i 0) y p) (at.1 origin) ∙ several_same (get_or T i 0) p in
    omega (arith, counted_remove S T i p e at.0, z, v)
