-- Two changes of the contents of a set, in either order.
use Rattle.std.proofs.Common.{◌≡◌, ◌⊎◌, inl, inr, refl, sym, ◌∙◌, subst, List, ℕ, ◌+◌, ◌-◌, ◌≤◌, arith}
use Rattle.std.specs.List.{Contains}
use Rattle.lattice.specs.Plane.{Pair}
use Rattle.lattice.specs.Covers.{IsPointSet, with_point, without_point}
use Rattle.hull_geometry.proofs.PointSets.{same_set}
use Rattle.hull_geometry.proofs.SetLaws.{members_with, members_without, ordered_with, ordered_without}
use Rattle.hull_set.proofs.HeldMultiplicities.{once_other, once_same, same_held, same_or_other}
use Rattle.hull_set.specs.Held.{Held, once, with_again, with_new, with_none, with_one_less}

-- differences of numbers in either order
lowered_order : (n a b : ℕ) → (n - a) - b ≡ (n - b) - a
lowered_order n a b = omega arith

-- a number that is lowered and raised, if one of both is by nothing
raised_order : (n a b : ℕ) → (a ≡ 0) ⊎ (b ≡ 0) → (n - a) + b ≡ (n + b) - a
raised_order n a b (inl e) = omega (arith, e)
raised_order n a b (inr e) = omega (arith, e)

-- of two different points one counts at no point
one_counts : (p q x : Pair) → ¬ (q ≡ p) → (once p x ≡ 0) ⊎ (once q x ≡ 0)
one_counts p q x n =
    elim (same_or_other p x) [
      | inl e ↦ inr (once_other q x (λ f. n (f ∙ sym e)))
      | inr d ↦ inl (once_other p x d)
    ]

-- what is left without q and then without p is left without p and then without q
left_order : (p q t : Pair) (S : List Pair) → IsPointSet S → Contains (without_point p (without_point q S)) t
    → Contains (without_point q (without_point p S)) t
left_order p q t S s m =
    let a = (members_without p t (without_point q S) (ordered_without q S s)).0 m in
    let b = (members_without q t S s).0 a.0 in
    (members_without q t (without_point p S) (ordered_without p S s)).1 ((members_without p t S s).1 (b.0, a.1), b.1)

-- two points that leave, in either order
pub leave_order : (p q : Pair) (h : Held) → IsPointSet h.points → with_none p (with_none q h) ≡ with_none q (with_none p h)
leave_order p q h s =
    same_held _ _ _ _
    (same_set _ _ (ordered_without p _ (ordered_without q h.points s)) (ordered_without q _ (ordered_without p h.points s))
    (λ t. left_order p q t h.points s) (λ t. left_order q p t h.points s))
    (λ x. lowered_order (h.multiplicities x) (once q x) (once p x))

-- a new point and one that leaves, in either order
pub new_order : (p q : Pair) (h : Held) → IsPointSet h.points → ¬ (q ≡ p)
    → with_new q (with_none p h) ≡ with_none p (with_new q h)
new_order p q h s n =
    same_held _ _ _ _
    (same_set _ _ (ordered_with q _ (ordered_without p S s)) (ordered_without p _ (ordered_with q S s)) there back)
    (λ x. raised_order (h.multiplicities x) (once p x) (once q x) (one_counts p q x n))
  where
    S : List Pair
    S = h.points

    there : (t : Pair) → Contains (with_point q (without_point p S)) t → Contains (without_point p (with_point q S)) t
    there t m =
        elim ((members_with q t (without_point p S)).0 m) [
          | inl e ↦ (members_without p t (with_point q S) (ordered_with q S s)).1
              ((members_with q t S).1 (inl e), λ f. n (sym e ∙ f))
          | inr i ↦
              let j = (members_without p t S s).0 i in
              (members_without p t (with_point q S) (ordered_with q S s)).1 ((members_with q t S).1 (inr j.0), j.1)
        ]

    back : (t : Pair) → Contains (without_point p (with_point q S)) t → Contains (with_point q (without_point p S)) t
    back t m =
        let i = (members_without p t (with_point q S) (ordered_with q S s)).0 m in
        elim ((members_with q t S).0 i.0) [
          | inl e ↦ (members_with q t (without_point p S)).1 (inl e)
          | inr j ↦ (members_with q t (without_point p S)).1 (inr ((members_without p t S s).1 (j, i.1)))
        ]

-- a point that is added once more and one that leaves, in either order
pub again_order : (p q : Pair) (h : Held) → ¬ (q ≡ p) → with_again q (with_none p h) ≡ with_none p (with_again q h)
again_order p q h n =
    same_held _ _ _ _ refl (λ x. raised_order (h.multiplicities x) (once p x) (once q x) (one_counts p q x n))

-- a point that is removed once and one that leaves, in either order
pub less_order : (p q : Pair) (h : Held) → with_one_less q (with_none p h) ≡ with_none p (with_one_less q h)
less_order p q h = same_held _ _ _ _ refl (λ x. lowered_order (h.multiplicities x) (once p x) (once q x))

-- a point of multiplicity one that leaves and is new
pub back_again : (p : Pair) (h : Held) → IsPointSet h.points → Contains h.points p → h.multiplicities p ≡ 1
    → with_new p (with_none p h) ≡ h
back_again p h s c e =
    same_held _ _ _ _ (same_set _ _ (ordered_with p _ (ordered_without p S s)) s there back) same
  where
    S : List Pair
    S = h.points

    there : (t : Pair) → Contains (with_point p (without_point p S)) t → Contains S t
    there t m =
        elim ((members_with p t (without_point p S)).0 m) [
          | inl f ↦ subst (λ (z : Pair). Contains S z) (sym f) c
          | inr i ↦ ((members_without p t S s).0 i).0
        ]

    back : (t : Pair) → Contains S t → Contains (with_point p (without_point p S)) t
    back t m =
        elim (same_or_other t p) [
          | inl f ↦ (members_with p t (without_point p S)).1 (inl f)
          | inr d ↦ (members_with p t (without_point p S)).1 (inr ((members_without p t S s).1 (m, d)))
        ]

    lowered_and_raised : (n k : ℕ) → k ≤ n → (n - k) + k ≡ n
    lowered_and_raised n k l = omega (arith, l)

    counts : (x : Pair) → once p x ≤ h.multiplicities x
    counts x =
        elim (same_or_other p x) [
          | inl f ↦ subst (λ (z : Pair). once p z ≤ h.multiplicities z) f
              (let o : once p p ≡ 1 = once_same p in omega (arith, e, o))
          | inr d ↦ let o : once p x ≡ 0 = once_other p x d in omega (arith, o)
        ]

    same : (x : Pair) → (h.multiplicities x - once p x) + once p x ≡ h.multiplicities x
    same x = lowered_and_raised (h.multiplicities x) (once p x) (counts x)
