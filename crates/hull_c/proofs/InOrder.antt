-- Points that are in order up to an index.
use Rattle.std.proofs.Common.{◌≡◌, ◌∙◌, refl, sym, ap, subst, arith, ℕ, zero, suc, ◌+◌, ◌-◌, ◌<◌, ◌≤◌, List, [], ◌∷◌}
use Rattle.std.proofs.Common.{length, get_or, inl, inr}
use Rattle.std.proofs.lemmas.Bool.{cases_lt}
use Rattle.lattice.specs.Plane.{Pair, IsBefore}
use Rattle.lattice.proofs.Order.{before_trans}
use Rattle.leaf_trees.specs.Entries.{points_listed}

-- each of the first n points is before all later ones of them
abbrev pub AreInOrderTo : ℕ → List Pair → Type 0
AreInOrderTo n S = (i j : ℕ) (d : Pair) → i < j → j < n → IsBefore (get_or S i d) (get_or S j d)

-- one more point that comes after the last of them is in order with them
pub in_order_to_next : (n : ℕ) (S : List Pair) → 1 ≤ n → AreInOrderTo n S
    → ((d : Pair) → IsBefore (get_or S (n - 1) d) (get_or S n d)) → AreInOrderTo (n + 1) S
in_order_to_next n S some h b i j d l m =
    elim (cases_lt j n) [
      | inl k ↦ h i j d l k
      | inr k ↦
          let e : j ≡ n = omega (arith, k, m) in
          subst (λ (z : ℕ). IsBefore (get_or S i d) (get_or S z d)) (sym e)
          (elim (cases_lt i (n - 1)) [
            | inl f ↦ before_trans (get_or S i d) (get_or S (n - 1) d) (get_or S n d)
                (h i (n - 1) d f (omega (arith, some))) (b d)
            | inr f ↦ subst (λ (z : ℕ). IsBefore (get_or S z d) (get_or S n d)) (omega (arith, f, l, e, some)) (b d)
          ])
    ]

-- the point of the entry at an index
point_at : (es : List (Pair × ℕ)) (i : ℕ) (e : Pair × ℕ) (d : Pair) → i < length es
    → get_or (points_listed es) i d ≡ (get_or es i e).0
point_at [] i e d l = absurd (omega (arith, l))
point_at (x ∷ es) zero e d l = refl
point_at (x ∷ es) (suc i) e d l = point_at es i e d (omega (arith, l))

-- the points of two entries are in the order of the entries
pub points_at : (es : List (Pair × ℕ)) (i j : ℕ) (a b : Pair × ℕ) (d : Pair) → a ≡ get_or es i a → b ≡ get_or es j b
    → i < length es → j < length es
    → (get_or (points_listed es) i d ≡ a.0) × (get_or (points_listed es) j d ≡ b.0)
points_at es i j a b d p q l m = (
  point_at es i a d l ∙ sym (ap (λ (z : Pair × ℕ). z.0) p),
  point_at es j b d m ∙ sym (ap (λ (z : Pair × ℕ). z.0) q),
)
