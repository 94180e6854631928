-- Points none of which is before an earlier one.
use Rattle.std.proofs.Common.{◌≡◌, ◌∙◌, sym, ap, subst, arith, ℕ, ◌+◌, ◌-◌, ◌<◌, ◌≤◌, List, length, inl, inr}
use Rattle.std.specs.List.{Contains}
use Rattle.std.proofs.lemmas.Bool.{cases_lt}
use Rattle.lattice.specs.Plane.{Pair, IsBefore}
use Rattle.lattice.proofs.Order.{before_trans, before_total, before_irrefl}
use Rattle.hull_geometry.specs.Positions.{origin, point_at}
use Rattle.hull_geometry.proofs.PointLists.{get_or_free}
use Rattle.outer_points.specs.Chains.{IsInOrder}

-- none of the first n points is before an earlier one
abbrev pub AreInOrderTo : ℕ → List Pair → Type 0
AreInOrderTo n chain = (i j : ℕ) → i < j → j < n → ¬ IsBefore (point_at chain j) (point_at chain i)

-- a point that is not before another, which is not before a third, is not before the third
not_before : (p q r : Pair) → ¬ IsBefore q p → ¬ IsBefore r q → ¬ IsBefore r p
not_before p q r h k b = elim (before_total p q) [
  | inl l ↦ k (before_trans r p q b l)
  | inr (inl e) ↦ k (subst (IsBefore r) e b)
  | inr (inr l) ↦ h l
]

-- one more point that is not before the last of them is in order with them
pub in_order_to_next : (n : ℕ) (chain : List Pair) → 1 ≤ n → AreInOrderTo n chain
    → ¬ IsBefore (point_at chain n) (point_at chain (n - 1)) → AreInOrderTo (n + 1) chain
in_order_to_next n chain some h b i j l m =
    elim (cases_lt j n) [
      | inl k ↦ h i j l k
      | inr k ↦
          let e : j ≡ n = omega (arith, k, m) in
          subst (λ (z : ℕ). ¬ IsBefore (point_at chain z) (point_at chain i)) (sym e)
          (elim (cases_lt i (n - 1)) [
            | inl f ↦ not_before (point_at chain i) (point_at chain (n - 1)) (point_at chain n)
                (h i (n - 1) f (omega (arith, some))) b
            | inr f ↦ subst (λ (z : ℕ). ¬ IsBefore (point_at chain n) (point_at chain z)) (omega (arith, f, l, e, some)) b
          ])
    ]

-- no point of a list in order is between two successive ones
pub none_between : (chain : List Pair) (i : ℕ) (t : Pair) → length chain ≡ 5 → IsInOrder chain → i < 4
    → IsBefore (point_at chain i) t → IsBefore t (point_at chain (i + 1)) → ¬ Contains chain t
none_between chain i t five o l a b (j, m, e) =
    let at : point_at chain j ≡ t = get_or_free chain j origin t m ∙ e in
    elim (cases_lt j i) [
      | inl k ↦ o j i k (omega (arith, l)) (subst (IsBefore (point_at chain i)) (sym at) a)
      | inr k ↦ elim (cases_lt i j) [
        | inr f ↦ before_irrefl t (subst (λ (z : Pair). IsBefore z t)
            (ap (point_at chain) (omega (arith, k, f)) ∙ at) a)
        | inl f ↦ elim (cases_lt (i + 1) j) [
          | inl g ↦ o (i + 1) j g (omega (arith, five, m)) (subst (λ (z : Pair). IsBefore z (point_at chain (i + 1))) (sym at) b)
          | inr g ↦ before_irrefl t (subst (IsBefore t) (ap (point_at chain) (omega (arith, f, g)) ∙ at) b)
        ]
      ]
    ]
