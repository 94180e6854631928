-- Two sets have at most one upper bridge, and at most one lower bridge.
use Rattle.std.proofs.Common.{◌≡◌, ap, ◌∙◌, sym, arith, ◌⊎◌, inl, inr, ⊎_elim}
use Rattle.std.proofs.lemmas.Int.{by_lt_z}
use lib.IntN.{pos, ◌-ℤ◌, ◌*ℤ◌}
use lib.Signed.{◌<ℤ◌, ◌≤ℤ◌}
use Rattle.lattice.specs.Plane.{Pair, orient, IsBefore, turned_point}
use Rattle.lattice.proofs.Order.{equal_by}
use Rattle.lattice.proofs.TurnedBridges.{Turned, are_turned, order_turned, bridge_turned, turned_twice}
use Rattle.lattice.specs.Bridges.{IsAllBefore, IsUpperBridge, IsLowerBridge}
use Rattle.lattice.specs.declared.side.Side.TheVariants.{Lower}
use Rattle.lattice.specs.Integers.{linear}
use Rattle.lattice.proofs.Lines.{IsPositive, no_sum, bend, bend_step, bend_strict, slope_x, slope_y, step_positive}
use Rattle.lattice.proofs.LineCrossings.{orient_start, orient_end}

-- if t is on pq, z on ab, and the step from t to z has the bend's sign or the bend is 0, then z is not under pq, and t
-- not under ab
level : (p q a b t z : Pair) → IsBefore p q → IsBefore a b → orient p q t ≡ pos 0 → orient a b z ≡ pos 0
    → orient p q z ≤ℤ pos 0 → orient a b t ≤ℤ pos 0
    → ((pos 0 ≤ℤ bend p q a b) × IsBefore t z) ⊎ ((bend p q a b ≤ℤ pos 0) × IsBefore z t)
    → (orient p q z ≡ pos 0) × (orient a b t ≡ pos 0)
level p q a b t z hpq hab ft gz fz gt way =
    let end : (pos 0 <ℤ (orient p q t -ℤ orient p q z))
    ⊎ ((pos 0 <ℤ (orient a b z -ℤ orient a b t))
    ⊎ IsPositive (bend p q a b *ℤ (z.x -ℤ t.x)) (bend p q a b *ℤ (z.y -ℤ t.y))) → ⊥ = λ s.
    no_sum (orient p q t -ℤ orient p q z) (orient a b z -ℤ orient a b t) (b.x -ℤ a.x) (b.y -ℤ a.y) (q.x -ℤ p.x)
    (q.y -ℤ p.y) (bend p q a b *ℤ (z.x -ℤ t.x)) (bend p q a b *ℤ (z.y -ℤ t.y))
    (step_positive a b hab) (step_positive p q hpq) (omega (arith, linear)) (omega (arith, linear))
    (bend_step p q a b t z way) (slope_x p q a b t z) (slope_y p q a b t z) s
    in (
      by_lt_z (orient p q z) (pos 0) (λ h. absurd (end (inl (omega (arith, linear))))) (λ h. omega (arith, linear)),
      by_lt_z (orient a b t) (pos 0) (λ h. absurd (end (inr (inl (omega (arith, linear))))))
          (λ h. omega (arith, linear)),
    )

-- two bridges do not bend away from each other
apart : (p q a b t z : Pair) → IsBefore p q → IsBefore a b → orient p q t ≡ pos 0 → orient a b z ≡ pos 0
    → orient p q z ≤ℤ pos 0 → orient a b t ≤ℤ pos 0
    → ((pos 0 <ℤ bend p q a b) × IsBefore t z) ⊎ ((bend p q a b <ℤ pos 0) × IsBefore z t) → ⊥
apart p q a b t z hpq hab ft gz fz gt way =
    no_sum (orient p q t -ℤ orient p q z) (orient a b z -ℤ orient a b t) (b.x -ℤ a.x) (b.y -ℤ a.y) (q.x -ℤ p.x)
    (q.y -ℤ p.y) (bend p q a b *ℤ (z.x -ℤ t.x)) (bend p q a b *ℤ (z.y -ℤ t.y))
    (step_positive a b hab) (step_positive p q hpq) (omega (arith, linear)) (omega (arith, linear))
    (bend_step p q a b t z
    (⊎_elim (λ h. inl (omega (arith, linear, h.0), h.1)) (λ h. inr (omega (arith, linear, h.0), h.1)) way))
    (slope_x p q a b t z) (slope_y p q a b t z) (inr (inr (bend_strict p q a b t z way)))

-- two upper bridges of the same sets are equal
pub one_bridge : (l r : Pair → Type 0) (p q a b : Pair) → IsAllBefore l r → IsUpperBridge l r p q
    → IsUpperBridge l r a b → (p ≡ a) × (q ≡ b)
one_bridge l r p q a b o h k =
    let hpq : IsBefore p q = o p q h.from_left h.to_right in
    let hab : IsBefore a b = o a b k.from_left k.to_right in
    let hpb : IsBefore p b = o p b h.from_left k.to_right in
    let haq : IsBefore a q = o a q k.from_left h.to_right in
    by_lt_z (pos 0) (bend p q a b)
    (λ up. absurd (apart p q a b p b hpq hab (orient_start p q) (orient_end a b) (h.inner_right b k.to_right)
    (k.inner_left p h.from_left) (inl (up, hpb))))
    (λ not_up. by_lt_z (bend p q a b) (pos 0)
    (λ down. absurd (apart p q a b q a hpq hab (orient_end p q) (orient_start a b) (h.inner_left a k.from_left)
    (k.inner_right q h.to_right) (inr (down, haq))))
    (λ not_down.
    let one : (orient p q b ≡ pos 0) × (orient a b p ≡ pos 0) =
    level p q a b p b hpq hab (orient_start p q) (orient_end a b) (h.inner_right b k.to_right)
    (k.inner_left p h.from_left) (inl (not_down, hpb)) in
    let two : (orient p q a ≡ pos 0) × (orient a b q ≡ pos 0) =
    level p q a b q a hpq hab (orient_end p q) (orient_start a b) (h.inner_left a k.from_left)
    (k.inner_right q h.to_right) (inr (not_up, haq)) in (
      equal_by p a (k.tie_left p h.from_left one.1).0 (h.tie_left a k.from_left two.0).0,
      equal_by q b (h.tie_right b k.to_right one.0).1 (k.tie_right q h.to_right two.1).1,
    )))

-- two sets have at most one lower bridge, since the rotated sets have at most one upper bridge
pub one_lower_bridge : (l r : Pair → Type 0) (p q a b : Pair) → IsAllBefore l r → IsLowerBridge l r p q
    → IsLowerBridge l r a b → (p ≡ a) × (q ≡ b)
one_lower_bridge l r p q a b o h k =
    let e = one_bridge (Turned r) (Turned l) (turned_point q) (turned_point p) (turned_point b) (turned_point a)
    (order_turned l r _ _ (are_turned l) (are_turned r) o) (bridge_turned Lower l r _ _ p q (are_turned l) (are_turned r) h)
    (bridge_turned Lower l r _ _ a b (are_turned l) (are_turned r) k) in
    (unturned p a e.1, unturned q b e.0)
  where
    unturned : (u v : Pair) → turned_point u ≡ turned_point v → u ≡ v
    unturned u v e = sym (turned_twice u) ∙ ap turned_point e ∙ turned_twice v
