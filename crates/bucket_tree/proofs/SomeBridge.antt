-- Two halves in order have a bridge on each side: the turns of bridge search, each as a step of a recursion, lead to it.
use Rattle.std.proofs.Common.{◌≡◌, ℕ, zero, suc, ◌+◌, ◌≤◌, ◌⊎◌, refl, arith, inl, inr}
use Rattle.std.proofs.lemmas.Int.{by_lt_z}
use lib.IntN.{pos, ◌+ℤ◌, ◌*ℤ◌}
use Rattle.lattice.specs.Bridges.{IsAllBefore, IsBridge, IsUpperBridge}
use Rattle.lattice.specs.Crossing.{IsCrossingAtOrBefore, IsCrossingAfter}
use Rattle.lattice.specs.Integers.{linear}
use Rattle.lattice.specs.Plane.{Pair, orient}
use Rattle.lattice.specs.declared.side.Side.{Side}
use Rattle.lattice.specs.declared.side.Side.TheVariants.{Lower, Upper}
use Rattle.bridge_search.specs.Search.{IsReady, IsTurn}
use Rattle.bridge_search.specs.Trees.{Tree, Leaf, Fork, On, IsBridged, first_of, size_of}
use Rattle.bridge_search.specs.TurnedTrees.{turned_tree, bridged_turned, halves_turned, lower_from_turned}
use Rattle.bridge_search.proofs.Turns as turns

-- two sets have an upper bridge
abbrev pub HasUpperBridge : Tree → Tree → Type 0
HasUpperBridge u w = (p : Pair) × (q : Pair) × IsUpperBridge (On u) (On w) p q

-- the crossing of two lines is after m, or before it or at it
crossing_by : (a b c d m : Pair) → IsCrossingAtOrBefore a b c d m ⊎ IsCrossingAfter a b c d m
crossing_by a b c d m =
    by_lt_z (orient a b c *ℤ d.x +ℤ orient b a d *ℤ c.x) ((orient a b c +ℤ orient b a d) *ℤ m.x)
    (λ h. inl (inl h))
    (λ h. by_lt_z ((orient a b c +ℤ orient b a d) *ℤ m.x) (orient a b c *ℤ d.x +ℤ orient b a d *ℤ c.x)
    (λ g. inr (inl g))
    (λ g. let e : orient a b c *ℤ d.x +ℤ orient b a d *ℤ c.x ≡ (orient a b c +ℤ orient b a d) *ℤ m.x =
    omega (arith, linear) in
    by_lt_z ((orient a b c +ℤ orient b a d) *ℤ m.y) (orient a b c *ℤ d.y +ℤ orient b a d *ℤ c.y)
    (λ k. inr (inr (e, k)))
    (λ k. inl (inr (e, k)))))

-- if a turn leads to halves that have a bridge, so have those that it leads from
lifted : (u w v z : Tree) (m : Pair) → IsTurn u w m v z → HasUpperBridge v z → HasUpperBridge u w
lifted u w v z m t b = (b.0, b.1, t.lifts b.0 b.1 b.2)

-- halves that are ready for a turn have an upper bridge, by recursion on the number of their points
upper_by : (n : ℕ) (u w : Tree) (m : Pair) → size_of u + size_of w ≤ n → IsReady u w m → HasUpperBridge u w
upper_by zero u w m l r = absurd (omega (arith, l, turns.size_positive u))
upper_by (suc n) (Leaf x) (Leaf y) m l r = (x, y, (turns.done (Leaf x) (Leaf y) m r refl refl).bridge)
upper_by (suc n) (Leaf x) (Fork e f w1 w2) m l r = by_lt_z (orient x e.0 e.1) (pos 0)
    (λ g. let t : IsTurn (Leaf x) (Fork e f w1 w2) m (Leaf x) w1 =
    turns.turn_left_right_one (Leaf x) (Fork e f w1 w2) m x e.0 e.1 r refl refl refl g in
    lifted (Leaf x) (Fork e f w1 w2) (Leaf x) w1 m t (upper_by n (Leaf x) w1 m (omega (arith, l, t.falls)) t.ready))
    (λ g. let t : IsTurn (Leaf x) (Fork e f w1 w2) m (Leaf x) w2 =
    turns.turn_right (Leaf x) (Fork e f w1 w2) m x e.0 e.1 r refl refl g in
    lifted (Leaf x) (Fork e f w1 w2) (Leaf x) w2 m t (upper_by n (Leaf x) w2 m (omega (arith, l, t.falls)) t.ready))
upper_by (suc n) (Fork e f u1 u2) (Leaf y) m l r = by_lt_z (orient e.0 e.1 y) (pos 0)
    (λ g. let t : IsTurn (Fork e f u1 u2) (Leaf y) m u2 (Leaf y) =
    turns.turn_right_left_one (Fork e f u1 u2) (Leaf y) m e.0 e.1 y r refl refl refl g in
    lifted (Fork e f u1 u2) (Leaf y) u2 (Leaf y) m t (upper_by n u2 (Leaf y) m (omega (arith, l, t.falls)) t.ready))
    (λ g. let t : IsTurn (Fork e f u1 u2) (Leaf y) m u1 (Leaf y) =
    turns.turn_left (Fork e f u1 u2) (Leaf y) m e.0 e.1 y r refl refl g in
    lifted (Fork e f u1 u2) (Leaf y) u1 (Leaf y) m t (upper_by n u1 (Leaf y) m (omega (arith, l, t.falls)) t.ready))
upper_by (suc n) (Fork e f u1 u2) (Fork g h w1 w2) m l r =
    let u = Fork e f u1 u2 in let w = Fork g h w1 w2 in
    by_lt_z (orient e.0 e.1 g.0) (pos 0)
    (λ i. by_lt_z (orient e.1 g.0 g.1) (pos 0)
    (λ j. elim (crossing_by e.0 e.1 g.0 g.1 m) [
      | inl at ↦ let t : IsTurn u w m u2 w = turns.turn_right_left u w m e.0 e.1 g.0 g.1 r refl refl i j at in
          lifted u w u2 w m t (upper_by n u2 w m (omega (arith, l, t.falls)) t.ready)
      | inr after ↦ let t : IsTurn u w m u w1 = turns.turn_left_right u w m e.0 e.1 g.0 g.1 r refl refl i j after in
          lifted u w u w1 m t (upper_by n u w1 m (omega (arith, l, t.falls)) t.ready)
    ])
    (λ j. let t : IsTurn u w m u w2 =
    turns.turn_right u w m e.1 g.0 g.1 r refl (inr r.left_bridged.1.to_right) j in
    lifted u w u w2 m t (upper_by n u w2 m (omega (arith, l, t.falls)) t.ready)))
    (λ i. let t : IsTurn u w m u1 w =
    turns.turn_left u w m e.0 e.1 g.0 r refl (inl r.right_bridged.1.from_left) i in
    lifted u w u1 w m t (upper_by n u1 w m (omega (arith, l, t.falls)) t.ready))

-- two halves in order have a bridge on a side
pub some_bridge : (side : Side) (u w : Tree) → IsBridged u → IsBridged w → IsAllBefore (On u) (On w)
    → (p : Pair) × (q : Pair) × IsBridge side (On u) (On w) p q
some_bridge Upper u w h k o = upper_by (size_of u + size_of w) u w (first_of w) (omega arith) (turns.start u w h k o)
some_bridge Lower u w h k o =
    let v = turned_tree w in
    let z = turned_tree u in
    let b = upper_by (size_of v + size_of z) v z (first_of z) (omega arith)
    (turns.start v z (bridged_turned w k) (bridged_turned u h) (halves_turned u w o)) in
    (_, _, lower_from_turned u w b.0 b.1 b.2)
