-- The cost of the forks above a point: one number, and how it grows when forks are built.
use Rattle.std.proofs.lemmas.Grind.{common_steps}
use Rattle.std.proofs.Common.{◌≡◌, ℕ, ◌+◌, ◌≤◌, inl, inr, refl, sym, arith, ap, subst, Some}
use Rattle.lattice.specs.Plane.{Pair}
use Rattle.lattice.proofs.Order.{before_irrefl}
use Rattle.bridge_search.specs.Trees.{Tree, Leaf, Fork, On, IsBridged}
use Rattle.bridge_search.specs.Search.{IsDepthSum}
use Rattle.bridge_search.proofs.Depths.{one_depth}
use Rattle.hull_tree.specs.declared.node.Node as node
use Rattle.hull_tree.specs.declared.node.Halves as halves
use Rattle.hull_tree.specs.Nodes.{tree_of, halves_of}
use Rattle.hull_tree.specs.Turns.{IsCostAtMost, IsForkCost, IsPathCost, IsDearerByAtMost}

-- two sums of the depths of the same ends are the same
one_sum : (u w : Tree) (p q : Pair) (m n : ℕ) → IsBridged u → IsBridged w → IsDepthSum u w p q m
    → IsDepthSum u w p q n → m ≡ n
one_sum u w p q m n hu hw (i, j, a, b, h) (k, l, c, d, g) =
    omega (arith, h, g, one_depth u p i k hu a c, one_depth w q j l hw b d)

-- a point with a cost is a point of the tree
on_path : (t : Tree) (p : Pair) (n : ℕ) → IsPathCost t p n → On t p
on_path (Leaf x) p n h = h.0
on_path (Fork e f u w) p n (a, k, c, g, inl h) = inl (on_path u p k h)
on_path (Fork e f u w) p n (a, k, c, g, inr h) = inr (on_path w p k h)

-- two costs of a fork are the same
one_fork : (e f : Pair × Pair) (u w : Tree) (m n : ℕ) → IsBridged u → IsBridged w → IsForkCost e f u w m
    → IsForkCost e f u w n → m ≡ n
one_fork e f u w m n hu hw (a, b, x, y, h) (c, d, z, v, g) =
    omega (arith, h, g, one_sum u w e.0 e.1 a c hu hw x z, one_sum u w f.0 f.1 b d hu hw y v)

-- the forks above a point have one cost: no point is in both halves of a fork
pub one_cost : (t : Tree) (p : Pair) (m n : ℕ) → IsBridged t → IsPathCost t p m → IsPathCost t p n → m ≡ n
one_cost (Leaf x) p m n b h g = omega (arith, h.1, g.1)
one_cost (Fork e f u w) p m n b (a, k, c, h, inl i) (a2, k2, c2, h2, inl j) =
    omega (arith, h, h2, one_fork e f u w a a2 b.3 b.4 c c2, one_cost u p k k2 b.3 i j)
one_cost (Fork e f u w) p m n b (a, k, c, h, inr i) (a2, k2, c2, h2, inr j) =
    omega (arith, h, h2, one_fork e f u w a a2 b.3 b.4 c c2, one_cost w p k k2 b.4 i j)
one_cost (Fork e f u w) p m n b (a, k, c, h, inl i) (a2, k2, c2, h2, inr j) =
    absurd (before_irrefl p (b.0 p p (on_path u p k i) (on_path w p k2 j)))
one_cost (Fork e f u w) p m n b (a, k, c, h, inr i) (a2, k2, c2, h2, inl j) =
    absurd (before_irrefl p (b.0 p p (on_path u p k2 j) (on_path w p k i)))

-- a new fork costs the points of its halves its own cost more
pub by_fork : (e f : Pair × Pair) (u w : Tree) (n : ℕ) → IsForkCost e f u w n
    → IsDearerByAtMost u (Fork e f u w) n × IsDearerByAtMost w (Fork e f u w) n
by_fork e f u w n c =
    (λ p k h. (n + k, (n, k, c, refl, inl h), omega arith), λ p k h. (n + k, (n, k, c, refl, inr h), omega arith))

-- a point whose forks cost at most m in t costs at most n more in a tree that is dearer by n
pub costs_more : (t v : Tree) (p : Pair) (m n k : ℕ) → IsCostAtMost t p m → IsDearerByAtMost t v n → m + n ≤ k
    → IsCostAtMost v p k
costs_more t v p m n k c h l = grind (arith, common_steps)

-- from one tree into a second and on into a third
pub through : (t v z : Tree) (a b n : ℕ) → IsDearerByAtMost t v a → IsDearerByAtMost v z b → a + b ≤ n
    → IsDearerByAtMost t z n
through t v z a b n h g l p k i = grind (arith, common_steps)

-- at most so much is at most more
pub looser : (t v : Tree) (a n : ℕ) → IsDearerByAtMost t v a → a ≤ n → IsDearerByAtMost t v n
looser t v a n h l p k i = let one = h p k i in (one.0, one.1, omega (arith, l, one.2))

-- two pairs that are the answer are the same
same_halves : {e d : node.Node × node.Node} → Some e ≡ Some d → e ≡ d
same_halves h = cc

-- what holds of both halves of a fork holds of the fork
pub by_halves : (n l r : node.Node) (v : Tree) (a : ℕ) → halves_of n ≡ Some (l, r) → IsDearerByAtMost (tree_of l) v a
    → IsDearerByAtMost (tree_of r) v a → IsDearerByAtMost (tree_of n) v a
by_halves (node.Node' upper lower height near multiplicity node.None') l r v a e h g = absurd (cc)
by_halves (node.Node' upper lower height near multiplicity
    (node.Some' i (halves.Halves' left right last_left right_first))) l r v a e h g = parts
  where
    from_left : IsDearerByAtMost (tree_of left) v a
    from_left = subst (λ (z : node.Node). IsDearerByAtMost (tree_of z) v a)
        (sym (ap (λ (z : node.Node × node.Node). z.0) (same_halves e))) h

    from_right : IsDearerByAtMost (tree_of right) v a
    from_right = subst (λ (z : node.Node). IsDearerByAtMost (tree_of z) v a)
        (sym (ap (λ (z : node.Node × node.Node). z.1) (same_halves e))) g

    parts : IsDearerByAtMost (Fork upper lower (tree_of left) (tree_of right)) v a
    parts p n (c, k, d, m, inl i) = let one = from_left p k i in (one.0, one.1, omega (arith, m, one.2))
    parts p n (c, k, d, m, inr i) = let one = from_right p k i in (one.0, one.1, omega (arith, m, one.2))
