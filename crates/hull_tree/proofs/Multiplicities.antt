-- The multiplicities of points below a node, and the half that a point is below.
use Rattle.std.proofs.lemmas.Grind.{common_steps}
use Rattle.std.proofs.Common.{◌≡◌, None, ℕ, zero, suc, ◌+◌, ◌-◌, ◌<◌, ◌≤◌, refl, sym, ◌∙◌, subst, arith, ◌⊎◌, inl, inr}
use Rattle.std.proofs.Common.{true, false, Bool, if◌then◌else◌}
use Rattle.std.specs.Prelude.{◌↔◌}
use Rattle.std.specs.List.{Contains}
use Rattle.std.proofs.lemmas.List.Elements.{All-contains}
use Rattle.lattice.specs.Plane.{Pair, IsBefore}
use Rattle.lattice.proofs.Order.{before_irrefl}
use Rattle.bridge_search.specs.Trees.{Leaf, On, IsBridged, first_of}
use Rattle.bridge_search.proofs.Leaves.{on_of_contains, contains_of_on}
use Rattle.hull_set.specs.Held.{once}
use Rattle.hull_set.specs.PointLists.{is_same_pair}
use Rattle.hull_set.specs.declared.TheConstants.{MULTIPLICITY_LIMIT}
use Rattle.hull_set.proofs.HeldMultiplicities.{same_or_other}
use Rattle.leaf_trees.specs.Entries.{several}
use Rattle.leaf_trees.proofs.Multiplicities.{several_there, several_elsewhere}
use Rattle.hull_tree.specs.declared.node.Node as node
use Rattle.hull_tree.specs.declared.node.Halves as halves
use Rattle.hull_tree.specs.Nodes.{tree_of, multiplicity_below, IsLabelled, IsWellBuilt}
use Rattle.hull_tree.specs.Changes.{points_below, AreInRow, IsSeparatedAt}
use Rattle.hull_tree.proofs.HalfRows.{before_first, after_first}

-- a point that is not below a node has multiplicity 0 there
pub multiplicity_absent : (n : node.Node) (p : Pair) → ¬ (On (tree_of n) p) → multiplicity_below n p ≡ 0
multiplicity_absent (node.Node' upper lower height near multiplicity node.None') p a =
    several_elsewhere multiplicity upper.0 p (λ e. a (sym e))
multiplicity_absent (node.Node' upper lower height near multiplicity
    (node.Some' i (halves.Halves' left right last_left right_first))) p a =
    omega (arith, multiplicity_absent left p (λ h. a (inl h)), multiplicity_absent right p (λ h. a (inr h)))

-- one that is below it has a multiplicity of at least one
pub multiplicity_live : (n : node.Node) (p : Pair) → IsLabelled n → On (tree_of n) p → 1 ≤ multiplicity_below n p
multiplicity_live (node.Node' upper lower height near multiplicity node.None') p l e = grind (arith, common_steps, several, several_there)
multiplicity_live (node.Node' upper lower height near multiplicity
    (node.Some' i (halves.Halves' left right last_left right_first))) p l (inl h) =
    omega (arith, multiplicity_live left p l.3 h)
multiplicity_live (node.Node' upper lower height near multiplicity
    (node.Some' i (halves.Halves' left right last_left right_first))) p l (inr h) =
    omega (arith, multiplicity_live right p l.4 h)

-- if the sum of two numbers is at least one, so is one of them
some_of : (a b : ℕ) → 1 ≤ a + b → (1 ≤ a) ⊎ (1 ≤ b)
some_of zero b h = inr (omega (arith, h))
some_of (suc a) b h = inl (omega arith)

-- a point that has a multiplicity of at least one below a node is below it
pub live_by_multiplicity : (n : node.Node) (p : Pair) → 1 ≤ multiplicity_below n p → On (tree_of n) p
live_by_multiplicity (node.Node' upper lower height near multiplicity node.None') p h =
    elim (same_or_other upper.0 p) [
      | inl e ↦ sym e
      | inr d ↦ absurd (let e : several multiplicity upper.0 p ≡ 0 = several_elsewhere multiplicity upper.0 p d in
          omega (arith, e, h))
    ]
live_by_multiplicity (node.Node' upper lower height near multiplicity
    (node.Some' i (halves.Halves' left right last_left right_first))) p h =
    elim (some_of (multiplicity_below left p) (multiplicity_below right p) h) [
      | inl k ↦ inl (live_by_multiplicity left p k)
      | inr k ↦ inr (live_by_multiplicity right p k)
    ]

-- no multiplicity is above the greatest
pub multiplicity_few : (n : node.Node) (p : Pair) → IsBridged (tree_of n) → IsLabelled n → multiplicity_below n p ≤ MULTIPLICITY_LIMIT
multiplicity_few (node.Node' upper lower height near multiplicity node.None') p b l = at_most (is_same_pair upper.0 p)
  where
    at_most : (same : Bool) → (if same then multiplicity else 0) ≤ MULTIPLICITY_LIMIT
    at_most true = l.1.1
    at_most false = omega arith
multiplicity_few (node.Node' upper lower height near multiplicity
    (node.Some' i (halves.Halves' left right last_left right_first))) p b l =
    elim (some_or_none (multiplicity_below left p)) [
      | inl e ↦ omega (arith, e, multiplicity_few right p b.4 l.4)
      | inr h ↦ omega (
        arith,
        multiplicity_few left p b.3 l.3,
        multiplicity_absent right p (λ k. before_irrefl p (b.0 p p (live_by_multiplicity left p h) k)),
      )
    ]
  where
    some_or_none : (a : ℕ) → (a ≡ 0) ⊎ (1 ≤ a)
    some_or_none zero = inl refl
    some_or_none (suc a) = inr (omega arith)

-- the points below a well-built node are those with a multiplicity there
pub live_iff : (n : node.Node) (p : Pair) → IsWellBuilt n → Contains (points_below n) p ↔ (1 ≤ multiplicity_below n p)
live_iff n p b = grind (arith, common_steps, multiplicity_live, on_of_contains, tree_of, contains_of_on, live_by_multiplicity)

-- a point with multiplicity 0 is none of them
pub not_live : (n : node.Node) (p : Pair) → IsWellBuilt n → multiplicity_below n p ≡ 0 → ¬ (Contains (points_below n) p)
not_live n p b e m = let h : 1 ≤ multiplicity_below n p = (live_iff n p b).0 m in omega (arith, e, h)

-- p before the first point of the right one of two nodes in a row has multiplicity 0 there
pub none_right : (l r : node.Node) (p : Pair) → AreInRow l r → IsBefore p (first_of (tree_of r)) → multiplicity_below r p ≡ 0
none_right l r p k b =
    multiplicity_absent r p (λ h. before_irrefl p
    (All-contains (IsBefore p) (points_below r) p (before_first l r p k b) (contains_of_on (tree_of r) p h)))

-- any other has multiplicity 0 in the left one
pub none_left : (l r : node.Node) (p : Pair) → AreInRow l r → ¬ (IsBefore p (first_of (tree_of r)))
    → multiplicity_below l p ≡ 0
none_left l r p k b =
    multiplicity_absent l p (λ h. before_irrefl p
    (All-contains (λ t. IsBefore t p) (points_below l) p (after_first l r p k b) (contains_of_on (tree_of l) p h)))

-- so the multiplicity of p before the split is that in the left one
pub all_left : (l r : node.Node) (p last first : Pair) → IsSeparatedAt l r last first → IsBefore p first
    → multiplicity_below l p + multiplicity_below r p ≡ multiplicity_below l p
all_left l r p last first k b = omega (arith, none_right l r p k.row (subst (IsBefore p) k.starts_right b))

-- and any other as in the right one
pub all_right : (l r : node.Node) (p last first : Pair) → IsSeparatedAt l r last first → ¬ (IsBefore p first)
    → multiplicity_below l p + multiplicity_below r p ≡ multiplicity_below r p
all_right l r p last first k b =
    omega (arith, none_left l r p k.row (λ h. b (subst (IsBefore p) (sym k.starts_right) h)))

-- the leaf of a point that has multiplicity one there
pub leaf_once : (n : node.Node) (p : Pair) → tree_of n ≡ Leaf p → multiplicity_below n p ≡ 1 → (q : Pair)
    → multiplicity_below n q ≡ once p q
leaf_once (node.Node' upper lower height near multiplicity node.None') p t e q =
    let o : upper.0 ≡ p = same_leaf t in
    let d : multiplicity ≡ 1 = sym (several_there multiplicity upper.0) ∙ subst (λ z. several multiplicity upper.0 z ≡ 1) (sym o) e in
    rw (d, o) refl
  where
    same_leaf : {a b : Pair} → Leaf a ≡ Leaf b → a ≡ b
    same_leaf h = cc
leaf_once (node.Node' upper lower height near multiplicity
    (node.Some' i (halves.Halves' left right last_left right_first))) p t e q = absurd (cc)

-- p before the split, with multiplicity one in both halves together, has multiplicity one in the left one and is one of its points
pub once_left : (l r : node.Node) (p last first : Pair) → IsSeparatedAt l r last first → IsBefore p first
    → multiplicity_below l p + multiplicity_below r p ≡ 1 → (multiplicity_below l p ≡ 1) × Contains (points_below l) p
once_left l r p last first k b e =
    let a : multiplicity_below l p ≡ 1 = sym (all_left l r p last first k b) ∙ e in
    (a, (live_iff l p k.row.left_built).1 (omega (arith, a)))

-- and any other in the right one
pub once_right : (l r : node.Node) (p last first : Pair) → IsSeparatedAt l r last first → ¬ (IsBefore p first)
    → multiplicity_below l p + multiplicity_below r p ≡ 1 → (multiplicity_below r p ≡ 1) × Contains (points_below r) p
once_right l r p last first k b e =
    let a : multiplicity_below r p ≡ 1 = sym (all_right l r p last first k b) ∙ e in
    (a, (live_iff r p k.row.right_built).1 (omega (arith, a)))

-- ---- a leaf whose number changes
-- n + 1 times is n times and once more
several_more : (b : Bool) (n : ℕ) → (if b then n + 1 else 0) ≡ (if b then n else 0) + (if b then 1 else 0)
several_more true n = refl
several_more false n = refl

-- n from one less and one more
several_less : (b : Bool) (n : ℕ) → 1 < n → (if b then n - 1 else 0) + (if b then 1 else 0) ≡ (if b then n else 0)
several_less true n h = omega (arith, h)
several_less false n h = refl

-- the node with another number
abbrev with_multiplicity : node.Node → ℕ → node.Node
with_multiplicity n k =
    node.roll-Node record {
      upper = (node.out-Node n).upper;
      lower = (node.out-Node n).lower;
      height = (node.out-Node n).height;
      near = (node.out-Node n).near;
      multiplicity = k;
      below = (node.out-Node n).below;
    }

-- the node put together again of its fields
abbrev again : node.Node → node.Node
again n = with_multiplicity n (node.out-Node n).multiplicity

-- a leaf of p whose number rose by one holds p once more
pub leaf_raised : (n : node.Node) (p q : Pair) → (node.out-Node n).below ≡ None → p ≡ (node.out-Node n).upper.0
    → multiplicity_below (with_multiplicity (again n) ((node.out-Node (again n)).multiplicity + 1)) q ≡ multiplicity_below n q + once p q
unfolding node.roll-Node node.out-Node denote.Hole.Carrier.out denote.Hole.Carrier.roll
leaf_raised (node.Node' upper lower height near multiplicity node.None') p q e s =
    rw s (several_more (is_same_pair upper.0 q) multiplicity)
leaf_raised (node.Node' upper lower height near multiplicity
    (node.Some' i (halves.Halves' left right last_left right_first))) p q e s = absurd (cc)

-- and one whose number fell by one holds it once less
pub leaf_lowered : (n : node.Node) (p q : Pair) → (node.out-Node n).below ≡ None → p ≡ (node.out-Node n).upper.0
    → 1 < (node.out-Node (again n)).multiplicity
    → multiplicity_below (with_multiplicity (again n) ((node.out-Node (again n)).multiplicity - 1)) q + once p q ≡ multiplicity_below n q
unfolding node.roll-Node node.out-Node denote.Hole.Carrier.out denote.Hole.Carrier.roll
leaf_lowered (node.Node' upper lower height near multiplicity node.None') p q e s h =
    rw s (several_less (is_same_pair upper.0 q) multiplicity h)
leaf_lowered (node.Node' upper lower height near multiplicity
    (node.Some' i (halves.Halves' left right last_left right_first))) p q e s h = absurd (cc)
