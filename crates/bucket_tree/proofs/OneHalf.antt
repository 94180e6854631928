-- A fork taken apart at the half to which a point belongs, and the two halves after that one has changed.
use Rattle.std.proofs.lemmas.Grind.{common_steps}
use Rattle.std.proofs.lemmas.Bool.{cases_lt}
use Rattle.std.proofs.Common.{◌≡◌, ◌⊎◌, ℕ, ◌+◌, ◌≤◌, max, Bool, true, false, cond, ap, ◌∙◌, inl, inr, arith}
use Rattle.std.proofs.Common.{List, length, length-append, subst, sym}
use Rattle.std.specs.List.{Contains}
use Rattle.std.proofs.lemmas.List.Elements.{Contains-append_left, Contains-append_right}
use Rattle.lattice.specs.Plane.{Pair}
use Rattle.bucket_tree.specs.Nodes.{points_below, node_height, AreNear, IsHeightOver, IsWellBuilt}
use Rattle.bucket_tree.specs.declared.node.Node.{Node}
use Rattle.bucket_tree.proofs.Parts.{IsAt}

-- the half is well built, lower than the node, and its points are some of the node's
pub record IsHalf (n half : Node) : Type 0 where
  pub built : IsWellBuilt half
  pub lower : node_height half + 1 ≤ node_height n
  pub fewer : length (points_below half) ≤ length (points_below n)
  pub among : (t : Pair) → Contains (points_below half) t → Contains (points_below n) t

pub half_at : (left : Bool) (p : Pair) (n l r : Node) → IsAt left p n l r
    → node_height n ≡ max (node_height l) (node_height r) + 1 → IsHalf n (cond left l r)
half_at left p n l r i h = go left
  where
    all : length (points_below n) ≡ length (points_below l) + length (points_below r)
    all = ap (λ (z : List Pair). length z) i.points ∙ length-append (points_below l) (points_below r)

    go : (left : Bool) → IsHalf n (cond left l r)
    go true = record {
      built = i.row.left_built;
      lower = omega (arith, h);
      fewer = omega (arith, all);
      among = λ t k. subst (λ z. Contains z t) (sym i.points) (Contains-append_left (points_below l) (points_below r) t k);
    }
    go false = record {
      built = i.row.right_built;
      lower = omega (arith, h);
      fewer = omega (arith, all);
      among = λ t k. subst (λ z. Contains z t) (sym i.points) (Contains-append_right (points_below l) (points_below r) t k);
    }

-- ---- heights

-- a height that differs from another one by at most one
abbrev pub IsNextTo : ℕ → ℕ → Type 0
IsNextTo a b = (a ≤ b + 1) × (b ≤ a + 1)

-- the halves differ by at most two, if one of them changed by at most one, and are no higher than the node was
pub near_again : (left : Bool) (l r m : Node) (n : ℕ) → AreNear (node_height l) (node_height r)
    → n ≡ max (node_height l) (node_height r) + 1
    → IsNextTo (node_height m) (node_height (cond left l r))
    → (node_height (cond left m l) ≤ node_height (cond left r m) + 2)
    × (node_height (cond left r m) ≤ node_height (cond left m l) + 2)
    × (max (node_height (cond left m l)) (node_height (cond left r m)) ≤ n)
near_again true l r m n a e d = (omega (arith, a, d), omega (arith, a, d), omega (arith, a, e, d))
near_again false l r m n a e d = (omega (arith, a, d), omega (arith, a, d), omega (arith, a, e, d))

-- a node over both is as high as the one before if the half is, or one higher if it is one higher
higher : (a l r h n : ℕ) → l ≤ a → a ≤ l + 1 → AreNear l r → n ≡ max l r + 1 → IsHeightOver a r h → (n ≤ h) × (h ≤ n + 1)
higher a l r h n u v w e k = grind (arith, common_steps, cases_lt)

higher_right : (a l r h n : ℕ) → r ≤ a → a ≤ r + 1 → AreNear l r → n ≡ max l r + 1 → IsHeightOver l a h → (n ≤ h) × (h ≤ n + 1)
higher_right a l r h n u v w e k = grind (arith, common_steps, cases_lt)

pub higher_again : (left : Bool) (l r m : Node) (h n : ℕ) → AreNear (node_height l) (node_height r)
    → n ≡ max (node_height l) (node_height r) + 1 → node_height (cond left l r) ≤ node_height m
    → node_height m ≤ node_height (cond left l r) + 1
    → IsHeightOver (node_height (cond left m l)) (node_height (cond left r m)) h → (n ≤ h) × (h ≤ n + 1)
higher_again true l r m h n a e u v k = higher (node_height m) (node_height l) (node_height r) h n u v a e k
higher_again false l r m h n a e u v k = higher_right (node_height m) (node_height l) (node_height r) h n u v a e k

-- or one lower if the half is one lower, or if both became one bucket
lower : (a l r h n : ℕ) → a ≤ l → l ≤ a + 1 → AreNear l r → n ≡ max l r + 1 → IsHeightOver a r h → (h ≤ n) × (n ≤ h + 1)
lower a l r h n u v w e k = grind (arith, common_steps, cases_lt)

lower_right : (a l r h n : ℕ) → a ≤ r → r ≤ a + 1 → AreNear l r → n ≡ max l r + 1 → IsHeightOver l a h → (h ≤ n) × (n ≤ h + 1)
lower_right a l r h n u v w e k = grind (arith, common_steps, cases_lt)

pub lower_again : (left : Bool) (l r m : Node) (h n height : ℕ) → AreNear (node_height l) (node_height r)
    → n ≡ max (node_height l) (node_height r) + 1 → node_height m ≤ node_height (cond left l r)
    → node_height (cond left l r) ≤ node_height m + 1 → height ≡ n
    → IsHeightOver (node_height (cond left m l)) (node_height (cond left r m)) h ⊎ ((height ≡ 1) × (h ≡ 0))
    → (h ≤ n) × (n ≤ h + 1)
lower_again true l r m h n height a e u v f (inl k) = lower (node_height m) (node_height l) (node_height r) h n u v a e k
lower_again false l r m h n height a e u v f (inl k) = lower_right (node_height m) (node_height l) (node_height r) h n u v a e k
lower_again left l r m h n height a e u v f (inr k) = (omega (arith, k.0, k.1, f), omega (arith, k.0, k.1, f))
