-- The lists of the subtrees of a node.
use Rattle.std.proofs.Common.{◌≡◌, ℕ, zero, suc, ◌+◌, ◌-◌, ◌<◌, ◌≤◌, max, min, refl, sym, ap, ◌∙◌, subst, List, [], ◌∷◌}
use Rattle.std.proofs.Common.{◌++◌, length, take, drop, arith, inl, inr, Ok, Err, Box, append_assoc}
use Rattle.std.proofs.lemmas.List.{length-append, length-drop}
use Rattle.std.specs.List.{All}
use Rattle.std.proofs.lemmas.List.Elements.{All-cons, All-head, All-tail, All-weaker}
use Rattle.lattice.specs.Covers.{IsPointSet}
use Rattle.lattice.specs.Plane.{Pair, IsBefore}
use Rattle.lattice.proofs.Order.{before_trans, before_irrefl, before_not, is_before-true, is_before-false}
use Rattle.hull_geometry.specs.Positions.{IsPositionOf, point_at, origin, last_of}
use Rattle.hull_geometry.proofs.PointLists.{AllPairs-head, AllPairs-tail, all_of}
use Rattle.leaf_trees.specs.ChainRanges.{entries_from}
use Rattle.leaf_trees.proofs.ChainRanges.{from_append, none_from, take_more, take_least}
use Rattle.bucket_tree.specs.Lists.{paired, entries_below}
use Rattle.bucket_tree.specs.Nodes.{points_below, node_height, HasBuckets, IsWellBuilt}
use Rattle.bucket_tree.specs.declared.node.Fork.{Fork as Below}
use Rattle.bucket_tree.specs.declared.node.Node.{Node, Fork}
use Rattle.bucket_tree.proofs.Gained.{counts_below}
use Rattle.bucket_tree.proofs.Listed.{paired_row, paired_length, paired_points, paired_take, paired_drop}
use Rattle.bucket_tree.proofs.SetEnds.{by_last}
use Rattle.std.proofs.lemmas.Grind.{common_steps}

-- a node over two parts
pub record HasParts (n l r : Node) : Type 0 where
  pub entries : entries_below n ≡ entries_below l ++ entries_below r
  pub long : length (points_below n) ≡ length (points_below l) + length (points_below r)
  pub left_long : length (entries_below l) ≡ length (points_below l)
  pub height : node_height n ≡ max (node_height l) (node_height r) + 1
  pub left_buckets : HasBuckets l
  pub right_buckets : HasBuckets r

-- a fork is one
pub fork_parts : (n : Node) (h : ℕ) (f : Box Below _) → n ≡ Fork h f → HasBuckets n
    → HasParts n f.value.left f.value.right
fork_parts n h f e b = grind (arith, common_steps, paired_row, points_below, counts_below, length-append, paired_length)

-- what was there, the left part's and then the right part's are what was there and the whole's
pub both_parts : (s : Pair) (m : ℕ) (n l r : Node) (old : List (Pair × ℕ)) → HasParts n l r
    → take m (take m (old ++ entries_from s (entries_below l)) ++ entries_from s (entries_below r))
    ≡ take m (old ++ entries_from s (entries_below n))
both_parts s m n l r old h =
    grind (arith, common_steps, take_more, entries_from, entries_below, append_assoc, from_append)

-- a part whose last point is before the start lists nothing from there
none_below : (s : Pair) (n : Node) → IsWellBuilt n → IsBefore (last_of (points_below n)) s
    → entries_from s (entries_below n) ≡ []
none_below s n w b =
    none_from s (entries_below n)
    (subst (All (λ p. IsBefore p s)) (sym (paired_points (points_below n) _ (counts_below n w.buckets)))
    (all_of (λ p. IsBefore p s) (points_below n) (λ t i. elim (by_last (points_below n) t w.ordered i) [
      | inl e ↦ subst (λ z. IsBefore z s) (sym e) b
      | inr k ↦ before_trans t (last_of (points_below n)) s k b
    ])))

-- so those of the whole are those of the right subtree if the left subtree is before the start
pub right_alone : (s : Pair) (m : ℕ) (n l r : Node) (old : List (Pair × ℕ)) → HasParts n l r → IsWellBuilt l
    → IsBefore (last_of (points_below l)) s
    → take m (old ++ entries_from s (entries_below r)) ≡ take m (old ++ entries_from s (entries_below n))
right_alone s m n l r old h w b = grind (arith, common_steps, entries_from, from_append, entries_below, none_below)

-- ---- a bucket

-- if no point is before the start, all are listed
all_from : (s : Pair) (S : List Pair) (T : List ℕ) → All (λ t. ¬ IsBefore t s) S
    → entries_from s (paired S T) ≡ paired S T
all_from s [] T a = refl
all_from s (x ∷ xs) [] a = refl
all_from s (x ∷ xs) (t ∷ ts) a =
    rw (is_before-false x s (All-head (λ t. ¬ IsBefore t s) x xs a))
    (ap (λ (z : List (Pair × ℕ)). (x, t) ∷ z) (all_from s xs ts (All-tail (λ t. ¬ IsBefore t s) x xs a)))

-- those from an index on, if all before it are before the start and none after it is
from_place : (s : Pair) (i : ℕ) (S : List Pair) (T : List ℕ) → All (λ t. IsBefore t s) (take i S)
    → All (λ t. ¬ IsBefore t s) (drop i S) → entries_from s (paired S T) ≡ drop i (paired S T)
from_place s zero S T a b = all_from s S T b
from_place s (suc i) [] T a b = refl
from_place s (suc i) (x ∷ xs) [] a b = refl
from_place s (suc i) (x ∷ xs) (t ∷ ts) a b =
    rw (is_before-true x s (All-head (λ t. IsBefore t s) x (take i xs) a))
    (from_place s i xs ts (All-tail (λ t. IsBefore t s) x (take i xs) a) b)

-- no point after one that is not before the start is before the start
none_after : (s : Pair) (i : ℕ) (S : List Pair) → IsPointSet S → (i < length S → ¬ IsBefore (point_at S i) s)
    → All (λ t. ¬ IsBefore t s) (drop i S)
none_after s zero [] h n = λ k d l. absurd (omega (arith, l))
none_after s zero (x ∷ xs) h n = All-cons (λ t. ¬ IsBefore t s) x xs (n (omega arith))
    (All-weaker (IsBefore x) (λ t. ¬ IsBefore t s) (λ t c b. n (omega arith) (before_trans x t s c b)) xs
    (AllPairs-head x xs h))
none_after s (suc i) [] h n = λ k d l. absurd (omega (arith, l))
none_after s (suc i) (x ∷ xs) h n = none_after s i xs (AllPairs-tail x xs h) (λ l. n (omega (arith, l)))

-- the index of the start, or the index at which it would be
pub from_position : (s : Pair) (S : List Pair) (T : List ℕ) (i : ℕ) → IsPointSet S → IsPositionOf S s (Ok i)
    → entries_from s (paired S T) ≡ drop i (paired S T)
from_position s S T i h at = from_place s i S T at.2
    (none_after s i S h (λ l b. before_irrefl s (subst (λ z. IsBefore z s) (at.1 origin) b)))

pub from_gap : (s : Pair) (S : List Pair) (T : List ℕ) (i : ℕ) → IsPositionOf S s (Err i)
    → entries_from s (paired S T) ≡ drop i (paired S T)
from_gap s S T i at = from_place s i S T at.1 (All-weaker (IsBefore s) (λ t. ¬ IsBefore t s) (λ t c. before_not s t c)
    (drop i S) at.2)

-- as many of those after what was there as there is capacity for
take_past : {A : Type 0} (m n : ℕ) (old xs : List A) → m ≡ length old + n → take m (old ++ xs) ≡ old ++ take n xs
take_past m n [] xs e = let f : m ≡ n = omega (arith, e) in ap (λ (k : ℕ). take k xs) f
take_past zero n (x ∷ old) xs e = absurd (omega (arith, e))
take_past (suc m) n (x ∷ old) xs e = ap (λ z. x ∷ z) (take_past m n old xs (omega (arith, e)))

-- what a bucket lists from an index on, until there are enough
pub bucket_from : (S : List Pair) (T : List ℕ) (f count m : ℕ) (old : List (Pair × ℕ)) → length T ≡ length S
    → f ≤ length S → count ≡ min (length S - f) (m - length old) → length old ≤ m
    → old ++ paired (take (f + count - f) (drop f S)) (take (f + count - f) (drop f T))
    ≡ take m (old ++ drop f (paired S T))
bucket_from S T f count m old e l c k =
    let n : f + count - f ≡ min (m - length old) (length S - f) = omega (arith, c) in
    let long : length (drop f (paired S T)) ≤ length S - f =
    omega (arith, length-drop f (paired S T), paired_length S T e) in
    ap (λ (z : List (Pair × ℕ)). old ++ z)
    (paired_take (f + count - f) (drop f S) (drop f T)
    ∙ ap (λ (z : List (Pair × ℕ)). take (f + count - f) z) (paired_drop f S T e)
    ∙ ap (λ (z : ℕ). take z (drop f (paired S T))) n
    ∙ take_least (m - length old) (length S - f) (drop f (paired S T)) long)
    ∙ sym (take_past m (m - length old) old (drop f (paired S T)) (omega (arith, k)))
