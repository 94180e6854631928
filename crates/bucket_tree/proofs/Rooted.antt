-- The invariant of a tree with a limit, and that a change preserves it.
use Rattle.std.proofs.lemmas.Grind.{common_steps}
use Rattle.std.proofs.Common.{◌≡◌, ℕ, ◌+◌, ◌-◌, ◌<◌, ◌≤◌, ap, refl, sym, ◌∙◌, List, [], length, arith, Some, None}
use Rattle.std.proofs.Common.{subst}
use Rattle.std.specs.Prelude.{Option, ◌≢◌}
use Rattle.std.specs.List.{All, Contains}
use Rattle.std.proofs.lemmas.List.Elements.{All-append}
use Rattle.lattice.specs.Plane.{Pair}
use Rattle.lattice.specs.Covers.{with_point, without_point}
use Rattle.hull_geometry.proofs.PointLists.{AllPairs-none}
use Rattle.hull_set.proofs.HeldMultiplicities.{same_held}
use Rattle.leaf_trees.specs.Entries.{IsMultiplicity, IsTrueHeld, AreEntries, held_listed, points_listed, multiplicity_listed}
use Rattle.leaf_trees.proofs.AddedSets.{entries_held, no_entries, none_listed}
use Rattle.leaf_trees.proofs.Returned.{live, dead}
use Rattle.bucket_tree.proofs.Lost.{without_only}
use Rattle.leaf_trees.proofs.Rows.{with_length, without_length}
use Rattle.bucket_tree.specs.Counts.{multiplicity_at, counted, HasLost}
use Rattle.bucket_tree.specs.Lists.{entries_below, entries_of_root, numbers_listed}
use Rattle.bucket_tree.specs.Nodes.{node_height, points_below, multiplicities_below, HasBuckets, IsWellBuilt}
use Rattle.bucket_tree.specs.Roots.{held_by, points_of_root, multiplicity_of_root, IsWellBuiltRoot}
use Rattle.bucket_tree.specs.Sets.{IsLimited, IsSound}
use Rattle.bucket_tree.specs.declared.node.Node.{Node, Leaf, Fork', Taken}
use Rattle.bucket_tree.proofs.Gained.{counts_below}
use Rattle.bucket_tree.proofs.Listed.{paired_entries, paired_hold, paired_multiplicity, paired_again}
use Rattle.bucket_tree.proofs.Listed.{numbers_held, numbers_length}
use Rattle.bucket_tree.specs.Loads.{AreParts}
use Rattle.std.proofs.lemmas.Map.Entries.{length-keys_of}
use Rattle.bucket_tree.proofs.NodePoints.{some_below}
use Rattle.bucket_tree.proofs.NodeHeights.{no_higher}

-- each point below a node has a multiplicity that a point may have
pub multiplicities : (n : Node) → HasBuckets n → All IsMultiplicity (multiplicities_below n)
multiplicities (Leaf b) h = h.held
multiplicities (Fork' height i left right right_ends upper left_ends lower) h =
    All-append IsMultiplicity (multiplicities_below left) (multiplicities_below right) (multiplicities left h.0)
    (multiplicities right h.1)
multiplicities Taken h = absurd h

-- what is below a node is listed by entries
pub entries_are : (n : Node) → IsWellBuilt n → AreEntries (entries_below n)
entries_are n w = paired_entries (points_below n) (multiplicities_below n) w.ordered (counts_below n w.buckets)
    (multiplicities n w.buckets)

-- which hold what it holds
pub entries_hold : (n : Node) → IsWellBuilt n → held_listed (entries_below n) ≡ held_by (Some n)
entries_hold n w = paired_hold (points_below n) (multiplicities_below n) w.ordered (counts_below n w.buckets)
    (multiplicities n w.buckets) (multiplicity_at n) (λ q. refl)

-- what is below a well-built root is listed by entries
pub root_entries : (root : Option Node) → IsWellBuiltRoot root → AreEntries (entries_of_root root)
root_entries None w = no_entries
root_entries (Some n) w = entries_are n w

-- which hold what it holds
pub root_entries_hold : (root : Option Node) → IsWellBuiltRoot root → held_listed (entries_of_root root) ≡ held_by root
root_entries_hold None w = none_listed
root_entries_hold (Some n) w = entries_hold n w

-- what a well-built root holds is its points
pub root_held : (root : Option Node) → IsWellBuiltRoot root → IsTrueHeld (held_by root)
root_held root w = subst IsTrueHeld (root_entries_hold root w)
    (entries_held (entries_of_root root) (root_entries root w))

-- a tree with a limit is sound
pub sound : (root : Option Node) (count limit : ℕ) → IsLimited root count limit → IsSound root
sound None count limit h = record { built = tt; in_order = AllPairs-none; low = omega arith }
sound (Some n) count limit h = grind (arith, common_steps, no_higher)

-- one point more, below the limit
pub limited_with : (n m : Node) (p : Pair) (count limit : ℕ) → IsLimited (Some n) count limit → IsWellBuilt m
    → points_below m ≡ with_point p (points_below n) → ¬ (Contains (points_below n) p) → count < limit
    → IsLimited (Some m) (count + 1) limit
limited_with n m p count limit h b e a l = grind (arith, common_steps, points_below, with_length, counted)

-- one point less
pub limited_without : (n : Node) (root : Option Node) (p : Pair) (count limit : ℕ) → IsLimited (Some n) count limit
    → IsWellBuiltRoot root → points_of_root root ≡ without_point p (points_below n) → Contains (points_below n) p
    → IsLimited root (count - 1) limit
limited_without n root p count limit h b e m = grind (arith, common_steps, points_of_root, points_below, without_length, counted)

-- what a node holds that was built of entries
pub held_entries : (n : Node) (es : List (Pair × ℕ)) → points_below n ≡ points_listed es
    → multiplicities_below n ≡ numbers_listed es → held_by (Some n) ≡ held_listed es
held_entries n es e f = same_held (points_below n) (points_listed es) (multiplicity_at n) (λ q. multiplicity_listed es q) e
    (λ q. ap (λ z. counted z (multiplicities_below n) q) e ∙ ap (λ z. counted (points_listed es) z q) f
    ∙ sym (paired_multiplicity (points_listed es) (numbers_listed es) q) ∙ ap (λ z. multiplicity_listed z q) (paired_again es))

-- the root of a tree with a limit is well built
pub built_root : (root : Option Node) (n : Node) (count limit : ℕ) → IsLimited root count limit → root ≡ Some n
    → IsWellBuilt n
built_root root n count limit h e = subst IsWellBuiltRoot e h.built

-- it is a tree with that limit by itself
pub limited_root : (root : Option Node) (n : Node) (count limit : ℕ) → IsLimited root count limit → root ≡ Some n
    → IsLimited (Some n) count limit
limited_root root n count limit h e = subst (λ (z : Option Node). IsLimited z count limit) e h

-- and no higher than 28 forks
pub low_root : (root : Option Node) (n : Node) (count limit : ℕ) → IsLimited root count limit → root ≡ Some n
    → node_height n ≤ 28
low_root root n count limit h e = (sound (Some n) count limit (limited_root root n count limit h e)).low

-- a point that has multiplicity one goes
pub lost_limited : (n : Node) (rest : Option Node) (p : Pair) (count limit : ℕ) → IsLimited (Some n) count limit
    → multiplicity_at n p ≡ 1 → HasLost p n rest → IsLimited rest (count - 1) limit
lost_limited n None p count limit h t l =
    limited_without n None p count limit h tt (sym (ap (without_point p) l.0 ∙ without_only p))
    (live (held_by (Some n)) 0 p 1 (root_held (Some n) h.built) (sym t) (omega arith))
lost_limited n (Some m) p count limit h t l =
    limited_without n (Some m) p count limit h l.0 l.1
    (live (held_by (Some n)) 0 p 1 (root_held (Some n) h.built) (sym t) (omega arith))

-- a point of multiplicity 0 is none of those below the root
pub absent_below : (root : Option Node) (n : Node) (p : Pair) → root ≡ Some n → IsWellBuilt n → multiplicity_of_root root p ≡ 0
    → ¬ Contains (points_below n) p
absent_below root n p e w z =
    dead (held_by (Some n)) 0 p 0 (root_held (Some n) w) (sym (ap (λ r. multiplicity_of_root r p) (sym e) ∙ z)) refl

-- a node of few points is sound
pub sound_node : (n : Node) → IsWellBuilt n → length (points_below n) ≤ 1048576 → IsSound (Some n)
sound_node n w l = record { built = w; in_order = w.ordered; low = no_higher n w.balanced w.buckets l }

-- entries are what a tree may be built of
pub parts_of : (es : List (Pair × ℕ)) → AreEntries es → 1 ≤ length es → length es ≤ 1048576
    → AreParts (points_listed es) (numbers_listed es)
parts_of es h s f = grind (arith, common_steps, length-keys_of, counted, numbers_length, numbers_held)

-- what is not nothing has a point
pub some_held : (root : Option Node) → IsWellBuiltRoot root → root ≢ None → ¬ (points_of_root root ≡ [])
some_held None w h e = h refl
some_held (Some n) w h e = omega (arith, some_below n w.buckets, ap (λ (z : List Pair). length z) e)
