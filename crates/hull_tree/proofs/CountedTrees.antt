-- The reply of a change of a tree with a limit, and its effect on the set.
use Rattle.std.proofs.lemmas.Grind.{common_steps}
use Rattle.std.proofs.Common.{◌≡◌, ℕ, ◌+◌, ◌-◌, ◌<◌, ◌≤◌, refl, sym, ◌∙◌, List, length, arith, Some, inl, inr}
use Rattle.std.proofs.Common.{subst}
use Rattle.std.specs.Prelude.{Option}
use Rattle.std.specs.List.{Contains}
use Rattle.lattice.specs.Plane.{Pair}
use Rattle.lattice.specs.Covers.{with_point, without_point}
use Rattle.bridge_search.specs.Trees.{On}
use Rattle.bridge_search.specs.Leaves.{points_of}
use Rattle.bridge_search.proofs.Leaves.{contains_of_on}
use Rattle.hull_set.specs.Held.{once, with_new, with_again, with_none}
use Rattle.hull_set.specs.Replies.{AnswersAdd, AnswersRemove}
use Rattle.hull_set.specs.declared.TheConstants.{MULTIPLICITY_LIMIT}
use Rattle.hull_set.specs.declared.reply.Reply.TheVariants.{Added, Again, TooMany, Removed, Left}
use Rattle.hull_set.specs.declared.rules.Rules.TheVariants.{Counted}
use Rattle.hull_set.proofs.HeldMultiplicities.{same_held}
use Rattle.hull_tree.specs.declared.node.Node.{Node}
use Rattle.hull_tree.specs.Nodes.{tree_of, multiplicity_below, IsWellBuilt}
use Rattle.hull_tree.specs.Changes.{points_below}
use Rattle.hull_tree.specs.Roots.{points_of_root, multiplicity_of_root, held_by, IsWellBuiltRoot}
use Rattle.hull_tree.specs.Sets.{IsLimited, IsSound}
use Rattle.hull_tree.proofs.LimitedTrees.{sound}
use Rattle.hull_tree.proofs.Multiplicities.{live_iff, live_by_multiplicity, not_live, multiplicity_few}

-- a way down the tree n of a set found p with multiplicity r, and left the same tree m
pub record IsCounted (root : Option Node) (n m : Node) (p : Pair) (count limit r : ℕ) : Type 0 where
  pub limited : IsLimited root count limit
  pub own : root ≡ Some n
  pub was : r ≡ multiplicity_below n p
  pub built : IsWellBuilt m
  pub same : tree_of m ≡ tree_of n

-- the result of the way down, together with the set before
pub counted : {root : Option Node} {n m : Node} {p : Pair} {count limit r : ℕ} → IsLimited root count limit
    → root ≡ Some n → r ≡ multiplicity_below n p → IsWellBuilt m → tree_of m ≡ tree_of n → IsCounted root n m p count limit r
counted limited own was built same = record { limited = limited; own = own; was = was; built = built; same = same }

-- n was well built
built_before : {root : Option Node} {n m : Node} {p : Pair} {count limit r : ℕ} → IsCounted root n m p count limit r
    → IsWellBuilt n
built_before k = subst IsWellBuiltRoot k.own k.limited.built

-- m is a tree of the same set
pub limited_after : {root : Option Node} {n m : Node} {p : Pair} {count limit r : ℕ}
    → IsCounted root n m p count limit r → IsLimited (Some m) count limit
limited_after k = grind (arith, common_steps, counted, points_of_root, points_of)

-- so it is sound
pub sound_after : {root : Option Node} {n m : Node} {p : Pair} {count limit r : ℕ} → IsCounted root n m p count limit r
    → IsSound (Some m)
sound_after k = sound _ _ _ (limited_after k)

-- the multiplicity of p is at most the greatest
pub few_multiplicity : {root : Option Node} {n m : Node} {p : Pair} {count limit r : ℕ} → IsCounted root n m p count limit r
    → r ≤ MULTIPLICITY_LIMIT
few_multiplicity {root} {n} {m} {p} k = let b : IsWellBuilt n = built_before k in
    omega (arith, k.was, multiplicity_few n p b.bridged b.labelled)

-- if p has a multiplicity of at least one, it is in the set
live : {root : Option Node} {n m : Node} {p : Pair} {count limit r : ℕ} → IsCounted root n m p count limit r → 1 ≤ r
    → Contains (points_of_root root) p
live {root} {n} {m} {p} k l = rw k.own ((live_iff n p (built_before k)).1 (omega (arith, k.was, l)))

-- and one of the points of m
pub live_after : {root : Option Node} {n m : Node} {p : Pair} {count limit r : ℕ} → IsCounted root n m p count limit r
    → 1 ≤ r → Contains (points_below m) p
live_after {root} {n} {m} {p} k l =
    contains_of_on (tree_of m) p (subst (λ u. On u p) (sym k.same) (live_by_multiplicity n p (omega (arith, k.was, l))))

-- if its multiplicity is 0, it is not
pub dead : {root : Option Node} {n m : Node} {p : Pair} {count limit r : ℕ} → IsCounted root n m p count limit r → r ≡ 0
    → ¬ (Contains (points_of_root root) p)
dead {root} {n} {m} {p} k z = rw k.own (not_live n p (built_before k) (sym k.was ∙ z))

-- and none of the points of m
pub dead_after : {root : Option Node} {n m : Node} {p : Pair} {count limit r : ℕ} → IsCounted root n m p count limit r
    → r ≡ 0 → ¬ (Contains (points_below m) p)
dead_after {root} {n} {m} {p} k z i =
    not_live n p (built_before k) (sym k.was ∙ z) (subst (λ u. Contains (points_of u) p) k.same i)

-- a list with a member is not empty
pub some_points : (S : List Pair) (p : Pair) → Contains S p → 1 ≤ length S
some_points S p (k, l, e) = omega (arith, l)

-- a point with the greatest multiplicity is one too many
pub answers_full : {root : Option Node} {n m : Node} {p : Pair} {count limit r : ℕ} → IsCounted root n m p count limit r
    → r ≡ MULTIPLICITY_LIMIT → AnswersAdd Counted (held_by root) limit p TooMany
answers_full k z = inr (refl, live k (omega (arith, z)), rw k.own (sym k.was ∙ z))

-- a point of the set with a smaller multiplicity is added once more
pub answers_again : {root : Option Node} {n m : Node} {p : Pair} {count limit r : ℕ}
    → IsCounted root n m p count limit r → 1 ≤ r → ¬ (r ≡ MULTIPLICITY_LIMIT)
    → AnswersAdd Counted (held_by root) limit p (Again (r + 1))
answers_again {root} {n} {m} {p} {count} {limit} {r} k l f =
    let e : multiplicity_of_root root p ≡ r = rw k.own (sym k.was) in
    (refl, live k l, omega (arith, e), omega (arith, l), omega (arith, f, few_multiplicity k))

-- a new point is one too many if the set has as many points as its limit
pub answers_many : {root : Option Node} {n m : Node} {p : Pair} {count limit r : ℕ} → IsCounted root n m p count limit r
    → r ≡ 0 → limit ≤ count → AnswersAdd Counted (held_by root) limit p TooMany
answers_many k z l = inl (dead k z, omega (arith, k.limited.counted, k.limited.space, l))

-- otherwise there is capacity for it
pub answers_new : {root : Option Node} {n m : Node} {p : Pair} {count limit r : ℕ} → IsCounted root n m p count limit r
    → r ≡ 0 → count < limit → AnswersAdd Counted (held_by root) limit p Added
answers_new k z l = (dead k z, omega (arith, k.limited.counted, l))

-- a point that has a multiplicity above one is left
pub answers_left : {root : Option Node} {n m : Node} {p : Pair} {count limit r : ℕ} → IsCounted root n m p count limit r
    → 1 < r → AnswersRemove Counted (held_by root) p (Left (r - 1))
answers_left {root} {n} {m} {p} {count} {limit} {r} k l =
    let e : multiplicity_of_root root p ≡ r = rw k.own (sym k.was) in
    (refl, live k (omega (arith, l)), omega (arith, e, l), omega (arith, l))

-- one with multiplicity one is removed
pub answers_removed : {root : Option Node} {n m : Node} {p : Pair} {count limit r : ℕ}
    → IsCounted root n m p count limit r → r ≡ 1 → AnswersRemove Counted (held_by root) p Removed
answers_removed k l = (live k (omega (arith, l)), λ c. rw k.own (sym k.was ∙ l))

-- the tree n with p once more
pub held_again : (root : Option Node) (n m : Node) (p : Pair) → root ≡ Some n → tree_of m ≡ tree_of n
    → ((q : Pair) → multiplicity_below m q ≡ multiplicity_below n q + once p q) → held_by (Some m) ≡ with_again p (held_by root)
held_again root n m p o e h = grind (arith, common_steps, same_held, points_below, multiplicity_below, once, points_of)

-- with the new point p
pub held_new : (root : Option Node) (n m : Node) (p : Pair) → root ≡ Some n
    → points_below m ≡ with_point p (points_below n) → ((q : Pair) → multiplicity_below m q ≡ multiplicity_below n q + once p q)
    → held_by (Some m) ≡ with_new p (held_by root)
held_new root n m p o e h = grind (arith, common_steps, same_held, points_below, with_point, multiplicity_below, once)

-- without the point p, which had multiplicity one
pub held_none : (root left : Option Node) (n : Node) (p : Pair) → root ≡ Some n
    → points_of_root left ≡ without_point p (points_below n)
    → ((q : Pair) → multiplicity_of_root left q + once p q ≡ multiplicity_below n q) → held_by left ≡ with_none p (held_by root)
held_none root left n p o e h =
    rw o (same_held (points_of_root left) (without_point p (points_below n)) (multiplicity_of_root left)
    (λ q. multiplicity_below n q - once p q) e (λ q. omega (arith, h q)))
