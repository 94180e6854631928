-- The replies of a set, by the multiplicity of the point.
use Rattle.std.proofs.Common.{◌≡◌, ℕ, ◌+◌, ◌-◌, ◌<◌, ◌≤◌, inl, inr, refl, sym, ◌∙◌, arith, length}
use Rattle.std.specs.List.{Contains}
use Rattle.lattice.specs.Plane.{Pair}
use Rattle.hull_set.specs.Held.{Held}
use Rattle.hull_set.specs.Replies.{AnswersAdd, AnswersRemove}
use Rattle.hull_set.specs.declared.TheConstants.{MULTIPLICITY_LIMIT}
use Rattle.hull_set.specs.declared.reply.Reply.TheVariants.{Added, Again, TooMany, NoMemory, Removed, Left, Absent}
use Rattle.hull_set.specs.declared.rules.Rules.TheVariants.{Counted}
use Rattle.leaf_trees.specs.Entries.{IsTrueHeld}

module _ (h : Held) (limit : ℕ) (p : Pair) (r : ℕ) (k : IsTrueHeld h) (was : r ≡ h.multiplicities p) where
  -- a point with a multiplicity is in the set
  pub live : 1 ≤ r → Contains h.points p
  live l = (k.live p).1 (omega (arith, was, l))

  -- a point with multiplicity 0 is not
  pub dead : r ≡ 0 → ¬ Contains h.points p
  dead z m = absurd (omega (arith, was, z, (k.live p).0 m))

  -- one with the greatest multiplicity is one too many
  pub answers_full : r ≡ MULTIPLICITY_LIMIT → AnswersAdd Counted h limit p TooMany
  answers_full z = inr (refl, live (omega (arith, z)), sym was ∙ z)

  -- one with a smaller multiplicity is added once more
  pub answers_again : 1 ≤ r → r < MULTIPLICITY_LIMIT → AnswersAdd Counted h limit p (Again (r + 1))
  answers_again l f = (refl, live l, omega (arith, was), omega (arith, l), omega (arith, f))

  -- a new one is too many if the set has as many as its limit
  pub answers_many : r ≡ 0 → length h.points ≤ limit → limit ≤ length h.points → AnswersAdd Counted h limit p TooMany
  answers_many z u v = inl (dead z, omega (arith, u, v))

  -- otherwise there is capacity for it
  pub answers_new : r ≡ 0 → length h.points < limit → AnswersAdd Counted h limit p Added
  answers_new z l = (dead z, l)

  -- but perhaps no memory
  pub answers_refused : r ≡ 0 → length h.points < limit → AnswersAdd Counted h limit p NoMemory
  answers_refused z l = (dead z, l)

  -- a point that is not in the set is absent
  pub answers_absent : r ≡ 0 → AnswersRemove Counted h p Absent
  answers_absent z = dead z

  -- one with a multiplicity above one is left
  pub answers_left : 1 < r → AnswersRemove Counted h p (Left (r - 1))
  answers_left l = (refl, live (omega (arith, l)), omega (arith, was, l), omega (arith, l))

  -- one with multiplicity one is removed
  pub answers_removed : r ≡ 1 → AnswersRemove Counted h p Removed
  answers_removed o = (live (omega (arith, o)), λ c. sym was ∙ o)
