-- the point is removed from one of two subtrees in a row
use Rattle.std.proofs.Common.{◌≡◌, ℕ, ◌≤◌, ◌∙◌, ap, refl, subst, sym, arith}
use Rattle.std.specs.Prelude.{IfSome, None, Some, cond, not}
use Rattle.bucket_tree.specs.Changes.{IsUnaffectedOver}
use Rattle.bucket_tree.specs.Counts.{Goes, HasLost}
use Rattle.bucket_tree.specs.Halves.{half_of, with_half}
use Rattle.bucket_tree.specs.Nodes.{points_below, node_height}
use Rattle.bucket_tree.specs.Turns.{most_turns}
use Rattle.bucket_tree.specs.declared.node.Fork.{Fork}
use Rattle.bucket_tree.proofs.Balanced.{IsForkAltered, balanced_alters, balanced_unaffected, few_turns_sum, half_before, lower_balanced}
use Rattle.bucket_tree.proofs.Balanced.{to_balance, turns_sum, with_lost}
use Rattle.bucket_tree.proofs.ChangedBelow.{other_half, put_back}
use Rattle.bucket_tree.proofs.InPlace.{IsForkAt, fork_below}
use Rattle.bucket_tree.proofs.MostTurns.{below_fork}
use Rattle.bucket_tree.proofs.Parts.{lost_with_none, same_at}
use Rattle.bucket_tree.proofs.removal.+remove.Goals.{After-deref_mut-in-Fork, After-half_mut}
use Rattle.bucket_tree.proofs.removal.+remove.Goals as goal

module _ (t : ℕ) (c : After-half_mut t) where
  -- the fork is taken apart at the half to which the point belongs
  apart : IsForkAt c.before-is_left.result c.args.p c.args.node c.in-Fork.height c.in-Fork.place.value
  apart = fork_below c.before-is_left.result c.args.p c.args.node c.in-Fork.height c.in-Fork.place c.deref.result.now c.in-Fork.is
      c.deref.ensures c.requires.built c.before-is_left.ensures

  -- which is read from it
  there : c.half_mut.result.now ≡ half_of c.before-is_left.result c.in-Fork.place.value
  there = c.half_mut.ensures.value ∙ ap (half_of c.before-is_left.result) c.deref_mut.ensures.value

module _ (t : ℕ) (c : After-deref_mut-in-Fork t) where
  -- the half lost the point, and the rest of it is left
  lost : HasLost c.args.p c.replace-half.result (Some c.in-Some.rest)
  lost = subst (HasLost c.args.p c.replace-half.result) c.in-Some.is c.remove-rest.ensures.lost

  -- it was taken out of the fork
  taken : c.replace-half.result ≡ half_of c.before-is_left.result c.in-Fork.place.value
  taken = c.replace-half.ensures.value ∙ c.half_mut.ensures.value ∙ ap (half_of c.before-is_left.result) c.deref_mut.ensures.value

  -- and the rest was put back
  altered : IsForkAltered c.before-is_left.result Goes c.args.p c.args.node c.in-Fork.height c.in-Fork.place.value c.in-Some.rest
      c.remove-rest.result.sides (with_half c.before-is_left.result c.deref_mut-in-Fork.result.now c.in-Some.rest)
  altered =
      record {
        at = fork_below c.before-is_left.result c.args.p c.args.node c.in-Fork.height c.in-Fork.place c.deref.result.now c.in-Fork.is
            c.deref.ensures c.requires.built c.before-is_left.ensures;
        altered = with_lost c.before-is_left.result c.args.p c.args.node c.in-Fork.place.value c.replace-half.result c.in-Some.rest
            c.remove-rest.result.sides taken lost
            (subst (λ z. IfSome z (λ n. IsUnaffectedOver c.args.p c.remove-rest.result.sides (points_below n))) c.in-Some.is
            c.remove-rest.ensures.unaffected) c.requires.few c.requires.low;
        value = put_back c.before-is_left.result c.deref_mut.result.now c.in-Fork.place.value c.deref_mut-in-Fork.result.now
            c.replace-half.new.dest c.in-Some.rest c.deref_mut-in-Fork.ensures.value c.deref_mut.ensures.value;
      }

  -- and the search below it took few turns
  turns_below : c.remove-rest.result.turns ≤ most_turns (node_height (half_of c.before-is_left.result c.in-Fork.place.value))
  turns_below = rw taken at c.remove-rest.ensures.turns

pub remove-rest-requires : goal.remove-rest-requires
remove-rest-requires t c =
    let before = (goal.at.remove-rest-requires t c).After-half_mut in
    let i = apart t before in
    let half = half_before _ _ _ _ _ i in
    rw (c.replace-half.ensures.value ∙ there t before) (
      omega (arith, c.decreases, half.lower),
      (
        half.built,
        (
          sym (same_at _ c.args.p c.args.node c.in-Fork.place.value.left c.in-Fork.place.value.right i.at) ∙ c.requires.held,
          (omega (arith, c.requires.few, half.fewer), omega (arith, c.requires.low, half.lower)),
        ),
      ),
    )

pub returns-in_default-clause-lost : goal.returns-in_default-clause-lost
returns-in_default-clause-lost t c =
    let left = c.before-is_left.result in
    let f = c.in-Fork.place.value in
    let before = (goal.at.returns-in_default-clause-lost t c).After-half_mut in
    let i = apart t before in
    let other = c.replace-other.ensures.value ∙ c.half_mut-in_default.ensures.value
    ∙ ap (half_of (not left)) c.deref_mut-in_default.ensures.value ∙ other_half left c.deref_mut.result.now c.replace-half.new.dest
    ∙ ap (λ (z : Fork). cond left z.right z.left) c.deref_mut.ensures.value in
    subst (HasLost c.args.p c.args.node) (sym c.other_part.ensures.rest)
    (subst (λ z. HasLost c.args.p c.args.node (Some z)) (sym other)
    (lost_with_none left c.args.p c.args.node f.left f.right i.at
    (subst (λ z. HasLost c.args.p z None) (c.replace-half.ensures.value ∙ there t before)
    (subst (HasLost c.args.p c.replace-half.result) c.in_default.is c.remove-rest.ensures.lost)) i.apart.height))

pub returns-in_default-clause-turns : goal.returns-in_default-clause-turns
returns-in_default-clause-turns t c =
    let before = (goal.at.returns-in_default-clause-turns t c).After-half_mut in
    let half = half_before _ _ _ _ _ (apart t before) in
    omega (
      arith,
      c.other_part.ensures.turns,
      below_fork (node_height c.args.node) _ c.remove-rest.result.turns half.lower
          (rw (c.replace-half.ensures.value ∙ there t before) at c.remove-rest.ensures.turns),
    )

pub prepare-above-requires : goal.prepare-above-requires
prepare-above-requires t c =
    let d = (goal.at.prepare-above-requires t c).After-deref_mut-in-Fork in
    to_balance (altered t d) _ refl

pub overflow_add-result : goal.overflow_add-result
overflow_add-result t c =
    let d = (goal.at.overflow_add-result t c).After-deref_mut-in-Fork in
    omega (arith, few_turns_sum (altered t d) _ c.prepare-above.result.turns (turns_below t d) c.prepare-above.ensures.turns)

pub returns-in-Some-clause-lost : goal.returns-in-Some-clause-lost
returns-in-Some-clause-lost t c =
    let d = (goal.at.returns-in-Some-clause-lost t c).After-deref_mut-in-Fork in
    let whole = c.prepare-above.result.node in
    let s = balanced_alters (altered t d) whole c.prepare-above.ensures.points c.prepare-above.ensures.multiplicities in
    let height = rw (taken t d) at (lost t d).3 in
    (c.prepare-above.ensures.built, s.0, s.1, lower_balanced (altered t d) height whole c.prepare-above.ensures.height)

pub returns-in-Some-clause-unaffected : goal.returns-in-Some-clause-unaffected
returns-in-Some-clause-unaffected t c =
    let d = (goal.at.returns-in-Some-clause-unaffected t c).After-deref_mut-in-Fork in
    balanced_unaffected (altered t d) refl c.prepare-above.result.node c.prepare-above.result.sides c.prepare-above.ensures.points
    c.prepare-above.ensures.closes

pub returns-in-Some-clause-turns : goal.returns-in-Some-clause-turns
returns-in-Some-clause-turns t c =
    let d = (goal.at.returns-in-Some-clause-turns t c).After-deref_mut-in-Fork in
    omega (arith, turns_sum (altered t d) _ c.prepare-above.result.turns (turns_below t d) c.prepare-above.ensures.turns)
