-- the point is added to one of two subtrees in a row
use Rattle.std.proofs.Common.{◌≡◌, ℕ, ◌≤◌, ◌∙◌, ap, arith}
use Rattle.bucket_tree.specs.Counts.{Comes}
use Rattle.bucket_tree.specs.Halves.{half_of, with_half}
use Rattle.bucket_tree.specs.Nodes.{node_height}
use Rattle.bucket_tree.specs.Turns.{most_turns}
use Rattle.bucket_tree.proofs.Balanced.{IsForkAltered, balanced_alters, balanced_unaffected, few_turns_sum, half_before, higher_balanced}
use Rattle.bucket_tree.proofs.Balanced.{to_balance, turns_sum, with_added}
use Rattle.bucket_tree.proofs.ChangedBelow.{put_back}
use Rattle.bucket_tree.proofs.InPlace.{fork_below}
use Rattle.bucket_tree.proofs.insertion.+insert.Goals.{After-deref_mut-in-Fork}
use Rattle.bucket_tree.proofs.insertion.+insert.Goals as goal

module _ (t : ℕ) (c : After-deref_mut-in-Fork t) where
  -- the half to which the point belongs was taken out of the fork
  taken : c.replace-half.result ≡ half_of c.before-is_left.result c.in-Fork.place.value
  taken = c.replace-half.ensures.value ∙ c.half_mut.ensures.value ∙ ap (half_of c.before-is_left.result) c.deref_mut.ensures.value

  -- and altered it was put back
  altered : IsForkAltered c.before-is_left.result (Comes c.insert-change.result.refused) c.args.p c.args.node c.in-Fork.field-0
      c.in-Fork.place.value c.insert-change.result.node c.insert-change.result.sides
      (with_half c.before-is_left.result c.deref_mut-in-Fork.result.now c.insert-change.result.node)
  altered =
      let e = c.insert-change.ensures in
      record {
        at = fork_below c.before-is_left.result c.args.p c.args.node c.in-Fork.field-0 c.in-Fork.place c.deref.result.now c.in-Fork.is
            c.deref.ensures c.requires.built c.before-is_left.ensures;
        altered = with_added c.before-is_left.result c.insert-change.result.refused c.args.p c.args.node c.in-Fork.place.value
            c.replace-half.result c.insert-change.result.node c.insert-change.result.sides taken e.built e.gained e.height e.unaffected
            (c.requires.absent, c.requires.few) c.requires.low;
        value = put_back c.before-is_left.result c.deref_mut.result.now c.in-Fork.place.value c.deref_mut-in-Fork.result.now
            c.replace-half.new.dest c.insert-change.result.node c.deref_mut-in-Fork.ensures.value c.deref_mut.ensures.value;
      }

  -- the search below the fork took few turns
  turns_below : c.insert-change.result.turns ≤ most_turns (node_height (half_of c.before-is_left.result c.in-Fork.place.value))
  turns_below = rw taken at c.insert-change.ensures.turns

pub insert-change-requires : goal.insert-change-requires
insert-change-requires t c =
    let left = c.before-is_left.result in
    let half = half_before _ _ _ _ _ (fork_below left c.args.p c.args.node c.in-Fork.field-0 c.in-Fork.place c.deref.result.now c.in-Fork.is
    c.deref.ensures c.requires.built c.before-is_left.ensures) in
    let q = c.replace-half.ensures.value ∙ c.half_mut.ensures.value ∙ ap (half_of left) c.deref_mut.ensures.value in
    rw q (
      omega (arith, c.decreases, half.lower),
      (
        half.built,
        (
          λ k. c.requires.absent (half.among c.args.p k),
          (omega (arith, c.requires.few, half.fewer), omega (arith, c.requires.low, half.lower)),
        ),
      ),
    )

pub balance-above-requires : goal.balance-above-requires
balance-above-requires t c =
    to_balance (altered t (goal.at.balance-above-requires t c).After-deref_mut-in-Fork) c.change_at.result c.change_at.ensures

pub overflow_add-result : goal.overflow_add-result
overflow_add-result t c =
    let d = (goal.at.overflow_add-result t c).After-deref_mut-in-Fork in
    omega (arith, few_turns_sum (altered t d) _ c.balance-above.result.turns (turns_below t d) c.balance-above.ensures.turns)

pub returns-in-Fork-clause-gained : goal.returns-in-Fork-clause-gained
returns-in-Fork-clause-gained t c =
    let d = (goal.at.returns-in-Fork-clause-gained t c).After-deref_mut-in-Fork in
    balanced_alters (altered t d) c.balance-above.result.node c.balance-above.ensures.points c.balance-above.ensures.multiplicities

pub returns-in-Fork-clause-height : goal.returns-in-Fork-clause-height
returns-in-Fork-clause-height t c =
    let d = (goal.at.returns-in-Fork-clause-height t c).After-deref_mut-in-Fork in
    higher_balanced (altered t d) (rw (taken t d) at c.insert-change.ensures.height) c.balance-above.result.node
    c.balance-above.ensures.height

pub returns-in-Fork-clause-turns : goal.returns-in-Fork-clause-turns
returns-in-Fork-clause-turns t c =
    let d = (goal.at.returns-in-Fork-clause-turns t c).After-deref_mut-in-Fork in
    omega (arith, turns_sum (altered t d) _ c.balance-above.result.turns (turns_below t d) c.balance-above.ensures.turns)

pub returns-in-Fork-clause-unaffected : goal.returns-in-Fork-clause-unaffected
returns-in-Fork-clause-unaffected t c = λ refused.
    balanced_unaffected (altered t (goal.at.returns-in-Fork-clause-unaffected t c).After-deref_mut-in-Fork) refused c.balance-above.result.node
    c.balance-above.result.sides c.balance-above.ensures.points c.balance-above.ensures.closes
