-- the bucket that changed is in the half that the point belongs to
use Rattle.std.proofs.Common.{◌≡◌, ℕ, ◌≤◌, ◌+◌, ◌∙◌, ap, subst, sym, true, arith}
use Rattle.std.specs.Prelude.{not}
use Rattle.bucket_tree.specs.Halves.{half_of, with_half}
use Rattle.bucket_tree.specs.InPlace.{HasChangedBelow, IsChangeable}
use Rattle.bucket_tree.specs.Nodes.{node_height}
use Rattle.bucket_tree.specs.TopDown.{IsToRenewOver}
use Rattle.bucket_tree.specs.Turns.{most_turns}
use Rattle.bucket_tree.specs.declared.node.Node.{Node}
use Rattle.bucket_tree.proofs.ChangedBelow.{IsOpened, changeable_half, half_lower, leaf_below, none_below, opened_below}
use Rattle.bucket_tree.proofs.InPlace.{belongs_below}
use Rattle.bucket_tree.proofs.MostTurns.{one_fork}
use Rattle.bucket_tree.proofs.TopDown.{half_same, has_changed, height_below, to_renew_over}
use Rattle.bucket_tree.proofs.top_down.+renew_top_down.Goals.{After-deref_mut, After-half_mut}
use Rattle.bucket_tree.proofs.top_down.+renew_top_down.Goals as goal

module _ (t : ℕ) (c : After-deref_mut t) where
  -- the fork is opened at the half to which the point belongs
  opened_at : (n : Node) → IsChangeable true n → HasChangedBelow true c.args.p n c.args.node.now c.args.change.now
      → IsOpened c.is_before-is_left.result true c.args.p n c.in-Fork.field-0 c.in-Fork.fork.value c.args.change.now
  opened_at n w d = opened_below c.is_before-is_left.result true c.args.p n c.args.node.now c.in-Fork.field-0 c.in-Fork.fork
      c.args.change.now c.in-Fork.is
      (belongs_below c.is_before-is_left.result c.args.p c.deref.result.now c.in-Fork.fork.value c.deref.ensures c.is_before-is_left.ensures)
      w d

  -- of which the other half is lower than the node
  other_lower : node_height (half_of (not c.is_before-is_left.result) c.deref_mut.result.now) + 1 ≤ node_height c.args.node.now
  other_lower =
      let low = half_lower (not c.is_before-is_left.result) c.args.node.now c.in-Fork.field-0 c.in-Fork.fork c.in-Fork.is in
      let same = ap (λ z. node_height (half_of (not c.is_before-is_left.result) z)) c.deref_mut.ensures.value in
      omega (arith, low, same)

module _ (t : ℕ) (c : After-half_mut t) where
  -- the half stays when the fork is renewed
  half : c.half_mut.result.now ≡ half_of c.is_before-is_left.result c.in-Fork.fork.value
  half = c.half_mut.ensures.value ∙ ap (half_of c.is_before-is_left.result) c.deref_mut-in-Fork.ensures.value
      ∙ half_same c.is_before-is_left.result c.deref_mut.result.now c.renew_fork_to_added.new.fork c.renew_fork_to_added.ensures.left
      c.renew_fork_to_added.ensures.right
      ∙ ap (half_of c.is_before-is_left.result) c.deref_mut.ensures.value

  -- it is lower than the node
  lower : node_height c.half_mut.result.now + 1 ≤ node_height c.args.node.now
  lower =
      let low = half_lower c.is_before-is_left.result c.args.node.now c.in-Fork.field-0 c.in-Fork.fork c.in-Fork.is in
      omega (arith, low, ap node_height half)

  -- so its turns and those of the fork are no more than those of the node
  few_turns : node_height (half_of (not c.is_before-is_left.result) c.deref_mut.result.now) + 1 ≤ node_height c.args.node.now
      → most_turns (node_height c.half_mut.result.now) + c.renew_fork_to_added.result ≤ most_turns (node_height c.args.node.now)
  few_turns other = one_fork (node_height c.args.node.now) (node_height c.half_mut.result.now)
      (most_turns (node_height c.half_mut.result.now)) c.renew_fork_to_added.result (omega (arith, lower)) (omega arith)
      (omega (arith, other, c.renew_fork_to_added.ensures.turns))

pub renew_fork_to_added-requires-clause-over : goal.renew_fork_to_added-requires-clause-over
renew_fork_to_added-requires-clause-over t c =
    let n = c.requires.changed in
    subst (IsToRenewOver c.is_before-is_left.result c.args.p c.args.change.now) (sym c.deref_mut.ensures.value)
    (to_renew_over c.is_before-is_left.result c.args.p n.0 c.in-Fork.field-0 c.in-Fork.fork.value c.args.change.now n.1
    (opened_at t (goal.at.renew_fork_to_added-requires-clause-over t c).After-deref_mut n.0 n.1 n.2))

pub renew_fork_to_added-requires-clause-low : goal.renew_fork_to_added-requires-clause-low
renew_fork_to_added-requires-clause-low t c =
    let n = c.requires.changed in
    omega (
      arith,
      n.1.low,
      height_below true c.args.p n.0 c.args.node.now c.args.change.now n.2,
      other_lower t (goal.at.renew_fork_to_added-requires-clause-low t c).After-deref_mut,
    )

pub renew_top_down-requires : goal.renew_top_down-requires
renew_top_down-requires t c =
    let left = c.is_before-is_left.result in
    let n = c.requires.changed in
    let d = goal.at.renew_top_down-requires t c in
    let e = d.After-half_mut in
    let o = opened_at t d.After-deref_mut n.0 n.1 n.2 in (
      omega (arith, c.decreases, lower t e),
      (
        (
          half_of left o.old,
          changeable_half left true c.args.p n.0 c.in-Fork.field-0 o.old o.at n.1,
          subst (λ z. HasChangedBelow true c.args.p (half_of left o.old) z c.args.change.now) (sym (half t e)) o.changed,
        ),
        omega (arith, c.requires.few, few_turns t e (other_lower t d.After-deref_mut)),
      ),
    )

pub unreachable-requires : goal.unreachable-requires
unreachable-requires t c = none_below true c.args.p c.requires.changed.0 c.args.node.now c.args.change.now c.in-Taken.is c.requires.changed.2

pub returns-in-Leaf-clause-changed : goal.returns-in-Leaf-clause-changed
returns-in-Leaf-clause-changed t c = λ n _ d. leaf_below true c.args.p n c.args.node.now _ c.args.change.now c.in-Leaf.is d

pub returns-in-Fork-clause-changed : goal.returns-in-Fork-clause-changed
returns-in-Fork-clause-changed t c =
    let left = c.is_before-is_left.result in
    let e = c.renew_fork_to_added.ensures in
    let a = goal.at.returns-in-Fork-clause-changed t c in
    λ n w d.
    let o = opened_at t a.After-deref_mut n w d in
    has_changed left c.args.p n c.in-Fork.field-0 c.in-Fork.fork.value c.args.change.now w o c.renew_fork_to_added.new.fork
    c.renew_top_down.new.node (e.left ∙ ap (λ z. z.left) c.deref_mut.ensures.value) (e.right ∙ ap (λ z. z.right) c.deref_mut.ensures.value)
    e.edges e.ends
    (c.renew_top_down.ensures.changed (half_of left o.old) (changeable_half left true c.args.p n c.in-Fork.field-0 o.old o.at w)
    (subst (λ z. HasChangedBelow true c.args.p (half_of left o.old) z c.args.change.now) (sym (half t a.After-half_mut)) o.changed))
    _ (ap (λ z. with_half left z c.renew_top_down.new.node) c.deref_mut-in-Fork.ensures.value)

pub returns-in-Fork-clause-turns : goal.returns-in-Fork-clause-turns
returns-in-Fork-clause-turns t c =
    let d = goal.at.returns-in-Fork-clause-turns t c in
    omega (arith, few_turns t d.After-half_mut (other_lower t d.After-deref_mut), c.renew_top_down.ensures.turns)
