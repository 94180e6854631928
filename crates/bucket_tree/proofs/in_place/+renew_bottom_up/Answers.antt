-- the bucket that changed is in the half that the point belongs to
use Rattle.std.proofs.Common.{ℕ, ◌∙◌, ap, false, subst, sym, arith}
use Rattle.bucket_tree.specs.Halves.{half_of, with_half}
use Rattle.bucket_tree.specs.InPlace.{HasChanged, HasChangedBelow, IsChangeable}
use Rattle.bucket_tree.specs.declared.node.Node.{Node}
use Rattle.bucket_tree.specs.Nodes.{node_height}
use Rattle.bucket_tree.proofs.ChangedBelow.{IsHalfRenewed, changeable_half, half_lower, leaf_below, none_below, opened_below, renewable, renewed}
use Rattle.bucket_tree.proofs.InPlace.{belongs_below}
use Rattle.bucket_tree.proofs.in_place.+renew_bottom_up.Goals.{After-deref_mut-in-Fork}
use Rattle.bucket_tree.proofs.in_place.+renew_bottom_up.Goals as goal

-- the half has become the node that it was to become
half_renewed : (t : ℕ) (c : After-deref_mut-in-Fork t) → IsHalfRenewed c.is_before-is_left.result false c.args.p c.args.node.now
    c.in-Fork.field-0 c.in-Fork.fork c.deref_mut-in-Fork.result.now c.renew_bottom_up.new.node c.args.change.now c.renew_bottom_up.new.change
half_renewed t c =
    let left = c.is_before-is_left.result in
    record {
      fork = c.in-Fork.is;
      here = belongs_below left c.args.p c.deref.result.now c.in-Fork.fork.value c.deref.ensures c.is_before-is_left.ensures;
      value = c.deref_mut-in-Fork.ensures.value ∙ ap (λ z. with_half left z c.renew_bottom_up.new.node) c.deref_mut.ensures.value;
      becomes = subst (λ z. (x : Node) → IsChangeable false x → HasChangedBelow false c.args.p x z c.args.change.now
          → HasChanged false c.args.p x c.renew_bottom_up.new.node c.renew_bottom_up.new.change)
          (c.half_mut.ensures.value ∙ ap (half_of left) c.deref_mut.ensures.value) c.renew_bottom_up.ensures;
    }

pub renew_bottom_up-requires : goal.renew_bottom_up-requires
renew_bottom_up-requires t c =
    let left = c.is_before-is_left.result in
    let n = c.requires in
    let half = c.half_mut.ensures.value ∙ ap (half_of left) c.deref_mut.ensures.value in
    let o = opened_below left false c.args.p n.0 c.args.node.now c.in-Fork.field-0 c.in-Fork.fork c.args.change.now c.in-Fork.is
    (belongs_below left c.args.p c.deref.result.now c.in-Fork.fork.value c.deref.ensures c.is_before-is_left.ensures) n.1 n.2 in (
      omega (arith, c.decreases, half_lower left c.args.node.now c.in-Fork.field-0 c.in-Fork.fork c.in-Fork.is, ap node_height half),
      (
        half_of left o.old,
        changeable_half left false c.args.p n.0 c.in-Fork.field-0 o.old o.at n.1,
        subst (λ z. HasChangedBelow false c.args.p (half_of left o.old) z c.args.change.now) (sym half) o.changed,
      ),
    )

pub renew_fork-requires : goal.renew_fork-requires
renew_fork-requires t c =
    renewable (half_renewed t (goal.at.renew_fork-requires t c).After-deref_mut-in-Fork) c.requires.0 c.requires.1 c.requires.2
    c.change_at.result c.change_at.ensures

pub unreachable-requires : goal.unreachable-requires
unreachable-requires t c = none_below false c.args.p c.requires.0 c.args.node.now c.args.change.now c.in-Taken.is c.requires.2

pub returns-in-Leaf : goal.returns-in-Leaf
returns-in-Leaf t c = λ n _ d. leaf_below false c.args.p n c.args.node.now _ c.args.change.now c.in-Leaf.is d

pub returns-in-Fork : goal.returns-in-Fork
returns-in-Fork t c = λ n w d.
    renewed (half_renewed t (goal.at.returns-in-Fork t c).After-deref_mut-in-Fork) n w d _ c.renew_fork.new.changed c.renew_fork.ensures
