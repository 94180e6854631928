-- the upper edge is renewed first, which leaves the parts and the lower edge
use Rattle.std.proofs.Common.{◌≡◌, ◌∙◌, ◌++◌, ◌⊎◌, false, ap, subst}
use Rattle.lattice.specs.declared.side.Side.TheVariants.{Lower, Upper}
use Rattle.hull_buckets.specs.Buckets.{IsCovered}
use Rattle.bucket_tree.specs.Changes.{IsClearOf}
use Rattle.bucket_tree.specs.Nodes.{points_below}
use Rattle.bucket_tree.proofs.Added.{end_moved}
use Rattle.bucket_tree.proofs.InPlace.{ends_moved, lower_moved}
use Rattle.bucket_tree.proofs.Kept.{closes_by}
use Rattle.bucket_tree.proofs.renewal.renew_edges.Goals as goal

pub renew_edge-upper_turns-requires-clause-unaffected : goal.renew_edge-upper_turns-requires-clause-unaffected
renew_edge-upper_turns-requires-clause-unaffected c = c.requires.after.unaffected Upper

pub renew_edge-upper_turns-requires-clause-clear : goal.renew_edge-upper_turns-requires-clause-clear
renew_edge-upper_turns-requires-clause-clear c = c.requires.after.clear Upper

pub renew_edge-lower_turns-requires-clause-unaffected : goal.renew_edge-lower_turns-requires-clause-unaffected
renew_edge-lower_turns-requires-clause-unaffected c = λ e.
    lower_moved c.args.fork.now c.renew_edge-upper_turns.new.fork c.renew_edge-upper_turns.ensures.same
    (c.requires.after.unaffected Lower e)

pub renew_edge-lower_turns-requires-clause-clear : goal.renew_edge-lower_turns-requires-clause-clear
renew_edge-lower_turns-requires-clause-clear c = λ h.
    lower_moved c.args.fork.now c.renew_edge-upper_turns.new.fork c.renew_edge-upper_turns.ensures.same
    (c.requires.after.clear Lower (subst (λ z. IsClearOf Lower z c.args.p) c.renew_edge-upper_turns.ensures.same.other h))

pub returns-clause-closes : goal.returns-clause-closes
returns-clause-closes c =
    let s = c.renew_edge-upper_turns.ensures.same in
    let e = ap (λ z. points_below z ++ points_below c.renew_edge-upper_turns.new.fork.right) s.left
    ∙ ap (λ z. points_below c.args.fork.now.left ++ points_below z) s.right in
    closes_by c.args.p c.args.sides
    record { lower = c.renew_edge-lower_turns.result.1; upper = c.renew_edge-upper_turns.result.1 } _
    (λ h. subst (λ z. (c.args.sides.lower ≡ false) ⊎ IsCovered Lower c.args.p z) e (c.renew_edge-lower_turns.ensures.closes h))
    c.renew_edge-upper_turns.ensures.closes

pub renew_edge-lower_turns-requires-clause-ends : goal.renew_edge-lower_turns-requires-clause-ends
renew_edge-lower_turns-requires-clause-ends c =
    ends_moved Upper c.args.fork.now c.renew_edge-upper_turns.new.fork c.renew_edge-upper_turns.ensures.same
    c.requires.after.ends

pub renew_edge-upper_turns-requires-clause-end : goal.renew_edge-upper_turns-requires-clause-end
renew_edge-upper_turns-requires-clause-end c = c.requires.end Upper

pub renew_edge-lower_turns-requires-clause-end : goal.renew_edge-lower_turns-requires-clause-end
renew_edge-lower_turns-requires-clause-end c =
    end_moved c.args.change c.args.p c.args.fork.now c.renew_edge-upper_turns.new.fork c.renew_edge-upper_turns.ensures.same
    (c.requires.end Lower)
