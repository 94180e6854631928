-- the lower edge is as it was after the upper one was renewed
use Rattle.std.proofs.Common.{subst, true}
use Rattle.lattice.specs.Plane.{Pair}
use Rattle.lattice.specs.declared.side.Side.TheVariants.{Lower, Upper}
use Rattle.bucket_tree.specs.Changes.{IsClearOf, change_of}
use Rattle.bucket_tree.proofs.Added.{end_moved}
use Rattle.bucket_tree.proofs.InPlace.{lower_moved}
use Rattle.bucket_tree.proofs.TopDown.{both_moved, substitute_moved}
use Rattle.bucket_tree.proofs.top_down.renew_edges_to_added.Goals as goal

pub renew_edge_to_added-upper-requires-clause-unaffected : goal.renew_edge_to_added-upper-requires-clause-unaffected
renew_edge_to_added-upper-requires-clause-unaffected c = c.requires.edges.unaffected Upper

pub renew_edge_to_added-upper-requires-clause-clear : goal.renew_edge_to_added-upper-requires-clause-clear
renew_edge_to_added-upper-requires-clause-clear c = c.requires.edges.clear Upper

pub renew_edge_to_added-upper-requires-clause-end : goal.renew_edge_to_added-upper-requires-clause-end
renew_edge_to_added-upper-requires-clause-end c = c.requires.end Upper

pub renew_edge_to_added-lower-requires-clause-half : goal.renew_edge_to_added-lower-requires-clause-half
renew_edge_to_added-lower-requires-clause-half c =
    substitute_moved c.args.is_left Upper c.args.fork.now c.renew_edge_to_added-upper.new.fork c.renew_edge_to_added-upper.ensures.same
    c.requires.half

pub renew_edge_to_added-lower-requires-clause-unaffected : goal.renew_edge_to_added-lower-requires-clause-unaffected
renew_edge_to_added-lower-requires-clause-unaffected c = λ u.
    lower_moved c.args.fork.now c.renew_edge_to_added-upper.new.fork c.renew_edge_to_added-upper.ensures.same
    (c.requires.edges.unaffected Lower u)

pub renew_edge_to_added-lower-requires-clause-clear : goal.renew_edge_to_added-lower-requires-clause-clear
renew_edge_to_added-lower-requires-clause-clear c = λ k.
    let s = c.renew_edge_to_added-upper.ensures.same in
    lower_moved c.args.fork.now c.renew_edge_to_added-upper.new.fork s
    (c.requires.edges.clear Lower (subst (λ (z : Pair × Pair). IsClearOf Lower z c.args.p) s.other k))

pub renew_edge_to_added-lower-requires-clause-end : goal.renew_edge_to_added-lower-requires-clause-end
renew_edge_to_added-lower-requires-clause-end c =
    end_moved (change_of c.args.is_left true) c.args.p c.args.fork.now c.renew_edge_to_added-upper.new.fork
    c.renew_edge_to_added-upper.ensures.same (c.requires.end Lower)

pub returns-clause-edges : goal.returns-clause-edges
returns-clause-edges c =
    both_moved c.renew_edge_to_added-upper.new.fork c.renew_edge_to_added-lower.new.fork c.renew_edge_to_added-lower.ensures.same
    c.renew_edge_to_added-upper.ensures.bridge c.renew_edge_to_added-lower.ensures.bridge
