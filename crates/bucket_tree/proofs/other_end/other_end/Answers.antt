-- bounds that meet are the end
use Rattle.std.proofs.Common.{◌∙◌, sym}
use Rattle.hull_set.proofs.HeldMultiplicities.{returned_same}
use Rattle.bucket_tree.specs.Nodes.{tree_of}
use Rattle.bucket_tree.proofs.OtherEnds.{meeting_bounds}
use Rattle.bucket_tree.proofs.other_end.other_end.Goals as goal

pub returns-then-eq-clause-end : goal.returns-then-eq-clause-end
returns-then-eq-clause-end c =
    meeting_bounds c.args.end c.args.side c.args.p (tree_of c.args.node.now) c.args.first c.args.last
    c.requires.built.bridged c.requires.beside c.requires.within
    (returned_same c.args.first c.args.last (sym c.eq.ensures ∙ c.if-eq.true))
