-- a change that is contained alters nothing above
use Rattle.std.proofs.Common.{subst}
use Rattle.std.specs.Prelude.{IfOk}
use Rattle.bucket_tree.specs.InPlace.{HasChangedBelow}
use Rattle.bucket_tree.proofs.ChangedBelow.{unreached}
use Rattle.bucket_tree.proofs.in_place.change_in_place.Goals as goal

pub returns-else-not-is_contained-clause-change : goal.returns-else-not-is_contained-clause-change
returns-else-not-is_contained-clause-change g c =
    unreached g.C.InPlace.puts c.args.p c.args.node.now c.change_bucket.new.node c.in_ok-change.change
    record { built = c.requires.built; few = c.requires.few; low = c.requires.low }
    (subst (λ z. IfOk z (HasChangedBelow g.C.InPlace.puts c.args.p c.args.node.now c.change_bucket.new.node)) c.in_ok-change.was
    c.change_bucket.ensures.change)
    (c.is_contained.ensures.0 c.if-not-is_contained.false)
