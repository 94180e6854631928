-- the point is written, and what is after it moves down to it
use Rattle.std.proofs.Common.{ap, ◌∙◌, ◌+◌, ◌-◌, take, arith}
use Rattle.prepared_set.proofs.Spliced.{moved, written}
use Rattle.prepared_set.proofs.splicing.replace.Goals as goal

pub returns-then-after-before : goal.returns-then-after-before
returns-then-after-before c =
    c.truncate.ensures.items ∙ ap (take (c.len-end.result - (c.args.before - (c.args.after + 2)))) c.copy_within.ensures.items
    ∙ moved c.args.points.now.items c.args.after c.args.before _ _ c.args.p (omega (arith, c.requires.some))
    (omega (arith, c.requires.within)) (omega (arith, c.len-end.ensures))
    (omega (arith, c.len-end.ensures, c.requires.some, c.requires.within, c.if-after-before.true))

pub returns-else-after-before : goal.returns-else-after-before
returns-else-after-before c =
    written c.args.points.now.items c.args.after c.args.before c.args.p (omega (arith, c.requires.some, c.requires.within))
    (omega (arith, c.requires.some, c.if-after-before.false))
