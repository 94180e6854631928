-- the halves of a fork are in a row
use Rattle.std.proofs.Common.{◌∙◌, ap, sym, subst}
use Rattle.bucket_tree.specs.Nodes.{AreInRow}
use Rattle.bucket_tree.proofs.Kept.{stored_apart}
use Rattle.bucket_tree.proofs.NodeRows.{halves_row}
use Rattle.bucket_tree.proofs.join.take_apart.Goals as goal

pub returns-clause-row : goal.returns-clause-row
returns-clause-row c =
    subst (λ z. AreInRow z c.replace-right.result)
    (sym (c.replace-left.ensures.value ∙ ap (λ z. z.left) c.deref_mut.ensures.value))
    (subst (λ z. AreInRow c.in-Fork.fork.value.left z)
    (sym (c.replace-right.ensures.value ∙ ap (λ z. z.right) c.deref_mut-2.ensures.value
    ∙ ap (λ z. z.right) c.deref_mut.ensures.value))
    (halves_row c.args.node c.in-Fork.field-0 c.in-Fork.fork c.in-Fork.is c.requires.built))

pub returns-clause-stored : goal.returns-clause-stored
returns-clause-stored c = λ side.
    stored_apart c.args.node c.in-Fork.field-0 c.in-Fork.fork c.replace-left.result c.replace-right.result _ c.in-Fork.is
    c.requires.built
    (c.replace-left.ensures.value ∙ ap (λ z. z.left) c.deref_mut.ensures.value)
    (c.replace-right.ensures.value ∙ ap (λ z. z.right) c.deref_mut-2.ensures.value
    ∙ ap (λ z. z.right) c.deref_mut.ensures.value)
    (ap (λ z. z.lower) c.deref_mut-2.ensures.value ∙ ap (λ z. z.lower) c.deref_mut.ensures.value)
    (ap (λ z. z.upper) c.deref_mut-2.ensures.value ∙ ap (λ z. z.upper) c.deref_mut.ensures.value) side
