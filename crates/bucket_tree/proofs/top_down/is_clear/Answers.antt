-- the results of the tests
use Rattle.std.proofs.Common.{◌∙◌, refl, sym}
use Rattle.std.proofs.lemmas.Bool.{false≢true}
use Rattle.hull_geometry.proofs.Fringed.{strictly_inner}
use Rattle.bucket_tree.proofs.Added.{clear_on_line, inwards_apart, outwards_not_clear}
use Rattle.bucket_tree.proofs.Gained.{failed, passed}
use Rattle.bucket_tree.proofs.Kept.{clear_covered}
use Rattle.bucket_tree.proofs.top_down.is_clear.Goals as goal

pub returns-then-is_inwards : goal.returns-then-is_inwards
returns-then-is_inwards c =
    let h = passed c.is_inwards.result c.is_inwards.ensures.0 c.if-is_inwards.true in
    let a = inwards_apart c.args.side c.args.edge.now c.args.p h in
    (λ _. (a.0, a.1, strictly_inner c.args.side _ _ c.args.p h), λ _. refl)

pub returns-then-not-is_inner : goal.returns-then-not-is_inner
returns-then-not-is_inner c = (
  λ e. absurd (false≢true e),
  λ k. absurd (outwards_not_clear c.args.side c.args.edge.now c.args.p
      (failed c.is_inner.result c.is_inner.ensures.1 c.if-not-is_inner.true) k),
)

pub returns-then-before : goal.returns-then-before
returns-then-before c = (
  λ t. clear_covered c.args.side c.args.p c.args.edge.now (
    passed c.before-2.result c.before-2.ensures.0 c.if-before.true,
    c.before-then-before.ensures.0 t,
    passed c.is_inner.result c.is_inner.ensures.0 c.if-not-is_inner.false,
  ),
  λ k. c.before-then-before.ensures.1 (clear_on_line c.args.side c.args.edge.now c.args.p
      (failed c.is_inwards.result c.is_inwards.ensures.1 c.if-is_inwards.false) k).1,
)

pub returns-else-before : goal.returns-else-before
returns-else-before c = (
  λ t. absurd (false≢true (sym c.if-before.false ∙ t)),
  λ k. c.before-2.ensures.1 (clear_on_line c.args.side c.args.edge.now c.args.p
      (failed c.is_inwards.result c.is_inwards.ensures.1 c.if-is_inwards.false) k).0,
)
