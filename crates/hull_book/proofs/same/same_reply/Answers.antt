-- the derived test of two replies returns whether they are one
use Rattle.std.proofs.Common.{◌≡◌, ◌∙◌, ap, arith, refl, subst, sym, true}
use Rattle.std.specs.Bool.{Decides}
use Rattle.std.specs.Cmp.Lexicographic.{pointwise_decides}
use Rattle.std.proofs.lemmas.Bool.Decides.{Decides-and}
use Rattle.std.proofs.lemmas.Grind.{common_steps}
use Rattle.lattice.specs.Plane.{Pair}
use Rattle.hull_set.proofs.HeldMultiplicities.{same_true, returned_same}
use Rattle.hull_set.specs.PointLists.{is_same_pair}
use Rattle.hull_set.specs.contracts.reply.ReplyPartialEq.TheImpl as derived
use Rattle.hull_set.specs.declared.reply.Reply.{Reply}
use Rattle.hull_set.specs.declared.reply.Reply.TheVariants.{TangentPoints, VertexList}
use Rattle.hull_book.proofs.same.same_reply.Goals as goal

-- the test distinguishes two points
same_pair : (p q : Pair) → Decides (is_same_pair p q) (p ≡ q)
same_pair p q = (returned_same p q, λ e. subst (λ z. is_same_pair p z ≡ true) e (same_true p))

-- two replies of which the test is true are one
returned : (m n : Reply) → (derived.ghosts).eq m n ≡ true → m ≡ n
returned (VertexList v) (VertexList w) h = ap VertexList ((pointwise_decides same_pair v w).0 h)
returned (TangentPoints l r) (TangentPoints m s) h =
    let both = (Decides-and _ _ (same_pair l m) (same_pair r s)).0 h in λ i. TangentPoints (both.0 i) (both.1 i)
returned m (VertexList w) h = grind (arith, common_steps)
returned m n h = grind (arith, common_steps)

-- the test of a reply with itself is true
one : (m : Reply) → (derived.ghosts).eq m m ≡ true
one (VertexList v) = (pointwise_decides same_pair v v).1 refl
one (TangentPoints l r) = (Decides-and _ _ (same_pair l l) (same_pair r r)).1 (refl, refl)
one m = grind (arith, common_steps)

pub returns : goal.returns
returns c = (
  λ t. returned _ _ (sym c.eq.ensures ∙ t),
  λ e. c.eq.ensures ∙ subst (λ z. (derived.ghosts).eq c.args.a.now z ≡ true) e (one c.args.a.now),
)
