-- One request more is answered, at its index.
use Rattle.std.proofs.Common.{ℕ, ◌+◌, ◌<◌, List, length, drop, get_or, set, inl, inr, subst, sym, ap, arith, ◌∙◌}
use Rattle.std.proofs.Common.{rules}
use Rattle.std.proofs.lemmas.Bool.{cases_lt}
use Rattle.std.proofs.lemmas.List.{drop-set-lt, drop-drop, get_or-set_same, get_or-set_other, length-set}
use Rattle.lattice.specs.Plane.{Pair}
use Rattle.hull_reply.specs.declared.reply.HullReply.{HullReply}
use Rattle.hull_c.specs.Polygons.{AnswersAt}
use Rattle.hull_c.proofs.polygon.ask_all.Goals as goal

-- a property of all numbers below n and of n is one of all numbers below n + 1
one_more : (P : ℕ → Type 0) (n k : ℕ) → ((k : ℕ) → k < n → P k) → P n → k < n + 1 → P k
one_more P n k h p l = elim (cases_lt k n) [ inl b ↦ h k b | inr b ↦ subst P (omega (arith, b, l)) p ]

pub loop-i-preserved : goal.loop-i-preserved
loop-i-preserved c =
    let i = c.loop-i.i in let a = c.answer_at.result in let out = c.loop-i.replies in let qs = c.args.requests.now in
    let fits : i < length out = search (rules, c) in
    record {
      answered = λ k less. one_more (λ k. (r : HullReply) → AnswersAt c.args.vertices.now qs k (get_or (set out i a) k r)) i k
          (λ k below r. subst (AnswersAt c.args.vertices.now qs k) (sym (get_or-set_other out i k a r (λ e. omega (arith, below, e))))
          (c.loop-i.invariant.answered k below r))
          (λ r. subst (AnswersAt c.args.vertices.now qs i) (sym (get_or-set_same out i a r fits))
          (subst (λ (v : List Pair). AnswersAt v qs i a) c.of_vertices-polygon.ensures c.answer_at.ensures)) less;
      rest = drop-set-lt (i + 1) out i a (search rules) ∙ sym (drop-drop 1 i out)
          ∙ ap (λ (l : List HullReply). drop 1 l) c.loop-i.invariant.rest ∙ drop-drop 1 i c.args.replies.now;
      long = length-set out i a ∙ c.loop-i.invariant.long;
    }
