-- a clone is the reply, and only that of a list with a vertex may be refused
use Rattle.std.proofs.Common.{◌≡◌, arith, inr, refl, rules}
use Rattle.std.proofs.lemmas.Grind.{common_steps}
use Rattle.hull_set.specs.contracts.reply.ReplyClone.TheImpl as derived
use Rattle.hull_set.specs.declared.reply.Reply.{Reply}
use Rattle.hull_set.specs.declared.reply.Reply.TheVariants.{VertexList}
use Rattle.hull_book.specs.Copies.{IsSomeList}
use Rattle.hull_book.proofs.apply.twice.Goals as goal

-- a clone of a reply is the reply
same : (reply copy : Reply) → (derived.ghosts).is_clone reply copy → copy ≡ reply
same (VertexList v) (VertexList w) is = grind (arith, common_steps)
same reply (VertexList w) is = grind (arith, common_steps)
same reply copy is = grind (arith, common_steps)

-- a reply whose clone may be refused is a list with a vertex
some : (reply : Reply) → ¬ (derived.ghosts).is_infallible reply → IsSomeList reply
some (VertexList v) n = λ e. n (search rules)
some reply n = absurd (n (search rules))

pub returns-in-Ok-clause-same : goal.returns-in-Ok-clause-same
returns-in-Ok-clause-same c = same _ _ c.in-Ok.ensures.cases

pub returns-in-Err-clause-kept : goal.returns-in-Err-clause-kept
returns-in-Err-clause-kept c = inr (refl, some _ c.in-Err.ensures.cases)
