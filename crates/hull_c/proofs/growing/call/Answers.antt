-- the request was served
use Rattle.std.proofs.Common.{rules, inr, Ok}
use Rattle.hull_reply.specs.declared.request.Request.TheVariants.{Call}
use Rattle.hull_c.specs.Growing.{IsGrowingKind}
use Rattle.hull_c.proofs.growing.call.Goals as goal

pub returns-in-Ok-Call : goal.returns-in-Ok-Call
returns-in-Ok-Call c =
    let taken : IsGrowingKind c.args.kind = search (rules, c.is_growing_kind.ensures, c.if-not-is_growing_kind.false) in
    (inr (taken, (Ok (Call c.in-Ok-Call.call), search rules, c.serve.ensures)), λ other. absurd (other taken))
