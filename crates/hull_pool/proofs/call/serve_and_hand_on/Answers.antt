-- the line is that of the served call, by the law of the book's kind
use Rattle.std.proofs.Common.{rules}
use Rattle.hull_pool.proofs.call.serve_and_hand_on.Goals as goal

pub returns-clause-line : goal.returns-clause-line
returns-clause-line g c =
    let line = g.met.B.JournaledBook.adds _ _ _ _ _ _ _ _ c.serve-answer.ensures.served in
    search rules
