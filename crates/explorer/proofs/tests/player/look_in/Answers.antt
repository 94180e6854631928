-- the book was only read, so the guard has the book that it had
use Rattle.std.proofs.Common.{ap}
use Rattle.ticket_lock.specs.Tokens.{with_book}
use Rattle.explorer.proofs.tests.player.look_in.Goals as goal

pub returns : goal.returns
returns c = ap (λ (b : _). with_book c.args.guard b) c.book.ensures.value
