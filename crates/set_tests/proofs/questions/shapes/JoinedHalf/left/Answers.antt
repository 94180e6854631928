-- a single half has its own left half; of two joined it is the first
use Rattle.std.proofs.Common.{◌∙◌}
use Rattle.set_tests.proofs.questions.shapes.JoinedHalf.left.Goals as goal

pub returns-in-None : goal.returns-in-None
returns-in-None g c = rw c.in-None.is (c.alone.ensures ∙ c.left.ensures)

pub returns-in-Some : goal.returns-in-Some
returns-in-Some g c = rw c.in-Some.is c.alone-in-Some.ensures
