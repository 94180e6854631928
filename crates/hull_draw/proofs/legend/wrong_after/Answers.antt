-- The pieces in order are the text.
use Rattle.text_io.proofs.Chains.{◌▸◌}
use Rattle.hull_draw.proofs.legend.wrong_after.Goals as goal

pub returns-in-Some : goal.returns-in-Some
returns-in-Some g c = rw (c.in-Some.is) (c.returned_after-done.ensures ▸ c.put_after.ensures.wrote)
