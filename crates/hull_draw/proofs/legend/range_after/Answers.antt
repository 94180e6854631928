-- The pieces in order are the text.
use Rattle.text_io.proofs.Chains.{◌▸◌}
use Rattle.hull_draw.proofs.legend.range_after.Goals as goal

pub returns-in-Some : goal.returns-in-Some
returns-in-Some g c = rw (c.in-Some.is)
    (c.line_start_after-done.ensures ▸ c.x_after-done.ensures ▸ c.x_after-done-in-Some.ensures ▸ c.y_after-done.ensures
    ▸ c.y_after-done-in-Some.ensures ▸ c.put_after.ensures.wrote)
