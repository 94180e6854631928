-- The pieces in order are the text.
use Rattle.text_io.proofs.Chains.{◌▸◌}
use Rattle.hull_draw.proofs.shapes.bridge_line_after.Goals as goal

pub returns : goal.returns
returns g c =
    rw (← c.across.ensures.value, ← c.down.ensures.value, ← c.across-2.ensures.value, ← c.down-2.ensures.value)
    (c.returned_after-done.ensures ▸ c.returned_after-done-2.ensures ▸ c.returned_after-done-3.ensures ▸ c.returned_after-done-4.ensures
    ▸ c.returned_after-done-5.ensures ▸ c.put_after.ensures.wrote)
