-- The pieces in order are the text.
use Rattle.text_io.proofs.Chains.{◌▸◌}
use Rattle.hull_draw.proofs.captions.list_after.Goals as goal

pub returns : goal.returns
returns g c = rw (← c.vertices_returned-count.ensures.value)
    (c.returned_after-done.ensures ▸ c.points_after-done.ensures.wrote ▸ c.left_out_after.ensures)
