-- The pieces in order are the text.
use Rattle.text_io.proofs.Chains.{◌▸◌}
use Rattle.hull_draw.proofs.film_picture.call_marks_after.Goals as goal

pub returns : goal.returns
returns g c = rw (← c.side.ensures.value, ← c.call_point-asked.ensures)
    (c.square_after-done.ensures ▸ c.right_found_after-done.ensures ▸ c.asked_after-done.ensures
    ▸ c.put_after.ensures.wrote)
