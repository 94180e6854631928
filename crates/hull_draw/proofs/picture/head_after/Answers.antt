-- The pieces in order are the text.
use Rattle.text_io.proofs.Chains.{◌▸◌}
use Rattle.hull_draw.proofs.picture.head_after.Goals as goal

pub returns : goal.returns
returns g c = c.returned_after-done.ensures ▸ c.returned_after-done-2.ensures ▸ c.put_after-done.ensures.wrote
    ▸ c.put_after.ensures.wrote
