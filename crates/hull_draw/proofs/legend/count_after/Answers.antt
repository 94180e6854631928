-- The pieces in order are the text.
use Rattle.text_io.proofs.Chains.{◌▸◌}
use Rattle.hull_draw.proofs.legend.count_after.Goals as goal

pub returns : goal.returns
returns g c =
    c.line_start_after-done.ensures ▸ c.returned_after-done.ensures ▸ c.returned_after-done-2.ensures
    ▸ c.put_after-done.ensures.wrote ▸ c.thinned_after-done.ensures ▸ c.put_after.ensures.wrote
