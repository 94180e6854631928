-- The parts in order are the picture.
use Rattle.text_io.proofs.Chains.{◌▸◌, written_whole}
use Rattle.hull_draw.specs.Pictures.{picture_text}
use Rattle.hull_draw.proofs.picture.write_picture.Goals as goal

pub returns : goal.returns
unfolding picture_text
returns g c = written_whole (c.head_after-done.ensures ▸ c.shown_after-done.ensures ▸ c.legend_after-done.ensures
    ▸ c.put_after-done.ensures.wrote) c.flush_after.ensures.wrote
