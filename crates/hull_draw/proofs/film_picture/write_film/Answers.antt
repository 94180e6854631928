-- The parts in order are the film.
use Rattle.text_io.proofs.Chains.{◌▸◌, written_whole}
use Rattle.hull_draw.specs.FilmTexts.{film_text}
use Rattle.hull_draw.proofs.film_picture.write_film.Goals as goal

pub returns : goal.returns
unfolding film_text
returns g c = written_whole (c.head_after-done.ensures ▸ c.put_after-done.ensures.wrote ▸ c.title_after-done.ensures
    ▸ c.frames_after-done.ensures ▸ c.put_after-done-2.ensures.wrote) c.flush_after.ensures.wrote
