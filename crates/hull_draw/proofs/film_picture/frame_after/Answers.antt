-- The pieces in order are the text.
use Rattle.std.proofs.Common.{◌≡◌, rules}
use Rattle.text_io.proofs.Chains.{◌▸◌}
use Rattle.hull_draw.specs.FilmTexts.{shot_text}
use Rattle.hull_draw.proofs.film_picture.frame_after.Goals as goal

pub returns : goal.returns
unfolding shot_text
returns g c =
    let wrong : c.args.scene.now.wrong ≡ c.scene.inside.wrong = search rules in
    c.shown_after-done.ensures ▸ (rw (← wrong) at c.call_shown_after-done.ensures) ▸ c.legend_after-done.ensures
    ▸ c.frame_end_after.ensures
