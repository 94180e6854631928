-- The pieces in order are the text.
use Rattle.std.proofs.Common.{◌≡◌, ◌==◌, ◌+◌, false}
use Rattle.std.proofs.lemmas.Bool.{ne_eqb}
use Rattle.text_io.proofs.Chains.{◌▸◌}
use Rattle.hull_draw.proofs.film_picture.hidden_again_after.Goals as goal

pub returns : goal.returns
returns g c =
    let more : (c.args.place + 1 == c.args.count) ≡ false = ne_eqb (c.args.place + 1) c.args.count c.if-next-count.false in
    rw more (c.returned_after-done.ensures ▸ c.put_after-2.ensures.wrote)
