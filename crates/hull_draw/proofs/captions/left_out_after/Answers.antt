-- The pieces in order are the text.
use Rattle.std.proofs.Common.{◌≡◌, ◌==◌, false}
use Rattle.std.proofs.lemmas.Bool.{ne_eqb}
use Rattle.text_io.proofs.Chains.{◌▸◌}
use Rattle.hull_draw.proofs.captions.left_out_after.Goals as goal

pub returns : goal.returns
returns g c =
    let more : (c.args.count == 0) ≡ false = ne_eqb c.args.count 0 c.if-count-eq0.false in
    rw more (c.returned_after-done.ensures ▸ c.put_after.ensures.wrote)
