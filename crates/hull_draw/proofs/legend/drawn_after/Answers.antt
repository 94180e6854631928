-- The pieces in order are the text.
use Rattle.std.proofs.Common.{◌≡◌, rules}
use Rattle.text_io.proofs.Chains.{◌▸◌}
use Rattle.hull_draw.proofs.legend.drawn_after.Goals as goal

pub returns : goal.returns
returns g c =
    let lines : c.args.scene.now.lines ≡ c.scene.inside.lines = search rules in
    let wrong : c.args.scene.now.wrong ≡ c.scene.inside.wrong = search rules in
    let bridges : c.args.scene.now.bridges ≡ c.deref.result.now = search rules in
    rw (lines, wrong, bridges) (c.lines_after-done.ensures ▸ c.bridges_returned_after.ensures)
