-- The pieces in order are the text.
use Rattle.std.proofs.Common.{◌≡◌, rules}
use Rattle.text_io.proofs.Chains.{◌▸◌}
use Rattle.hull_draw.proofs.picture.set_after.Goals as goal

pub returns : goal.returns
returns g c =
    let marks : c.args.scene.now.marks ≡ c.deref.result.now = search rules in
    rw (← c.side.ensures.value) (c.square_after-done.ensures ▸ c.shapes_after-done.ensures
    ▸ c.put_after-done.ensures.wrote ▸ (rw (← marks) at c.labels_after.ensures))
