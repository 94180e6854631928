-- the set after the change, and that it is shown
use Rattle.std.proofs.Common.{◌∙◌, ap, sym}
use mathlib.Core.Logic.{∥∥₁_map}
use Rattle.hull_set.specs.Held.{nothing_held}
use Rattle.hull_snapshots.specs.Changes.{held_after_changes}
use Rattle.hull_snapshots.proofs.Changed.{changed_by-one_more}
use Rattle.hull_snapshots.proofs.Known.{speaking}
use Rattle.hull_snapshots.proofs.change_publisher.ChangePublisher.announce.Goals as goal

pub publish-requires : goal.publish-requires
publish-requires g c =
    let r = c.record.ensures.recorded in
    record {
      held = λ yes. c.requires.held (r.speaks yes)
          ∙ sym (changed_by-one_more nothing_held _ c.args.change)
          ∙ ap held_after_changes (sym (r.one_more yes));
    }

pub returns-else-self-clause-shown : goal.returns-else-self-clause-shown
returns-else-self-clause-shown g c =
    let t = c.record.new.self in
    ∥∥₁_map t.shown (λ shown yes. record {
      held = shown (speaking _ yes) c.if-self.false;
      watermark = t.watermark_is (speaking _ yes);
    })
