-- vertices that stay are known after the change, and a set that was shown is still shown after a change of nothing
use Rattle.std.specs.Arc.{arc_value}
use Rattle.std.proofs.Common.{◌∙◌, arith, sym}
use Rattle.hull_snapshots.specs.Lists.{vertices_in}
use Rattle.hull_snapshots.proofs.Known.{fallen, known_on, raised, shown_on}
use Rattle.hull_snapshots.proofs.change_publisher.ChangePublisher.record.Goals as goal

pub invariant_of-self : goal.invariant_of-self
invariant_of-self c =
    let t = c.args.self.now in let a = c.add_line.ensures in
    record {
      why = λ yes. a.why (fallen _ yes);
      own_history = a.history;
      own_snapshot_slots = a.history ∙ sym t.own_history ∙ t.own_snapshot_slots;
      own_word = t.own_word;
      rising = omega (arith, t.rising, a.longer);
      few = λ yes. (a.added (raised _ yes)).1;
      watermark_is = λ yes. t.watermark_is c.if-self.false;
      known_is = known_on (λ l. vertices_in (arc_value l)) _ _ c.args.change _ _ _ c.keep.new.known t.known_is
          c.if-self.false (λ yes. (a.added (raised _ yes)).0) c.keep.ensures;
      shown = shown_on _ _ _ c.args.change _ _ _ _ t.shown
          c.if-self.false t.rising (λ yes. (a.added (raised _ yes)).0) c.matters.ensures;
    }
