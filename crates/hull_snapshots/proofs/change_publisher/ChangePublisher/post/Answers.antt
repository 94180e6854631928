-- the number that was published is that of the last change
use Rattle.std.proofs.Common.{◌≡◌, ◌∙◌, ap, arith, length, sym, true≢false}
use mathlib.Core.Logic.{∥∥₁_map}
use Rattle.published_snapshots.specs.Numbers.{watermark_number}
use Rattle.published_snapshots.specs.Snapshots.{number_of, seen_lines}
use Rattle.hull_snapshots.proofs.Known.{all_shown, fallen, raised}
use Rattle.hull_snapshots.proofs.change_publisher.ChangePublisher.post.Goals as goal

pub invariant_of-self : goal.invariant_of-self
invariant_of-self c =
    let t = c.args.self.now in let p = c.in-Ok.ensures in
    let number : number_of c.new-snapshot.result ≡ length (seen_lines t.prefix) =
    ap (λ f. length (seen_lines f)) (c.new-snapshot.ensures.prefix ∙ c.again.ensures) in
    record {
      why = λ e. p.why (fallen _ e) (length (seen_lines t.prefix));
      own_history = t.own_history;
      own_snapshot_slots = t.own_snapshot_slots ∙ ap (λ h. h.history.book) (sym p.same);
      own_word = p.more.book ∙ t.own_word ∙ ap (λ h. h.newest.word.book) (sym p.same);
      rising = omega (arith, p.last, number);
      few = λ _. t.few c.requires.speaks;
      watermark_is = λ e. p.watermark (raised _ e) ∙ sym p.last;
      known_is = ∥∥₁_map t.known_is (λ g _. g c.requires.speaks);
      shown = ∥∥₁_map t.known_is (λ _ _ _. all_shown _ _ (p.last ∙ number));
    }

pub invariant_of-self-in-Err : goal.invariant_of-self-in-Err
invariant_of-self-in-Err c =
    let t = c.args.self.now in let p = c.in-Err.ensures in
    record {
      why = λ e. absurd (true≢false (sym e ∙ c.requires.speaks));
      own_history = t.own_history;
      own_snapshot_slots = t.own_snapshot_slots ∙ ap (λ h. h.history.book) (sym p.same);
      own_word = p.more.book ∙ t.own_word ∙ ap (λ h. h.newest.word.book) (sym p.same);
      rising = omega (arith, t.rising, p.kept.0);
      few = t.few;
      watermark_is = λ e. ap watermark_number p.kept.1 ∙ t.watermark_is e ∙ sym p.kept.0;
      known_is = t.known_is;
      shown = rw (p.kept.0) t.shown;
    }
