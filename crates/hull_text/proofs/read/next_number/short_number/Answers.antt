-- A byte that is no space is a digit more.
use Rattle.std.proofs.Common.{rules, ◌≡◌, ◌+◌, ◌-◌, ◌*◌, ℕ, suc, Some, get_or, take, refl, subst, arith}
use Rattle.hull_text.specs.Number.{digits_after}
use Rattle.hull_text.proofs.Numbers.{digits_next}
use Rattle.hull_text.proofs.read.next_number.short_number.Goals as goal

pub loop-i-init : goal.loop-i-init
unfolding digits_after
loop-i-init c = record { digits = refl; low = omega arith; before = λ k lt. absurd (omega arith) }

pub loop-i-preserved : goal.loop-i-preserved
loop-i-preserved c =
    let i = c.loop-i.i in
    let text = c.args.text.now in
    let next : suc i ≡ i + 1 = omega arith in
    let more = digits_next text i 0 c.loop-i.value c.loop-i-test.true c.if-b-lt48.false c.if-b-gt57.false
    c.loop-i.invariant.digits in
    record {
      digits = rw c.from.ensures
          (subst (λ (n : ℕ). digits_after 0 (take n text)
          ≡ Some (c.loop-i.value * 10 + (get_or text i 0 - 48))) next more);
      low = omega (arith, c.from.ensures, c.if-b-gt57.false, c.if-value-ge-SHORT.false);
      before = search rules;
    }
