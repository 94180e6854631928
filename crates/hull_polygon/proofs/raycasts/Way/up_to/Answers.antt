-- if the vertex lies on the line and ahead the path enters there, else it misses
use Rattle.std.proofs.Common.{◌≡◌, ◌∙◌, ◌-ℤ◌, ◌≤ℤ◌, ◌<ℤ◌, refl, sym, subst}
use Rattle.lattice.specs.Plane.{Pair, product}
use Rattle.hull_polygon.specs.Raycasts.{moved}
use Rattle.hull_polygon.proofs.Casting.{missed_uncrossed}
use Rattle.hull_polygon.proofs.Courses.{length_of_step, step_moved}
use Rattle.hull_polygon.proofs.DifferencesReturned.{returned_within, twice, whole_returned}
use Rattle.lattice.proofs.Tests.{passed, failed}
use Rattle.lattice.proofs.Numbers.{not_less, not_apart}
use Rattle.hull_polygon.proofs.raycasts.Way.up_to.Goals as goal

pub returns-then-is_beside : goal.returns-then-is_beside
returns-then-is_beside c = λ S o n x.
    missed_uncrossed S _ _ c.args.c o n x.0 x.1.0 (λ z. absurd (passed _ _ c.if-is_beside.true c.is_beside.ensures z))

pub returns-then-not-is_ahead : goal.returns-then-not-is_ahead
returns-then-not-is_ahead c = λ S o n x.
    let a = c.args.self.now.start in
    let w = c.args.self.now.along in
    missed_uncrossed S a (moved a w) c.args.c o n x.0 x.1.0
    (λ z. subst (λ (d : Pair). product d c.args.c ≤ℤ product d a) (sym (step_moved a w))
    (not_less _ _ (failed _ _ c.if-not-is_ahead.true c.is_ahead.ensures)))

pub excess-requires-2-clause-first : goal.excess-requires-2-clause-first
excess-requires-2-clause-first c = returned_within _ c.squared_length.ensures.size

pub returns : goal.returns
returns c = λ S o n x.
    let a = c.args.self.now.start in
    let w = c.args.self.now.along in record {
      entry = record {
        vertex = x.1;
        line = not_apart _ (failed _ _ c.if-is_beside.false c.is_beside.ensures);
        ahead = subst (λ (d : Pair). product d a <ℤ product d c.args.c) (sym (step_moved a w))
            (passed _ _ c.if-not-is_ahead.false c.is_ahead.ensures);
        first = x.2;
      };
      part = whole_returned _ _ _ c.ahead.ensures.size c.ahead.ensures.value c.excess.ensures.value
          ∙ subst (λ (d : Pair). product w c.args.c -ℤ product w a ≡ product d c.args.c -ℤ product d a)
          (sym (step_moved a w)) refl;
      whole = whole_returned _ _ _ (twice _ c.squared_length.ensures.size) c.squared_length.ensures.value
          c.excess-2.ensures.value
          ∙ sym (length_of_step a w)
          ∙ subst (λ (d : Pair). product w (moved a w) -ℤ product w a ≡ product d (moved a w) -ℤ product d a)
          (sym (step_moved a w)) refl;
    }
