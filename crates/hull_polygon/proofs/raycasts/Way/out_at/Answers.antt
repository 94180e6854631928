-- if the vertex lies on the line and not behind the path exits there, else it misses
use Rattle.std.proofs.Common.{◌∙◌}
use Rattle.hull_polygon.proofs.DifferencesReturned.{returned_within, twice, whole_returned}
use Rattle.hull_polygon.proofs.Leaving.{ahead_back, farthest_back, length_back, line_back, missed_beyond, not_behind_back}
use Rattle.lattice.proofs.Tests.{passed, failed}
use Rattle.lattice.proofs.Numbers.{not_less, not_apart}
use Rattle.hull_polygon.proofs.raycasts.Way.out_at.Goals as goal

pub returns-then-is_beside : goal.returns-then-is_beside
returns-then-is_beside c = λ S x.
    missed_beyond S c.args.self.now.start c.args.self.now.along c.args.e x.0 x.2 x.1.0
    (λ z. absurd (passed _ _ c.if-is_beside.true c.is_beside.ensures z))

pub returns-then-is_behind : goal.returns-then-is_behind
returns-then-is_behind c = λ S x.
    missed_beyond S c.args.self.now.start c.args.self.now.along c.args.e x.0 x.2 x.1.0
    (λ z. passed _ _ c.if-is_behind.true c.is_behind.ensures)

pub excess-requires-2-clause-first : goal.excess-requires-2-clause-first
excess-requires-2-clause-first c = returned_within _ c.squared_length.ensures.size

pub returns : goal.returns
returns c = λ S x.
    let a = c.args.self.now.start in
    let w = c.args.self.now.along in record {
      exit = (
        x.1,
        line_back a w c.args.e (not_apart _ (failed _ _ c.if-is_beside.false c.is_beside.ensures)),
        not_behind_back a w c.args.e (not_less _ _ (failed _ _ c.if-is_behind.false c.is_behind.ensures)),
        farthest_back S a w c.args.e x.2,
      );
      part = whole_returned _ _ _ c.ahead.ensures.size c.ahead.ensures.value c.excess.ensures.value ∙ ahead_back a w c.args.e;
      whole = whole_returned _ _ _ (twice _ c.squared_length.ensures.size) c.squared_length.ensures.value
          c.excess-2.ensures.value ∙ length_back a w;
    }
