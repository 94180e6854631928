-- a short list is its own vertex list; a longer one was tested to be a round
use Rattle.std.proofs.Common.{arith}
use Rattle.hull_geometry.proofs.Rounding.{small_list}
use Rattle.hull_polygon.proofs.Made.{round_is_polygon}
use Rattle.hull_polygon.proofs.rounds.last_of.Goals as goal

pub returns-then-vertices-lt2 : goal.returns-then-vertices-lt2
returns-then-vertices-lt2 c = (
  (
    c.args.vertices.now,
    (
      (λ i j d h l. absurd (omega (arith, h, l, c.if-vertices-lt2.true))),
      small_list c.args.vertices.now c.if-vertices-lt2.true,
    ),
  ),
  (λ n. n, λ n. absurd (omega (arith, n, c.if-vertices-lt2.true))),
)

pub returns-then-is_round : goal.returns-then-is_round
returns-then-is_round c =
    let r = c.is_round.ensures.0 c.if-is_round.true in
    (round_is_polygon c.args.vertices.now c.summit-last.result r, (λ n. c.summit-last.ensures.within, λ n. r))
