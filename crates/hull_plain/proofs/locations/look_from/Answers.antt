-- with the first position the point is before all points, with the last after all; else its side of the edge there
-- decides
use Rattle.std.proofs.Common.{◌∙◌, subst, arith, ℕ, Err}
use Rattle.std.proofs.lemmas.Int.{ints}
use Rattle.lattice.proofs.Casts.{cast_side}
use Rattle.hull_geometry.specs.Positions.{IsPositionOf}
use Rattle.hull_geometry.proofs.ChainPlaces.{seen_first, seen_last, edge_at}
use Rattle.hull_plain.proofs.Looks.{on_edge}
use Rattle.hull_plain.proofs.locations.look_from.Goals as goal

pub returns-then-i-eq0 : goal.returns-then-i-eq0
returns-then-i-eq0 c = λ S k.
    seen_first c.args.side S c.args.chain.now.items c.args.q
    (subst (λ (n : ℕ). IsPositionOf c.args.chain.now.items c.args.q (Err n)) c.if-i-eq0.true c.requires) k

pub returns-then-i-len : goal.returns-then-i-len
returns-then-i-len c = λ S k.
    seen_last c.args.side S c.args.chain.now.items c.args.q
    (subst (λ (n : ℕ). IsPositionOf c.args.chain.now.items c.args.q (Err n)) (c.if-i-len.true ∙ c.len.ensures) c.requires) k

pub returns-then-inwards-lt0 : goal.returns-then-inwards-lt0
returns-then-inwards-lt0 c = λ S k. (
  c.get.result,
  c.get-2.result,
  edge_at c.args.side S c.args.chain.now.items c.args.q _ _ c.args.i c.requires (omega (arith, c.if-i-eq0.false))
      (omega (arith, c.if-i-eq0.false, c.if-i-len.false, c.len.ensures, c.requires.0)) c.get.ensures c.get-2.ensures k,
  let e = cast_side _ c.orient_on-inwards.ensures.size ∙ c.orient_on-inwards.ensures.value in
      omega (arith, ints, e, c.if-inwards-lt0.true),
)

pub returns-then-inwards-gt0 : goal.returns-then-inwards-gt0
returns-then-inwards-gt0 c = λ S k. (
  c.get.result,
  c.get-2.result,
  edge_at c.args.side S c.args.chain.now.items c.args.q _ _ c.args.i c.requires (omega (arith, c.if-i-eq0.false))
      (omega (arith, c.if-i-eq0.false, c.if-i-len.false, c.len.ensures, c.requires.0)) c.get.ensures c.get-2.ensures k,
  let e = cast_side _ c.orient_on-inwards.ensures.size ∙ c.orient_on-inwards.ensures.value in
      omega (arith, ints, e, c.if-inwards-gt0.true),
)

pub returns-else-inwards-gt0 : goal.returns-else-inwards-gt0
returns-else-inwards-gt0 c = λ S k.
    on_edge c.args.side S c.args.q c.get.result c.get-2.result
    (edge_at c.args.side S c.args.chain.now.items c.args.q _ _ c.args.i c.requires (omega (arith, c.if-i-eq0.false))
    (omega (arith, c.if-i-eq0.false, c.if-i-len.false, c.len.ensures, c.requires.0)) c.get.ensures c.get-2.ensures k)
    (let e = cast_side _ c.orient_on-inwards.ensures.size ∙ c.orient_on-inwards.ensures.value in
    omega (arith, ints, e, c.if-inwards-lt0.false, c.if-inwards-gt0.false))
