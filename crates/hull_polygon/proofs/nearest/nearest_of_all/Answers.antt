-- some vertex or some edge is the nearest
use Rattle.std.proofs.Common.{◌≡◌, ℕ, inl, inr, subst, arith}
use Rattle.std.proofs.lemmas.Bool.{cases_lt}
use Rattle.hull_polygon.specs.Nearest.{IsPassedOver}
use Rattle.hull_polygon.proofs.Made.{separated_is_polygon}
use Rattle.hull_polygon.proofs.NearestOf.{never_none}
use Rattle.hull_polygon.proofs.nearest.nearest_of_all.Goals as goal

pub loop-i-preserved : goal.loop-i-preserved
loop-i-preserved c = λ k l. elim (cases_lt k c.loop-i.i) [
  | inl h ↦ c.loop-i.invariant k h
  | inr h ↦
      let e : c.loop-i.i ≡ k = omega (arith, h, l) in
      let here : IsPassedOver c.args.vertices.now c.loop-i.i c.args.q = c.in_default.ensures in
      subst (λ (n : ℕ). IsPassedOver c.args.vertices.now n c.args.q) e here
]

pub unreachable-requires : goal.unreachable-requires
unreachable-requires c =
    let V = c.args.vertices.now in
    let s = separated_is_polygon V c.args.last c.requires.separated in
    never_none s.0 V c.args.q s.1 (λ k l. c.loop-i.invariant k (omega (arith, l, c.loop-i-test.false)))
    c.args.last c.requires.separated c.requires.some (c.requires.outside s.0 s.1)
