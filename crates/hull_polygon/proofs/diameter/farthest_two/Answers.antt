-- the first vertex; then each with the one opposite its edge
use Rattle.std.proofs.Common.{ℕ, ◌+◌, ◌≤ℤ◌, inl, inr, sym, subst, List, arith}
use Rattle.std.proofs.lemmas.Bool.{cases_lt}
use Rattle.std.specs.List.{Contains}
use Rattle.lattice.specs.Plane.{Pair, distance_squared}
use Rattle.hull_geometry.specs.Tangents.{IsFirstFarthest}
use Rattle.hull_polygon.specs.Extents.{IsDiameterOf, IsFarther}
use Rattle.hull_polygon.specs.Rounds.{vertex}
use Rattle.hull_polygon.specs.Steps.{left_of}
use Rattle.hull_polygon.proofs.Vertices.{vertex_extreme}
use Rattle.hull_polygon.proofs.Diameters.{diameter_of}
use Rattle.hull_polygon.proofs.diameter.farthest_two.Goals as goal
use Rattle.lattice.proofs.Numbers.{le_itself, le_trans}

pub loop-i-init : goal.loop-i-init
loop-i-init c = λ S o.
    let m = (vertex_extreme S c.args.vertices.now 0 o.1 c.requires.some).0 in (
      subst (Contains S) (sym c.vertex_at.ensures) m,
      subst (Contains S) (sym c.vertex_at-2.ensures) m,
      λ i l. absurd (omega (arith, l)),
    )

-- the better of the best pair and the next one is the best so far
more : (S V : List Pair) (i : ℕ) (best r : Pair × Pair) (f : Pair) → Contains S (vertex V i) → Contains S f
    → IsFirstFarthest S (left_of (vertex V i) (vertex V (i + 1))) f → IsDiameterOf S V i best.0 best.1
    → IsFarther best (vertex V i, f) r → IsDiameterOf S V (i + 1) r.0 r.1
more S V i best r f mi mf far h (inl (e, l)) = (
  subst (λ (z : Pair × Pair). Contains S z.0) (sym e) h.0,
  subst (λ (z : Pair × Pair). Contains S z.1) (sym e) h.1,
  λ k lk. subst (λ (z : Pair × Pair). (g : Pair) × IsFirstFarthest S (left_of (vertex V k) (vertex V (k + 1))) g
      × (distance_squared (vertex V k) g ≤ℤ distance_squared z.0 z.1)) (sym e)
      (elim (cases_lt k i) [
        | inl j ↦ h.2 k j
        | inr j ↦ subst (λ (n : ℕ). (g : Pair) × IsFirstFarthest S (left_of (vertex V n) (vertex V (n + 1))) g
            × (distance_squared (vertex V n) g ≤ℤ distance_squared best.0 best.1)) (omega (arith, j, lk)) (f, far, l)
      ]),
)
more S V i best r f mi mf far h (inr (e, l)) = (
  subst (λ (z : Pair × Pair). Contains S z.0) (sym e) mi,
  subst (λ (z : Pair × Pair). Contains S z.1) (sym e) mf,
  λ k lk. subst (λ (z : Pair × Pair). (g : Pair) × IsFirstFarthest S (left_of (vertex V k) (vertex V (k + 1))) g
      × (distance_squared (vertex V k) g ≤ℤ distance_squared z.0 z.1)) (sym e)
      (elim (cases_lt k i) [
        | inl j ↦ let b = h.2 k j in (b.0, b.1, le_trans _ _ _ b.2 l)
        | inr j ↦ subst (λ (n : ℕ). (g : Pair) × IsFirstFarthest S (left_of (vertex V n) (vertex V (n + 1))) g
            × (distance_squared (vertex V n) g ≤ℤ distance_squared (vertex V i) f)) (omega (arith, j, lk))
            (f, far, le_itself _)
      ]),
)

pub loop-i-preserved : goal.loop-i-preserved
loop-i-preserved c = λ S o.
    let V = c.args.vertices.now in
    let i = c.loop-i.i in
    let far = c.opposite.ensures S o in
    more S V i c.loop-i.best c.farther-best.result c.opposite.result
    (vertex_extreme S V i o.1 c.requires.some).0 far.0 far (c.loop-i.invariant S o)
    (subst (λ (z : Pair). IsFarther c.loop-i.best (z, c.opposite.result) c.farther-best.result)
    c.vertex_at-in-loop-i.ensures c.farther-best.ensures)

pub returns : goal.returns
returns c = λ S o.
    let V = c.args.vertices.now in
    let best = c.loop-i.invariant S o in
    diameter_of S V c.args.last c.loop-i.best.0 c.loop-i.best.1 o c.requires.separated c.requires.some
    (best.0, best.1, λ i l. best.2 i (omega (arith, l, c.loop-i-test.false)))
