-- the lowest index of the mask is the next of a walk along the lower chain, the highest that of one along the upper chain
use Rattle.std.proofs.Common.{◌∙◌, sym, ap, ◌^◌, ◌-◌, List, ◌∷◌}
use Rattle.lattice.specs.Plane.{Pair}
use Rattle.hull_geometry.specs.Positions.{origin}
use Rattle.hull_geometry.proofs.PointLists.{get_or_free}
use Rattle.hull_buckets.specs.Masks.{at_places}
use Rattle.hull_buckets.specs.Walks.{along}
use Rattle.hull_buckets.proofs.Walks.{IsNextPlace, along_none, next_along, next_within}
use Rattle.hull_buckets.proofs.walk.ChainWalk.next.Goals as goal
use Rattle.hull_buckets.proofs.walk.ChainWalk.next.Goals.{in-Lower, in-Upper}

pub returns-then-self-eq0 : goal.returns-then-self-eq0
returns-then-self-eq0 c =
    let e = sym c.self.view_is ∙ along_none c.self.inside.side c.self.inside.points.now c.self.inside.rest c.if-self-eq0.true in
    (e, e)

pub bounds-self-inside-place : goal.bounds-self-inside-place
bounds-self-inside-place c =
    next_within c.self.inside.side c.self.inside.points.now c.self.inside.rest c.match-self.place c.self.invariant.1
    (elim c.match-self.branch [
      | in-Lower w ↦ rw (w.in-Lower.is, w.place-is) (w.lowest-place.ensures.least, w.lowest-place.ensures.there)
      | in-Upper w ↦ rw (w.in-Upper.is, w.place-is) (w.highest-place.ensures.there, w.highest-place.ensures.none_above)
    ])

pub returns : goal.returns
returns c =
    let S : List Pair = c.self.inside.points.now in
    let next : IsNextPlace c.self.inside.side c.self.inside.rest c.match-self.place = elim c.match-self.branch [
      | in-Lower w ↦ rw (w.in-Lower.is, w.place-is) (w.lowest-place.ensures.least, w.lowest-place.ensures.there)
      | in-Upper w ↦ rw (w.in-Upper.is, w.place-is) (w.highest-place.ensures.there, w.highest-place.ensures.none_above)
    ] in
    let rest : List Pair = along c.self.inside.side (at_places (c.self.inside.rest - 2 ^ c.match-self.place) S) in
    rw (c.bit.ensures)
    (sym c.self.view_is ∙ next_along c.self.inside.side S c.self.inside.rest c.match-self.place c.self.invariant.1 next
    ∙ ap (λ (z : Pair). z ∷ rest)
    (sym (get_or_free S c.match-self.place c.index-self-place.result origin
    (next_within c.self.inside.side S c.self.inside.rest c.match-self.place c.self.invariant.1 next))))
