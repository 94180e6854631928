-- a separation from the segment of the only one or two vertices is one from the set
use Rattle.std.proofs.Common.{◌≡◌, ◌⊎◌, [], subst}
use Rattle.lattice.specs.Plane.{Pair}
use Rattle.hull_polygon.specs.Meetings.{Intersects, segment}
use Rattle.hull_polygon.specs.Rounds.{vertex}
use Rattle.hull_polygon.specs.Separations.{IsSeparation}
use Rattle.hull_polygon.proofs.Made.{separated_is_polygon}
use Rattle.hull_polygon.proofs.Witnessed.{not_met, separation_few}
use Rattle.hull_polygon.proofs.polygon.Polygon.separation_from_few.Goals as goal

pub unreachable-requires : goal.unreachable-requires
unreachable-requires c =
    let V = c.args.self.now.vertices.now in
    let W = c.args.other.now.vertices.now in
    let (S, o) = separated_is_polygon V c.args.self.now.last c.args.self.now.separated in
    let (T, t) = separated_is_polygon W c.args.other.now.last c.args.other.now.separated in
    not_met S V T W o c.requires.this t c.requires.that (c.requires.apart S o T t)
    (subst (λ (z : Pair). (S ≡ []) ⊎ Intersects S (segment z (vertex W 1))) c.vertex_at.ensures
    (subst (λ (z : Pair). (S ≡ []) ⊎ Intersects S (segment c.vertex_at.result z)) c.vertex_at-end.ensures
    (c.in-None.ensures S o)))

pub returns : goal.returns
returns c = λ S o T t.
    let W = c.args.other.now.vertices.now in
    let w = c.in-Some.found in
    separation_few S T W c.args.other.now.last w t c.args.other.now.separated c.requires.that c.requires.few
    (subst (λ (z : Pair). IsSeparation S (segment z (vertex W 1)) w) c.vertex_at.ensures
    (subst (λ (z : Pair). IsSeparation S (segment c.vertex_at.result z) w) c.vertex_at-end.ensures
    (c.in-Some.ensures S o)))
