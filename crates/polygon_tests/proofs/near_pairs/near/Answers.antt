-- each of the three lists of vertices is that of a polygon
use Rattle.std.proofs.Common.{List, [], ◌∷◌, sym, subst, arith}
use Rattle.std.proofs.lemmas.List.Elements.{All-cons}
use denote.Ref.{Bor}
use Rattle.lattice.specs.Plane.{Pair}
use Rattle.hull_polygon.specs.Polygons.{IsShortPolygon}
use Rattle.polygon_tests.proofs.near_pairs.near.Goals as goal

-- the list is that of a polygon
abbrev IsOne : Bor (List Pair) → Type 0
IsOne o = IsShortPolygon o.now

pub pairs_within_distance-requires : goal.pairs_within_distance-requires
pairs_within_distance-requires c =
    All-cons IsOne c.vertices.result (c.vertices-2.result ∷ c.vertices-3.result ∷ [])
    (subst IsShortPolygon (sym c.vertices.ensures.vertices) c.vertices.ensures.polygon)
    (All-cons IsOne c.vertices-2.result (c.vertices-3.result ∷ [])
    (subst IsShortPolygon (sym c.vertices-2.ensures.vertices) c.vertices-2.ensures.polygon)
    (All-cons IsOne c.vertices-3.result []
    (subst IsShortPolygon (sym c.vertices-3.ensures.vertices) c.vertices-3.ensures.polygon)
    (λ k d l. absurd (omega (arith, l)))))
