-- The vertices after a change at one place are a polygon of no more vertices than a set may have.
use Rattle.std.proofs.Common.{◌≡◌, ℕ, ◌+◌, ◌-◌, ◌<◌, ◌≤◌, List, length, sym, subst, arith}
use Rattle.std.specs.List.{remove}
use Rattle.std.proofs.lemmas.List.Edits.{length-remove}
use Rattle.lattice.specs.Covers.{with_point, without_point}
use Rattle.lattice.specs.Plane.{Pair}
use Rattle.lattice.specs.Vertices.{IsLeftOf, IsVertexList}
use Rattle.hull_geometry.proofs.SetLaws.{ordered_with}
use Rattle.hull_set.specs.declared.TheConstants.{POINT_LIMIT}
use Rattle.hull_polygon.specs.Insertions.{IsAmid, IsGap, IsInsertion, put_between}
use Rattle.hull_polygon.specs.Polygons.{HoldsOfSetsOf, IsPolygonOf, IsShortPolygon}
use Rattle.hull_polygon.specs.Rounds.{vertex, IsSeparated}
use Rattle.hull_polygon.specs.declared.insertions.Insertion.TheVariants.{Between}
use Rattle.hull_polygon.proofs.Inserted.{length_put}
use Rattle.hull_polygon.proofs.Made.{separated_is_polygon}
use Rattle.hull_polygon.proofs.Removed.{without_vertex}
use Rattle.prepared_set.proofs.Beside.{amid_later, amid_not_last, others_polygon}

-- with a point in place of those between two vertices
pub put_short : (V W : List Pair) (last after before : ℕ) (p : Pair) → IsSeparated V last → IsGap V (Between after before)
    → HoldsOfSetsOf V (IsInsertion V p (Between after before)) → length V < POINT_LIMIT → W ≡ put_between V after before p
    → IsShortPolygon W
put_short V W last after before p s g h l e =
    let some = separated_is_polygon V last s in
    let n = length_put V after before p (omega (arith, g.0, g.1)) g.1 in
    subst IsShortPolygon (sym e) (
      (with_point p some.0, (ordered_with p some.0 some.1.0, (h some.0 some.1).2)),
      omega (arith, n, g.0, l),
    )

-- without a vertex between two others
pub remove_short : (V W : List Pair) (last i : ℕ) → IsSeparated V last → length V ≤ POINT_LIMIT → i < length V
    → IsAmid V (vertex V i) → W ≡ remove V i → IsShortPolygon W
remove_short V W last i s few l h e =
    let n = length-remove V i l in
    subst IsShortPolygon (sym e) (others_polygon V last i s l h, omega (arith, n, few))

-- if no other point lies right of the line between those beside it, they are the vertices of the set without it
pub remove_vertices : (S V : List Pair) (last i : ℕ) → IsPolygonOf S V → IsSeparated V last → i < length V
    → IsAmid V (vertex V i) → IsLeftOf (without_point (vertex V i) S) (vertex V (i - 1)) (vertex V (i + 1))
    → IsVertexList (without_point (vertex V i) S) (remove V i)
remove_vertices S V last i o s l h a =
    let p = amid_later V last i s l h in
    without_vertex S V last i o (s.1 (omega (arith, p, l))) p l (amid_not_last V last i s l h) a
