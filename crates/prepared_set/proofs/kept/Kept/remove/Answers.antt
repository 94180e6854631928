-- the other vertices are a polygon
use Rattle.std.proofs.Common.{◌≤◌, ◌∙◌, List, ap, length, subst, sym}
use Rattle.std.specs.List.{remove}
use Rattle.hull_set.specs.declared.TheConstants.{POINT_LIMIT}
use Rattle.lattice.specs.Plane.{Pair}
use Rattle.lattice.specs.Covers.{without_point}
use Rattle.lattice.specs.Vertices.{IsVertexList}
use Rattle.hull_polygon.specs.Rounds.{vertex, IsSeparated}
use Rattle.prepared_set.proofs.Shortened.{remove_short, remove_vertices}
use Rattle.prepared_set.proofs.kept.Kept.remove.Goals as goal

pub of_vertices-requires : goal.of_vertices-requires
of_vertices-requires c =
    remove_short c.args.self.now _ c.self.inside.last c.args.i
    (subst (λ (V : List Pair). IsSeparated V c.self.inside.last) c.self.view_is c.self.invariant.0)
    (subst (λ (V : List Pair). length V ≤ POINT_LIMIT) c.self.view_is c.self.invariant.1) c.requires.within c.requires.amid
    (c.deref.ensures.value ∙ c.remove-gone.ensures.items ∙ ap (λ (V : List Pair). remove V c.args.i) c.self.view_is)

pub returns-clause-vertices : goal.returns-clause-vertices
returns-clause-vertices c = λ S o a.
    subst (IsVertexList (without_point (vertex c.args.self.now c.args.i) S))
    (sym (c.remove-gone.ensures.items ∙ ap (λ (V : List Pair). remove V c.args.i) c.self.view_is))
    (remove_vertices S c.args.self.now c.self.inside.last c.args.i o
    (subst (λ (V : List Pair). IsSeparated V c.self.inside.last) c.self.view_is c.self.invariant.0) c.requires.within
    c.requires.amid a)
