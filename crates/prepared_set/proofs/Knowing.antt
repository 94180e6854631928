-- A property of each set with the known vertices is a property of the set itself.
use Rattle.std.proofs.Common.{◌≡◌, ℕ, List, ◌≤◌, length, sym, subst}
use Rattle.std.specs.Prelude.{Option, Some, None, IfSome}
use Rattle.lattice.specs.Plane.{Pair}
use Rattle.hull_polygon.specs.Polygons.{HoldsOfSetsOf, IsPolygonOf}
use Rattle.hull_geometry.proofs.FewVertices.{vertices_few}
use Rattle.prepared_set.specs.Known.{AreVerticesOf}
use Rattle.prepared_set.specs.declared.vertices.Vertices.{Vertices}
use Rattle.prepared_set.specs.declared.vertices.Vertices.TheVariants.{Known}

-- an answer that is right for each set with these vertices is right
pub by_vertices : (S : List Pair) (vertices : Vertices) (V W : List Pair) (m : ℕ) (P : List Pair → Type 0)
    → AreVerticesOf S vertices → vertices ≡ Known V m → W ≡ V → HoldsOfSetsOf W P → P S
by_vertices S vertices V W m P a e f h = h S (subst (IsPolygonOf S) (sym f) (subst (AreVerticesOf S) e a))

-- a set has at least as many points as vertices
pub few_vertices : (S : List Pair) (vertices : Vertices) (V : List Pair) (m : ℕ) → AreVerticesOf S vertices
    → vertices ≡ Known V m → length V ≤ length S
few_vertices S vertices V m a e = vertices_few S V (subst (AreVerticesOf S) e a).1

-- a property of an optional value may be replaced by one that follows from it
pub some_weaker : {T : Type 0} (o : Option T) (P Q : T → Type 0) → ((v : T) → P v → Q v) → IfSome o P → IfSome o Q
some_weaker None P Q f h = h
some_weaker (Some v) P Q f h = f v h
