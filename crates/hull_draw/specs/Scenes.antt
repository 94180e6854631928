-- The content of a picture of a set: its marks, its hull, its area, and how far its journal was replayed.
use Rattle.std.specs.Prelude.{◌≡◌, ℕ, List, map, pos, Option, Bool, true, false, []}
use Rattle.std.specs.List.{All}
use Rattle.lattice.specs.Plane.{Pair}
use Rattle.lattice.specs.Vertices.{IsVertexList, IsDoubledArea}
use Rattle.hull_set.specs.Held.{Held}
use Rattle.hull_tree.specs.declared.node.Node.{Node}
use Rattle.hull_tree.specs.Roots.{held_by}
use Rattle.hull_tree.specs.Sets.{IsSound}
use Rattle.hull_book.specs.Journals.{JournalValue}
use Rattle.leaf_trees.specs.declared.bridge.Bridge.{Bridge}
use Rattle.hull_draw.specs.declared.drawing.DrawOptions.{DrawOptions}
use Rattle.hull_draw.specs.declared.marks.Mark.{Mark}
use Rattle.hull_draw.specs.Bridges.{bridges_of}
use Rattle.hull_draw.specs.Replays.{IsReplayed, asked_lines}

-- the limit of the set, how many lines were replayed, the wrong line if there is one, the points with their
-- multiplicities, the vertices of the hull, its doubled area, and bridges of the tree
pub record SceneValue : Type 0 where
  pub limit : ℕ
  pub lines : ℕ
  pub wrong : Option ℕ
  pub marks : List Mark
  pub vertices : List Pair
  pub area : ℕ
  pub bridges : List Bridge

-- the marks are the set's points in their order, each with its multiplicity
pub record AreMarks (held : Held) (marks : List Mark) : Type 0 where
  pub points : map (λ m. m.point) marks ≡ held.points
  pub multiplicities : All (λ m. m.multiplicity ≡ held.multiplicities m.point) marks

-- The scene shows the set: its marks, the vertices and the area of its hull.
pub record Shows (held : Held) (scene : SceneValue) : Type 0 where
  pub marks : AreMarks held scene.marks
  pub vertices : IsVertexList held.points scene.vertices
  pub area : IsDoubledArea held.points (pos scene.area)

-- the bridges that a tree stores, if they are requested
abbrev pub asked_bridges : Bool → Option Node → List Bridge
asked_bridges true root = bridges_of root
asked_bridges false root = []

-- The scene shows the set after the requested lines, or after those before the first wrong one of them. A sound tree
-- has its points, each of its stored bridges is that of the points below its fork, and these are drawn.
pub record IsScene (journal : JournalValue) (o : DrawOptions) (scene : SceneValue) : Type 0 where
  pub limit : scene.limit ≡ journal.head.limit
  pub root : Option Node
  pub sound : IsSound root
  pub replayed : IsReplayed journal.head (asked_lines o.line journal.lines) (held_by root) scene.lines scene.wrong
  pub shows : Shows (held_by root) scene
  pub bridges : scene.bridges ≡ asked_bridges o.bridges root
