-- The multiplicities of points, and the effect of a change on them.
use Rattle.std.specs.Prelude.{◌≡◌, ℕ, ◌+◌, ◌≤◌, Bool, true, false, List, [], ◌∷◌, Option, None, Some}
use Rattle.lattice.specs.Covers.{with_point, without_point}
use Rattle.lattice.specs.Plane.{Pair}
use Rattle.lattice.specs.declared.side.Side.{Side}
use Rattle.hull_buckets.specs.Buckets.{BucketValue, IsBucket, mask_on}
use Rattle.hull_set.specs.Held.{once}
use Rattle.leaf_trees.specs.Entries.{several}
use Rattle.bucket_tree.specs.declared.node.Node.{Node}
use Rattle.bucket_tree.specs.Nodes.{tree_of, points_below, multiplicities_below, node_height, IsWellBuilt}

-- the multiplicity of a point, from points and their multiplicities
abbrev pub counted : List Pair → List ℕ → Pair → ℕ
counted [] multiplicities q = 0
counted (p ∷ ps) [] q = 0
counted (p ∷ ps) (t ∷ ts) q = several t p q + counted ps ts q

-- the multiplicity of a point below a node
abbrev pub multiplicity_at : Node → Pair → ℕ
multiplicity_at n q = counted (points_below n) (multiplicities_below n) q

-- the kind of a change at a point: it is added, and if it is refused nothing changes; or it is removed
pub data Kind : Type 0 where
  Comes : Bool → Kind
  Goes : Kind

-- the points after the change
abbrev pub altered : Kind → Pair → List Pair → List Pair
altered (Comes false) p S = with_point p S
altered (Comes true) p S = S
altered Goes p S = without_point p S

-- the multiplicities of a point q before the change and after it
abbrev pub IsCounted : Kind → Pair → Pair → ℕ → ℕ → Type 0
IsCounted (Comes false) p q before after = after ≡ before + once p q
IsCounted (Comes true) p q before after = after ≡ before
IsCounted Goes p q before after = before ≡ after + once p q

-- the change turns one node into another
abbrev pub Alters : Kind → Pair → Node → Node → Type 0
Alters kind p n m = (points_below m ≡ altered kind p (points_below n))
    × ((q : Pair) → IsCounted kind p q (multiplicity_at n q) (multiplicity_at m q))

-- p was added to the points, or none was if it was refused
abbrev pub HasGained : Bool → Pair → Node → Node → Type 0
HasGained refused = Alters (Comes refused)

-- the node is as high as the other, or one higher
abbrev pub IsNoMuchHigher : Node → Node → Type 0
IsNoMuchHigher n m = (node_height n ≤ node_height m) × (node_height m ≤ node_height n + 1)

-- p, of multiplicity one, was removed from the points; if it was the only one, nothing is left of a bucket
abbrev pub HasLost : Pair → Node → Option Node → Type 0
HasLost p n None = (points_below n ≡ p ∷ []) × ((q : Pair) → multiplicity_at n q ≡ once p q) × (node_height n ≡ 0)
HasLost p n (Some m) =
    IsWellBuilt m × (points_below m ≡ without_point p (points_below n))
    × ((q : Pair) → multiplicity_at n q ≡ multiplicity_at m q + once p q) × IsNoMuchHigher m n

-- two buckets with the same points and vertices
pub record IsSameButMultiplicities (old new : BucketValue) : Type 0 where
  pub bucket : IsBucket new
  pub points : new.points ≡ old.points
  pub vertices : (side : Side) → mask_on side new ≡ mask_on side old

-- p, which is there, has the multiplicity `multiplicity`, and nothing else differs
pub record IsRecounted (multiplicities : ℕ) (p : Pair) (n m : Node) : Type 0 where
  pub built : IsWellBuilt m
  pub same_tree : tree_of m ≡ tree_of n
  pub same_points : points_below m ≡ points_below n
  pub same_height : node_height m ≡ node_height n
  pub held : (q : Pair) → multiplicity_at m q + several (multiplicity_at n p) p q ≡ multiplicity_at n q + several multiplicities p q
