-- The bridges of three neighbouring halves x, y and z, grouped in the two ways between which a rotation changes.
use Rattle.std.specs.Prelude.{◌≡◌, ◌⊎◌, ◌++◌}
use Rattle.lattice.specs.Bridges.{IsBridge}
use Rattle.lattice.specs.Covers.{IsPointSet}
use Rattle.lattice.specs.Plane.{Pair, IsBefore}
use Rattle.lattice.specs.declared.side.Side.{Side}
use Rattle.bridge_search.specs.Trees.{Tree, On}
use Rattle.bucket_tree.specs.declared.node.Node.{Node}
use Rattle.bucket_tree.specs.declared.rotation.Regrouped.{Regrouped}
use Rattle.bucket_tree.specs.declared.rotation.Rotation.{Rotation}
use Rattle.bucket_tree.specs.declared.rotation.Rotation.TheVariants.{Left, Right}
use Rattle.bucket_tree.specs.Nodes.{points_below, AreInRow}

-- a point of either of two halves
abbrev pub IsOnEither : Tree → Tree → Pair → Type 0
IsOnEither u w t = On u t ⊎ On w t

-- the other direction
abbrev pub other : Rotation → Rotation
other Left = Right
other Right = Left

-- the bridge of the lower fork before a rotation: to the left it is over y and z, to the right over x and y
abbrev pub IsPart : Rotation → Side → Tree → Tree → Tree → Pair × Pair → Type 0
IsPart Left side x y z e = IsBridge side (On y) (On z) e.0 e.1
IsPart Right side x y z e = IsBridge side (On x) (On y) e.0 e.1

-- the bridge of the upper fork, which is over the lower one and the third half
abbrev pub IsWhole : Rotation → Side → Tree → Tree → Tree → Pair × Pair → Type 0
IsWhole Left side x y z e = IsBridge side (On x) (IsOnEither y z) e.0 e.1
IsWhole Right side x y z e = IsBridge side (IsOnEither x y) (On z) e.0 e.1

-- the bridge of the upper fork ends in the middle half, where `split` is the first point of the later half of the lower
-- fork
abbrev pub IsInMiddle : Rotation → Pair × Pair → Pair → Type 0
IsInMiddle Left whole split = IsBefore whole.1 split
IsInMiddle Right whole split = ¬ IsBefore whole.0 split

-- the edges after a rotation: if the upper bridge ends in the middle, it is the new lower edge, and the old lower edge
-- is the new upper one; otherwise it is the new upper edge, and the new lower one is the bridge of its halves u and w
abbrev pub IsRegrouped : Side → Rotation → Pair × Pair → Pair × Pair → Pair → Tree → Tree → Regrouped → Type 0
IsRegrouped side rotation whole part split u w new =
    (IsInMiddle rotation whole split × (new.inner ≡ whole) × (new.outer ≡ part))
    ⊎ (¬ IsInMiddle rotation whole split × IsBridge side (On u) (On w) new.inner.0 new.inner.1 × (new.outer ≡ whole))

-- four well-built nodes in a row
pub record AreFourInRow (a b c d : Node) : Type 0 where
  pub front : AreInRow a b
  pub back : AreInRow c d
  pub in_order : IsPointSet ((points_below a ++ points_below b) ++ (points_below c ++ points_below d))

-- the bridges of three forks over four halves before a double rotation, from the top: to the left they are over a and
-- the others, over (b, c) and d, and over b and c; to the right over the others and d, over a and (b, c), and over b
-- and c
abbrev pub AreEdgesOfFour : Rotation → Side → Tree → Tree → Tree → Tree → Pair × Pair → Pair × Pair → Pair × Pair
    → Type 0
AreEdgesOfFour Left side a b c d whole low middle =
    IsBridge side (On a) (λ t. IsOnEither b c t ⊎ On d t) whole.0 whole.1 × IsWhole Right side b c d low
    × IsBridge side (On b) (On c) middle.0 middle.1
AreEdgesOfFour Right side a b c d whole low middle =
    IsBridge side (λ t. On a t ⊎ IsOnEither b c t) (On d) whole.0 whole.1 × IsWhole Left side a b c low
    × IsBridge side (On b) (On c) middle.0 middle.1
