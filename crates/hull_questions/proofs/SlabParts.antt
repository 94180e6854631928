-- The slab of a half that a point is in, by the subtree that has it.
use Rattle.std.proofs.lemmas.Grind.{common_steps}
use Rattle.std.proofs.Common.{◌≡◌, ◌<◌, subst, arith, Some}
use Rattle.lattice.specs.Plane.{Pair, IsBefore}
use Rattle.bridge_search.specs.Trees.{Tree, Leaf, Fork, IsBridged, lower_of, left_of, right_of, first_of, last_of}
use Rattle.bridge_search.specs.Trees.{height_of}
use Rattle.bridge_search.proofs.Ends.{last_by}
use Rattle.bridge_search.proofs.Turns.{first_by}
use Rattle.lattice.proofs.Order.{before_trans}
use Rattle.hull_questions.specs.Slabs.{IsSlab}
use Rattle.hull_questions.specs.declared.slabs.Slab.{Slab}
use Rattle.hull_questions.specs.declared.slabs.Slab.TheVariants.{Before, After, Last, Edge}
use Rattle.hull_geometry.proofs.EdgesAt.{on_from}
use Rattle.hull_questions.proofs.ChainEdges.{left_lifts, right_lifts}
use Rattle.hull_questions.proofs.StoredEdges.{same_ends}

-- the slab of q in the subtree is its slab in the whole, and the height of the subtree is less
pub record IsSlabPart (q : Pair) (whole part : Tree) : Type 0 where
  pub lifts : (s : Slab) → IsSlab part q s → IsSlab whole q s
  pub lower : height_of part < height_of whole

-- a point before the bridge is in the same slab of both halves as of the left one, which is not its last
left_slabs : (e f : Pair × Pair) (u w : Tree) (q : Pair) → IsBridged (Fork e f u w) → IsBefore q f.0
    → (s : Slab) → IsSlab u q s → IsSlab (Fork e f u w) q s
left_slabs e f u w q h k Before m = m
left_slabs e f u w q h k After m = absurd (last_by u h.3 f.0 h.2.from_left (before_trans (last_of u) q f.0 m k))
left_slabs e f u w q h k Last m = absurd (last_by u h.3 f.0 h.2.from_left (subst (λ (z : Pair). IsBefore z f.0) m k))
left_slabs e f u w q h k (Edge z) m = left_lifts u w q f.0 f.1 z h.0 h.2 k m

-- a point not before the end of the bridge is in the same slab of both as of the right half, which is not its first
right_slabs : (e f : Pair × Pair) (u w : Tree) (q : Pair) → IsBridged (Fork e f u w) → ¬ (IsBefore q f.1)
    → (s : Slab) → IsSlab w q s → IsSlab (Fork e f u w) q s
right_slabs e f u w q h k Before m = absurd (k (on_from q (first_of w) f.1 m (first_by w h.4 f.1 h.2.to_right)))
right_slabs e f u w q h k After m = m
right_slabs e f u w q h k Last m = m
right_slabs e f u w q h k (Edge z) m = right_lifts u w q f.0 f.1 z h.0 h.2 k m

-- if q is before the bridge, its slab is that of the left half
pub slab_left : (t : Tree) (q a b : Pair) → IsBridged t → Some (a, b) ≡ lower_of t → IsBefore q a
    → IsSlabPart q t (left_of t)
slab_left (Leaf x) q a b h g k = absurd (cc)
slab_left (Fork e f u w) q a b h g k = grind (arith, common_steps, left_slabs, same_ends)

-- if q is not before the end of the bridge, its slab is that of the right half
pub slab_right : (t : Tree) (q a b : Pair) → IsBridged t → Some (a, b) ≡ lower_of t → ¬ (IsBefore q b)
    → IsSlabPart q t (right_of t)
slab_right (Leaf x) q a b h g k = absurd (cc)
slab_right (Fork e f u w) q a b h g k = record {
  lifts = right_slabs e f u w q h (subst (λ (z : Pair). ¬ (IsBefore q z)) (same_ends g).1 k);
  lower = omega arith;
}
