-- After a rotation by 180 degrees a view from above is one from below.
use Rattle.std.proofs.Common.{ℤ, pos, ◌<ℤ◌, sym, subst}
use Rattle.std.specs.List.{Contains}
use Rattle.std.proofs.lemmas.List.Elements.{All-weaker}
use Rattle.lattice.specs.Plane.{Pair, IsBefore, turned_point}
use Rattle.lattice.proofs.Sides.{side_turned_over, side_turned_back, far_turned, far_turned_back}
use Rattle.bridge_search.specs.Trees.{Tree, first_of, last_of}
use Rattle.lattice.proofs.TurnedBridges.{turned_twice, before_turned, before_turned_back, turned_order}
use Rattle.bridge_search.specs.TurnedTrees.{turned_tree, first_turned, last_turned}
use Rattle.bridge_search.specs.Leaves.{points_of}
use Rattle.hull_geometry.specs.Hands.{other_hand, IsOnHand}
use Rattle.hull_geometry.specs.Tangents.{IsNoMore, IsTangent}
use Rattle.hull_questions.specs.Hands.{outermost}
use Rattle.hull_geometry.specs.Locations.{IsBelow, IsAbove}
use Rattle.hull_geometry.specs.declared.hand.Hand.{Hand}
use Rattle.hull_geometry.specs.declared.hand.Hand.TheVariants.{Left, Right}
use Rattle.hull_questions.proofs.TurnedEdges.{turned_all, turned_member}

-- a point above the half is, rotated, below the rotated half
pub below_turned : (t : Tree) (q : Pair) → IsAbove (points_of t) q
    → IsBelow (points_of (turned_tree t)) (turned_point q)
below_turned t q h = record {
  absent = λ m. h.absent (subst (Contains (points_of t)) (turned_twice q) (turned_member t (turned_point q) m));
  outwards = λ s r m n b k.
      subst (λ (z : ℤ). z <ℤ pos 0) (side_turned_over s r q)
      (h.outwards (turned_point r) (turned_point s) (turned_member t r n) (turned_member t s m) (before_turned r q k)
      (before_turned_back s q b));
}

-- a point no farther on one hand after a rotation is no farther there before it
no_more_turned : (hand : Hand) (q p s : Pair) → IsNoMore hand (turned_point q) p (turned_point s)
    → IsNoMore hand q (turned_point p) s
no_more_turned Left q p s k = rw (side_turned_back q p s, far_turned q s, far_turned_back q p) at k
no_more_turned Right q p s k = rw (side_turned_back q p s, far_turned q s, far_turned_back q p) at k

-- the tangent point of the rotated half is, rotated, the tangent point on the same hand
pub tangent_of_turned : (hand : Hand) (t : Tree) (q p : Pair)
    → IsTangent hand (points_of (turned_tree t)) (turned_point q) p → IsTangent hand (points_of t) q (turned_point p)
tangent_of_turned hand t q p h = (
  turned_member t p h.0,
  All-weaker (λ s. IsNoMore hand (turned_point q) p (turned_point s)) (IsNoMore hand q (turned_point p))
      (no_more_turned hand q p) (points_of t) (turned_all t (IsNoMore hand (turned_point q) p) h.1),
)

-- a point inwards of the outermost point on the other hand is, rotated, inwards of that of the rotated half on this one
pub inwards_turned : (hand : Hand) (t : Tree) (q : Pair) → IsOnHand hand q (outermost (other_hand hand) t)
    → IsOnHand hand (outermost hand (turned_tree t)) (turned_point q)
inwards_turned Left t q b =
    subst (λ (z : Pair). IsBefore z (turned_point q)) (sym (first_turned t)) (turned_order q (last_of t) b)
inwards_turned Right t q b = subst (IsBefore (turned_point q)) (sym (last_turned t)) (turned_order (first_of t) q b)
