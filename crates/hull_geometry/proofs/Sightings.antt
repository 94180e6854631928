-- The view from q on one hand: the order of points by how far they are on it, and the tangent point, which is farthest.
use Rattle.std.proofs.lemmas.Grind.{common_steps}
use Rattle.std.proofs.Common.{◌≡◌, pos, neg_ℤ, inl, inr, ap, ◌∙◌, List, arith}
use Rattle.std.specs.List.{All, Contains}
use Rattle.std.proofs.lemmas.Int.{ints}
use Rattle.std.proofs.lemmas.List.Elements.{All-weaker}
use Rattle.lattice.specs.Plane.{Pair, orient, distance_squared}
use Rattle.lattice.specs.Signs.{le_or_lt}
use Rattle.hull_geometry.specs.Hands.{orient_by, IsMore}
use Rattle.hull_geometry.specs.Tangents.{IsNoMore, IsTangent}
use Rattle.hull_geometry.specs.declared.hand.Hand.{Hand}
use Rattle.hull_geometry.specs.declared.hand.Hand.TheVariants.{Left, Right}
use Rattle.hull_geometry.proofs.Orientation.{orient_swap}

-- exchanging two points negates the orientation
pub orient_by_back : (hand : Hand) (q s t : Pair) → orient_by hand q t s ≡ neg_ℤ (orient_by hand q s t)
orient_by_back Left q s t = orient_swap q s t
orient_by_back Right q s t = orient_swap q t s

-- no point is farther on a hand than itself
pub more_irrefl : (hand : Hand) (q x : Pair) → ¬ (IsMore hand q x x)
more_irrefl hand q x (inl h) = let e = orient_by_back hand q x x in omega (arith, ints)
more_irrefl hand q x (inr h) = omega (arith, ints, h.1)

-- if a point is no more on a hand than p, it is not farther there
pub no_more : (hand : Hand) (q p t : Pair) → IsNoMore hand q p t → ¬ (IsMore hand q t p)
no_more Left q p t k (inl g) = omega (arith, ints, k.0)
no_more Left q p t k (inr g) = omega (arith, ints, g.1, k.1 g.0)
no_more Right q p t k (inl g) = let e = orient_swap q t p in omega (arith, ints, k.0)
no_more Right q p t k (inr g) = let e = orient_swap q p t in omega (arith, ints, g.1, k.1 (e ∙ ap neg_ℤ g.0))

-- if a point is not farther on a hand than p, it is no more there
not_more : (hand : Hand) (q p t : Pair) → ¬ (IsMore hand q t p) → IsNoMore hand q p t
not_more Left q p t n = grind (arith, common_steps, le_or_lt, orient, pos, n, distance_squared)
not_more Right q p t n = grind (arith, common_steps, orient, neg_ℤ, orient_swap, le_or_lt, pos, ints, n, distance_squared)

-- the tangent touches a point if no point is farther on its hand
pub tangent_of : (hand : Hand) (S : List Pair) (q p : Pair) → Contains S p → All (λ t. ¬ (IsMore hand q t p)) S
    → IsTangent hand S q p
tangent_of hand S q p m h = (m, All-weaker (λ t. ¬ (IsMore hand q t p)) (IsNoMore hand q p) (not_more hand q p) S h)
