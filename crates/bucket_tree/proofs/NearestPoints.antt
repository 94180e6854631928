-- The nearest point of lists of points, one after another.
use Rattle.std.proofs.Common.{◌≡◌, ◌⊎◌, ◌∙◌, ℕ, ◌+◌, ◌<◌, ℤ, pos, ◌+ℤ◌, ◌-ℤ◌, ◌*ℤ◌, ◌≤ℤ◌, ◌<ℤ◌, List, [], ◌∷◌}
use Rattle.std.proofs.Common.{◌++◌, length, get_or, take, zero, suc, inl, inr, refl, sym, ap, subst, arith}
use Rattle.std.proofs.lemmas.Int.{ints}
use Rattle.std.proofs.lemmas.List.{take_more}
use Rattle.std.proofs.lemmas.List.Elements.{All-cons, All-contains, All-head, All-tail}
use Rattle.std.proofs.lemmas.List.Elements.{Contains-append_cases, Contains-append_left, Contains-append_right}
use Rattle.std.specs.List.{All, Contains}
use Rattle.lattice.specs.Covers.{IsPointSet}
use Rattle.lattice.specs.Plane.{Pair, distance_squared, IsBefore}
use Rattle.lattice.specs.Polynomials.{difference-eq, as_difference, difference_rules}
use Rattle.lattice.specs.Signs.{le_or_lt, product_nn}
use Rattle.lattice.proofs.Order.{before_irrefl, before_not, before_total, before_trans}
use Rattle.hull_geometry.proofs.EdgeSteps.{square_nn}
use Rattle.hull_geometry.proofs.PointLists.{all_of}
use Rattle.hull_geometry.specs.Positions.{first_of, last_of}
use Rattle.bucket_tree.specs.NearestPoints.{IsAsNear, IsNearestPoint}
use Rattle.bucket_tree.specs.Nodes.{ends_in}
use Rattle.bucket_tree.specs.declared.node.Ends.{Ends}
use Rattle.bucket_tree.proofs.SetEnds.{by_first, by_last}

-- ---- the order of points by their distance from q

-- a point is as near as itself
itself : (q p : Pair) → IsAsNear q p p
itself q p = (omega (arith, ints), λ e. before_irrefl p)

-- the order is transitive
as_near_trans : (q a b c : Pair) → IsAsNear q a b → IsAsNear q b c → IsAsNear q a c
as_near_trans q a b c h k = (
  omega (arith, ints, h.0, k.0),
  λ e before. elim (before_total c b) [
    | inl x ↦ k.1 (omega (arith, ints, e, h.0, k.0)) x
    | inr (inl x) ↦ h.1 (omega (arith, ints, e, h.0, k.0)) (subst (λ (z : Pair). IsBefore z a) x before)
    | inr (inr x) ↦ h.1 (omega (arith, ints, e, h.0, k.0)) (before_trans b c a x before)
  ],
)

-- a point that is farther comes after
farther_after : (q a t : Pair) → distance_squared q a <ℤ distance_squared q t → IsAsNear q a t
farther_after q a t h = (omega (arith, ints, h), λ e. absurd (omega (arith, ints, h, e)))

-- ---- the nearest of several lists

-- one point is the nearest of itself
pub nearest_alone : (q p : Pair) → IsNearestPoint q (p ∷ []) p
nearest_alone q p = (
  (0, omega arith, refl),
  All-cons (IsAsNear q p) p [] (itself q p) (λ k d l. absurd (omega (arith, l))),
)

-- a candidate is the nearest if all points are farther
pub all_farther : (q p : Pair) (S : List Pair) → All (λ t. distance_squared q p <ℤ distance_squared q t) S
    → IsNearestPoint q (p ∷ S) p
all_farther q p S h = (
  (0, omega arith, refl),
  All-cons (IsAsNear q p) p S (itself q p) (λ k d l. farther_after q p (get_or S k d) (h k d l)),
)

-- of two points the one that is as near as the other
pub first_of_two : (q p t : Pair) → IsAsNear q p t → IsNearestPoint q (p ∷ t ∷ []) p
first_of_two q p t h = (
  (0, omega arith, refl),
  All-cons (IsAsNear q p) p (t ∷ []) (itself q p) (All-cons (IsAsNear q p) t [] h (λ k d l. absurd (omega (arith, l)))),
)

pub second_of_two : (q p t : Pair) → IsAsNear q t p → IsNearestPoint q (p ∷ t ∷ []) t
second_of_two q p t h = (
  (1, omega arith, refl),
  All-cons (IsAsNear q t) p (t ∷ []) h (All-cons (IsAsNear q t) t [] (itself q t) (λ k d l. absurd (omega (arith, l)))),
)

-- the second is nearer, or as near and before the first
pub nearer_wins : (q p t : Pair) (x y : ℤ) → x ≡ distance_squared q p → y ≡ distance_squared q t
    → (y <ℤ x) ⊎ ((y ≡ x) × IsBefore t p) → IsNearestPoint q (p ∷ t ∷ []) t
nearer_wins q p t x y ex ey (inl h) = second_of_two q p t (farther_after q t p (omega (arith, ints, h, ex, ey)))
nearer_wins q p t x y ex ey (inr h) =
    second_of_two q p t (omega (arith, ints, h.0, ex, ey), λ e b. before_not t p h.1 b)

-- or neither
pub other_stays : (q p t : Pair) (x y : ℤ) → x ≡ distance_squared q p → y ≡ distance_squared q t
    → ¬ ((y <ℤ x) ⊎ ((y ≡ x) × IsBefore t p)) → IsNearestPoint q (p ∷ t ∷ []) p
other_stays q p t x y ex ey n = elim (le_or_lt x y) [
  | inl le ↦ first_of_two q p t (omega (arith, ints, le, ex, ey), λ e b. n (inr (ey ∙ e ∙ sym ex, b)))
  | inr l ↦ absurd (n (inl l))
]

-- a member of a list with one more in front
rest_of : (x t : Pair) (xs : List Pair) → Contains xs t → Contains (x ∷ xs) t
rest_of x t xs (k, l, e) = (suc k, omega (arith, l), e)

-- it is the one in front, or in the list
front_or_rest : (x t : Pair) (xs : List Pair) → Contains (x ∷ xs) t → (x ≡ t) ⊎ Contains xs t
front_or_rest x t xs (zero, l, e) = inl e
front_or_rest x t xs (suc k, l, e) = inr (k, omega (arith, l), e)

-- the nearest of a candidate and some points, and then of that one and more
pub nearest_both : (q p r s : Pair) (xs ys zs : List Pair) → IsNearestPoint q (p ∷ xs) r → IsNearestPoint q (r ∷ ys) s
    → ((t : Pair) → Contains zs t → Contains xs t ⊎ Contains ys t) → ((t : Pair) → Contains xs t → Contains zs t)
    → ((t : Pair) → Contains ys t → Contains zs t) → IsNearestPoint q (p ∷ zs) s
nearest_both q p r s xs ys zs h k either left right = (
  elim (front_or_rest r s ys k.0) [
    | inl e ↦ subst (Contains (p ∷ zs)) e (elim (front_or_rest p r xs h.0) [
      | inl f ↦ (0, omega arith, f)
      | inr m ↦ rest_of p r zs (left r m)
    ])
    | inr m ↦ rest_of p s zs (right s m)
  ],
  All-cons (IsAsNear q s) p zs (first p (All-head (IsAsNear q r) p xs h.1)) (all_of (IsAsNear q s) zs (λ t m. elim (either t m) [
    | inl n ↦ first t (All-contains (IsAsNear q r) xs t (All-tail (IsAsNear q r) p xs h.1) n)
    | inr n ↦ All-contains (IsAsNear q s) ys t (All-tail (IsAsNear q s) r ys k.1) n
  ])),
)
  where
    first : (t : Pair) → IsAsNear q r t → IsAsNear q s t
    first t a = as_near_trans q s r t (All-head (IsAsNear q s) r ys k.1) a

-- of two lists in a row, the left one first
pub left_first : (q p r s : Pair) (xs ys : List Pair) → IsNearestPoint q (p ∷ xs) r → IsNearestPoint q (r ∷ ys) s
    → IsNearestPoint q (p ∷ (xs ++ ys)) s
left_first q p r s xs ys h k =
    nearest_both q p r s xs ys (xs ++ ys) h k (λ t m. Contains-append_cases xs ys t m)
    (λ t m. Contains-append_left xs ys t m) (λ t m. Contains-append_right xs ys t m)

-- or the right one first
pub right_first : (q p r s : Pair) (xs ys : List Pair) → IsNearestPoint q (p ∷ ys) r → IsNearestPoint q (r ∷ xs) s
    → IsNearestPoint q (p ∷ (xs ++ ys)) s
right_first q p r s xs ys h k =
    nearest_both q p r s ys xs (xs ++ ys) h k (λ t m. swapped t (Contains-append_cases xs ys t m))
    (λ t m. Contains-append_right xs ys t m) (λ t m. Contains-append_left xs ys t m)
  where
    swapped : (t : Pair) → Contains xs t ⊎ Contains ys t → Contains ys t ⊎ Contains xs t
    swapped t (inl m) = inr m
    swapped t (inr m) = inl m

-- one more point of a list
pub one_nearer : (q p r s x : Pair) (xs : List Pair) (i : ℕ) → i < length xs → x ≡ get_or xs i x
    → IsNearestPoint q (p ∷ take i xs) r → IsNearestPoint q (r ∷ x ∷ []) s → IsNearestPoint q (p ∷ take (i + 1) xs) s
one_nearer q p r s x xs i l e h k =
    subst (λ (z : List Pair). IsNearestPoint q (p ∷ z) s) (sym (take_more xs i x l ∙ ap (λ (z : Pair). take i xs ++ z ∷ []) (sym e)))
    (left_first q p r s (take i xs) (x ∷ []) h k)

-- a member of the list as the candidate
pub among_them : (q p r : Pair) (S : List Pair) → Contains S p → IsNearestPoint q (p ∷ S) r → IsNearestPoint q S r
among_them q p r S m h = (
  elim (front_or_rest p r S h.0) [ inl e ↦ subst (Contains S) e m | inr n ↦ n ],
  All-tail (IsAsNear q r) p S h.1,
)

-- ---- points that are farther along x

-- a squared distance is not below 0
pub distance_nn : (a b : Pair) → pos 0 ≤ℤ distance_squared a b
unfolding distance_squared
distance_nn a b =
    omega (arith, ints, square_nn (b.x -ℤ a.x), square_nn (b.y -ℤ a.y))

-- the squared distance of two points is at least the square of any gap between them along x
wide_apart : (q t : Pair) (g d : ℤ) → pos 0 ≤ℤ g → g ≤ℤ d → d *ℤ d ≡ (t.x -ℤ q.x) *ℤ (t.x -ℤ q.x)
    → (g *ℤ g) ≤ℤ distance_squared q t
unfolding distance_squared
wide_apart q t g d hg le e =
    omega (arith, ints, e, square_nn (t.y -ℤ q.y), squares d g, product_nn (d -ℤ g) (d +ℤ g) (omega (arith, ints)) (omega (arith, ints)))
  where
    squares : (d g : ℤ) → (d -ℤ g) *ℤ (d +ℤ g) ≡ d *ℤ d -ℤ g *ℤ g
    squares d g = rw (as_difference d, as_difference g) (simp difference_rules (difference-eq _ _ _ _ (omega arith)))

-- a point that begins this much farther right
pub farther_right : (q t : Pair) (first squared : ℤ) → pos 0 <ℤ (first -ℤ q.x) → squared <ℤ ((first -ℤ q.x) *ℤ (first -ℤ q.x))
    → first ≤ℤ t.x → squared <ℤ distance_squared q t
farther_right q t first squared h k le =
    over squared ((first -ℤ q.x) *ℤ (first -ℤ q.x)) (distance_squared q t) k
    (wide_apart q t (first -ℤ q.x) (t.x -ℤ q.x) (omega (arith, ints)) (omega (arith, ints)) refl)
  where
    over : (x y z : ℤ) → x <ℤ y → y ≤ℤ z → x <ℤ z
    over x y z h k = omega (arith, ints)

-- a point that ends this much farther left
pub farther_left : (q t : Pair) (last squared : ℤ) → pos 0 <ℤ (q.x -ℤ last) → squared <ℤ ((q.x -ℤ last) *ℤ (q.x -ℤ last))
    → t.x ≤ℤ last → squared <ℤ distance_squared q t
farther_left q t last squared h k le =
    over squared ((q.x -ℤ last) *ℤ (q.x -ℤ last)) (distance_squared q t) k
    (wide_apart q t (q.x -ℤ last) (q.x -ℤ t.x) (omega (arith, ints)) (omega (arith, ints)) (turned q.x t.x))
  where
    over : (x y z : ℤ) → x <ℤ y → y ≤ℤ z → x <ℤ z
    over x y z h k = omega (arith, ints)

    turned : (a b : ℤ) → (a -ℤ b) *ℤ (a -ℤ b) ≡ (b -ℤ a) *ℤ (b -ℤ a)
    turned a b = rw (as_difference a, as_difference b) (simp difference_rules (difference-eq _ _ _ _ (omega arith)))

-- the points of a set lie between its ends along x
pub from_first : (S : List Pair) (t : Pair) → IsPointSet S → Contains S t → (first_of S).x ≤ℤ t.x
from_first S t o m = elim (by_first S t o m) [
  | inl e ↦ subst (λ (z : Pair). z.x ≤ℤ t.x) e (omega (arith, ints))
  | inr b ↦ not_right (first_of S) t b
]
  where
    not_right : (p q : Pair) → IsBefore p q → p.x ≤ℤ q.x
    not_right p q (inl h) = omega (arith, ints)
    not_right p q (inr h) = omega (arith, ints, h.0)

pub to_last : (S : List Pair) (t : Pair) → IsPointSet S → Contains S t → t.x ≤ℤ (last_of S).x
to_last S t o m = elim (by_last S t o m) [
  | inl e ↦ subst (λ (z : Pair). t.x ≤ℤ z.x) e (omega (arith, ints))
  | inr b ↦ not_right t (last_of S) b
]
  where
    not_right : (p q : Pair) → IsBefore p q → p.x ≤ℤ q.x
    not_right p q (inl h) = omega (arith, ints)
    not_right p q (inr h) = omega (arith, ints, h.0)

-- if all points between the ends of a set are farther, the candidate is the nearest
pub between_ends : (q p : Pair) (squared : ℤ) (S : List Pair) (ends : Ends) → squared ≡ distance_squared q p → ends ≡ ends_in S
    → IsPointSet S → ((t : Pair) → ends.first.x ≤ℤ t.x → t.x ≤ℤ ends.last.x → squared <ℤ distance_squared q t)
    → IsNearestPoint q (p ∷ S) p
between_ends q p squared S ends e f o far =
    all_farther q p S (all_of (λ t. distance_squared q p <ℤ distance_squared q t) S (λ t m.
    subst (λ (z : ℤ). z <ℤ distance_squared q t) e
    (far t (subst (λ (z : Ends). z.first.x ≤ℤ t.x) (sym f) (from_first S t o m))
    (subst (λ (z : Ends). t.x ≤ℤ z.last.x) (sym f) (to_last S t o m)))))
