-- If the hulls of two sets share a point, a point of one of them has passed a segment of the other: it lies on the line
-- through a point of the segment along a vector, and no less far on in a direction.
use Rattle.std.proofs.Common.{◌≡◌, ℤ, pos, ◌+ℤ◌, ◌-ℤ◌, ◌*ℤ◌, ◌≤ℤ◌, neg_ℤ, ◌⊎◌, inl, inr, refl, ◌∙◌, List, arith}
use Rattle.std.specs.List.{Contains}
use Rattle.std.proofs.lemmas.Int.{ints}
use Rattle.lattice.specs.Plane.{Pair, product}
use Rattle.lattice.specs.Polynomials.{difference-eq, as_difference, difference_rules}
use Rattle.lattice.proofs.Vectors.{as_pair, cross}
use Rattle.hull_polygon.proofs.Differences.{Shared}
use Rattle.first_meeting.proofs.Weights.{Two, Three, TwoOf, One, Four, OneOf, two_of_three, one_of_four}

-- how far back a point lies
abbrev pub behind : Pair → Pair → ℤ
behind f a = neg_ℤ (product f a)

-- a, on the line along w through a point of the segment from d to e, lies no less far on than that point
abbrev pub HasPassed : Pair → Pair → Pair → Pair → Pair → Type 0
HasPassed w f a d e = One (cross w a) (cross w d) (cross w e) (behind f a) (product f d) (product f e)

-- d, on the line along w through a point of the segment from a to b, lies no farther on than that point
abbrev pub IsPassed : Pair → Pair → Pair → Pair → Pair → Type 0
IsPassed w f d a b = One (cross w d) (cross w a) (cross w b) (product f d) (behind f a) (behind f b)

-- a point of A has passed a segment of B, or a segment of A a point of B
abbrev pub SomePassed : Pair → Pair → List Pair → List Pair → Type 0
SomePassed w f A B =
    ((a : Pair) × (d : Pair) × (e : Pair) × Contains A a × Contains B d × Contains B e × HasPassed w f a d e)
    ⊎ ((d : Pair) × (a : Pair) × (b : Pair) × Contains B d × Contains A a × Contains A b × IsPassed w f d a b)

-- weights of differences, of which two sums are 0
combined : (u v w m n x y z i j k : ℤ) → u *ℤ x +ℤ v *ℤ y +ℤ w *ℤ z ≡ pos 0 → u *ℤ i +ℤ v *ℤ j +ℤ w *ℤ k ≡ pos 0
    → u *ℤ (m *ℤ x -ℤ n *ℤ i) +ℤ v *ℤ (m *ℤ y -ℤ n *ℤ j) +ℤ w *ℤ (m *ℤ z -ℤ n *ℤ k) ≡ pos 0
combined u v w m n x y z i j k e f = spread u v w m n x y z i j k ∙ rw (e, f) (nothing m n)
  where
    nothing : (m n : ℤ) → m *ℤ pos 0 -ℤ n *ℤ pos 0 ≡ pos 0
    nothing m n = omega (arith, ints)

    spread : (u v w m n x y z i j k : ℤ)
        → u *ℤ (m *ℤ x -ℤ n *ℤ i) +ℤ v *ℤ (m *ℤ y -ℤ n *ℤ j) +ℤ w *ℤ (m *ℤ z -ℤ n *ℤ k)
        ≡ m *ℤ (u *ℤ x +ℤ v *ℤ y +ℤ w *ℤ z) -ℤ n *ℤ (u *ℤ i +ℤ v *ℤ j +ℤ w *ℤ k)
    spread u v w m n x y z i j k =
        rw (
          as_difference u,
          as_difference v,
          as_difference w,
          as_difference m,
          as_difference n,
          as_difference x,
          as_difference y,
          as_difference z,
          as_difference i,
          as_difference j,
          as_difference k,
        ) (simp difference_rules (difference-eq _ _ _ _ (omega arith)))

-- equal weighted sums have weighted differences that sum to 0
differences_level : (u v w a b c d e f : ℤ) → u *ℤ a +ℤ v *ℤ b +ℤ w *ℤ c ≡ u *ℤ d +ℤ v *ℤ e +ℤ w *ℤ f
    → u *ℤ (a -ℤ d) +ℤ v *ℤ (b -ℤ e) +ℤ w *ℤ (c -ℤ f) ≡ pos 0
differences_level u v w a b c d e f h = let s = spread u v w a b c d e f in omega (arith, ints)
  where
    spread : (u v w a b c d e f : ℤ)
        → u *ℤ (a -ℤ d) +ℤ v *ℤ (b -ℤ e) +ℤ w *ℤ (c -ℤ f)
        ≡ (u *ℤ a +ℤ v *ℤ b +ℤ w *ℤ c) -ℤ (u *ℤ d +ℤ v *ℤ e +ℤ w *ℤ f)
    spread u v w a b c d e f =
        rw (
          as_difference u,
          as_difference v,
          as_difference w,
          as_difference a,
          as_difference b,
          as_difference c,
          as_difference d,
          as_difference e,
          as_difference f,
        ) (simp difference_rules (difference-eq _ _ _ _ (omega arith)))

-- the difference of how far two points lie to the left of a vector
cross_difference : (w a d : Pair) → cross w a -ℤ cross w d ≡ w.x *ℤ (a.y -ℤ d.y) -ℤ w.y *ℤ (a.x -ℤ d.x)
cross_difference w a d = rw (as_pair w, as_pair a, as_pair d) (simp difference_rules (difference-eq _ _ _ _ (omega arith)))

-- the difference of how far they lie in a direction
product_difference : (f a d : Pair)
    → product f d -ℤ product f a ≡ neg_ℤ f.x *ℤ (a.x -ℤ d.x) -ℤ f.y *ℤ (a.y -ℤ d.y)
unfolding product
product_difference f a d = rw (as_pair f, as_pair a, as_pair d) (simp difference_rules (difference-eq _ _ _ _ (omega arith)))

-- a common point, by differences across the vector and along the direction
three_of : (A B : List Pair) (w f : Pair) (h : Shared A B)
    → Three (cross w h.a -ℤ cross w h.d) (cross w h.b -ℤ cross w h.e) (cross w h.c -ℤ cross w h.f)
    (product f h.d -ℤ product f h.a) (product f h.e -ℤ product f h.b) (product f h.f -ℤ product f h.c)
three_of A B w f h = record {
  u = h.u;
  v = h.v;
  w = h.w;
  u_nn = h.u_nn;
  v_nn = h.v_nn;
  w_nn = h.w_nn;
  some = h.some;
  level = rw (cross_difference w h.a h.d, cross_difference w h.b h.e, cross_difference w h.c h.f)
      (combined h.u h.v h.w w.x w.y _ _ _ _ _ _ along_y along_x);
  low = nothing _ (rw (product_difference f h.a h.d, product_difference f h.b h.e, product_difference f h.c h.f)
      (combined h.u h.v h.w (neg_ℤ f.x) f.y _ _ _ _ _ _ along_x along_y));
}
  where
    along_x : h.u *ℤ (h.a.x -ℤ h.d.x) +ℤ h.v *ℤ (h.b.x -ℤ h.e.x) +ℤ h.w *ℤ (h.c.x -ℤ h.f.x) ≡ pos 0
    along_x = differences_level h.u h.v h.w h.a.x h.b.x h.c.x h.d.x h.e.x h.f.x h.same_x

    along_y : h.u *ℤ (h.a.y -ℤ h.d.y) +ℤ h.v *ℤ (h.b.y -ℤ h.e.y) +ℤ h.w *ℤ (h.c.y -ℤ h.f.y) ≡ pos 0
    along_y = differences_level h.u h.v h.w h.a.y h.b.y h.c.y h.d.y h.e.y h.f.y h.same_y

    nothing : (x : ℤ) → x ≡ pos 0 → x ≤ℤ pos 0
    nothing x e = omega (arith, ints)

-- two differences are the weights of two points against two
four_of : (c d e f g h i j : ℤ) → Two (c -ℤ e) (d -ℤ f) (i -ℤ g) (j -ℤ h) → Four c d e f (neg_ℤ g) (neg_ℤ h) i j
four_of c d e f g h i j t = record {
  x = t.u;
  y = t.v;
  u = t.u;
  v = t.v;
  x_nn = t.u_nn;
  y_nn = t.v_nn;
  u_nn = t.u_nn;
  v_nn = t.v_nn;
  same = refl;
  some = t.some;
  level = level t.u t.v t.level;
  low = low t.u t.v t.low;
}
  where
    spread : (u v a b c d : ℤ) → u *ℤ (a -ℤ c) +ℤ v *ℤ (b -ℤ d) ≡ (u *ℤ a +ℤ v *ℤ b) -ℤ (u *ℤ c +ℤ v *ℤ d)
    spread u v a b c d =
        rw (as_difference u, as_difference v, as_difference a, as_difference b, as_difference c, as_difference d)
        (simp difference_rules (difference-eq _ _ _ _ (omega arith)))

    level : (u v : ℤ) → u *ℤ (c -ℤ e) +ℤ v *ℤ (d -ℤ f) ≡ pos 0 → u *ℤ c +ℤ v *ℤ d ≡ u *ℤ e +ℤ v *ℤ f
    level u v l = omega (arith, ints, spread u v c d e f)

    opposite : (u g v h : ℤ) → u *ℤ neg_ℤ g +ℤ v *ℤ neg_ℤ h ≡ neg_ℤ (u *ℤ g +ℤ v *ℤ h)
    opposite u g v h = rw (as_difference u, as_difference g, as_difference v, as_difference h)
        (simp difference_rules (difference-eq _ _ _ _ (omega arith)))

    low : (u v : ℤ) → (u *ℤ (i -ℤ g) +ℤ v *ℤ (j -ℤ h)) ≤ℤ pos 0
        → ((u *ℤ neg_ℤ g +ℤ v *ℤ neg_ℤ h) +ℤ (u *ℤ i +ℤ v *ℤ j)) ≤ℤ pos 0
    low u v l = omega (arith, ints, spread u v i j g h, opposite u g v h)

-- of two points and two, one has passed a segment or is passed by one
passed_of_two : (A B : List Pair) (w f a b d e : Pair) → Contains A a → Contains A b → Contains B d → Contains B e
    → Two (cross w a -ℤ cross w d) (cross w b -ℤ cross w e) (product f d -ℤ product f a) (product f e -ℤ product f b)
    → SomePassed w f A B
passed_of_two A B w f a b d e ma mb md me t =
    found (one_of_four (cross w a) (cross w b) (cross w d) (cross w e) (behind f a) (behind f b) (product f d) (product f e)
    (four_of (cross w a) (cross w b) (cross w d) (cross w e) (product f a) (product f b) (product f d) (product f e) t))
  where
    found : OneOf (cross w a) (cross w b) (cross w d) (cross w e) (behind f a) (behind f b) (product f d) (product f e)
        → SomePassed w f A B
    found (inl (inl o)) = inl (a, d, e, ma, md, me, o)
    found (inl (inr o)) = inl (b, d, e, mb, md, me, o)
    found (inr (inl o)) = inr (d, a, b, md, ma, mb, o)
    found (inr (inr o)) = inr (e, a, b, me, ma, mb, o)

-- sets that share a point have passed one another
pub passed : (A B : List Pair) (w f : Pair) → Shared A B → SomePassed w f A B
passed A B w f h = found (two_of_three _ _ _ _ _ _ (three_of A B w f h))
  where
    found : TwoOf (cross w h.a -ℤ cross w h.d) (cross w h.b -ℤ cross w h.e) (cross w h.c -ℤ cross w h.f)
        (product f h.d -ℤ product f h.a) (product f h.e -ℤ product f h.b) (product f h.f -ℤ product f h.c)
        → SomePassed w f A B
    found (inl t) = passed_of_two A B w f h.a h.b h.d h.e h.a_there h.b_there h.d_there h.e_there t
    found (inr (inl t)) = passed_of_two A B w f h.a h.c h.d h.f h.a_there h.c_there h.d_there h.f_there t
    found (inr (inr t)) = passed_of_two A B w f h.b h.c h.e h.f h.b_there h.c_there h.e_there h.f_there t
