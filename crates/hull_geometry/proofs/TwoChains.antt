-- The two chains of a hull make its vertex list and its doubled area.
use Rattle.std.proofs.Common.{◌≡◌, ℕ, ℤ, pos, ◌+ℤ◌, ◌≤ℤ◌, inl, inr, refl, sym, ap, ◌∙◌, subst, List, arith}
use Rattle.std.proofs.Common.{[], ◌∷◌, ◌++◌, ◌<◌, ◌≤◌, ◌-◌, ◌+◌, length, get_or}
use Rattle.std.proofs.lemmas.Bool.{cases_lt}
use Rattle.std.proofs.lemmas.Int.{ints}
use Rattle.std.proofs.lemmas.List.Elements.{All-contains}
use Rattle.std.specs.List.{Contains}
use Rattle.std.specs.Prelude.{◌≢◌}
use Rattle.lattice.specs.Covers.{IsPointSet}
use Rattle.lattice.specs.Plane.{Pair, orient, IsBefore}
use Rattle.lattice.specs.Vertices.{IsVertexList, IsDoubledArea, fan, doubled_area}
use Rattle.lattice.proofs.Order.{before_irrefl, equal_by}
use Rattle.hull_geometry.specs.ChainEdges.{IsEdge}
use Rattle.hull_geometry.specs.Edges.{IsLowerEdge, IsUpperEdge, IsChain, end_of}
use Rattle.hull_geometry.specs.Monotone.{IsInner, IsChainOf, AreChainsOf, fan_from, fan_of}
use Rattle.lattice.specs.Orientations.{orient_on}
use Rattle.hull_geometry.specs.Positions.{point_at, origin}
use Rattle.lattice.specs.declared.side.Side.{Side}
use Rattle.lattice.specs.declared.side.Side.TheVariants.{Lower, Upper}
use Rattle.hull_geometry.proofs.ChainEdges.{chain_edges, lower_edge, upper_edge}
use Rattle.hull_geometry.proofs.ChainPlaces.{chain_edge, chain_in, first_of, last_of, none_of, some_chain, end_at}
use Rattle.hull_geometry.proofs.PointLists.{AllPairs-head, get_or_free, only_member}
use Rattle.hull_geometry.proofs.Rounding.{fan-append, fan-back, fan-push, small_list}
use Rattle.hull_geometry.proofs.VertexLists.{chain_push, end_push, vertex_list}
use Rattle.hull_geometry.proofs.Orientation.{orient-cycle}

-- ---- few points

-- a set that has only the point x is the list of x
alone : (x : Pair) (xs : List Pair) → IsPointSet xs → ((t : Pair) → Contains xs t → t ≡ x) → 0 < length xs
    → xs ≡ x ∷ []
alone x [] s h l = absurd (omega (arith, l))
alone x (y ∷ []) s h l = ap (λ (z : Pair). z ∷ []) (h y (0, omega arith, refl))
alone x (y ∷ z ∷ zs) s h l =
    absurd (before_irrefl x (subst (λ (t : Pair). IsBefore t x) (h y (0, omega arith, refl))
    (subst (IsBefore y) (h z (1, omega arith, refl))
    (All-contains (IsBefore y) (z ∷ zs) z (AllPairs-head y (z ∷ zs) s) (0, omega arith, refl)))))

-- if one chain is only x, the whole set is only x
alone_of : (side : Side) (S : List Pair) (x : Pair) → IsPointSet S → IsChainOf side S (x ∷ []) → S ≡ x ∷ []
alone_of side S x s c = alone x S s (λ t m. only t (c.inner t m)) (there S (c.among x (0, omega arith, refl)))
  where
    only : (t : Pair) → IsInner side (x ∷ []) t → t ≡ x
    only t (inl e) = e
    only t (inr k) = elim k [ ]

    there : (xs : List Pair) → Contains xs x → 0 < length xs
    there xs m = omega (arith, m.1)

-- if one chain has fewer than two points, the other is the whole set
pub few_vertices : (S lower upper : List Pair) → IsPointSet S → AreChainsOf S lower upper → length upper < 2
    → IsVertexList S lower
few_vertices S lower [] s c l =
    let e : S ≡ [] = none_of Upper S [] c.above refl in
    subst (λ (z : List Pair). IsVertexList z lower) (sym e)
    (subst (IsVertexList []) (sym (no_points lower (λ t m. subst (λ (z : List Pair). Contains z t) e (c.below.among t m))))
    (small_list [] (omega arith)))
  where
    no_points : (xs : List Pair) → ((t : Pair) → Contains xs t → Contains [] t) → xs ≡ []
    no_points [] h = refl
    no_points (x ∷ xs) h = let m = h x (0, omega arith, refl) in absurd (omega (arith, m.1))
few_vertices S lower (x ∷ []) s c l =
    let e : S ≡ x ∷ [] = alone_of Upper S x s c.above in
    let f : lower ≡ x ∷ [] = alone x lower c.below.strict.ordered
    (λ t m. only_member x t (subst (λ (z : List Pair). Contains z t) e (c.below.among t m)))
    (some_chain Lower S lower x c.below (c.above.among x (0, omega arith, refl))) in
    subst (λ (z : List Pair). IsVertexList z lower) (sym e)
    (subst (IsVertexList (x ∷ [])) (sym f) (small_list (x ∷ []) (omega arith)))
few_vertices S lower (x ∷ y ∷ zs) s c l = absurd (omega (arith, l))

-- if a chain has a point, so has the set
pub some_points : (S lower upper : List Pair) → AreChainsOf S lower upper → 0 < length lower + length upper → S ≢ []
some_points S lower upper c l e =
    elim (cases_lt 0 (length lower)) [
      | inl h ↦ empty (chain_in Lower S lower 0 c.below h)
      | inr h ↦ empty (chain_in Upper S upper 0 c.above (omega (arith, l, h)))
    ]
  where
    empty : {t : Pair} → Contains S t → ⊥
    empty m = let n : length S ≡ 0 = ap (λ (z : List Pair). length z) e in omega (arith, m.1, n)

-- ---- the round

-- each step of the lower chain is a lower edge
lower_along : (S : List Pair) (x : Pair) (rest : List Pair) → IsChain (IsEdge Lower S) x rest
    → IsChain (IsLowerEdge S) x rest
lower_along S x [] c = tt
lower_along S x (y ∷ ys) c = (lower_edge c.0, lower_along S y ys c.1)

-- the first points of the two chains are equal
same_first : (S lower upper : List Pair) → AreChainsOf S lower upper → 0 < length lower → 0 < length upper
    → point_at upper 0 ≡ point_at lower 0
same_first S lower upper c l u =
    equal_by (point_at upper 0) (point_at lower 0)
    (first_of Lower S lower c.below (point_at upper 0) (chain_in Upper S upper 0 c.above u))
    (first_of Upper S upper c.above (point_at lower 0) (chain_in Lower S lower 0 c.below l))

-- the last points of the two chains are equal
same_last : (S lower upper : List Pair) → AreChainsOf S lower upper → 0 < length lower → 0 < length upper
    → point_at lower (length lower - 1) ≡ point_at upper (length upper - 1)
same_last S lower upper c l u =
    let i : length lower - 1 < length lower = omega (arith, l) in
    let j : length upper - 1 < length upper = omega (arith, u) in
    equal_by (point_at lower (length lower - 1)) (point_at upper (length upper - 1))
    (last_of Lower S lower c.below (point_at upper (length upper - 1))
    (chain_in Upper S upper (length upper - 1) c.above j))
    (last_of Upper S upper c.above (point_at lower (length lower - 1))
    (chain_in Lower S lower (length lower - 1) c.below i))

-- if one chain has two points, so has the other
two_of : (side other : Side) (S xs ys : List Pair) → IsPointSet S → IsChainOf side S xs → IsChainOf other S ys
    → 1 < length ys → 1 < length xs
two_of side other S [] ys s c o u =
    absurd (no_points (none_of side S [] c refl) (chain_in other S ys 0 o (omega (arith, u))))
  where
    no_points : {t : Pair} → S ≡ [] → Contains S t → ⊥
    no_points e m = let n : length S ≡ 0 = ap (λ (z : List Pair). length z) e in omega (arith, m.1, n)
two_of side other S (x ∷ []) ys s c o u =
    let f : IsEdge other S (point_at ys 0) (point_at ys 1) = chain_edge other S ys 0 o u in
    absurd (not_two (alone_of side S x s c) f.from f.to f.forward)
  where
    not_two : {a b : Pair} → S ≡ x ∷ [] → Contains S a → Contains S b → IsBefore a b → ⊥
    not_two {a} {b} e m n h =
        before_irrefl x (subst (λ (z : Pair). IsBefore z x) (only_member x a (subst (λ (z : List Pair). Contains z a) e m))
        (subst (IsBefore a) (only_member x b (subst (λ (z : List Pair). Contains z b) e n)) h))
two_of side other S (x ∷ l ∷ ls) ys s c o u = omega arith

-- the lower chain, and the upper one back without its ends, are the vertex list
pub round_vertices : (S lower upper ms : List Pair) → IsPointSet S → AreChainsOf S lower upper → 1 < length upper
    → IsChain (IsUpperEdge S) (point_at upper (length upper - 1)) (ms ++ point_at upper 0 ∷ [])
    → IsVertexList S (lower ++ ms)
round_vertices S [] upper ms s c u k = absurd (let n = two_of Lower Upper S [] upper s c.below c.above u in omega (arith, n))
round_vertices S (x ∷ []) upper ms s c u k = absurd (let n = two_of Lower Upper S (x ∷ []) upper s c.below c.above u in omega (arith, n))
round_vertices S (x ∷ l ∷ ls) upper ms s c u k =
    let first : point_at upper 0 ≡ x = same_first S (x ∷ l ∷ ls) upper c (omega arith) (omega (arith, u)) in
    let n : length (l ∷ ls) ≡ length (x ∷ l ∷ ls) - 1 = omega arith in
    let last : end_of x (l ∷ ls) ≡ point_at upper (length upper - 1) =
    end_at x (l ∷ ls) ∙ ap (λ (i : ℕ). point_at (x ∷ l ∷ ls) i) n
    ∙ same_last S (x ∷ l ∷ ls) upper c (omega arith) (omega (arith, u)) in
    vertex_list S x (point_at upper (length upper - 1)) l ls ms s
    (lower_along S x (l ∷ ls) (chain_edges Lower S x (l ∷ ls) c.below)) last
    (subst (λ (z : Pair). IsChain (IsUpperEdge S) (point_at upper (length upper - 1)) (ms ++ z ∷ [])) first k)
    (first_of Lower S (x ∷ l ∷ ls) c.below) (last_of Upper S upper c.above)

-- ---- the walk back along the upper chain

-- one more step back along the upper chain is an upper edge
pub back_more : (S upper passed : List Pair) (i : ℕ) (p : Pair) → IsChainOf Upper S upper → 2 < i → i ≤ length upper
    → p ≡ get_or upper (i - 1 - 1) p
    → IsChain (IsUpperEdge S) (point_at upper (length upper - 1)) passed
    → end_of (point_at upper (length upper - 1)) passed ≡ point_at upper (i - 1)
    → IsChain (IsUpperEdge S) (point_at upper (length upper - 1)) (passed ++ p ∷ [])
back_more S upper passed i p c some l e k ends =
    let j : i - 1 - 1 + 1 ≡ i - 1 = omega (arith, some) in
    let w : i - 1 - 1 + 1 < length upper = omega (arith, some, l) in
    let w' : i - 1 - 1 < length upper = omega (arith, l, some) in
    let edge : IsUpperEdge S (point_at upper (i - 1)) (point_at upper (i - 1 - 1)) =
    subst (λ (n : ℕ). IsUpperEdge S (point_at upper n) (point_at upper (i - 1 - 1))) j
    (upper_edge (chain_edge Upper S upper (i - 1 - 1) c w)) in
    chain_push (IsUpperEdge S) (point_at upper (length upper - 1)) passed p k
    (subst (λ (z : Pair). IsUpperEdge S z p) (sym ends)
    (subst (IsUpperEdge S (point_at upper (i - 1))) (sym (e ∙ get_or_free upper (i - 1 - 1) p origin w')) edge))

-- at the second point the list is complete
pub back_done : (S lower upper passed : List Pair) → IsPointSet S → AreChainsOf S lower upper → 1 < length upper
    → IsChain (IsUpperEdge S) (point_at upper (length upper - 1)) passed
    → end_of (point_at upper (length upper - 1)) passed ≡ point_at upper 1 → IsVertexList S (lower ++ passed)
back_done S lower upper passed s c u k ends =
    round_vertices S lower upper passed s c u
    (chain_push (IsUpperEdge S) (point_at upper (length upper - 1)) passed (point_at upper 0) k
    (subst (λ (z : Pair). IsUpperEdge S z (point_at upper 0)) (sym ends) (upper_edge (chain_edge Upper S upper 0 c.above u))))

-- ---- areas

-- all points of a chain but the last, from its end back
abbrev back : Pair → List Pair → List Pair
back x [] = []
back x (y ∷ ys) = back y ys ++ x ∷ []

-- the chain read backwards ends with the first point
end_back : (x : Pair) (rest : List Pair) → end_of (end_of x rest) (back x rest) ≡ x
end_back x [] = refl
end_back x (y ∷ ys) = end_push (end_of y ys) (back y ys) x

-- each step of the upper chain read backwards is an upper edge
back_along : (S : List Pair) (x : Pair) (rest : List Pair) → IsChain (IsEdge Upper S) x rest
    → IsChain (IsUpperEdge S) (end_of x rest) (back x rest)
back_along S x [] c = tt
back_along S x (y ∷ ys) c =
    chain_push (IsUpperEdge S) (end_of y ys) (back y ys) x (back_along S y ys c.1)
    (subst (λ (z : Pair). IsUpperEdge S z x) (sym (end_back y ys)) (upper_edge c.0))

-- the fan along them is the fan of the chain
fan_back : (f x : Pair) (rest : List Pair) → fan f (end_of x rest) (back x rest) ≡ fan_from Upper f x rest
fan_back f x [] = refl
fan_back f x (y ∷ ys) =
    let last : Pair = end_of y ys in
    let p : fan f (end_of y ys) (back y ys ++ x ∷ [])
    ≡ fan f (end_of y ys) (back y ys) +ℤ orient f (end_of (end_of y ys) (back y ys)) x =
    fan-push f (end_of y ys) x (back y ys) in
    let e : orient f (end_of (end_of y ys) (back y ys)) x ≡ orient y x f =
    ap (λ (z : Pair). orient f z x) (end_back y ys) ∙ sym (orient-cycle y x f) in
    let h = fan_back f y ys in
    omega (arith, ints)

-- the fan along a lower chain is the fan of the chain
fan_lower : (f x : Pair) (rest : List Pair) → fan f x rest ≡ fan_from Lower f x rest
fan_lower f x [] = refl
fan_lower f x (y ∷ ys) = let e = orient-cycle x y f in let h = fan_lower f y ys in omega (arith, ints)

-- fewer than two points have no fan
few_fan : (side : Side) (xs : List Pair) → length xs < 2 → fan_of side xs ≡ pos 0
few_fan side [] l = refl
few_fan side (x ∷ []) l = refl
few_fan side (x ∷ y ∷ ys) l = absurd (omega (arith, l))

-- fewer than two points have no area
few_area : (xs : List Pair) → length xs < 2 → doubled_area xs ≡ pos 0
few_area [] l = refl
few_area (x ∷ []) l = refl
few_area (x ∷ y ∷ ys) l = absurd (omega (arith, l))

-- the doubled area is the sum of the two fans: of two chains of two points or more
area_of_two : (S : List Pair) (a b : Pair) (rest : List Pair) (x y : Pair) (ys : List Pair) → IsPointSet S
    → AreChainsOf S (a ∷ b ∷ rest) (x ∷ y ∷ ys)
    → IsDoubledArea S (fan_of Lower (a ∷ b ∷ rest) +ℤ fan_of Upper (x ∷ y ∷ ys))
area_of_two S a b rest x y ys s c =
    let first : x ≡ a = same_first S (a ∷ b ∷ rest) (x ∷ y ∷ ys) c (omega arith) (omega arith) in
    let n : length (b ∷ rest) ≡ length (a ∷ b ∷ rest) - 1 = omega arith in
    let k : length (y ∷ ys) ≡ length (x ∷ y ∷ ys) - 1 = omega arith in
    let top : end_of x (y ∷ ys) ≡ point_at (x ∷ y ∷ ys) (length (x ∷ y ∷ ys) - 1) =
    end_at x (y ∷ ys) ∙ ap (λ (i : ℕ). point_at (x ∷ y ∷ ys) i) k in
    let last : end_of a (b ∷ rest) ≡ end_of x (y ∷ ys) =
    end_at a (b ∷ rest) ∙ ap (λ (i : ℕ). point_at (a ∷ b ∷ rest) i) n
    ∙ same_last S (a ∷ b ∷ rest) (x ∷ y ∷ ys) c (omega arith) (omega arith) ∙ sym top in
    let above : fan a (end_of x (y ∷ ys)) (back y ys) ≡ fan_from Upper x x (y ∷ ys) =
    subst (λ (z : Pair). fan z (end_of x (y ∷ ys)) (back y ys) ≡ fan_from Upper x x (y ∷ ys)) first
    (sym (fan-back x (end_of x (y ∷ ys)) (back y ys)) ∙ fan_back x x (y ∷ ys)) in
    let both : fan a a ((b ∷ rest) ++ back y ys) ≡ fan a a (b ∷ rest) +ℤ fan a (end_of x (y ∷ ys)) (back y ys) =
    fan-append a a (b ∷ rest) (back y ys) ∙ ap (λ (z : Pair). fan a a (b ∷ rest) +ℤ fan a z (back y ys)) last in
    let below : fan a a (b ∷ rest) ≡ fan_from Lower a a (b ∷ rest) = fan_lower a a (b ∷ rest) in (
      (a ∷ b ∷ rest) ++ back y ys,
      round_vertices S (a ∷ b ∷ rest) (x ∷ y ∷ ys) (back y ys) s c (omega arith)
          (subst (λ (z : Pair). IsChain (IsUpperEdge S) z (back y ys ++ x ∷ [])) top
          (back_along S x (y ∷ ys) (chain_edges Upper S x (y ∷ ys) c.above))),
      sum _ _ _ _ _ both below above,
    )
  where
    sum : (whole l u l' u' : ℤ) → whole ≡ l +ℤ u → l ≡ l' → u ≡ u' → l' +ℤ u' ≡ whole
    sum whole l u l' u' e f g = omega (arith, ints)

-- the doubled area is the sum of the two fans
pub fans_area : (S lower upper : List Pair) (m n : ℕ) → IsPointSet S → AreChainsOf S lower upper
    → pos m ≡ fan_of Lower lower → pos n ≡ fan_of Upper upper → IsDoubledArea S (pos (m + n))
fans_area S lower upper m n s c e f = elim (cases_lt 1 (length upper)) [
  | inr h ↦ few (omega (arith, h))
  | inl h ↦ many lower upper c (two_of Lower Upper S lower upper s c.below c.above h) h e f
]
  where
    few : length upper < 2 → IsDoubledArea S (pos (m + n))
    few u = elim (cases_lt 1 (length lower)) [
      | inl h ↦ absurd (let k = two_of Upper Lower S upper lower s c.above c.below h in omega (arith, k, u))
      | inr h ↦ let l : length lower < 2 = omega (arith, h) in (
        lower,
        few_vertices S lower upper s c u,
        none _ _ (e ∙ few_fan Lower lower l) (f ∙ few_fan Upper upper u) ∙ sym (few_area lower l),
      )
    ]
      where
        none : (m n : ℕ) → pos m ≡ pos 0 → pos n ≡ pos 0 → pos (m + n) ≡ pos 0
        none m n e f = omega (arith, ints)

    many : (lower upper : List Pair) → AreChainsOf S lower upper → 1 < length lower → 1 < length upper
        → pos m ≡ fan_of Lower lower → pos n ≡ fan_of Upper upper → IsDoubledArea S (pos (m + n))
    many [] upper c l u e f = absurd (omega (arith, l))
    many (a ∷ []) upper c l u e f = absurd (omega (arith, l))
    many (a ∷ b ∷ rest) [] c l u e f = absurd (omega (arith, u))
    many (a ∷ b ∷ rest) (x ∷ []) c l u e f = absurd (omega (arith, u))
    many (a ∷ b ∷ rest) (x ∷ y ∷ ys) c l u e f =
        subst (IsDoubledArea S) (sum _ _ m n e f) (area_of_two S a b rest x y ys s c)
      where
        sum : (p q : ℤ) (m n : ℕ) → pos m ≡ p → pos n ≡ q → p +ℤ q ≡ pos (m + n)
        sum p q m n e f = omega (arith, ints)

-- ---- the sum along a chain

-- the triangle between an edge and the first point does not bend outwards
pub triangle : (side : Side) (S chain : List Pair) (i : ℕ) (a b c : Pair) → IsChainOf side S chain → 0 < i
    → i < length chain → a ≡ get_or chain (i - 1) a → b ≡ get_or chain i b → c ≡ get_or chain 0 c
    → pos 0 ≤ℤ orient_on side a b c
triangle side S chain i a b c k some l ea eb ec =
    let n : i - 1 + 1 ≡ i = omega (arith, some) in
    let w : i - 1 + 1 < length chain = omega (arith, some, l) in
    let w' : i - 1 < length chain = omega (arith, l) in
    let z : 0 < length chain = omega (arith, l) in
    let edge : IsEdge side S (point_at chain (i - 1)) (point_at chain i) =
    subst (λ (j : ℕ). IsEdge side S (point_at chain (i - 1)) (point_at chain j)) n
    (chain_edge side S chain (i - 1) k w) in
    let first : Contains S c = k.among c (0, z, sym ec) in
    subst (λ (p : Pair). pos 0 ≤ℤ orient_on side p b c) (sym (ea ∙ get_or_free chain (i - 1) a origin w'))
    (subst (λ (p : Pair). pos 0 ≤ℤ orient_on side (point_at chain (i - 1)) p c) (sym (eb ∙ get_or_free chain i b origin l))
    (edge.beside c first).inwards)
