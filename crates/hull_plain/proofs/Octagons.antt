-- An octagon inside a hull: sets with the same chains have the same points inside, and eight points round q have q inside.
use Rattle.std.proofs.Common.{◌≡◌, ℤ, pos, negsuc, ◌+ℤ◌, ◌-ℤ◌, ◌*ℤ◌, ◌≤ℤ◌, ◌<ℤ◌, neg_ℤ, ◌⊎◌, inl, inr, refl, sym, subst, List, [], ◌∷◌, arith}
use Rattle.std.specs.List.{Contains}
use Rattle.std.proofs.lemmas.Int.{ints}
use Rattle.std.proofs.lemmas.List.Elements.{All-contains}
use Rattle.lattice.specs.Covers.{Covers, Member, IsPointSet, with_point}
use Rattle.lattice.specs.Places.{IsFarthest, IsInside}
use Rattle.lattice.specs.Plane.{Pair, product, IsZero}
use Rattle.lattice.specs.Polynomials.{as_difference, difference-eq, difference_rules}
use Rattle.lattice.specs.Signs.{le_or_lt, product_nn, product_pp}
use Rattle.lattice.specs.declared.side.Side.{Side}
use Rattle.lattice.specs.declared.side.Side.TheVariants.{Lower, Upper}
use Rattle.lattice.proofs.Order.{same_pair}
use Rattle.lattice.proofs.Vectors.{as_pair}
use Rattle.hull_geometry.specs.ChainEdges.{IsEdge}
use Rattle.hull_geometry.specs.Edges.{IsChain}
use Rattle.hull_geometry.specs.Monotone.{AreChainsOf, IsChainOf, IsInner, IsInnerFrom, IsInwards}
use Rattle.hull_geometry.proofs.CandidateListHulls.{covers_more}
use Rattle.hull_geometry.proofs.ChainEdges.{chain_edges, lower_edge, upper_edge}
use Rattle.hull_geometry.proofs.Decided.{covers_or_separated}
use Rattle.hull_geometry.proofs.EdgePlaces.{between_covered}
use Rattle.hull_geometry.proofs.NotCovered.{Separated, not_covered}
use Rattle.hull_geometry.proofs.PointLists.{all_of}
use Rattle.hull_geometry.proofs.SetLaws.{members_with}
use Rattle.hull_plain.specs.Octagons.{IsOctagonInside}
use Rattle.hull_plain.specs.declared.octagon.Octagon.{Octagon}
use Rattle.hull_plain.proofs.Covered.{covered_inner}

-- ---- sets with the same chains

-- u is a point of S, or inwards of an edge
abbrev IsAtEdge : Side → List Pair → Pair → Type 0
IsAtEdge side S u = Contains S u ⊎ ((a : Pair) × (b : Pair) × IsEdge side S a b × IsInwards side a b u)

-- a point that is inner to a chain of edges after its first point is a point of S or inwards of an edge
after_first : (side : Side) (S : List Pair) (a : Pair) (rest : List Pair) (u : Pair) → IsChain (IsEdge side S) a rest
    → IsInnerFrom side a rest u → IsAtEdge side S u
after_first side S a [] u e k = elim k [ ]
after_first side S a (b ∷ rest) u e (inl q) = inl (subst (Contains S) (sym q) e.0.to)
after_first side S a (b ∷ rest) u e (inr (inl k)) = inr (a, b, e.0, k)
after_first side S a (b ∷ rest) u e (inr (inr k)) = after_first side S b rest u e.1 k

-- a point that is inner to the chain of S is a point of S or inwards of an edge
at_edge : (side : Side) (S chain : List Pair) (u : Pair) → IsChainOf side S chain → IsInner side chain u → IsAtEdge side S u
at_edge side S [] u c k = elim k [ ]
at_edge side S (a ∷ rest) u c (inl e) = inl (subst (Contains S) (sym e) (c.among a (0, omega arith, refl)))
at_edge side S (a ∷ rest) u c (inr k) = after_first side S a rest u (chain_edges side S a rest c) k

-- a point that is inner to both chains of S is covered
inner_covered : (S lower upper : List Pair) (u : Pair) → AreChainsOf S lower upper → IsInner Lower lower u
    → IsInner Upper upper u → Covers S u
inner_covered S lower upper u c below above =
    elim (at_edge Lower S lower u c.below below) [
      | inl m ↦ Member m
      | inr e ↦ elim (at_edge Upper S upper u c.above above) [
        | inl m ↦ Member m
        | inr f ↦ between_covered S u e.0 e.1 f.1 f.0 (lower_edge e.2) (upper_edge f.2) e.3.0 e.3.1 f.3.1 f.3.0 e.3.2 f.3.2
      ]
    ]

-- of two sets with the same chains the second covers what the first covers
same_covered : (S T lower upper : List Pair) (u : Pair) → AreChainsOf S lower upper → AreChainsOf T lower upper → Covers S u
    → Covers T u
same_covered S T lower upper u c k covered =
    inner_covered T lower upper u k (covered_inner Lower S lower u c.below covered) (covered_inner Upper S upper u c.above covered)

-- a point that S covers is no farther than one than which none of S is farther
no_farther : (S : List Pair) (d q u : Pair) → IsFarthest S d q → Covers S u → product d u ≤ℤ product d q
no_farther S d q u far covered =
    elim (le_or_lt (product d u) (product d q)) [
      | inl h ↦ h
      | inr h ↦ absurd (not_covered S u (
        d,
        all_of (λ t. product d t <ℤ product d u) S
            (λ t m. less _ _ _ (All-contains (λ t. product d t ≤ℤ product d q) S t far m) h),
      ) covered)
    ]
  where
    less : (a b c : ℤ) → a ≤ℤ b → b <ℤ c → a <ℤ c
    less a b c h k = omega (arith, ints)

-- of two sets with the same chains the second has inside what the first has inside
same_inside : (S T lower upper : List Pair) (q : Pair) → AreChainsOf S lower upper → AreChainsOf T lower upper → IsInside S q
    → IsInside T q
same_inside S T lower upper q c k i = (
  same_covered S T lower upper q c k i.0,
  λ o. i.1 (
    o.0,
    o.1,
    all_of (λ t. product o.0 t ≤ℤ product o.0 q) S
        (λ t m. no_farther T o.0 q t o.2 (same_covered S T lower upper t c k (Member m))),
  ),
)

-- a point inside S is inside S with a point
inside_with : (S : List Pair) (p q : Pair) → IsInside S q → IsInside (with_point p S) q
inside_with S p q i = (
  covers_more S (with_point p S) q (λ t m. (members_with p t S).1 (inr m)) i.0,
  λ o. i.1 (
    o.0,
    o.1,
    all_of (λ t. product o.0 t ≤ℤ product o.0 q) S
        (λ t m. All-contains (λ t. product o.0 t ≤ℤ product o.0 q) (with_point p S) t o.2 ((members_with p t S).1 (inr m))),
  ),
)

-- an octagon inside a hull is inside the hull that has grown by a point
pub octagon_stays : (S : List Pair) (p : Pair) (lower upper below above : List Pair) (o : Octagon) → IsPointSet S
    → AreChainsOf S lower upper → AreChainsOf (with_point p S) below above → IsOctagonInside lower upper o
    → IsOctagonInside below above o
octagon_stays S p lower upper below above o s c grown inside =
    λ T t k q w. same_inside (with_point p S) T below above q grown k (inside_with S p q (inside S s c q w))

-- ---- eight points round q

-- for each two adjacent normals of an octagon's sides, a point of S that is farther than q along both
pub record IsSurrounded (S : List Pair) (q : Pair) : Type 0 where
  pub right_up : (c : Pair) × Contains S c × (q.x <ℤ c.x) × ((q.x +ℤ q.y) <ℤ (c.x +ℤ c.y))
  pub up_right : (c : Pair) × Contains S c × (q.y <ℤ c.y) × ((q.x +ℤ q.y) <ℤ (c.x +ℤ c.y))
  pub up_left : (c : Pair) × Contains S c × (q.y <ℤ c.y) × ((c.x -ℤ c.y) <ℤ (q.x -ℤ q.y))
  pub left_up : (c : Pair) × Contains S c × (c.x <ℤ q.x) × ((c.x -ℤ c.y) <ℤ (q.x -ℤ q.y))
  pub left_down : (c : Pair) × Contains S c × (c.x <ℤ q.x) × ((c.x +ℤ c.y) <ℤ (q.x +ℤ q.y))
  pub down_left : (c : Pair) × Contains S c × (c.y <ℤ q.y) × ((c.x +ℤ c.y) <ℤ (q.x +ℤ q.y))
  pub down_right : (c : Pair) × Contains S c × (c.y <ℤ q.y) × ((q.x -ℤ q.y) <ℤ (c.x -ℤ c.y))
  pub right_down : (c : Pair) × Contains S c × (q.x <ℤ c.x) × ((q.x -ℤ q.y) <ℤ (c.x -ℤ c.y))

-- the direction of two numbers
abbrev vector : ℤ → ℤ → Pair
vector dx dy = record { x = dx; y = dy }

-- how far a point lies in it
abbrev along : ℤ → ℤ → Pair → ℤ
along dx dy p = dx *ℤ p.x +ℤ dy *ℤ p.y

-- weights, none of them below 0 and one above, of two numbers above 0 have a sum above 0
weighted : (a b m n : ℤ) → pos 0 ≤ℤ a → pos 0 ≤ℤ b → pos 0 <ℤ (a +ℤ b) → pos 0 <ℤ m → pos 0 <ℤ n
    → pos 0 <ℤ (a *ℤ m +ℤ b *ℤ n)
weighted a b m n ha hb some hm hn =
    elim (le_or_lt a (pos 0)) [
      | inl h ↦ let p : pos 0 <ℤ (b *ℤ n) = product_pp b n (omega (arith, ints)) hn in
          let k : pos 0 ≤ℤ (a *ℤ m) = product_nn a m ha (omega (arith, ints)) in omega (arith, ints)
      | inr h ↦ let p : pos 0 <ℤ (a *ℤ m) = product_pp a m h hm in
          let k : pos 0 ≤ℤ (b *ℤ n) = product_nn b n hb (omega (arith, ints)) in omega (arith, ints)
    ]

-- how much farther c is than q in a weighted sum of two directions
sum_gap : (mx my nx ny a b : ℤ) (q c : Pair) → product (vector (a *ℤ mx +ℤ b *ℤ nx) (a *ℤ my +ℤ b *ℤ ny)) c
    ≡ product (vector (a *ℤ mx +ℤ b *ℤ nx) (a *ℤ my +ℤ b *ℤ ny)) q
    +ℤ (a *ℤ (along mx my c -ℤ along mx my q) +ℤ b *ℤ (along nx ny c -ℤ along nx ny q))
unfolding product
sum_gap mx my nx ny a b q c =
    rw (
      as_pair q,
      as_pair c,
      as_difference mx,
      as_difference my,
      as_difference nx,
      as_difference ny,
      as_difference a,
      as_difference b,
    )
    (simp difference_rules (difference-eq _ _ _ _ (omega arith)))

-- d is the weighted sum of two directions, with no weight below 0
abbrev IsSum : Pair → ℤ → ℤ → ℤ → ℤ → ℤ → ℤ → Type 0
IsSum d mx my nx ny a b = (pos 0 ≤ℤ a) × (pos 0 ≤ℤ b) × (d.x ≡ a *ℤ mx +ℤ b *ℤ nx) × (d.y ≡ a *ℤ my +ℤ b *ℤ ny)

-- some point of S is farther than q in both directions
abbrev IsPassed : List Pair → Pair → ℤ → ℤ → ℤ → ℤ → Type 0
IsPassed S q mx my nx ny =
    (c : Pair) × Contains S c × (along mx my q <ℤ along mx my c) × (along nx ny q <ℤ along nx ny c)

-- in a weighted sum of two directions, which is not zero, a point of S is farther than q if it is in both
farther_by : (S : List Pair) (q d : Pair) (mx my nx ny a b : ℤ) → ¬ IsZero d → IsSum d mx my nx ny a b
    → IsPassed S q mx my nx ny → (c : Pair) × Contains S c × (product d q <ℤ product d c)
farther_by S q d mx my nx ny a b nonzero (ha, hb, ex, ey) (c, mem, hm, hn) = (
  c,
  mem,
  subst (λ (e : Pair). product e q <ℤ product e c) (sym (same_pair d _ ex ey))
      (less _ _ _ (sum_gap mx my nx ny a b q c) (weighted a b _ _ ha hb some (above _ _ hm) (above _ _ hn))),
)
  where
    above : (x y : ℤ) → x <ℤ y → pos 0 <ℤ (y -ℤ x)
    above x y h = omega (arith, ints)

    less : (x y z : ℤ) → y ≡ x +ℤ z → pos 0 <ℤ z → x <ℤ y
    less x y z e h = omega (arith, ints)

    none : (x u v : ℤ) → a ≡ pos 0 → b ≡ pos 0 → x ≡ a *ℤ u +ℤ b *ℤ v → x ≡ pos 0
    none x u v za zb e = let k = rw (za, zb) at e in omega (arith, ints)

    some : pos 0 <ℤ (a +ℤ b)
    some = elim (le_or_lt (a +ℤ b) (pos 0)) [
      | inl h ↦ let za : a ≡ pos 0 = omega (arith, ints) in let zb : b ≡ pos 0 = omega (arith, ints) in
          absurd (nonzero (none d.x mx nx za zb ex, none d.y my ny za zb ey))
      | inr h ↦ h
    ]

-- in each direction one of the eight is farther than q
farther : (S : List Pair) (q d : Pair) → IsSurrounded S q → ¬ IsZero d
    → (c : Pair) × Contains S c × (product d q <ℤ product d c)
farther S q d w nonzero =
    elim (le_or_lt (pos 0) d.x) [
      | inl right ↦ elim (le_or_lt (pos 0) d.y) [
        | inl up ↦ elim (le_or_lt d.y d.x) [
          | inl flat ↦ farther_by S q d (pos 1) (pos 0) (pos 1) (pos 1) (d.x -ℤ d.y) d.y nonzero
              (omega (arith, ints), omega (arith, ints), omega (arith, ints), omega (arith, ints))
              (w.right_up.0, w.right_up.1, omega (arith, ints, w.right_up.2), omega (arith, ints, w.right_up.3))
          | inr steep ↦ farther_by S q d (pos 0) (pos 1) (pos 1) (pos 1) (d.y -ℤ d.x) d.x nonzero
              (omega (arith, ints), omega (arith, ints), omega (arith, ints), omega (arith, ints))
              (w.up_right.0, w.up_right.1, omega (arith, ints, w.up_right.2), omega (arith, ints, w.up_right.3))
        ]
        | inr down ↦ elim (le_or_lt (neg_ℤ d.y) d.x) [
          | inl flat ↦ farther_by S q d (pos 1) (pos 0) (pos 1) (negsuc 0) (d.x +ℤ d.y) (neg_ℤ d.y) nonzero
              (omega (arith, ints), omega (arith, ints), omega (arith, ints), omega (arith, ints))
              (w.right_down.0, w.right_down.1, omega (arith, ints, w.right_down.2), omega (arith, ints, w.right_down.3))
          | inr steep ↦ farther_by S q d (pos 0) (negsuc 0) (pos 1) (negsuc 0) (neg_ℤ (d.x +ℤ d.y)) d.x nonzero
              (omega (arith, ints), omega (arith, ints), omega (arith, ints), omega (arith, ints))
              (w.down_right.0, w.down_right.1, omega (arith, ints, w.down_right.2), omega (arith, ints, w.down_right.3))
        ]
      ]
      | inr left ↦ elim (le_or_lt (pos 0) d.y) [
        | inl up ↦ elim (le_or_lt d.y (neg_ℤ d.x)) [
          | inl flat ↦ farther_by S q d (negsuc 0) (pos 0) (negsuc 0) (pos 1) (neg_ℤ (d.x +ℤ d.y)) d.y nonzero
              (omega (arith, ints), omega (arith, ints), omega (arith, ints), omega (arith, ints))
              (w.left_up.0, w.left_up.1, omega (arith, ints, w.left_up.2), omega (arith, ints, w.left_up.3))
          | inr steep ↦ farther_by S q d (pos 0) (pos 1) (negsuc 0) (pos 1) (d.y +ℤ d.x) (neg_ℤ d.x) nonzero
              (omega (arith, ints), omega (arith, ints), omega (arith, ints), omega (arith, ints))
              (w.up_left.0, w.up_left.1, omega (arith, ints, w.up_left.2), omega (arith, ints, w.up_left.3))
        ]
        | inr down ↦ elim (le_or_lt d.x d.y) [
          | inl flat ↦ farther_by S q d (negsuc 0) (pos 0) (negsuc 0) (negsuc 0) (d.y -ℤ d.x) (neg_ℤ d.y) nonzero
              (omega (arith, ints), omega (arith, ints), omega (arith, ints), omega (arith, ints))
              (w.left_down.0, w.left_down.1, omega (arith, ints, w.left_down.2), omega (arith, ints, w.left_down.3))
          | inr steep ↦ farther_by S q d (pos 0) (negsuc 0) (negsuc 0) (negsuc 0) (d.x -ℤ d.y) (neg_ℤ d.x) nonzero
              (omega (arith, ints), omega (arith, ints), omega (arith, ints), omega (arith, ints))
              (w.down_left.0, w.down_left.1, omega (arith, ints, w.down_left.2), omega (arith, ints, w.down_left.3))
        ]
      ]
    ]

-- the zero direction sets no point apart
zero_apart : (d q c : Pair) → IsZero d → product d c <ℤ product d q → ⊥
unfolding product
zero_apart d q c z h = let k = rw (z.0, z.1) at h in omega (arith, ints)

-- so S has q inside
pub surrounded_inside : (S : List Pair) (q : Pair) → IsPointSet S → IsSurrounded S q → IsInside S q
surrounded_inside S q s w = (covered, λ o. not_farthest o.0 o.1 o.2)
  where
    both : (a b : ℤ) → a <ℤ b → b ≤ℤ a → ⊥
    both a b h k = omega (arith, ints)

    not_farthest : (d : Pair) → ¬ IsZero d → IsFarthest S d q → ⊥
    not_farthest d nonzero far =
        let c = farther S q d w nonzero in
        both _ _ c.2 (All-contains (λ t. product d t ≤ℤ product d q) S c.0 far c.1)

    at_most : (a b : ℤ) → a <ℤ b → a ≤ℤ b
    at_most a b h = omega (arith, ints)

    apart : Separated S q → ⊥
    apart p = not_farthest p.0
        (λ z. zero_apart p.0 q w.right_up.0 z
        (All-contains (λ t. product p.0 t <ℤ product p.0 q) S w.right_up.0 p.1 w.right_up.1))
        (all_of (λ t. product p.0 t ≤ℤ product p.0 q) S
        (λ t m. at_most _ _ (All-contains (λ t. product p.0 t <ℤ product p.0 q) S t p.1 m)))

    covered : Covers S q
    covered = elim (covers_or_separated S q s) [ inl c ↦ c | inr p ↦ absurd (apart p) ]
