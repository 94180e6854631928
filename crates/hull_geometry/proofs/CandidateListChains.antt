-- The vertices of a hull are on every candidate list of its set, and the chain of a candidate list is the chain of the set.
use Rattle.std.proofs.Common.{◌≡◌, pos, ◌≤ℤ◌, ◌<ℤ◌, ◌⊎◌, inl, inr, refl, sym, subst, List, arith, [], ◌∷◌}
use Rattle.std.proofs.Common.{ℕ, zero, suc, Ok, take, drop, ◌+◌, ◌++◌}
use Rattle.std.specs.List.{Contains}
use Rattle.std.proofs.lemmas.Int.{ints}
use Rattle.lattice.specs.Covers.{IsPointSet, without_point}
use Rattle.lattice.specs.Plane.{Pair, IsBefore}
use Rattle.lattice.specs.Signs.{le_or_lt}
use Rattle.lattice.proofs.Order.{before_total, before_trans, before_not, equal_by}
use Rattle.hull_geometry.specs.ChainEdges.{IsEdge}
use Rattle.hull_geometry.specs.Edges.{IsChain, end_of}
use Rattle.hull_geometry.specs.Mending.{IsBetween, ThinsBetween}
use Rattle.hull_geometry.specs.Monotone.{IsInwards, IsInnerFrom, IsInner, IsPassed, IsCandidateListOf, IsChainOf}
use Rattle.lattice.specs.Orientations.{orient_on}
use Rattle.hull_geometry.specs.Positions.{IsPositionOf}
use Rattle.lattice.specs.declared.side.Side.{Side}
use Rattle.hull_geometry.proofs.ChainEdges.{chain_edges, chain_first, chain_last}
use Rattle.hull_geometry.proofs.Mended.{chain_of, left_or_gone, take_off_new, inner_still}
use Rattle.hull_geometry.proofs.Passes.{member_inner, thinned_of}
use Rattle.hull_geometry.proofs.SetLaws.{members_without}
use Rattle.hull_geometry.proofs.Orientations.{orient_on_cycle, orient_on_swap, strict_back, stays_outwards}

-- ---- vertices

-- no vertex lies inwards of a segment between two points of the set, by recursion along the chain
outwards_from : (side : Side) (S : List Pair) (x : Pair) (rest : List Pair) (t a b : Pair)
    → IsChain (IsEdge side S) x rest → Contains rest t → Contains S a → Contains S b → ¬ (IsInwards side a b t)
outwards_from side S x [] t a b e m ma mb k = omega (arith, m.1)
outwards_from side S x (y ∷ ys) t a b e (zero, l, q) ma mb (at, tb, h) =
    let f : IsEdge side S x t = subst (IsEdge side S x) q e.0 in
    let out : pos 0 <ℤ orient_on side t b a =
    strict_back side x t b a f.forward tb at (f.beside a ma).inwards ((f.beside b mb).after tb) in
    let c = orient_on_cycle side a t b in
    let d = orient_on_swap side a t b in
    omega (arith, ints)
outwards_from side S x (y ∷ ys) t a b e (suc k, l, q) ma mb i =
    outwards_from side S y ys t a b e.1 (k, omega (arith, l), q) ma mb i

-- no vertex lies inwards of a segment between two points of the set
pub vertex_outwards : (side : Side) (S chain : List Pair) (t a b : Pair) → IsChainOf side S chain → Contains chain t
    → Contains S a → Contains S b → ¬ (IsInwards side a b t)
vertex_outwards side S [] t a b c m ma mb k = omega (arith, m.1)
vertex_outwards side S (x ∷ rest) t a b c (zero, l, q) ma mb k =
    chain_first side S x rest c a ma (subst (IsBefore a) (sym q) k.0)
vertex_outwards side S (x ∷ rest) t a b c (suc k, l, q) ma mb i =
    outwards_from side S x rest t a b (chain_edges side S x rest c) (k, omega (arith, l), q) ma mb i

-- a point that is inner to a list of points of a set is one of them, or lies inwards of a segment between two, by
-- recursion
whence_from : (side : Side) (S : List Pair) (x : Pair) (rest : List Pair) (t : Pair)
    → ((u : Pair) → Contains (x ∷ rest) u → Contains S u)
    → ((a b : Pair) → Contains S a → Contains S b → ¬ (IsInwards side a b t)) → IsInnerFrom side x rest t
    → Contains rest t
whence_from side S x [] t among out k = elim k [ ]
whence_from side S x (y ∷ ys) t among out (inl e) = (0, omega arith, sym e)
whence_from side S x (y ∷ ys) t among out (inr (inl k)) =
    absurd (out x y (among x (0, omega arith, refl)) (among y (1, omega arith, refl)) k)
whence_from side S x (y ∷ ys) t among out (inr (inr k)) =
    let r = whence_from side S y ys t (λ u m. among u (suc m.0, omega (arith, m.1), m.2)) out k in
    (suc r.0, omega (arith, r.1), r.2)

-- a point that lies inwards of no segment between two points of the set is on the candidate list
on_candidates : (side : Side) (S candidates : List Pair) (t : Pair) → ((u : Pair) → Contains candidates u → Contains S u)
    → ((a b : Pair) → Contains S a → Contains S b → ¬ (IsInwards side a b t)) → IsInner side candidates t
    → Contains candidates t
on_candidates side S [] t among out k = elim k [ ]
on_candidates side S (x ∷ rest) t among out (inl e) = (0, omega arith, sym e)
on_candidates side S (x ∷ rest) t among out (inr k) =
    let r = whence_from side S x rest t among out k in (suc r.0, omega (arith, r.1), r.2)

-- the vertices that stay when points are removed from a set are on every candidate list of the rest
pub vertices_kept : (side : Side) (S keys candidates chain : List Pair) → ((t : Pair) → Contains keys t → Contains S t)
    → IsCandidateListOf side keys candidates → IsChainOf side S chain → (t : Pair) → Contains chain t → Contains keys t
    → Contains candidates t
vertices_kept side S keys candidates chain in_S f c t m n =
    on_candidates side S candidates t (λ u k. in_S u (f.among u k))
    (λ a b ma mb. vertex_outwards side S chain t a b c m ma mb) (f.inner t n)

-- ---- chains

-- a point that lies inwards of the segment between two points of a set, and between the ends of a chain of its edges,
-- is inner to the chain
along : (side : Side) (S : List Pair) (x : Pair) (rest : List Pair) (u a b : Pair) → IsChain (IsEdge side S) x rest
    → Contains S a → Contains S b → IsInwards side a b u → ¬ (IsBefore u x) → ¬ (IsBefore (end_of x rest) u)
    → IsInner side (x ∷ rest) u
along side S x [] u a b e ma mb i h k = inl (equal_by u x h k)
along side S x (y ∷ ys) u a b e ma mb i h k =
    elim (before_total u y) [
      | inl uy ↦ elim (before_total x u) [
        | inl xu ↦ inr (inr (inl (xu, uy, inwards)))
        | inr (inl q) ↦ inl (sym q)
        | inr (inr ux) ↦ absurd (h ux)
      ]
      | inr (inl q) ↦ inr (inl q)
      | inr (inr yu) ↦ further (along side S y ys u a b e.1 ma mb i (before_not y u yu) k)
    ]
  where
    inwards : pos 0 ≤ℤ orient_on side x y u
    inwards = elim (le_or_lt (pos 0) (orient_on side x y u)) [
      | inl n ↦ n
      | inr n ↦ absurd (let m = stays_outwards side x y a u b e.0.forward i.0 i.1 n (e.0.beside a ma).inwards
          (e.0.beside b mb).inwards in let o = i.2 in omega (arith, ints))
    ]

    further : IsInner side (y ∷ ys) u → IsInner side (x ∷ y ∷ ys) u
    further (inl q) = inr (inl q)
    further (inr m) = inr (inr (inr m))

-- a point that lies inwards of the segment between two points of a set is inner to the chain of the set
pub between_inner : (side : Side) (S chain : List Pair) (u a b : Pair) → IsChainOf side S chain → Contains S a
    → Contains S b → IsInwards side a b u → IsInner side chain u
between_inner side S [] u a b c ma mb i = absurd (c.inner a ma)
between_inner side S (x ∷ rest) u a b c ma mb i =
    along side S x rest u a b (chain_edges side S x rest c) ma mb i
    (λ ux. chain_first side S x rest c a ma (before_trans a u x i.0 ux))
    (λ eu. chain_last side S x rest c b mb (before_trans (end_of x rest) u b eu i.1))

-- a point that is inner to points of a set is inner to the chain of the set, by recursion
through_from : (side : Side) (S chain : List Pair) (x : Pair) (rest : List Pair) (u : Pair) → IsChainOf side S chain
    → ((t : Pair) → Contains (x ∷ rest) t → Contains S t) → IsInnerFrom side x rest u → IsInner side chain u
through_from side S chain x [] u c among k = elim k [ ]
through_from side S chain x (y ∷ ys) u c among (inl e) =
    subst (IsInner side chain) (sym e) (c.inner y (among y (1, omega arith, refl)))
through_from side S chain x (y ∷ ys) u c among (inr (inl k)) =
    between_inner side S chain u x y c (among x (0, omega arith, refl)) (among y (1, omega arith, refl)) k
through_from side S chain x (y ∷ ys) u c among (inr (inr k)) =
    through_from side S chain y ys u c (λ t m. among t (suc m.0, omega (arith, m.1), m.2)) k

-- a point that is inner to a set in order is inner to the chain of the set
pub through : (side : Side) (S chain : List Pair) (u : Pair) → IsChainOf side S chain → IsInner side S u
    → IsInner side chain u
through side [] chain u c k = elim k [ ]
through side (x ∷ rest) chain u c (inl e) =
    subst (IsInner side chain) (sym e) (c.inner x (0, omega arith, refl))
through side (x ∷ rest) chain u c (inr k) = through_from side (x ∷ rest) chain x rest u c (λ t m. m) k

-- the chain of a candidate list is the chain of the set
pub chain_of_candidates : (side : Side) (S candidates chain : List Pair) → IsCandidateListOf side S candidates
    → IsChainOf side candidates chain → IsChainOf side S chain
chain_of_candidates side S candidates chain f c = record {
  strict = c.strict;
  among = λ t m. f.among t (c.among t m);
  inner = λ u m. through side candidates chain u c (f.inner u m);
}

-- the result of a pass over the vertices before p, the points of the candidate list between its neighbours, and the
-- vertices after it, is the chain of the set without p
pub delete_new : (side : Side) (S candidates chain middle new : List Pair) (p : Pair) (i : ℕ) → IsPointSet S
    → IsPositionOf chain p (Ok i) → ((t : Pair) → Contains chain t → (t ≡ p) ⊎ Contains candidates t)
    → IsBetween candidates (take i chain) (drop (i + 1) chain) middle
    → IsPassed side (take i chain ++ middle ++ drop (i + 1) chain) new → IsChainOf side S chain
    → IsCandidateListOf side (without_point p S) candidates → IsChainOf side (without_point p S) new
delete_new side S candidates chain middle new p i s at among k h c f =
    chain_of_candidates side (without_point p S) candidates new f
    (chain_of side candidates new
    (take_off_new side candidates chain middle new p i c.strict.ordered at among
    (λ u m. inner_still side (without_point p S) S chain p s refl c.inner u (f.among u m)) k
    (thinned_of side (take i chain ++ middle ++ drop (i + 1) chain) new h)) h.strict.convex)

-- all points of a set without some inner ones are a candidate list of it
pub whole_candidates : (side : Side) (S new : List Pair) → ThinsBetween side S [] [] new → IsCandidateListOf side S new
whole_candidates side S new (middle, k, h) = record {
  ordered = h.ordered;
  among = λ t m. k.among t (h.among t m);
  inner = λ u m. h.inner u (member_inner side middle u (k.all u m (λ j d l. absurd (omega (arith, l)))
      (λ j d l. absurd (omega (arith, l)))));
}

-- a vertex of a set is the point that was removed, or on every candidate list of the rest
pub vertices_left : (side : Side) (S keys candidates chain : List Pair) (p : Pair) → IsPointSet S → keys ≡ without_point p S
    → IsChainOf side S chain → IsCandidateListOf side keys candidates → (t : Pair) → Contains chain t
    → (t ≡ p) ⊎ Contains candidates t
vertices_left side S keys candidates chain p s e c f t m = elim (left_or_gone p keys S t e (c.among t m)) [
  | inl q ↦ inl q
  | inr n ↦ inr (vertices_kept side S keys candidates chain
      (λ u k. ((members_without p u S s).0 (subst (λ (z : List Pair). Contains z u) e k)).0) f c t m n)
]
