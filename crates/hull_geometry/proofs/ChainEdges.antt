-- Each step of the chain of a hull is an edge of the hull.
use Rattle.std.proofs.Common.{◌≡◌, ℤ, pos, ◌≤ℤ◌, ◌<ℤ◌, inl, inr, refl, sym, subst, List, arith, [], ◌∷◌}
use Rattle.std.specs.List.{Contains}
use Rattle.std.proofs.lemmas.Int.{ints}
use Rattle.lattice.specs.Covers.{IsPointSet}
use Rattle.lattice.specs.Plane.{Pair, orient, IsBefore}
use Rattle.lattice.proofs.Order.{before_trans, before_irrefl, before_not}
use Rattle.hull_geometry.specs.ChainEdges.{IsBeside, IsEdge}
use Rattle.hull_geometry.specs.Edges.{IsLowerEdge, IsUpperEdge, IsChain, end_of, IsFirst, IsLast}
use Rattle.hull_geometry.specs.Monotone.{IsInwards, IsInnerFrom, IsInner, IsConvexFrom}
use Rattle.lattice.specs.Orientations.{orient_on}
use Rattle.hull_geometry.specs.Monotone.{IsChainOf}
use Rattle.lattice.specs.declared.side.Side.{Side}
use Rattle.lattice.specs.declared.side.Side.TheVariants.{Lower, Upper}
use Rattle.hull_geometry.proofs.PointLists.{AllPairs-head, AllPairs-tail, all_of, later}
use Rattle.hull_geometry.proofs.Supports.{IsSupport}
use Rattle.lattice.proofs.Numbers.{nn_above, nn_zero}
use Rattle.hull_geometry.proofs.Orientations.{orient_on_start, orient_on_end, strict_on, strict_back}
use Rattle.std.proofs.lemmas.List.Elements.{All-head}

-- a point strictly inwards of a line is beside the edge
strictly : (side : Side) (t a b : Pair) → pos 0 <ℤ orient_on side a b t → IsBeside side t a b
strictly side t a b h = record { inwards = nn_above _ h; before = λ k. h; after = λ k. h }

-- the start of an edge is beside it
at_start : (side : Side) (a b : Pair) → IsBefore a b → IsBeside side a a b
at_start side a b ab = record {
  inwards = nn_zero _ (orient_on_start side a b);
  before = λ k. absurd (before_irrefl a k);
  after = λ k. absurd (before_not a b ab k);
}

-- the end of an edge is beside it
at_end : (side : Side) (a b : Pair) → IsBefore a b → IsBeside side b a b
at_end side a b ab = record {
  inwards = nn_zero _ (orient_on_end side a b);
  before = λ k. absurd (before_not a b ab k);
  after = λ k. absurd (before_irrefl b k);
}

-- a point inwards of the segment is beside the edge
between : (side : Side) (t a b : Pair) → IsInwards side a b t → IsBeside side t a b
between side t a b (at, tb, h) = record {
  inwards = h;
  before = λ k. absurd (before_not a t at k);
  after = λ k. absurd (before_not t b tb k);
}

-- the first two points of a set are in order
first_step : (a b : Pair) (rest : List Pair) → IsPointSet (a ∷ b ∷ rest) → IsBefore a b
first_step a b rest s = All-head (IsBefore a) b rest (AllPairs-head a (b ∷ rest) s)

-- a point that is inner to a chain after its second point is strictly inwards of the first edge
after_edge : (side : Side) (a b : Pair) (rest : List Pair) (u : Pair) → IsPointSet (a ∷ b ∷ rest)
    → IsConvexFrom side a (b ∷ rest) → IsInnerFrom side b rest u → IsBefore b u × (pos 0 <ℤ orient_on side a b u)
after_edge side a b [] u s h k = elim k [ ]
after_edge side a b (c ∷ rest) u s h (inl e) =
    let tail = AllPairs-tail a (b ∷ c ∷ rest) s in
    (subst (IsBefore b) (sym e) (first_step b c rest tail), subst (λ z. pos 0 <ℤ orient_on side a b z) (sym e) h.0)
after_edge side a b (c ∷ rest) u s h (inr (inl (bu, uc, k))) =
    let tail = AllPairs-tail a (b ∷ c ∷ rest) s in
    (bu, strict_on side a b c u (first_step a b (c ∷ rest) s) (first_step b c rest tail) bu h.0 k)
after_edge side a b (c ∷ rest) u s h (inr (inr k)) =
    let tail = AllPairs-tail a (b ∷ c ∷ rest) s in
    let later = after_edge side b c rest u tail h.1 k in
    let bu = before_trans b c u (first_step b c rest tail) later.0 in
    (bu, strict_on side a b c u (first_step a b (c ∷ rest) s) (first_step b c rest tail) bu h.0 (nn_above _ later.1))

-- a point before the end of an edge and not outwards of it is beside all later edges
beside_later : (side : Side) (a b : Pair) (rest : List Pair) (t : Pair) → IsPointSet (a ∷ b ∷ rest)
    → IsConvexFrom side a (b ∷ rest) → IsBefore t b → pos 0 ≤ℤ orient_on side a b t → IsChain (IsBeside side t) b rest
beside_later side a b [] t s h tb k = tt
beside_later side a b (c ∷ rest) t s h tb k =
    let tail = AllPairs-tail a (b ∷ c ∷ rest) s in
    let bc = first_step b c rest tail in
    let in_next = strict_back side a b c t (first_step a b (c ∷ rest) s) bc tb k h.0 in
    (strictly side t b c in_next, beside_later side b c rest t tail h.1 (before_trans t b c tb bc) (nn_above _ in_next))

-- a point that is inner to a chain is beside each of its edges
beside_from : (side : Side) (x : Pair) (rest : List Pair) (t : Pair) → IsPointSet (x ∷ rest)
    → IsConvexFrom side x rest → IsInner side (x ∷ rest) t → IsChain (IsBeside side t) x rest
beside_from side x [] t s h k = tt
beside_from side x (y ∷ rest) t s h (inl e) =
    let xy = first_step x y rest s in
    subst (λ (z : Pair). IsChain (IsBeside side z) x (y ∷ rest)) (sym e) (
      at_start side x y xy,
      beside_later side x y rest x s h xy (nn_zero _ (orient_on_start side x y)),
    )
beside_from side x (y ∷ rest) t s h (inr (inl e)) =
    subst (λ (z : Pair). IsChain (IsBeside side z) x (y ∷ rest)) (sym e) (
      at_end side x y (first_step x y rest s),
      beside_from side y rest y (AllPairs-tail x (y ∷ rest) s) h.1 (inl refl),
    )
beside_from side x (y ∷ rest) t s h (inr (inr (inl k))) =
    (between side t x y k, beside_later side x y rest t s h k.1 k.2)
beside_from side x (y ∷ rest) t s h (inr (inr (inr k))) = (
  strictly side t x y (after_edge side x y rest t s h k).1,
  beside_from side y rest t (AllPairs-tail x (y ∷ rest) s) h.1 (inr k),
)

-- a point that is inner to a chain from a point on is not before that point
not_first : (side : Side) (x : Pair) (rest : List Pair) (t : Pair) → IsPointSet (x ∷ rest) → IsInnerFrom side x rest t
    → IsBefore x t
not_first side x [] t s k = elim k [ ]
not_first side x (y ∷ rest) t s (inl e) = subst (IsBefore x) (sym e) (first_step x y rest s)
not_first side x (y ∷ rest) t s (inr (inl k)) = k.0
not_first side x (y ∷ rest) t s (inr (inr k)) =
    before_trans x y t (first_step x y rest s) (not_first side y rest t (AllPairs-tail x (y ∷ rest) s) k)

-- no point of S is before the first point of its chain
pub chain_first : (side : Side) (S : List Pair) (x : Pair) (rest : List Pair) → IsChainOf side S (x ∷ rest) → IsFirst S x
chain_first side S x rest c t m b = go (c.inner t m)
  where
    go : IsInner side (x ∷ rest) t → ⊥
    go (inl e) = before_irrefl x (subst (λ (z : Pair). IsBefore z x) e b)
    go (inr k) = before_not x t (not_first side x rest t c.strict.ordered k) b

-- no point that is inner to a chain is after its end
not_last : (side : Side) (x : Pair) (rest : List Pair) (t : Pair) → IsPointSet (x ∷ rest) → IsInner side (x ∷ rest) t
    → ¬ (IsBefore (end_of x rest) t)
not_last side x [] t s (inl e) b = before_irrefl x (subst (IsBefore x) e b)
not_last side x [] t s (inr k) b = elim k [ ]
not_last side x (y ∷ rest) t s (inl e) b =
    not_last side y rest y (AllPairs-tail x (y ∷ rest) s) (inl refl)
    (before_trans (end_of y rest) t y b (subst (λ (z : Pair). IsBefore z y) (sym e) (first_step x y rest s)))
not_last side x (y ∷ rest) t s (inr (inl e)) b = not_last side y rest t (AllPairs-tail x (y ∷ rest) s) (inl e) b
not_last side x (y ∷ rest) t s (inr (inr (inl k))) b =
    not_last side y rest y (AllPairs-tail x (y ∷ rest) s) (inl refl) (before_trans (end_of y rest) t y b k.1)
not_last side x (y ∷ rest) t s (inr (inr (inr k))) b =
    not_last side y rest t (AllPairs-tail x (y ∷ rest) s) (inr k) b

-- no point of S is after the end of its chain
pub chain_last : (side : Side) (S : List Pair) (x : Pair) (rest : List Pair) → IsChainOf side S (x ∷ rest)
    → IsLast S (end_of x rest)
chain_last side S x rest c t m b = not_last side x rest t c.strict.ordered (c.inner t m) b

-- if each point has a property along a chain, the chain has it for each point
along_all : (side : Side) (S : List Pair) (x : Pair) (rest : List Pair) → IsPointSet (x ∷ rest)
    → ((t : Pair) → Contains (x ∷ rest) t → Contains S t)
    → ((t : Pair) → Contains S t → IsChain (IsBeside side t) x rest) → IsChain (IsEdge side S) x rest
along_all side S x [] s among h = tt
along_all side S x (y ∷ rest) s among h = (
  record {
    from = among x (0, omega arith, refl);
    to = among y (1, omega arith, refl);
    forward = first_step x y rest s;
    beside = λ t m. (h t m).0;
  },
  along_all side S y rest (AllPairs-tail x (y ∷ rest) s) (λ t m. among t (later x t (y ∷ rest) m)) (λ t m. (h t m).1),
)

-- the steps of the chain of a hull are edges
pub chain_edges : (side : Side) (S : List Pair) (x : Pair) (rest : List Pair) → IsChainOf side S (x ∷ rest)
    → IsChain (IsEdge side S) x rest
chain_edges side S x rest c = along_all side S x rest c.strict.ordered c.among
    (λ t m. beside_from side x rest t c.strict.ordered c.strict.convex (c.inner t m))

-- the line of an edge has no point outwards
pub edge_support : {side : Side} {S : List Pair} {a b : Pair} → IsEdge side S a b → IsSupport side S a b
edge_support e = record { from = e.from; to = e.to; forward = e.forward; inner = λ t m. (e.beside t m).inwards }

-- an edge of the lower chain is a lower edge in the terms of all hulls
pub lower_edge : {S : List Pair} {a b : Pair} → IsEdge Lower S a b → IsLowerEdge S a b
lower_edge {S} {a} {b} e = record {
  from = e.from;
  to = e.to;
  along = e.forward;
  left = all_of (λ t. pos 0 ≤ℤ orient a b t) S (λ t m. (e.beside t m).inwards);
  last = all_of (λ t. orient a b t ≡ pos 0 → ¬ (IsBefore b t)) S (λ t m z k. not_both _ z ((e.beside t m).after k));
}
  where
    not_both : (x : ℤ) → x ≡ pos 0 → pos 0 <ℤ x → ⊥
    not_both x e h = omega (arith, ints)

-- an edge of the upper chain is an upper edge in those terms, read backwards
pub upper_edge : {S : List Pair} {a b : Pair} → IsEdge Upper S a b → IsUpperEdge S b a
upper_edge {S} {a} {b} e = record {
  from = e.to;
  to = e.from;
  along = e.forward;
  left = all_of (λ t. pos 0 ≤ℤ orient b a t) S (λ t m. (e.beside t m).inwards);
  last = all_of (λ t. orient b a t ≡ pos 0 → ¬ (IsBefore t a)) S (λ t m z k. not_both _ z ((e.beside t m).before k));
}
  where
    not_both : (x : ℤ) → x ≡ pos 0 → pos 0 <ℤ x → ⊥
    not_both x e h = omega (arith, ints)
