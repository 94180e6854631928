-- A list of points has at most one list of vertices, and at most one doubled area.
use Rattle.std.proofs.lemmas.Grind.{common_steps}
use Rattle.std.proofs.Common.{◌≡◌, ℤ, refl, sym, ap, ◌∙◌, subst, List, arith, zero, suc, [], ◌∷◌, get_or}
use Rattle.std.specs.List.{All, Contains}
use Rattle.std.proofs.lemmas.List.Elements.{All-tail}
use Rattle.lattice.specs.Covers.{IsExtreme}
use Rattle.lattice.specs.Plane.{Pair, IsBefore}
use Rattle.lattice.specs.Vertices.{IsVertexList, doubled_area, IsDoubledArea}
use Rattle.lattice.proofs.Order.{before_irrefl, before_not, equal_by}
use Rattle.hull_geometry.proofs.PointLists.{get_or_free}
use Rattle.hull_geometry.proofs.VertexOrder.{next_same, IsArc, same_arc}

-- the members of a vertex list are extreme
vertices_extreme : (S vs : List Pair) → IsVertexList S vs → All (IsExtreme S) vs
vertices_extreme S vs h k d l = (h.members (get_or vs k d)).0 (k, l, get_or_free vs k _ d l)

-- the head of a vertex list is not after any extreme point
head_first : (S : List Pair) (v t : Pair) (vs : List Pair) → IsVertexList S (v ∷ vs) → IsExtreme S t → ¬ (IsBefore t v)
head_first S v t vs h x b = go ((h.members t).1 x)
  where
    go : Contains (v ∷ vs) t → ⊥
    go (zero, l, e) = before_irrefl t (subst (IsBefore t) e b)
    go (suc k, l, e) = before_not t v b (subst (IsBefore v) e (h.order.1 k t (omega (arith, l))))

-- two vertex lists have the same head
same_head : (S : List Pair) (v w : Pair) (vs ws : List Pair) → IsVertexList S (v ∷ vs) → IsVertexList S (w ∷ ws) → v ≡ w
same_head S v w vs ws h g =
    equal_by v w (head_first S w v ws g (vertices_extreme S (v ∷ vs) h 0 v (omega arith)))
    (head_first S v w vs h (vertices_extreme S (w ∷ ws) g 0 w (omega arith)))

-- the arc of a vertex list from its second member
arc_of : (S : List Pair) (v x : Pair) (xs : List Pair) → IsVertexList S (v ∷ x ∷ xs) → IsArc S v x xs
arc_of S v x xs h = record {
  round = h.order.0.1;
  extreme = All-tail (IsExtreme S) v (x ∷ xs) (vertices_extreme S (v ∷ x ∷ xs) h);
  distinct = λ i j d k l. h.distinct (suc i) (suc j) d (omega (arith, k)) (omega (arith, l));
  apart = λ k d l. h.distinct 0 (suc k) d (omega arith) (omega (arith, l));
}

-- a vertex list of one member and one of more are not of the same points
one_or_more : (S : List Pair) (v y : Pair) (ys : List Pair) → IsVertexList S (v ∷ []) → IsVertexList S (v ∷ y ∷ ys) → ⊥
one_or_more S v y ys h g = go ((h.members y).1 (vertices_extreme S (v ∷ y ∷ ys) g 1 y (omega arith)))
  where
    go : Contains (v ∷ []) y → ⊥
    go (zero, l, e) = g.distinct 0 1 y (omega arith) (omega arith) e
    go (suc k, l, e) = absurd (omega (arith, l))

-- a vertex list that is empty and one that is not are not of the same points
none_or_some : (S : List Pair) (v : Pair) (vs : List Pair) → IsVertexList S [] → IsVertexList S (v ∷ vs) → ⊥
none_or_some S v vs h g = let m = (h.members v).1 (vertices_extreme S (v ∷ vs) g 0 v (omega arith)) in
    absurd (omega (arith, m.1))

-- two vertex lists with the same head are equal
same_list : (S : List Pair) (v : Pair) (vs ws : List Pair) → IsVertexList S (v ∷ vs) → IsVertexList S (v ∷ ws)
    → v ∷ vs ≡ v ∷ ws
same_list S v [] [] h g = refl
same_list S v [] (y ∷ ys) h g = absurd (one_or_more S v y ys h g)
same_list S v (x ∷ xs) [] h g = absurd (one_or_more S v x xs g h)
same_list S v (x ∷ xs) (y ∷ ys) h g =
    let a : IsArc S v x xs = arc_of S v x xs h in
    let b : IsArc S v y ys = arc_of S v y ys g in
    let first : IsExtreme S v = vertices_extreme S (v ∷ x ∷ xs) h 0 v (omega arith) in
    let e : x ≡ y = next_same S v x y first (a.extreme 0 v (omega arith)) (b.extreme 0 v (omega arith))
    (h.distinct 0 1 v (omega arith) (omega arith))
    (g.distinct 0 1 v (omega arith) (omega arith)) h.order.0.0 g.order.0.0 in
    let rest : xs ≡ ys = same_arc S v y xs ys first (subst (λ (z : Pair). IsArc S v z xs) e a) b in
    ap (λ (z : Pair). v ∷ z ∷ xs) e ∙ ap (λ (z : List Pair). v ∷ y ∷ z) rest

-- two vertex lists of one list of points are equal
pub vertex_list_unique : (S vs ws : List Pair) → IsVertexList S vs → IsVertexList S ws → vs ≡ ws
vertex_list_unique S [] [] h g = refl
vertex_list_unique S [] (w ∷ ws) h g = absurd (none_or_some S w ws h g)
vertex_list_unique S (v ∷ vs) [] h g = absurd (none_or_some S v vs g h)
vertex_list_unique S (v ∷ vs) (w ∷ ws) h g = grind (arith, common_steps, same_head, same_list)

-- two doubled areas of one list of points are equal
pub doubled_area_unique : (S : List Pair) (m n : ℤ) → IsDoubledArea S m → IsDoubledArea S n → m ≡ n
doubled_area_unique S m n (vs, h, e) (ws, g, f) = e ∙ ap doubled_area (vertex_list_unique S vs ws h g) ∙ sym f
