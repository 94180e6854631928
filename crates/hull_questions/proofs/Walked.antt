-- Walks along the chains of a half's hull, the lists of their points, and the vertex list of these lists.
use Rattle.std.proofs.Common.{◌≡◌, refl, sym, ap, ◌∙◌, subst, List, [], ◌∷◌, ◌++◌, map, arith, append_assoc}
use Rattle.std.proofs.lemmas.List.{map-append, same_from_push}
use Rattle.lattice.specs.Plane.{Pair, IsBefore, turned_point}
use Rattle.lattice.specs.Vertices.{IsVertexList}
use Rattle.lattice.proofs.Order.{before_irrefl}
use Rattle.lattice.proofs.TurnedBridges.{turned_twice}
use Rattle.bridge_search.specs.Trees.{Tree, Leaf, Fork, IsBridged, first_of, last_of}
use Rattle.bridge_search.specs.TurnedTrees.{turned_tree, first_turned, last_turned}
use Rattle.bridge_search.specs.Leaves.{points_of}
use Rattle.bridge_search.proofs.Ends.{last_by, on_last}
use Rattle.bridge_search.proofs.Leaves.{on_of_contains, points_in_order}
use Rattle.bridge_search.proofs.Turns.{first_by, on_first}
use Rattle.hull_geometry.specs.Edges.{IsLowerEdge, IsUpperEdge, IsChain, end_of}
use Rattle.hull_geometry.proofs.Rounding.{front_of, small_list}
use Rattle.hull_geometry.proofs.VertexLists.{vertex_list}
use Rattle.lattice.specs.declared.side.Side.{Side}
use Rattle.lattice.specs.declared.side.Side.TheVariants.{Lower, Upper}
use Rattle.hull_questions.specs.Walks.{IsWalk, IsListed, upright}
use Rattle.hull_questions.proofs.TurnedEdges.{upper_edge_of_turned}

-- ---- lists

-- a range of the left half, the start of the bridge, and a range of the right half are the whole range
pub listed_over : (t u w : Tree) (from a b to : Pair) (side : Side) (before one two after : List Pair)
    → ((xs ys : List Pair) → IsWalk u from xs a → IsWalk w b ys to → IsWalk t from (xs ++ b ∷ ys) to)
    → IsListed u from a side before one → two ≡ one ++ upright side a ∷ [] → IsListed w b to side two after
    → IsListed t from to side before after
listed_over t u w from a b to side before one two after walks (xs, k, e) p (ys, q, g) = (
  xs ++ b ∷ ys,
  walks xs ys k q,
  g ∙ ap (λ z. z ++ map s (b ∷ ys)) (p ∙ e) ∙ append_assoc before (map s (from ∷ xs)) (map s (b ∷ ys))
      ∙ ap (λ z. before ++ z) (sym (map-append s (from ∷ xs) (b ∷ ys))),
)
  where
    s : Pair → Pair
    s = upright side

-- ---- the upper chain

-- a chain of lower edges of the rotated half is, rotated, a chain of upper edges
pub chain_turned : (t : Tree) (v : Pair) (vs : List Pair) → IsChain (IsLowerEdge (points_of (turned_tree t))) v vs
    → IsChain (IsUpperEdge (points_of t)) (turned_point v) (map turned_point vs)
chain_turned t v [] c = tt
chain_turned t v (x ∷ xs) c = (upper_edge_of_turned t v x c.0, chain_turned t x xs c.1)

-- this chain ends at the rotated end
pub end_turned : (v : Pair) (vs : List Pair)
    → end_of (turned_point v) (map turned_point vs) ≡ turned_point (end_of v vs)
end_turned v [] = refl
end_turned v (x ∷ xs) = end_turned x xs

-- a walk along the lower chain of the rotated half is, rotated, a walk along the upper chain
pub record IsUpperWalk (t : Tree) (passed : List Pair) : Type 0 where
  pub chain : IsChain (IsUpperEdge (points_of t)) (last_of t) passed
  pub ends : end_of (last_of t) passed ≡ first_of t

pub walk_turned : (t : Tree) (passed : List Pair)
    → IsWalk (turned_tree t) (first_of (turned_tree t)) passed (last_of (turned_tree t))
    → IsUpperWalk t (map turned_point passed)
walk_turned t passed k =
    let begin : turned_point (first_of (turned_tree t)) ≡ last_of t =
    ap turned_point (first_turned t) ∙ turned_twice (last_of t) in
    let end : turned_point (last_of (turned_tree t)) ≡ first_of t =
    ap turned_point (last_turned t) ∙ turned_twice (first_of t) in
    record {
      chain = subst (λ (z : Pair). IsChain (IsUpperEdge (points_of t)) z (map turned_point passed)) begin
          (chain_turned t (first_of (turned_tree t)) passed k.chain);
      ends = ap (λ (z : Pair). end_of z (map turned_point passed)) (sym begin)
          ∙ end_turned (first_of (turned_tree t)) passed ∙ ap turned_point k.ends ∙ end;
    }

-- the points of an upper walk are its points but the last, and the last
pub upper_front : (t : Tree) (passed : List Pair) → IsBefore (first_of t) (last_of t) → IsUpperWalk t passed
    → (upper : List Pair) × (passed ≡ upper ++ first_of t ∷ [])
upper_front t [] b k = absurd (before_irrefl (last_of t) (subst (λ (z : Pair). IsBefore z (last_of t)) (sym k.ends) b))
upper_front t (v ∷ vs) b k = front_of v (first_of t) vs k.ends

-- ---- the vertex list

-- a whole lower walk and a whole upper walk are the vertex list
pub round : (t : Tree) (lower upper : List Pair) → IsBridged t → IsBefore (first_of t) (last_of t)
    → IsWalk t (first_of t) lower (last_of t)
    → IsChain (IsUpperEdge (points_of t)) (last_of t) (upper ++ first_of t ∷ [])
    → IsVertexList (points_of t) (first_of t ∷ (lower ++ upper))
round t [] upper h b w c = absurd (before_irrefl (last_of t) (subst (λ (z : Pair). IsBefore z (last_of t)) w.ends b))
round t (v ∷ vs) upper h b w c =
    vertex_list (points_of t) (first_of t) (last_of t) v vs upper (points_in_order t h) w.chain w.ends c
    (λ s m k. first_by t h s (on_of_contains t s m) k) (λ s m k. last_by t h s (on_of_contains t s m) k)

-- a list seen as it is stays as it is
map_lower : (xs : List Pair) → map (upright Lower) xs ≡ xs
map_lower [] = refl
map_lower (x ∷ xs) = ap (λ (z : List Pair). x ∷ z) (map_lower xs)

-- the lists of both chains, each without its last point, are the vertex list
pub both_listed : (t : Tree) (one two : List Pair) → IsBridged t → IsBefore (first_of t) (last_of t)
    → IsListed t (first_of t) (last_of t) Lower [] one
    → IsListed (turned_tree t) (first_of (turned_tree t)) (last_of (turned_tree t)) Upper one two
    → IsVertexList (points_of t) two
both_listed t one two h b (lower, k, e) (turned, q, g) =
    let first : Pair = first_of t in
    let last : Pair = last_of t in
    let back : List Pair = map turned_point turned in
    let w = walk_turned t turned q in
    let f = upper_front t back b w in
    let begin : turned_point (first_of (turned_tree t)) ≡ last = ap turned_point (first_turned t) ∙ turned_twice last in
    let end : turned_point (last_of (turned_tree t)) ≡ first = ap turned_point (last_turned t) ∙ turned_twice first in
    let low : one ++ last ∷ [] ≡ first ∷ lower = e ∙ map_lower (first ∷ lower) in
    let whole : two ++ first ∷ [] ≡ (first ∷ (lower ++ f.0)) ++ first ∷ [] =
    ap (λ (z : Pair). two ++ z ∷ []) (sym end) ∙ g ∙ ap (λ (z : Pair). one ++ z ∷ back) begin
    ∙ sym (append_assoc one (last ∷ []) back) ∙ ap (λ (z : List Pair). z ++ back) low
    ∙ ap (λ (z : List Pair). (first ∷ lower) ++ z) f.1
    ∙ sym (append_assoc (first ∷ lower) f.0 (first ∷ [])) in
    subst (IsVertexList (points_of t)) (sym (same_from_push two (first ∷ (lower ++ f.0)) first first whole).0)
    (round t lower f.0 h b k (subst (IsChain (IsUpperEdge (points_of t)) last) f.1 w.chain))

-- a half whose first point is not before the last is one point
alone : (t : Tree) → IsBridged t → ¬ (IsBefore (first_of t) (last_of t)) → points_of t ≡ first_of t ∷ []
alone (Leaf x) h n = refl
alone (Fork e f u w) h n = absurd (n (h.0 (first_of u) (last_of w) (on_first u) (on_last w)))

-- the vertex list of one point is that point
pub vertices_alone : (t : Tree) → IsBridged t → ¬ (IsBefore (first_of t) (last_of t))
    → IsVertexList (points_of t) (first_of t ∷ [])
vertices_alone t h n =
    subst (λ (z : List Pair). IsVertexList z (first_of t ∷ [])) (sym (alone t h n))
    (small_list (first_of t ∷ []) (omega arith))
