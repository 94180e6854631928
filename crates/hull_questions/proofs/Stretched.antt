-- A range of a lower chain is in the left half, in the right half, or goes over the bridge.
use Rattle.std.proofs.Common.{◌≡◌, refl, sym, ◌∙◌, subst, List, [], ◌∷◌, ◌++◌, Some}
use Rattle.lattice.specs.Plane.{Pair, IsBefore}
use Rattle.lattice.specs.Bridges.{IsAllBefore, IsLowerBridge}
use Rattle.lattice.proofs.Order.{before_trans, before_irrefl}
use Rattle.bridge_search.specs.Trees.{Tree, Leaf, Fork, On, IsBridged, IsFork, lower_of, left_of, right_of, first_of}
use Rattle.bridge_search.specs.Trees.{last_of}
use Rattle.bridge_search.specs.Leaves.{points_of}
use Rattle.bridge_search.proofs.Ends.{last_by}
use Rattle.bridge_search.proofs.Turns.{on_first}
use Rattle.hull_geometry.specs.Edges.{IsLowerEdge, IsChain, end_of}
use Rattle.hull_questions.specs.ChainRanges.{IsChainRange, IsChainRangeOf, IsChainRangeAcross}
use Rattle.hull_geometry.proofs.EdgesAt.{on_from}
use Rattle.hull_questions.proofs.ChainEdges.{left_lifts, right_lifts, edge_here}
use Rattle.hull_questions.proofs.VertexLists.{first_vertex, last_vertex, bridge_start, bridge_end, vertex_left}
use Rattle.hull_questions.proofs.VertexLists.{vertex_right, none_between, in_left, in_right}
use Rattle.hull_questions.proofs.StoredEdges.{same_ends}
use Rattle.hull_geometry.proofs.Passes.{end_from}

-- the whole lower chain is a range
pub whole_chain_range : (t : Tree) → IsBridged t → IsChainRange t (first_of t) (last_of t)
whole_chain_range t h = record {
  starts = first_vertex t h;
  ends = last_vertex t h;
  onward = λ b. last_by t h (first_of t) (on_first t) b;
}

-- ---- chains of edges

-- a chain of lower edges does not end before its start
pub not_back : (S : List Pair) (v : Pair) (vs : List Pair) → IsChain (IsLowerEdge S) v vs → ¬ (IsBefore (end_of v vs) v)
not_back S v [] c b = before_irrefl v b
not_back S v (x ∷ xs) c b = not_back S x xs c.1 (before_trans (end_of x xs) v x b c.0.along)

-- a chain of the left half that does not end after the start of the bridge is one of both halves
chain_left : (u w : Tree) (a b v : Pair) (vs : List Pair) → IsAllBefore (On u) (On w) → IsLowerBridge (On u) (On w) a b
    → IsChain (IsLowerEdge (points_of u)) v vs → ¬ (IsBefore a (end_of v vs))
    → IsChain (IsLowerEdge (points_of u ++ points_of w)) v vs
chain_left u w a b v [] o h c n = tt
chain_left u w a b v (x ∷ xs) o h c n =
    let va : IsBefore v a =
    on_from v x a c.0.along (λ k. n (on_from a x (end_of x xs) k (not_back (points_of u) x xs c.1))) in (
      (left_lifts u w v a b (v, x) o h va
          (record { edge = c.0; starts = before_irrefl v; onward = c.0.along })).edge,
      chain_left u w a b x xs o h c.1 n,
    )

-- a chain of the right half that does not begin before the end of the bridge is one of both halves
chain_right : (u w : Tree) (a b v : Pair) (vs : List Pair) → IsAllBefore (On u) (On w) → IsLowerBridge (On u) (On w) a b
    → IsChain (IsLowerEdge (points_of w)) v vs → ¬ (IsBefore v b)
    → IsChain (IsLowerEdge (points_of u ++ points_of w)) v vs
chain_right u w a b v [] o h c n = tt
chain_right u w a b v (x ∷ xs) o h c n = (
  (right_lifts u w v a b (v, x) o h n
      (record { edge = c.0; starts = before_irrefl v; onward = c.0.along })).edge,
  chain_right u w a b x xs o h c.1 (λ k. n (before_trans v x b c.0.along k)),
)

-- one chain, an edge, and another chain are a chain
chain_over : (E : Pair → Pair → Type 0) (v : Pair) (xs : List Pair) (b : Pair) (ys : List Pair) → IsChain E v xs
    → E (end_of v xs) b → IsChain E b ys → IsChain E v (xs ++ b ∷ ys)
chain_over E v [] b ys c e d = (e, d)
chain_over E v (x ∷ xs) b ys c e d = (c.0, chain_over E x xs b ys c.1 e d)

-- ---- the three cases

-- a range that does not end after the start of the bridge is in the left half
pub chain_range_left : (t : Tree) (a b from to : Pair) → IsBridged t → Some (a, b) ≡ lower_of t → IsChainRange t from to
    → ¬ (IsBefore a to) → IsFork t × IsChainRangeOf (left_of t) t from to
chain_range_left (Leaf x) a b from to h g s n = absurd (cc)
chain_range_left (Fork e f u w) a b from to h g s n =
    let k : ¬ (IsBefore f.0 to) = subst (λ (z : Pair). ¬ (IsBefore z to)) (same_ends g).0 n in (
      tt,
      record {
        chain_range = record {
          starts = vertex_left (points_of u) (points_of w) from s.starts
              (in_left u w f.0 from h.0 h.2.from_left s.starts.there (λ b. k (on_from f.0 from to b s.onward)));
          ends = vertex_left (points_of u) (points_of w) to s.ends
              (in_left u w f.0 to h.0 h.2.from_left s.ends.there k);
          onward = s.onward;
        };
        walks = λ passed r. record {
          chain = chain_left u w f.0 f.1 from passed h.0 h.2 r.chain
              (subst (λ (z : Pair). ¬ (IsBefore f.0 z)) (sym r.ends) k);
          ends = r.ends;
        };
      },
    )

-- a range that does not begin before the end of the bridge is in the right half
pub chain_range_right : (t : Tree) (a b from to : Pair) → IsBridged t → Some (a, b) ≡ lower_of t → IsChainRange t from to
    → ¬ (IsBefore from b) → IsFork t × IsChainRangeOf (right_of t) t from to
chain_range_right (Leaf x) a b from to h g s n = absurd (cc)
chain_range_right (Fork e f u w) a b from to h g s n =
    let k : ¬ (IsBefore from f.1) = subst (λ (z : Pair). ¬ (IsBefore from z)) (same_ends g).1 n in (
      tt,
      record {
        chain_range = record {
          starts = vertex_right (points_of u) (points_of w) from s.starts
              (in_right u w f.1 from h.0 h.2.to_right s.starts.there k);
          ends = vertex_right (points_of u) (points_of w) to s.ends
              (in_right u w f.1 to h.0 h.2.to_right s.ends.there (λ b. s.onward (on_from to f.1 from b k)));
          onward = s.onward;
        };
        walks = λ passed r. record { chain = chain_right u w f.0 f.1 from passed h.0 h.2 r.chain k; ends = r.ends };
      },
    )

-- a range from before the end of the bridge to after its start goes over the bridge
pub chain_range_across : (t : Tree) (a b from to : Pair) → IsBridged t → Some (a, b) ≡ lower_of t → IsChainRange t from to
    → IsBefore a to → IsBefore from b → IsFork t × IsChainRangeAcross t from a b to
chain_range_across (Leaf x) a b from to h g s at fb = absurd (cc)
chain_range_across (Fork e f u w) a b from to h g s at fb =
    rw ((same_ends g).0, (same_ends g).1) (over (rw (same_ends g).0 at at) (rw (same_ends g).1 at fb))
  where
    over : IsBefore f.0 to → IsBefore from f.1 → Unit {0} × IsChainRangeAcross (Fork e f u w) from f.0 f.1 to
    over k l =
        let n : ¬ (IsBefore f.0 from) = λ b. none_between u w f.0 f.1 from h.2 s.starts b l in
        let m : ¬ (IsBefore to f.1) = λ b. none_between u w f.0 f.1 to h.2 s.ends k b in (
          tt,
          record {
            left = record {
              starts = vertex_left (points_of u) (points_of w) from s.starts
                  (in_left u w f.0 from h.0 h.2.from_left s.starts.there n);
              ends = bridge_start u w f.0 f.1 h.0 h.2;
              onward = n;
            };
            right = record {
              starts = bridge_end u w f.0 f.1 h.0 h.2;
              ends = vertex_right (points_of u) (points_of w) to s.ends
                  (in_right u w f.1 to h.0 h.2.to_right s.ends.there m);
              onward = m;
            };
            walks = λ xs ys r q. record {
              chain = chain_over (IsLowerEdge (points_of u ++ points_of w)) from xs f.1 ys
                  (chain_left u w f.0 f.1 from xs h.0 h.2 r.chain
                  (subst (λ (z : Pair). ¬ (IsBefore f.0 z)) (sym r.ends) (before_irrefl f.0)))
                  (subst (λ (z : Pair). IsLowerEdge (points_of u ++ points_of w) z f.1) (sym r.ends)
                  (edge_here (Fork e f u w) f.0 f.0 f.1 h refl (before_irrefl f.0)
                  (h.0 f.0 f.1 h.2.from_left h.2.to_right)).edge)
                  (chain_right u w f.0 f.1 f.1 ys h.0 h.2 q.chain (before_irrefl f.1));
              ends = end_from from xs f.1 ys ∙ q.ends;
            };
          },
        )
