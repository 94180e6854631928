-- A lower chain from the first point to the last, and an upper chain back, are the vertex list.
use Rattle.std.proofs.Common.{◌≡◌, ◌⊎◌, inl, inr, refl, sym, subst, List, arith, zero, suc, [], ◌∷◌, ◌++◌, ◌≢◌}
use Rattle.std.specs.List.{All, Contains, AllPairs}
use Rattle.std.proofs.lemmas.List.Elements.{All-contains, All-weaker, All-cons, Contains-append_left}
use Rattle.std.proofs.lemmas.List.Elements.{Contains-append_right, Contains-append_cases}
use Rattle.lattice.specs.Covers.{IsPointSet, IsExtreme}
use Rattle.lattice.specs.Plane.{Pair, IsBefore}
use Rattle.lattice.specs.Vertices.{GoesRound, IsVertexList}
use Rattle.hull_geometry.specs.Edges.{IsAlong, IsEdgeOn, IsLowerEdge, IsUpperEdge, IsChain, end_of, IsFirst, IsLast}
use Rattle.lattice.specs.declared.side.Side.{Side}
use Rattle.lattice.specs.declared.side.Side.TheVariants.{Lower, Upper}
use Rattle.hull_geometry.proofs.Along.{along_trans}
use Rattle.hull_geometry.proofs.Chains.{extreme_on_chain, lower_extreme, upper_rest_extreme, no_common_vertex}
use Rattle.lattice.proofs.Order.{before_trans, before_apart, after_apart}
use Rattle.hull_geometry.proofs.PointLists.{all_append_right, left_part, only_member}

-- one more edge at the end of a chain
pub chain_push : (E : Pair → Pair → Type 0) (u : Pair) (vs : List Pair) (w : Pair) → IsChain E u vs → E (end_of u vs) w
    → IsChain E u (vs ++ w ∷ [])
chain_push E u [] w c e = (e, tt)
chain_push E u (v ∷ vs) w c e = (c.0, chain_push E v vs w c.1 e)

-- the end of a chain with one more edge
pub end_push : (u : Pair) (vs : List Pair) (w : Pair) → end_of u (vs ++ w ∷ []) ≡ w
end_push u [] w = refl
end_push u (v ∷ vs) w = end_push v vs w

-- the end is a member
end_contained : (u : Pair) (vs : List Pair) → Contains (u ∷ vs) (end_of u vs)
end_contained u [] = (0, omega arith, refl)
end_contained u (v ∷ vs) = let r = end_contained v vs in (suc r.0, omega (arith, r.1), r.2)

-- along an upper chain all points stay on the left
round_upper : (S : List Pair) (first u : Pair) (ms : List Pair) → IsChain (IsUpperEdge S) u (ms ++ first ∷ [])
    → GoesRound S first u ms
round_upper S first u [] c = c.0.left
round_upper S first u (v ∷ ms) c = (c.0.left, round_upper S first v ms c.1)

-- along a lower chain before it, all points stay on the left
round_lower : (S : List Pair) (first last u : Pair) (ls ms : List Pair) → IsChain (IsLowerEdge S) u ls
    → end_of u ls ≡ last → GoesRound S first last ms → GoesRound S first u (ls ++ ms)
round_lower S first last u [] ms c e g = subst (λ (z : Pair). GoesRound S first z ms) (sym e) g
round_lower S first last u (v ∷ ls) ms c e g = (c.0.left, round_lower S first last v ls ms c.1 e g)

-- the points of a chain come after its start
chain_above : (side : Side) (S : List Pair) (u : Pair) (vs : List Pair) → IsChain (IsEdgeOn side S) u vs
    → All (IsAlong side u) vs
chain_above side S u [] c = λ k d l. absurd (omega arith)
chain_above side S u (v ∷ vs) c =
    All-cons (IsAlong side u) v vs c.0.along
    (All-weaker (IsAlong side v) (IsAlong side u) (λ t b. along_trans side u v t c.0.along b) vs
    (chain_above side S v vs c.1))

-- the points of an upper chain to the first point are after that point
upper_above : (S : List Pair) (first u : Pair) (ms : List Pair) → IsChain (IsUpperEdge S) u (ms ++ first ∷ [])
    → IsBefore first u × All (IsBefore first) ms
upper_above S first u [] c = (c.0.along, λ k d l. absurd (omega arith))
upper_above S first u (v ∷ ms) c =
    let r = upper_above S first v ms c.1 in
    (before_trans first v u r.0 c.0.along, All-cons (IsBefore first) v ms r.0 r.1)

-- no point is in the list twice
abbrev Apart : List Pair → Type 0
Apart xs = AllPairs (λ u v. u ≢ v) xs

-- a list with one more point that it does not contain has no point twice
apart_cons : (x : Pair) (xs : List Pair) → All (λ y. x ≢ y) xs → Apart xs → Apart (x ∷ xs)
apart_cons x xs a s zero (suc j) d lt l = a j d (omega arith)
apart_cons x xs a s (suc i) (suc j) d lt l = s i j d (omega arith) (omega arith)
apart_cons x xs a s i zero d lt l = absurd (omega arith)

-- the empty list has no point twice
apart_none : Apart []
apart_none i j d lt l = absurd (omega arith)

-- an upper edge ends at each point of an upper chain after its start
upper_ends : (S : List Pair) (u : Pair) (ms : List Pair) → IsChain (IsUpperEdge S) u ms
    → All (λ t. (p : Pair) × IsUpperEdge S p t) ms
upper_ends S u [] c = λ k d l. absurd (omega arith)
upper_ends S u (v ∷ ms) c = All-cons (λ t. (p : Pair) × IsUpperEdge S p t) v ms (u, c.0) (upper_ends S v ms c.1)

-- an upper chain has no point twice
upper_apart : (S : List Pair) (u : Pair) (ms : List Pair) → IsChain (IsUpperEdge S) u ms → Apart ms
upper_apart S u [] c = apart_none
upper_apart S u (v ∷ ms) c =
    apart_cons v ms (All-weaker (IsAlong Upper v) (λ t. v ≢ t) (λ t b. after_apart v t b) ms (chain_above Upper S v ms c.1))
    (upper_apart S v ms c.1)

-- a chain without its last edge is a chain
front_chain : (E : Pair → Pair → Type 0) (u : Pair) (vs : List Pair) (w : Pair) → IsChain E u (vs ++ w ∷ [])
    → IsChain E u vs
front_chain E u [] w c = tt
front_chain E u (v ∷ vs) w c = (c.0, front_chain E v vs w c.1)

-- the two chains have no point twice
apart_both : (S : List Pair) (u last : Pair) (ls ms : List Pair) → IsChain (IsLowerEdge S) u ls
    → IsChain (IsUpperEdge S) last ms → Apart (ls ++ ms)
apart_both S u last [] ms lc uc = upper_apart S last ms uc
apart_both S u last (v ∷ ls) ms lc uc =
    apart_cons v (ls ++ ms) (all_append_right (λ t. v ≢ t) ls ms
    (All-weaker (IsBefore v) (λ t. v ≢ t) (λ t b. before_apart v t b) ls (chain_above Lower S v ls lc.1))
    (All-weaker (λ t. (p : Pair) × IsUpperEdge S p t) (λ t. v ≢ t)
    (λ t q e. no_common_vertex S u v q.0 lc.0 (subst (IsUpperEdge S q.0) (sym e) q.1)) ms
    (upper_ends S last ms uc)))
    (apart_both S v last ls ms lc.1 uc)

-- the theorem: a lower chain from the first point to the last, and an upper chain back to the first, are the vertex
-- list
pub vertex_list : (S : List Pair) (first last l : Pair) (ls ms : List Pair) → IsPointSet S
    → IsChain (IsLowerEdge S) first (l ∷ ls) → end_of l ls ≡ last → IsChain (IsUpperEdge S) last (ms ++ first ∷ [])
    → IsFirst S first → IsLast S last → IsVertexList S (first ∷ ((l ∷ ls) ++ ms))
vertex_list S first last l ls ms s lc le uc hf hl =
    let all_lower : All (IsExtreme S) (first ∷ (l ∷ ls)) =
    lower_extreme S first l ls s lc hf (λ t m b. hl t m (subst (λ (z : Pair). IsBefore z t) le b)) in
    let all_upper : All (IsExtreme S) ms = upper_all ms uc in
    let extreme : All (IsExtreme S) (first ∷ ((l ∷ ls) ++ ms)) =
    all_append_right (IsExtreme S) (first ∷ (l ∷ ls)) ms all_lower all_upper in
    let low : All (IsBefore first) ((l ∷ ls) ++ ms) =
    all_append_right (IsBefore first) (l ∷ ls) ms (chain_above Lower S first (l ∷ ls) lc)
    (upper_above S first last ms uc).1 in
    record {
      distinct = apart_cons first ((l ∷ ls) ++ ms)
          (All-weaker (IsBefore first) (λ t. first ≢ t) (λ t b. before_apart first t b) ((l ∷ ls) ++ ms) low)
          (apart_both S first last (l ∷ ls) ms lc (front_chain (IsUpperEdge S) last ms first uc));
      members = λ p. (
        (λ m. All-contains (IsExtreme S) (first ∷ ((l ∷ ls) ++ ms)) p extreme m),
        (λ x. on_list p (extreme_on_chain S first last (l ∷ ls) (ms ++ first ∷ []) p lc le uc
            (end_push last ms first) hf hl x)),
      );
      order = (round_lower S first last first (l ∷ ls) ms lc le (round_upper S first last ms uc), low);
    }
  where
    upper_all : (ns : List Pair) → IsChain (IsUpperEdge S) last (ns ++ first ∷ []) → All (IsExtreme S) ns
    upper_all [] c = λ k d l. absurd (omega arith)
    upper_all (n ∷ ns) c =
        left_part (IsExtreme S) (n ∷ ns) (first ∷ []) (upper_rest_extreme S last n (ns ++ first ∷ []) s c
        (λ t m b. hf t m (subst (IsBefore t) (end_push n ns first) b)))

    last_in : Contains (first ∷ (l ∷ ls)) last
    last_in = subst (Contains (first ∷ (l ∷ ls))) le (end_contained first (l ∷ ls))

    back : (p : Pair) → Contains ms p ⊎ Contains (first ∷ []) p → Contains (first ∷ ((l ∷ ls) ++ ms)) p
    back p (inl m) = Contains-append_right (first ∷ (l ∷ ls)) ms p m
    back p (inr m) = (0, omega arith, sym (only_member first p m))

    on_upper : (p : Pair) → Contains (last ∷ (ms ++ first ∷ [])) p → Contains (first ∷ ((l ∷ ls) ++ ms)) p
    on_upper p (zero, lt, e) =
        Contains-append_left (first ∷ (l ∷ ls)) ms p (subst (Contains (first ∷ (l ∷ ls))) e last_in)
    on_upper p (suc k, lt, e) = back p (Contains-append_cases ms (first ∷ []) p (k, omega (arith, lt), e))

    on_list : (p : Pair) → Contains (first ∷ (l ∷ ls)) p ⊎ Contains (last ∷ (ms ++ first ∷ [])) p
        → Contains (first ∷ ((l ∷ ls) ++ ms)) p
    on_list p (inl m) = Contains-append_left (first ∷ (l ∷ ls)) ms p m
    on_list p (inr m) = on_upper p m
