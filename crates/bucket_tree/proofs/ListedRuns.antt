-- A run of the vertices of a bucket's chain is a walk along the chain of the bucket's half.
use Rattle.std.proofs.Common.{inl, inr, ◌≡◌, ◌∙◌, refl, sym, ap, subst, pos, ◌≤ℤ◌, ◌<ℤ◌, suc, List, [], ◌∷◌}
use Rattle.std.proofs.Common.{◌++◌, map, take, drop, append_assoc, arith}
use Rattle.std.specs.Prelude.{reverse}
use Rattle.std.specs.List.{Contains}
use Rattle.std.proofs.lemmas.List.{reverse-append}
use Rattle.std.proofs.lemmas.List.Elements.{All-contains, Contains-append_left, Contains-append_right, Contains-append_cases}
use Rattle.lattice.specs.Plane.{Pair, orient, IsBefore, turned_point}
use Rattle.lattice.specs.declared.side.Side.{Side}
use Rattle.lattice.specs.declared.side.Side.TheVariants.{Lower, Upper}
use Rattle.lattice.specs.Orientations.{orient_on}
use Rattle.lattice.proofs.Numbers.{less_not_le}
use Rattle.lattice.proofs.Order.{before_trans}
use Rattle.lattice.proofs.Sides.{side_turned_over}
use Rattle.lattice.proofs.TurnedBridges.{turned_order, turned_twice}
use Rattle.bridge_search.specs.Trees.{Tree}
use Rattle.bridge_search.specs.Leaves.{points_of}
use Rattle.bridge_search.specs.TurnedTrees.{turned_tree, turned_on, on_turned}
use Rattle.bridge_search.proofs.Leaves.{on_of_contains, contains_of_on}
use Rattle.hull_geometry.specs.Edges.{IsAlong, IsEdgeOn, IsLowerEdge, IsUpperEdge, IsChain, end_of}
use Rattle.hull_geometry.specs.Monotone.{IsChainOf, IsInner, IsInnerFrom}
use Rattle.hull_geometry.specs.ChainEdges.{IsEdge}
use Rattle.hull_geometry.proofs.ChainEdges.{chain_edges, lower_edge, upper_edge}
use Rattle.hull_geometry.proofs.PointLists.{all_of, cut_at, later, only_member}
use Rattle.hull_geometry.proofs.VertexLists.{chain_push, end_push}
use Rattle.hull_buckets.specs.Buckets.{BucketValue, IsBucket, mask_on}
use Rattle.hull_buckets.specs.Masks.{at_places}
use Rattle.hull_buckets.specs.Slices.{tree_of_slice, all_of as vertices_of}
use Rattle.hull_buckets.specs.Walks.{along}
use Rattle.hull_buckets.proofs.SliceBridges.{chain_on_tree, vertices_among}
use Rattle.hull_questions.specs.Chains.{IsLowerVertex}
use Rattle.hull_questions.specs.Walks.{upright}
use Rattle.hull_questions.proofs.Walked.{end_turned}
use Rattle.bucket_tree.specs.Runs.{IsAhead, IsInOrder, IsListedOn, IsRangeOn, IsRunOf, tree_on}
use Rattle.bucket_tree.proofs.ChainWalks.{upright_order}

-- ---- the chain in the order of a walk

-- along the lower chain each step is a lower edge
forward : (S : List Pair) (x : Pair) (rest : List Pair) → IsChain (IsEdge Lower S) x rest → IsChain (IsLowerEdge S) x rest
forward S x [] c = tt
forward S x (y ∷ ys) c = (lower_edge c.0, forward S y ys c.1)

-- all points of a chain but the last, from its end back
abbrev back : Pair → List Pair → List Pair
back x [] = []
back x (y ∷ ys) = back y ys ++ x ∷ []

-- a chain read backwards begins with its end
backwards : (x : Pair) (rest : List Pair) → reverse (x ∷ rest) ≡ end_of x rest ∷ back x rest
backwards x [] = refl
backwards x (y ∷ ys) = reverse-append (x ∷ []) (y ∷ ys) ∙ ap (λ (z : List Pair). z ++ x ∷ []) (backwards y ys)

-- and ends with its first point
end_back : (x : Pair) (rest : List Pair) → end_of (end_of x rest) (back x rest) ≡ x
end_back x [] = refl
end_back x (y ∷ ys) = end_push (end_of y ys) (back y ys) x

-- along the upper chain, read backwards, each step is an upper edge
backward : (S : List Pair) (x : Pair) (rest : List Pair) → IsChain (IsEdge Upper S) x rest
    → IsChain (IsUpperEdge S) (end_of x rest) (back x rest)
backward S x [] c = tt
backward S x (y ∷ ys) c =
    chain_push (IsUpperEdge S) (end_of y ys) (back y ys) x (backward S y ys c.1)
    (subst (λ (z : Pair). IsUpperEdge S z x) (sym (end_back y ys)) (upper_edge c.0))

-- each step of a list is an edge on this side
abbrev AreSteps : Side → List Pair → List Pair → Type 0
AreSteps side S [] = Unit {0}
AreSteps side S (x ∷ rest) = IsChain (IsEdgeOn side S) x rest

-- each step of a walk along a chain is an edge on its side
steps : (side : Side) (S chain : List Pair) → IsChainOf side S chain → AreSteps side S (along side chain)
steps Lower S [] c = tt
steps Lower S (x ∷ rest) c = forward S x rest (chain_edges Lower S x rest c)
steps Upper S [] c = tt
steps Upper S (x ∷ rest) c =
    subst (AreSteps Upper S) (sym (backwards x rest)) (backward S x rest (chain_edges Upper S x rest c))

-- ---- a run of it

-- a run from a point of the walk on has such steps, too
steps_from : (side : Side) (S ahead : List Pair) (from : Pair) (rest : List Pair) → AreSteps side S (ahead ++ from ∷ rest)
    → IsChain (IsEdgeOn side S) from rest
steps_from side S [] from rest c = c
steps_from side S (x ∷ []) from rest c = c.1
steps_from side S (x ∷ y ∷ more) from rest c = steps_from side S (y ∷ more) from rest c.1

-- and up to a point
steps_to : (E : Pair → Pair → Type 0) (from : Pair) (passed rest : List Pair) → IsChain E from (passed ++ rest)
    → IsChain E from passed
steps_to E from [] rest c = tt
steps_to E from (x ∷ xs) rest c = (c.0, steps_to E x xs rest c.1)

-- an edge of all points is one of some of them, if its ends are among these
edge_among : (side : Side) (S few : List Pair) (u v : Pair) → ((t : Pair) → Contains few t → Contains S t) → Contains few u
    → Contains few v → IsEdgeOn side S u v → IsEdgeOn side few u v
edge_among side S few u v among mu mv k = record {
  from = mu;
  to = mv;
  along = k.along;
  left = all_of (λ t. pos 0 ≤ℤ orient u v t) few (λ t m. All-contains (λ t. pos 0 ≤ℤ orient u v t) S t k.left (among t m));
  last = all_of (λ t. orient u v t ≡ pos 0 → ¬ (IsAlong side v t)) few
      (λ t m. All-contains (λ t. orient u v t ≡ pos 0 → ¬ (IsAlong side v t)) S t k.last (among t m));
}

-- so a chain of such edges is one of some points
chain_among : (side : Side) (S few : List Pair) (u : Pair) (vs : List Pair) → ((t : Pair) → Contains few t → Contains S t)
    → ((t : Pair) → Contains (u ∷ vs) t → Contains few t) → IsChain (IsEdgeOn side S) u vs → IsChain (IsEdgeOn side few) u vs
chain_among side S few u [] among those c = tt
chain_among side S few u (v ∷ vs) among those c = (
  edge_among side S few u v among (those u (0, omega arith, refl)) (those v (1, omega arith, refl)) c.0,
  chain_among side S few v vs among (λ t m. those t (later u t (v ∷ vs) m)) c.1,
)

-- a list read backwards has no other points
of_reverse : (xs : List Pair) (t : Pair) → Contains (reverse xs) t → Contains xs t
of_reverse [] t m = m
of_reverse (x ∷ xs) t m =
    elim (Contains-append_cases (reverse xs) (x ∷ []) t
    (subst (λ (z : List Pair). Contains z t) (reverse-append (x ∷ []) xs) m)) [
      | inl k ↦ later x t xs (of_reverse xs t k)
      | inr k ↦ Contains-append_left (x ∷ []) xs t k
    ]

-- a walk along a chain has no points but those of the chain
of_along : (side : Side) (chain : List Pair) (t : Pair) → Contains (along side chain) t → Contains chain t
of_along Lower chain t m = m
of_along Upper chain t m = of_reverse chain t m

-- ---- the upper chain as the lower one of the rotated half

-- a point of a half is, rotated, one of the rotated half
turned_there : (t : Tree) (s : Pair) → Contains (points_of t) s → Contains (points_of (turned_tree t)) (turned_point s)
turned_there t s m = contains_of_on (turned_tree t) (turned_point s) (turned_on t s (on_of_contains t s m))

-- and back
back_there : (t : Tree) (s : Pair) → Contains (points_of (turned_tree t)) s → Contains (points_of t) (turned_point s)
back_there t s m = contains_of_on t (turned_point s) (on_turned t s (on_of_contains (turned_tree t) s m))

-- an upper edge is, rotated, a lower edge of the rotated half
lower_of_upper : (t : Tree) (u v : Pair) → IsUpperEdge (points_of t) u v
    → IsLowerEdge (points_of (turned_tree t)) (turned_point u) (turned_point v)
lower_of_upper t u v k = record {
  from = turned_there t u k.from;
  to = turned_there t v k.to;
  along = turned_order v u k.along;
  left = all_of (λ s. pos 0 ≤ℤ orient (turned_point u) (turned_point v) s) (points_of (turned_tree t))
      (λ s m. subst (λ z. pos 0 ≤ℤ z) (sym (side_turned_over u v s))
      (All-contains (λ s. pos 0 ≤ℤ orient u v s) (points_of t) (turned_point s) k.left (back_there t s m)));
  last = all_of (λ s. orient (turned_point u) (turned_point v) s ≡ pos 0 → ¬ (IsBefore (turned_point v) s))
      (points_of (turned_tree t))
      (λ s m z b. All-contains (λ s. orient u v s ≡ pos 0 → ¬ (IsBefore s v)) (points_of t) (turned_point s) k.last
      (back_there t s m) (sym (side_turned_over u v s) ∙ z)
      (subst (IsBefore (turned_point s)) (turned_twice v) (turned_order (turned_point v) s b)));
}

-- a chain of upper edges is, rotated, a chain of lower edges of the rotated half
lower_chain : (t : Tree) (v : Pair) (vs : List Pair) → IsChain (IsUpperEdge (points_of t)) v vs
    → IsChain (IsLowerEdge (points_of (turned_tree t))) (turned_point v) (map turned_point vs)
lower_chain t v [] c = tt
lower_chain t v (x ∷ xs) c = (lower_of_upper t v x c.0, lower_chain t x xs c.1)

-- rotated twice, a list is what it was
turned_back : (xs : List Pair) → map turned_point (map turned_point xs) ≡ xs
turned_back [] = refl
turned_back (x ∷ xs) = ap (λ (z : Pair). z ∷ map turned_point (map turned_point xs)) (turned_twice x)
    ∙ ap (λ (z : List Pair). x ∷ z) (turned_back xs)

-- seen as it is, a list stays as it is
seen_as_is : (xs : List Pair) → map (upright Lower) xs ≡ xs
seen_as_is [] = refl
seen_as_is (x ∷ xs) = ap (λ (z : List Pair). x ∷ z) (seen_as_is xs)

-- ---- the run

-- what is listed of a chain on a side is a walk along it
listed_on : (side : Side) (t : Tree) (from to : Pair) (passed before after : List Pair) → IsChain (IsEdgeOn side (points_of t)) from passed
    → end_of from passed ≡ to → after ++ to ∷ [] ≡ before ++ from ∷ passed → IsListedOn side t from to before after
listed_on Lower t from to passed before after c e l = (
  passed,
  record { chain = c; ends = e },
  l ∙ ap (λ (z : List Pair). before ++ z) (sym (seen_as_is (from ∷ passed))),
)
listed_on Upper t from to passed before after c e l = (
  map turned_point passed,
  record {
    chain = lower_chain t from passed c;
    ends = end_turned from passed ∙ ap turned_point e;
  },
  ap (λ (z : Pair). after ++ z ∷ []) (turned_twice to) ∙ l ∙ ap (λ (z : List Pair). before ++ z) (sym (turned_back (from ∷ passed))),
)

-- a run of the walk along a bucket's chain is listed along the chain of the bucket's half
pub run_listed : (side : Side) (b : BucketValue) (from to : Pair) (before after : List Pair) → IsBucket b
    → IsRunOf (along side (at_places (mask_on side b) b.points)) from to before after
    → IsListedOn side (tree_of_slice b (vertices_of b)) from to before after
run_listed side b from to before after k (ahead, left, e, (passed, rest, f, ends, l)) =
    let t : Tree = tree_of_slice b (vertices_of b) in
    let chain : List Pair = at_places (mask_on side b) b.points in
    let whole : along side chain ≡ ahead ++ from ∷ (passed ++ rest) = e ∙ ap (λ (z : List Pair). ahead ++ from ∷ z) f in
    let edges = steps_from side b.points ahead from (passed ++ rest)
    (subst (AreSteps side b.points) whole (steps side b.points chain (k.vertices side).chain)) in
    listed_on side t from to passed before after
    (chain_among side b.points (points_of t) from passed
    (λ s m. vertices_among b k s (on_of_contains t s m))
    (λ s m. contains_of_on t s (chain_on_tree side b k s (of_along side chain s
    (subst (λ (z : List Pair). Contains z s) (sym whole) (Contains-append_right ahead (from ∷ (passed ++ rest)) s
    (Contains-append_left (from ∷ passed) rest s m))))))
    (steps_to (IsEdgeOn side b.points) from passed rest edges))
    ends l

-- ---- the ends of a range in a bucket

-- v lies outwards of each segment between two points of a list, one before it and one after it
abbrev IsOutwardsOfAll : Side → List Pair → Pair → Type 0
IsOutwardsOfAll side S v = (s t : Pair) → Contains S s → Contains S t → IsBefore s v → IsBefore v t → orient_on side s t v <ℤ pos 0

-- a point below no segment between two points of a chain is a point of it, if it is inner to it
inner_from : (side : Side) (a : Pair) (rest : List Pair) (v : Pair) → IsOutwardsOfAll side (a ∷ rest) v → IsInnerFrom side a rest v
    → Contains (a ∷ rest) v
inner_from side a [] v u k = elim k [ ]
inner_from side a (b ∷ rest) v u (inl e) =
    subst (Contains (a ∷ b ∷ rest)) (sym e) (later a b (b ∷ rest) (0, omega arith, refl))
inner_from side a (b ∷ rest) v u (inr (inl (av, vb, h))) =
    absurd (less_not_le _ _ (u a b (0, omega arith, refl) (later a b (b ∷ rest) (0, omega arith, refl)) av vb) h)
inner_from side a (b ∷ rest) v u (inr (inr k)) =
    later a v (b ∷ rest) (inner_from side b rest v (λ s t m n. u s t (later a s (b ∷ rest) m) (later a t (b ∷ rest) n)) k)

inner_of : (side : Side) (chain : List Pair) (v : Pair) → IsOutwardsOfAll side chain v → IsInner side chain v → Contains chain v
inner_of side [] v u k = elim k [ ]
inner_of side (a ∷ rest) v u (inl e) = subst (Contains (a ∷ rest)) (sym e) (0, omega arith, refl)
inner_of side (a ∷ rest) v u (inr k) = inner_from side a rest v u k

-- a vertex on a side of a half is a point of it, and lies outwards of each segment between two others
vertex_on : (side : Side) (t : Tree) (v : Pair) → IsLowerVertex (points_of (tree_on side t)) (upright side v)
    → Contains (points_of t) v × IsOutwardsOfAll side (points_of t) v
vertex_on Lower t v k = (k.there, k.under)
vertex_on Upper t v k = (
  subst (Contains (points_of t)) (turned_twice v) (back_there t (turned_point v) k.there),
  λ s u m n sv vu. subst (λ z. z <ℤ pos 0) (side_turned_over u s (turned_point v) ∙ ap (orient u s) (turned_twice v))
      (k.under (turned_point u) (turned_point s) (turned_there t u n) (turned_there t s m) (turned_order v u vu) (turned_order s v sv)),
)

-- a vertex on a side of a bucket's half is a point of the chain on that side
on_chain : (side : Side) (b : BucketValue) (v : Pair) → IsBucket b
    → IsLowerVertex (points_of (tree_on side (tree_of_slice b (vertices_of b)))) (upright side v)
    → Contains (at_places (mask_on side b) b.points) v
on_chain side b v k h =
    let t : Tree = tree_of_slice b (vertices_of b) in
    let u = vertex_on side t v h in
    inner_of side (at_places (mask_on side b) b.points) v
    (λ s r m n. u.1 s r (contains_of_on t s (chain_on_tree side b k s m)) (contains_of_on t r (chain_on_tree side b k r n)))
    ((k.vertices side).chain.inner v (vertices_among b k v (on_of_contains t v u.0)))

-- a list read backwards has all points
in_reverse : (xs : List Pair) (t : Pair) → Contains xs t → Contains (reverse xs) t
in_reverse [] t m = m
in_reverse (x ∷ xs) t m = subst (λ (z : List Pair). Contains z t) (sym (reverse-append (x ∷ []) xs))
    (elim (Contains-append_cases (x ∷ []) xs t m) [
      | inl k ↦ Contains-append_right (reverse xs) (x ∷ []) t k
      | inr k ↦ Contains-append_left (reverse xs) (x ∷ []) t (in_reverse xs t k)
    ])

-- a walk along a chain passes all its points
in_along : (side : Side) (chain : List Pair) (t : Pair) → Contains chain t → Contains (along side chain) t
in_along Lower chain t m = m
in_along Upper chain t m = in_reverse chain t m

-- a list is what is before one of its members, the member, and what is after it
split_at : (xs : List Pair) (v : Pair) → Contains xs v → (passed rest : List Pair) × (xs ≡ passed ++ v ∷ rest)
split_at xs v m = (
  take m.0 xs,
  drop (suc m.0) xs,
  cut_at xs m.0 v m.1 ∙ ap (λ (z : Pair). take m.0 xs ++ z ∷ drop (suc m.0) xs) m.2,
)

-- each point of a chain of edges comes along after the first
along_chain : (side : Side) (S : List Pair) (x : Pair) (mid : List Pair) (y : Pair) (rest : List Pair)
    → IsChain (IsEdgeOn side S) x (mid ++ y ∷ rest) → IsAlong side x y
along_chain side S x [] y rest c = c.0.along
along_chain side S x (z ∷ zs) y rest c = over side c.0.along (along_chain side S z zs y rest c.1)
  where
    over : (side : Side) → IsAlong side x z → IsAlong side z y → IsAlong side x y
    over Lower a b = before_trans x z y a b
    over Upper a b = before_trans y z x b a

-- of two vertices of a range the second is not before the first along a walk, so it is the same or comes later
not_back : (side : Side) (S walk passed : List Pair) (from : Pair) (rest : List Pair) (to : Pair) → AreSteps side S walk
    → walk ≡ passed ++ from ∷ rest → Contains walk to → ¬ IsAlong side to from → IsAhead rest from to
not_back side S walk passed from rest to c e m n =
    elim (Contains-append_cases passed (from ∷ rest) to (subst (λ (z : List Pair). Contains z to) e m)) [
      | inl k ↦
          let p = split_at passed to k in
          let whole : walk ≡ p.0 ++ to ∷ (p.1 ++ from ∷ rest) =
          e ∙ ap (λ (z : List Pair). z ++ from ∷ rest) p.2 ∙ append_assoc p.0 (to ∷ p.1) (from ∷ rest) in
          absurd (n (along_chain side S to p.1 from rest (steps_from side S p.0 to (p.1 ++ from ∷ rest) (subst (AreSteps side S) whole c))))
      | inr k ↦ elim (Contains-append_cases (from ∷ []) rest to k) [
        | inl i ↦ inl (sym (only_member from to i))
        | inr i ↦ inr i
      ]
    ]

-- the ends of a range are points of the walk along the bucket's chain, in this order
pub range_in_order : (side : Side) (b : BucketValue) (from to : Pair) → IsBucket b → IsRangeOn side (tree_of_slice b (vertices_of b)) from to
    → IsInOrder (along side (at_places (mask_on side b) b.points)) from to
range_in_order side b from to k r =
    let chain : List Pair = at_places (mask_on side b) b.points in
    let p = split_at (along side chain) from (in_along side chain from (on_chain side b from k r.starts)) in (
      p.0,
      p.1,
      p.2,
      not_back side b.points (along side chain) p.0 from p.1 to (steps side b.points chain (k.vertices side).chain) p.2
          (in_along side chain to (on_chain side b to k r.ends)) (λ a. r.onward (upright_order side to from a)),
    )
