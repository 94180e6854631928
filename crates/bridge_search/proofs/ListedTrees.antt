-- The subtrees of a half over a borrowed list.
use Rattle.std.proofs.Common.{◌≡◌, ◌≤◌, ◌<◌, length, slice_index_or, refl, arith, List, [], ◌∷◌, Some, None}
use Rattle.bridge_search.specs.Trees.{Leaf, Fork, IsBridged, IsFork, edge_of, lower_of}
use Rattle.bridge_search.specs.Listed.{Entry, listed_tree}

-- a half with edges has at least two points
pub fork_listed : (es : List Entry) → IsFork (listed_tree es) → 2 ≤ length es
fork_listed [] h = absurd h
fork_listed (e ∷ []) h = absurd h
fork_listed (e ∷ f ∷ es) h = omega arith

-- the half of the rest of a list keeps the law if that of the list does
pub bridged_rest : (e : Entry) (es : List Entry) → 1 ≤ length es → IsBridged (listed_tree (e ∷ es))
    → IsBridged (listed_tree es)
bridged_rest e [] h k = absurd (omega arith)
bridged_rest e (f ∷ es) h k = k.3

-- a half of a list, with a point after it and the bridges between them, is the half of a list
pub bridged_more : (e : Entry) (es : List Entry) → 1 ≤ length es → IsBridged (Fork e.1 e.2 (listed_tree es) (Leaf e.0))
    → IsBridged (listed_tree (e ∷ es))
bridged_more e [] h k = absurd (omega arith)
bridged_more e (f ∷ es) h k = k

-- a half of one point has no edges
pub edges_one : (es : List Entry) → length es < 2
    → (None ≡ edge_of (listed_tree es)) × (None ≡ lower_of (listed_tree es))
edges_one [] h = (refl, refl)
edges_one (e ∷ []) h = (refl, refl)
edges_one (e ∷ f ∷ es) h = absurd (omega arith)

-- a half of at least two points has the edges of the first entry
pub edges_more : (es : List Entry) (d : Entry) → 2 ≤ length es
    → (Some (slice_index_or es 0 d).1 ≡ edge_of (listed_tree es))
    × (Some (slice_index_or es 0 d).2 ≡ lower_of (listed_tree es))
edges_more [] d h = absurd (omega arith)
edges_more (e ∷ []) d h = absurd (omega arith)
edges_more (e ∷ f ∷ es) d h = (refl, refl)
