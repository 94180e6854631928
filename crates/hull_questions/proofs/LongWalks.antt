-- Each range of a chain has a walk, however long; and the facts about a list with the capacity for only some of its
-- points.
use Rattle.std.proofs.Common.{◌≡◌, ℕ, ◌<◌, ◌≤◌, ◌⊎◌, List, [], ◌∷◌, ◌++◌, length, map, Bool, true, false, inl, inr, refl, sym, ap, ◌∙◌, subst}
use Rattle.std.proofs.Common.{arith, append_assoc, length-append}
use Rattle.std.proofs.lemmas.List.{map-append}
use Rattle.lattice.specs.Plane.{Pair, IsBefore}
use Rattle.hull_questions.specs.Walks.{IsLongerThan}
use Rattle.lattice.specs.declared.side.Side.{Side}
use Rattle.lattice.specs.declared.side.Side.TheVariants.{Lower, Upper}
use Rattle.lattice.proofs.Order.{before_total, before_irrefl, before_not}
use Rattle.bridge_search.specs.Trees.{Tree, Leaf, Fork, IsBridged, IsFork, first_of, last_of, left_of, right_of}
use Rattle.bridge_search.specs.TurnedTrees.{turned_tree, bridged_turned}
use Rattle.bridge_search.specs.Leaves.{points_of}
use Rattle.hull_geometry.proofs.PointLists.{only_member}
use Rattle.hull_geometry.proofs.Rounding.{front_of}
use Rattle.hull_questions.specs.ChainRanges.{IsChainRange, IsChainRangeAcross}
use Rattle.hull_questions.specs.Walks.{IsWalk, IsListed, IsListedUpTo, upright}
use Rattle.hull_questions.proofs.Stretched.{chain_range_left, chain_range_right, chain_range_across, whole_chain_range}
use Rattle.hull_questions.proofs.Walked.{both_listed, listed_over}

-- whether one point is before another can be decided
before_returned : (p q : Pair) → IsBefore p q ⊎ ¬ (IsBefore p q)
before_returned p q = elim (before_total p q) [
  | inl b ↦ inl b
  | inr (inl e) ↦ inr (λ b. before_irrefl q (subst (λ (z : Pair). IsBefore z q) e b))
  | inr (inr b) ↦ inr (before_not q p b)
]

-- each range has a walk
walk_there : (t : Tree) (from to : Pair) → IsBridged t → IsChainRange t from to → (passed : List Pair) × IsWalk t from passed to
walk_there (Leaf x) from to h s =
    ([], record { chain = tt; ends = only_member x from s.starts.there ∙ sym (only_member x to s.ends.there) })
walk_there (Fork e f u w) from to h s = elim (before_returned f.0 to) [
  | inr n ↦
      let k = (chain_range_left (Fork e f u w) f.0 f.1 from to h refl s n).1 in
      let r = walk_there u from to h.3 k.chain_range in (r.0, k.walks r.0 r.1)
  | inl b ↦ elim (before_returned from f.1) [
    | inr n ↦
        let k = (chain_range_right (Fork e f u w) f.0 f.1 from to h refl s n).1 in
        let r = walk_there w from to h.4 k.chain_range in (r.0, k.walks r.0 r.1)
    | inl c ↦
        let k = (chain_range_across (Fork e f u w) f.0 f.1 from to h refl s b c).1 in
        let r = walk_there u from f.0 h.3 k.left in
        let q = walk_there w f.1 to h.4 k.right in (r.0 ++ f.1 ∷ q.0, k.walks r.0 q.0 r.1 q.1)
  ]
]

-- the list after the points of a range were appended, which is no shorter than before
pub record IsLonger (t : Tree) (from to : Pair) (side : Side) (before : List Pair) : Type 0 where
  pub all : List Pair
  pub listed : IsListed t from to side before all
  pub long : length before ≤ length all

pub listed_there : (t : Tree) (from to : Pair) (side : Side) (before : List Pair) → IsBridged t → IsChainRange t from to
    → IsLonger t from to side before
listed_there t from to side before h s =
    let k = walk_there t from to h s in
    let f = front_of from to k.0 k.1.ends in
    record {
      all = before ++ map (upright side) f.0;
      listed = (
        k.0,
        k.1,
        append_assoc before (map (upright side) f.0) (upright side to ∷ [])
            ∙ ap (λ (z : List Pair). before ++ z) (sym (map-append (upright side) f.0 (to ∷ [])))
            ∙ ap (λ (z : List Pair). before ++ map (upright side) z) (sym f.1),
      );
      long = omega (arith, length-append before (map (upright side) f.0));
    }

-- both halves of a bridged fork are bridged
right_bridged : (t : Tree) → IsFork t → IsBridged t → IsBridged (right_of t)
right_bridged (Leaf x) f h = absurd f
right_bridged (Fork e f u w) k h = h.4

-- if the left half's range fills the list, all are too many for it
pub too_many_left : (t : Tree) (from a b to : Pair) (side : Side) (most : ℕ) (before one : List Pair) → IsBridged t → IsFork t
    → IsChainRangeAcross t from a b to → IsListed (left_of t) from a side before one → most ≤ length one
    → (all : List Pair) × IsListed t from to side before all × (most < length all)
too_many_left t from a b to side most before one h f k l n =
    let two = one ++ upright side a ∷ [] in
    let r = listed_there (right_of t) b to side two (right_bridged t f h) k.right in (
      r.all,
      listed_over t (left_of t) (right_of t) from a b to side before one two r.all k.walks l refl r.listed,
      omega (arith, n, r.long, length-append one (upright side a ∷ [])),
    )

-- the left half's range, the start of the bridge, and the right half's range are the whole range
pub listed_up_to : (t u w : Tree) (from a b to : Pair) (side : Side) (most : ℕ) (before one two after : List Pair) (whole : Bool)
    → ((xs ys : List Pair) → IsWalk u from xs a → IsWalk w b ys to → IsWalk t from (xs ++ b ∷ ys) to)
    → IsListed u from a side before one → two ≡ one ++ upright side a ∷ [] → IsListedUpTo w b to side most two after whole
    → IsListedUpTo t from to side most before after whole
listed_up_to t u w from a b to side most before one two after true walks l e r =
    (listed_over t u w from a b to side before one two after walks l e r.0, r.1)
listed_up_to t u w from a b to side most before one two after false walks l e r =
    (r.0, listed_over t u w from a b to side before one two r.0 walks l e r.1, r.2)

-- if the lower chain is too long, so is the vertex list
pub long_lower : (t : Tree) (most : ℕ) (one : List Pair) → IsBridged t → IsBefore (first_of t) (last_of t)
    → IsListed t (first_of t) (last_of t) Lower [] one → most < length one → IsLongerThan most (points_of t)
long_lower t most one h b l n =
    let u : Tree = turned_tree t in
    let r = listed_there u (first_of u) (last_of u) Upper one (bridged_turned t h) (whole_chain_range u (bridged_turned t h)) in
    (r.all, both_listed t one r.all h b l r.listed, omega (arith, n, r.long))
