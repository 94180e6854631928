-- A walk along a chain through a fork.
use Rattle.std.proofs.Common.{◌≡◌, ◌∙◌, refl, sym, ap, subst, List, [], ◌∷◌, ◌++◌, ◌<◌, arith}
use Rattle.std.specs.Prelude.{Some}
use Rattle.lattice.specs.Plane.{Pair, IsBefore, turned_point}
use Rattle.lattice.specs.declared.side.Side.{Side}
use Rattle.lattice.specs.declared.side.Side.TheVariants.{Lower, Upper}
use Rattle.lattice.specs.Vertices.{IsVertexList}
use Rattle.lattice.proofs.TurnedBridges.{turned_order, turned_twice, unturned}
use Rattle.bridge_search.specs.TurnedTrees.{bridged_turned, first_turned, last_turned, turned_tree}
use Rattle.bridge_search.specs.Trees.{Tree, IsBridged, first_of, height_of, last_of, left_of, lower_of, right_of}
use Rattle.bridge_search.specs.Leaves.{points_of}
use Rattle.hull_geometry.specs.Edges.{IsAlong}
use Rattle.hull_questions.specs.ChainRanges.{IsChainRange, IsChainRangeOf}
use Rattle.hull_questions.specs.Walks.{IsListed, IsWalk, upright}
use Rattle.hull_questions.proofs.Stretched.{chain_range_left, chain_range_right, chain_range_across, whole_chain_range}
use Rattle.hull_questions.proofs.Walked.{both_listed, listed_over}
use Rattle.bucket_tree.specs.Chains.{HasRange, IsPassage}
use Rattle.bucket_tree.specs.Nodes.{AreWhole, tree_at, tree_of}
use Rattle.bucket_tree.specs.Runs.{IsListedOn, IsRangeOn, tree_on}
use Rattle.bucket_tree.specs.declared.chains.Passage.{Passage}
use Rattle.bucket_tree.specs.declared.node.Fork.{Fork}
use Rattle.bucket_tree.specs.declared.node.Node.{Node}

-- the order along a chain is that of the half of its side
pub upright_order : (side : Side) (p q : Pair) → IsAlong side p q → IsBefore (upright side p) (upright side q)
upright_order Lower p q a = a
upright_order Upper p q a = turned_order q p a

-- and the other way round
pub order_upright : (side : Side) (p q : Pair) → IsBefore (upright side p) (upright side q) → IsAlong side p q
order_upright Lower p q a = a
order_upright Upper p q a = unturned q p a

-- seen twice, a vertex is what it was
pub upright_twice : (side : Side) (p : Pair) → upright side (upright side p) ≡ p
upright_twice Lower p = refl
upright_twice Upper p = turned_twice p

-- the half of a side has bridges as the half has
pub bridged_on : (side : Side) (t : Tree) → IsBridged t → IsBridged (tree_on side t)
bridged_on Lower t h = h
bridged_on Upper t h = bridged_turned t h

-- the bridge of a passage is the lower one of the half of its side
pub passage_bridge : (side : Side) (f : Fork) (p : Passage) → IsPassage side f p
    → Some (upright side p.start.now, upright side p.end.now) ≡ lower_of (tree_on side (tree_at f))
passage_bridge Lower f p (a, b, c, d) = rw (b, c) refl
passage_bridge Upper f p (a, b, c, d) = rw (b, c) refl

-- its first half is the left one of the half of its side
pub passage_first : (side : Side) (f : Fork) (p : Passage) → IsPassage side f p
    → tree_on side (tree_of p.first.now) ≡ left_of (tree_on side (tree_at f))
passage_first Lower f p (a, b, c, d) = ap tree_of a
passage_first Upper f p (a, b, c, d) = ap (λ n. tree_on Upper (tree_of n)) a

-- its last half is the right one
pub passage_last : (side : Side) (f : Fork) (p : Passage) → IsPassage side f p
    → tree_on side (tree_of p.last.now) ≡ right_of (tree_on side (tree_at f))
passage_last Lower f p (a, b, c, d) = ap tree_of d
passage_last Upper f p (a, b, c, d) = ap (λ n. tree_on Upper (tree_of n)) d

-- ---- ranges

-- a range of a half of a fork, which is lower than the fork
abbrev pub IsRangeBelow : Side → Fork → Node → Pair → Pair → Type 0
IsRangeBelow side f n from to = (height_of (tree_of n) < height_of (tree_at f)) × HasRange side n from to

-- a range of the left half is one
left_range : (side : Side) (f : Fork) (n : Node) (from to : Pair) → AreWhole f → IsBridged (tree_at f) → n ≡ f.left
    → IsRangeOn side (tree_of n) from to → IsRangeBelow side f n from to
left_range side f n from to w b e r = rw e (omega arith, record { whole = w.0; bridged = b.3; between = rw e at r })

-- and so is one of the right half
right_range : (side : Side) (f : Fork) (n : Node) (from to : Pair) → AreWhole f → IsBridged (tree_at f) → n ≡ f.right
    → IsRangeOn side (tree_of n) from to → IsRangeBelow side f n from to
right_range side f n from to w b e r = rw e (omega arith, record { whole = w.1; bridged = b.4; between = rw e at r })

-- so a range of the first half of a passage is one
pub first_range : (side : Side) (f : Fork) (p : Passage) (from to : Pair) → IsPassage side f p → AreWhole f → IsBridged (tree_at f)
    → IsRangeOn side (tree_of p.first.now) from to → IsRangeBelow side f p.first.now from to
first_range Lower f p from to (a, b, c, d) w h r = left_range Lower f p.first.now from to w h a r
first_range Upper f p from to (a, b, c, d) w h r = right_range Upper f p.first.now from to w h a r

-- and so is one of the last half
pub last_range : (side : Side) (f : Fork) (p : Passage) (from to : Pair) → IsPassage side f p → AreWhole f → IsBridged (tree_at f)
    → IsRangeOn side (tree_of p.last.now) from to → IsRangeBelow side f p.last.now from to
last_range Lower f p from to (a, b, c, d) w h r = right_range Lower f p.last.now from to w h d r
last_range Upper f p from to (a, b, c, d) w h r = left_range Upper f p.last.now from to w h d r

-- a range of a node is one of a half, and what is listed of the node is listed of the half
pub record IsPart (side : Side) (t : Tree) (n : Node) (from to : Pair) : Type 0 where
  pub between : IsRangeOn side (tree_of n) from to
  pub listed : (before after : List Pair) → IsListedOn side (tree_of n) from to before after → IsListedOn side t from to before after

-- a range of the half of a node is one of the node
part : (side : Side) (t : Tree) (n : Node) (u : Tree) (from to : Pair) → tree_on side (tree_of n) ≡ u
    → IsChainRangeOf u (tree_on side t) (upright side from) (upright side to) → IsPart side t n from to
part side t n u from to e k = record {
  between = subst (λ (z : Tree). IsChainRange z (upright side from) (upright side to)) (sym e) k.chain_range;
  listed = λ before after l. (
    l.0,
    k.walks l.0 (subst (λ (z : Tree). IsWalk z (upright side from) l.0 (upright side to)) e l.1),
    l.2,
  );
}

-- a range that ends at the start of the bridge or before it is one of the first half
pub part_first : (side : Side) (f : Fork) (p : Passage) (from to : Pair) → IsPassage side f p → IsBridged (tree_at f)
    → IsRangeOn side (tree_at f) from to → ¬ IsAlong side p.start.now to → IsPart side (tree_at f) p.first.now from to
part_first side f p from to i h r n =
    let t : Tree = tree_on side (tree_at f) in
    part side (tree_at f) p.first.now (left_of t) from to (passage_first side f p i)
    (chain_range_left t (upright side p.start.now) (upright side p.end.now) (upright side from) (upright side to)
    (bridged_on side (tree_at f) h) (passage_bridge side f p i) r (λ b. n (order_upright side p.start.now to b))).1

-- a range that starts at the end of the bridge or after it is one of the last half
pub part_last : (side : Side) (f : Fork) (p : Passage) (from to : Pair) → IsPassage side f p → IsBridged (tree_at f)
    → IsRangeOn side (tree_at f) from to → ¬ IsAlong side from p.end.now → IsPart side (tree_at f) p.last.now from to
part_last side f p from to i h r n =
    let t : Tree = tree_on side (tree_at f) in
    part side (tree_at f) p.last.now (right_of t) from to (passage_last side f p i)
    (chain_range_right t (upright side p.start.now) (upright side p.end.now) (upright side from) (upright side to)
    (bridged_on side (tree_at f) h) (passage_bridge side f p i) r (λ b. n (order_upright side from p.end.now b))).1

-- a range of both halves of a passage: what is listed of the first up to the bridge, the start of the bridge, and what is listed of the last
-- from its end on are listed of the fork
pub record IsAcross (side : Side) (f : Fork) (p : Passage) (from to : Pair) : Type 0 where
  pub first : IsRangeOn side (tree_of p.first.now) from p.start.now
  pub last : IsRangeOn side (tree_of p.last.now) p.end.now to
  pub listed : (before one after : List Pair) → IsListedOn side (tree_of p.first.now) from p.start.now before one
      → IsListedOn side (tree_of p.last.now) p.end.now to (one ++ p.start.now ∷ []) after → IsListedOn side (tree_at f) from to before after

-- a range that starts before the end of the bridge and ends after its start is one of both halves
pub across : (side : Side) (f : Fork) (p : Passage) (from to : Pair) → IsPassage side f p → IsBridged (tree_at f)
    → IsRangeOn side (tree_at f) from to → IsAlong side p.start.now to → IsAlong side from p.end.now → IsAcross side f p from to
across side f p from to i h r a b =
    let t : Tree = tree_on side (tree_at f) in
    let start : Pair = upright side p.start.now in
    let end : Pair = upright side p.end.now in
    let first = passage_first side f p i in
    let last = passage_last side f p i in
    let k = (chain_range_across t start end (upright side from) (upright side to) (bridged_on side (tree_at f) h) (passage_bridge side f p i)
    r (upright_order side p.start.now to a) (upright_order side from p.end.now b)).1 in record {
      first = subst (λ (z : Tree). IsChainRange z (upright side from) start) (sym first) k.left;
      last = subst (λ (z : Tree). IsChainRange z end (upright side to)) (sym last) k.right;
      listed = λ before one after l m.
          listed_over t (left_of t) (right_of t) (upright side from) start end (upright side to) side before one
          (one ++ p.start.now ∷ []) after k.walks (subst (λ (z : Tree). IsListed z (upright side from) start side before one) first l)
          (ap (λ (z : Pair). one ++ z ∷ []) (sym (upright_twice side p.start.now)))
          (subst (λ (z : Tree). IsListed z end (upright side to) side (one ++ p.start.now ∷ []) after) last m);
    }

-- ---- the whole chains

-- the lower chain is a range
pub lower_range : (t : Tree) (first last : Pair) → IsBridged t → first ≡ first_of t → last ≡ last_of t → IsRangeOn Lower t first last
lower_range t first last h e f = rw (e, f) (whole_chain_range t h)

-- and so is the upper one
pub upper_range : (t : Tree) (first last : Pair) → IsBridged t → first ≡ first_of t → last ≡ last_of t → IsRangeOn Upper t last first
upper_range t first last h e f = rw (e, f, ← first_turned t, ← last_turned t) (whole_chain_range (turned_tree t) (bridged_turned t h))

-- the lists of both chains, each without its last point, are the vertex list
pub both_chains : (t : Tree) (first last : Pair) (one two : List Pair) → IsBridged t → first ≡ first_of t → last ≡ last_of t
    → IsBefore first last → IsListedOn Lower t first last [] one → IsListedOn Upper t last first one two → IsVertexList (points_of t) two
both_chains t first last one two h e f b l m =
    let u : Tree = turned_tree t in
    let from : turned_point last ≡ first_of u = ap turned_point f ∙ sym (first_turned t) in
    let to : turned_point first ≡ last_of u = ap turned_point e ∙ sym (last_turned t) in
    both_listed t one two h (rw (e, f) at b) (rw (e, f) at l)
    (subst (λ (z : Pair). IsListed u z (last_of u) Upper one two) from
    (subst (λ (z : Pair). IsListed u (turned_point last) z Upper one two) to m))
