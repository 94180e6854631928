-- The points below a node, by those of its halves.
use Rattle.std.proofs.lemmas.Grind.{common_steps}
use Rattle.std.proofs.Common.{◌≡◌, ◌∙◌, ℕ, ◌<◌, List, ◌++◌, length, ap, subst, sym, arith}
use Rattle.std.proofs.Common.{Box}
use Rattle.std.proofs.Math.ListN.{get_or-append}
use Rattle.std.proofs.Math.Seq.{get_or-append_right}
use Rattle.std.proofs.lemmas.List.{length-append}
use Rattle.lattice.specs.Plane.{Pair}
use Rattle.hull_geometry.specs.Positions.{origin, first_of, last_of}
use Rattle.bucket_tree.specs.declared.node.Node.{Node, Leaf, Fork', Taken, Fork}
use Rattle.bucket_tree.specs.declared.node.Ends.{Ends}
use Rattle.bucket_tree.specs.declared.node.Fork.{Fork as Below}
use Rattle.bucket_tree.specs.Nodes.{points_below, ends_in, HasBuckets, IsLabelled, IsWhole}

-- the first of two lists in a row is the first of the one
pub first_join : (xs ys : List Pair) → 0 < length xs → first_of (xs ++ ys) ≡ first_of xs
first_join xs ys h = get_or-append xs ys origin 0 h

-- and the last of them the last of the other
pub last_join : (xs ys : List Pair) → 0 < length ys → last_of (xs ++ ys) ≡ last_of ys
last_join xs ys h = grind (arith, common_steps, get_or-append_right, origin, length-append)

-- there is a point below each node
pub some_below : (n : Node) → HasBuckets n → 0 < length (points_below n)
some_below (Leaf b) h = h.some
some_below (Fork' height i left right right_ends upper left_ends lower) h =
    omega (arith, length-append (points_below left) (points_below right), some_below left h.0)
some_below Taken h = absurd h

-- if all below a node are buckets, no gap is left
pub whole : (n : Node) → HasBuckets n → IsWhole n
whole (Leaf b) h = tt
whole (Fork' height i left right right_ends upper left_ends lower) h = (whole left h.0, whole right h.1)
whole Taken h = absurd h

-- the first point below a fork is that below its left half
pub first_of_fork : (n : Node) (h : ℕ) (f : Box Below _) → n ≡ Fork h f → HasBuckets n
    → first_of (points_below f.value.left) ≡ first_of (points_below n)
first_of_fork n h f e b = rw e (sym (first_join (points_below f.value.left) (points_below f.value.right)
    (some_below f.value.left (subst HasBuckets e b).0)))

-- and the last point that below its right half
pub last_of_fork : (n : Node) (h : ℕ) (f : Box Below _) → n ≡ Fork h f → HasBuckets n
    → last_of (points_below f.value.right) ≡ last_of (points_below n)
last_of_fork n h f e b = rw e (sym (last_join (points_below f.value.left) (points_below f.value.right)
    (some_below f.value.right (subst HasBuckets e b).1)))

-- so the ends of a fork are those that it stores of its halves
pub ends_of_fork : (n : Node) (h : ℕ) (f : Box Below _) (x y : Below) → n ≡ Fork h f → x ≡ f.value → y ≡ f.value
    → HasBuckets n → IsLabelled n → record { first = x.left_ends.first; last = y.right_ends.last } ≡ ends_in
    (points_below n)
ends_of_fork n h f x y e i j b w =
    let k = subst IsLabelled e w in
    let first = ap (λ (z : Below). z.left_ends.first) i ∙ ap (λ (z : Ends). z.first) k.0 ∙ first_of_fork n h f e b in
    let last = ap (λ (z : Below). z.right_ends.last) j ∙ ap (λ (z : Ends). z.last) k.1 ∙ last_of_fork n h f e b in
    cc (first, last)
