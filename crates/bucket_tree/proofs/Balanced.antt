-- A fork of which one half was altered, before it is balanced and after.
use Rattle.std.proofs.Common.{◌≡◌, ℕ, length, ap, Some, ◌+◌, ◌*◌, ◌≤◌, ◌++◌, max, Bool, false, cond, not, refl, sym, subst, arith}
use Rattle.std.proofs.Common.{◌⊎◌, ◌∙◌, inl, inr}
use Rattle.lattice.specs.Plane.{Pair}
use Rattle.lattice.specs.declared.side.Side.{Side}
use Rattle.hull_set.specs.declared.TheConstants.{POINT_LIMIT}
use Rattle.bucket_tree.specs.Changes.{ClosesBy, IsEndUnlessClear, IsUnaffectedOver, change_of, edge_on}
use Rattle.bucket_tree.specs.Counts.{Alters, Kind, Comes, Goes, HasGained, HasLost, IsNoMuchHigher}
use Rattle.bucket_tree.specs.Halves.{half_of, with_half}
use Rattle.bucket_tree.specs.InPlace.{IsToBalance}
use Rattle.bucket_tree.specs.Nodes.{points_below, multiplicities_below, node_height, AreInRow, IsHeightOver, IsWellBuilt}
use Rattle.bucket_tree.specs.Turns.{most_turns}
use Rattle.bucket_tree.specs.declared.renewal.Affected.{Affected}
use Rattle.bucket_tree.specs.declared.renewal.Change.{Change}
use Rattle.bucket_tree.specs.declared.node.Fork.{Fork}
use Rattle.bucket_tree.specs.declared.node.Node.{Node}
use Rattle.bucket_tree.proofs.Added.{ends_after, lost_at}
use Rattle.bucket_tree.proofs.InPlace.{IsForkAt, after_with, among_with}
use Rattle.bucket_tree.proofs.Kept.{same_edges, unaffected_within}
use Rattle.bucket_tree.proofs.MostTurns.{few_sum, one_fork}
use Rattle.bucket_tree.proofs.OneHalf.{IsHalf, IsNextTo, half_at, higher_again, lower_again, near_again}
use Rattle.bucket_tree.proofs.Parts.{HasSpaceFor, alters_with, differs, few_with, is_refused, row_with}

-- whether a point was added
abbrev pub adds : Kind → Bool
adds (Comes refused) = not refused
adds Goes = false

-- the half of a fork is m now, which is well built, and differs from it by the change
pub record IsAltered (left : Bool) (kind : Kind) (p : Pair) (n : Node) (f : Fork) (m : Node) (sides : Affected) : Type 0 where
  pub built : IsWellBuilt m
  pub altered : Alters kind p (half_of left f) m
  pub near : IsNextTo (node_height m) (node_height (half_of left f))
  pub unaffected : is_refused kind ≡ false → IsUnaffectedOver p sides (points_below m)
  pub space : HasSpaceFor kind p (points_below n)
  pub low : node_height n ≤ 28

-- the half before the change
pub half_before : (left : Bool) (p : Pair) (n : Node) (h : ℕ) (f : Fork) → IsForkAt left p n h f → IsHalf n (half_of left f)
half_before left p n h f i = half_at left p n f.left f.right i.at i.apart.height

-- a point that was added is an end of each bridge of which it is not clear; if none was, all points are inner to the old ones
end_with_kind : (left : Bool) (kind : Kind) (side : Side) (p : Pair) (n : Node) (h : ℕ) (f : Fork) (m : Node) → IsForkAt left p n h f
    → Alters kind p (half_of left f) m → HasSpaceFor kind p (points_below n) → AreInRow (cond left m f.left) (cond left f.right m)
    → IsEndUnlessClear (change_of left (adds kind)) side p (cond left m f.left) (cond left f.right m) (edge_on side f)
end_with_kind left (Comes refused) side p n h f m i a s row =
    ends_after left refused side p f.left f.right m (edge_on side f) (edge_on side f) (change_of left (not refused)) i.apart.row row
    (i.apart.edges side) (λ k. s.0 ((half_before left p n h f i).among p k)) a refl refl
end_with_kind left Goes side p n h f m i a s row = lost_at left side p f.left f.right m (edge_on side f) i.apart.row (i.apart.edges side) a.0

-- n was the fork f, of which the half is m now; g is f with m in its place
pub record IsForkAltered (left : Bool) (kind : Kind) (p : Pair) (n : Node) (h : ℕ) (f : Fork) (m : Node) (sides : Affected) (g : Fork)
    : Type 0 where
  pub at : IsForkAt left p n h f
  pub altered : IsAltered left kind p n f m sides
  pub value : g ≡ with_half left f m

module _ {left : Bool} {kind : Kind} {p : Pair} {n : Node} {h : ℕ} {f : Fork} {m : Node} {sides : Affected} {g : Fork}
    (x : IsForkAltered left kind p n h f m sides g) where
  half : IsHalf n (half_of left f)
  half = half_before left p n h f x.at

  row : AreInRow (cond left m f.left) (cond left f.right m)
  row = row_with left kind p n f.left f.right m x.at.at x.altered.built x.altered.altered

  near : (node_height (cond left m f.left) ≤ node_height (cond left f.right m) + 2)
      × (node_height (cond left f.right m) ≤ node_height (cond left m f.left) + 2)
      × (max (node_height (cond left m f.left)) (node_height (cond left f.right m)) ≤ node_height n)
  near = near_again left f.left f.right m (node_height n) x.at.apart.near x.at.apart.height x.altered.near

  -- it is to be balanced
  pub to_balance : (change : Change) → change ≡ change_of left (adds kind) → IsToBalance left change p sides g
  to_balance change e = subst (IsToBalance left change p sides) (sym x.value)
      (subst (λ z. IsToBalance left z p sides (with_half left f m)) (sym e)
      record {
        after = after_with left kind p n h f m sides x.at.apart x.altered.built row x.altered.altered
            (differs kind p (half_of left f) m half.built.ordered x.altered.altered) x.altered.unaffected;
        end = λ side. subst (IsEndUnlessClear (change_of left (adds kind)) side p (cond left m f.left) (cond left f.right m))
            (sym (same_edges f (with_half left f m) refl refl side))
            (end_with_kind left kind side p n h f m x.at x.altered.altered x.altered.space row);
        few = few_with left kind p n f.left f.right m x.at.at x.altered.altered x.altered.space;
        near_left = near.0;
        near_right = near.1;
        low = omega (arith, near.2, x.altered.low);
      })

  -- balanced it is the node, altered
  pub balanced_alters : (whole : Node) → points_below whole ≡ points_below g.left ++ points_below g.right
      → multiplicities_below whole ≡ multiplicities_below g.left ++ multiplicities_below g.right → Alters kind p n whole
  balanced_alters whole s c = alters_with left kind p n f.left f.right m whole x.at.at x.altered.built
      (subst (λ (z : Fork). points_below whole ≡ points_below z.left ++ points_below z.right) x.value s)
      (subst (λ (z : Fork). multiplicities_below whole ≡ multiplicities_below z.left ++ multiplicities_below z.right) x.value c)
      x.altered.altered

  -- and what covers the point in the half covers it there
  pub balanced_unaffected : is_refused kind ≡ false → (whole : Node) (above : Affected)
      → points_below whole ≡ points_below g.left ++ points_below g.right
      → ClosesBy p sides above (points_below g.left ++ points_below g.right) → IsUnaffectedOver p above (points_below whole)
  balanced_unaffected e whole above s c = subst (IsUnaffectedOver p above) (sym s)
      (subst (λ (z : Fork). IsUnaffectedOver p above (points_below z.left ++ points_below z.right)) (sym x.value)
      (unaffected_within p sides above (points_below m) _ (among_with left f.left f.right m) (x.altered.unaffected e)
      (subst (λ (z : Fork). ClosesBy p sides above (points_below z.left ++ points_below z.right)) x.value c)))

  -- its height is that of a node over the halves
  height_balanced : (k : ℕ) → IsHeightOver (node_height g.left) (node_height g.right) k
      → IsHeightOver (node_height (cond left m f.left)) (node_height (cond left f.right m)) k
  height_balanced k = subst (λ (z : Fork). IsHeightOver (node_height z.left) (node_height z.right) k) x.value

  -- so it is as high as the node or one higher, if the half became no higher than that
  pub higher_balanced : IsNoMuchHigher (half_of left f) m → (whole : Node)
      → IsHeightOver (node_height g.left) (node_height g.right) (node_height whole) → IsNoMuchHigher n whole
  higher_balanced k whole s = higher_again left f.left f.right m (node_height whole) (node_height n) x.at.apart.near x.at.apart.height
      k.0 k.1 (height_balanced (node_height whole) s)

  -- and as high or one lower, if the half became no lower than that; or if both halves became one bucket
  pub lower_balanced : IsNoMuchHigher m (half_of left f) → (whole : Node)
      → IsHeightOver (node_height g.left) (node_height g.right) (node_height whole) ⊎ ((h ≡ 1) × (node_height whole ≡ 0))
      → IsNoMuchHigher whole n
  lower_balanced k whole s = lower_again left f.left f.right m (node_height whole) (node_height n) h x.at.apart.near x.at.apart.height
      k.0 k.1 (x.at.apart.label ∙ sym x.at.apart.height)
      (elim s [ inl o ↦ inl (height_balanced (node_height whole) o) | inr o ↦ inr o ])

  -- the searches take no more turns than a change may
  module _ (below above : ℕ) (b : below ≤ most_turns (node_height (half_of left f)))
      (t : above ≤ 16 * max (node_height g.left) (node_height g.right) + 96) where
    above_few : above ≤ 16 * node_height n + 96
    above_few =
        let s = subst (λ (z : Fork). above ≤ 16 * max (node_height z.left) (node_height z.right) + 96) x.value t in omega (arith, s, near.2)

    pub turns_sum : below + above ≤ most_turns (node_height n)
    turns_sum = one_fork (node_height n) (node_height (half_of left f)) below above half.lower b above_few

    pub few_turns_sum : below + above ≤ 9208
    few_turns_sum = few_sum (node_height n) (node_height (half_of left f)) below above half.lower x.altered.low b above_few

-- ---- the half before the change, by another name

-- a point was added to it, or refused
pub with_added : (left refused : Bool) (p : Pair) (n : Node) (f : Fork) (k m : Node) (sides : Affected) → k ≡ half_of left f → IsWellBuilt m
    → HasGained refused p k m → IsNoMuchHigher k m → (refused ≡ false → IsUnaffectedOver p sides (points_below m))
    → HasSpaceFor (Comes refused) p (points_below n) → node_height n ≤ 28 → IsAltered left (Comes refused) p n f m sides
with_added left refused p n f k m sides q w g h u s low =
    let e = ap node_height q in
    record {
      built = w;
      altered = subst (λ z. HasGained refused p z m) q g;
      near = (omega (arith, h.1, e), omega (arith, h.0, e));
      unaffected = u;
      space = s;
      low = low;
    }

-- a point was removed from it, and others stay
pub with_lost : (left : Bool) (p : Pair) (n : Node) (f : Fork) (k m : Node) (sides : Affected) → k ≡ half_of left f → HasLost p k (Some m)
    → IsUnaffectedOver p sides (points_below m) → length (points_below n) ≤ POINT_LIMIT → node_height n ≤ 28
    → IsAltered left Goes p n f m sides
with_lost left p n f k m sides q l u s low =
    let e = ap node_height q in
    record {
      built = l.0;
      altered = subst (λ z. Alters Goes p z m) q (l.1, l.2);
      near = (omega (arith, l.3.0, e), omega (arith, l.3.1, e));
      unaffected = λ _. u;
      space = s;
      low = low;
    }
