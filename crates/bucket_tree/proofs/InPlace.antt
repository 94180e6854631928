-- A fork one of whose parts changed in place.
use Rattle.std.proofs.lemmas.Grind.{common_steps}
use Rattle.std.proofs.Common.{◌≡◌, ℕ, ◌+◌, ◌*◌, ◌≤◌, ◌<◌, max, Bool, true, false, cond, not, refl, sym, ap, ◌∙◌, subst, ◌++◌}
use Rattle.std.proofs.Common.{List, get_or, length, length-append, length-drop, length-take, arith}
use Rattle.std.proofs.Common.{Box, Some, Ok, Err}
use Rattle.std.specs.Box.{with_value}
use Rattle.std.specs.List.{Contains}
use Rattle.std.proofs.lemmas.List.Elements.{Contains-append_left, Contains-append_right}
use Rattle.std.specs.Prelude.{◌↔◌, IsTrue, Result, IfOk, IfErr}
use Rattle.lattice.specs.Covers.{with_point, without_point}
use Rattle.std.proofs.Common.{inl, inr}
use Rattle.std.proofs.lemmas.Bool.{false≢true}
use Rattle.lattice.proofs.Order.{after_apart, before_apart, before_trans}
use Rattle.lattice.specs.Plane.{Pair, IsBefore}
use Rattle.lattice.specs.declared.side.Side.{Side}
use Rattle.lattice.specs.declared.side.Side.TheVariants.{Lower, Upper}
use Rattle.hull_geometry.specs.Positions.{IsPositionOf, origin, first_of, last_of}
use Rattle.hull_geometry.proofs.PointLists.{get_or_free}
use Rattle.std.proofs.lemmas.List.{get_or-drop, get_or-take}
use Rattle.lattice.specs.Covers.{IsPointSet}
use Rattle.hull_buckets.specs.Buckets.{BucketValue, IsBucket}
use Rattle.hull_set.specs.Held.{once}
use Rattle.bucket_tree.specs.Changes.{AreKept, HasEdgesAfter, HasEnds, IsBridgeBetween, IsUnaffectedOver}
use Rattle.bucket_tree.specs.Changes.{IsEndUnlessClear, IsRenewed, IsSameBut, change_of, edge_on}
use Rattle.bucket_tree.specs.Counts.{counted, multiplicity_at, Alters, Kind, Comes, Goes}
use Rattle.bucket_tree.specs.InPlace.{AreFewFor, HasChanged, HasChangedIn, IsAfterHalf, IsInPlace, IsRenewedAfter}
use Rattle.bucket_tree.specs.Halves.{ends_of_half, half_of, with_half}
use Rattle.bucket_tree.specs.InPlace.{IsBetween, IsBetweenKept, IsToRenew, IsUnsearched}
use Rattle.bucket_tree.specs.Nodes.{points_below, ends_in, multiplicities_below, node_height, AreNear, AreInRow}
use Rattle.bucket_tree.specs.Nodes.{IsWellBuilt}
use Rattle.bucket_tree.specs.declared.renewal.Change.{Change}
use Rattle.bucket_tree.specs.declared.renewal.Changed.{Changed}
use Rattle.bucket_tree.specs.declared.node.Ends.{Ends}
use Rattle.bucket_tree.specs.declared.node.Fork.{Fork as Below}
use Rattle.bucket_tree.specs.declared.node.Node.{Node, Leaf, Fork}
use Rattle.bucket_tree.specs.declared.renewal.Affected.{Affected}
use Rattle.bucket_tree.proofs.Added.{ends_at, lost_at}
use Rattle.bucket_tree.proofs.BuiltLeaves.{leaf_built}
use Rattle.bucket_tree.proofs.Kept.{DiffersAt, differs_with, differs_without, unaffected_within, edges_as, ends_kept, same_edges}
use Rattle.bucket_tree.proofs.Kept.{of_vertices, stored}
use Rattle.bucket_tree.proofs.Parts.{BelongsTo, HasSpaceFor, IsAt, alters_with, at, is_refused, unaffected_with, differs, few_with}
use Rattle.bucket_tree.proofs.Parts.{row_with}
use Rattle.bucket_tree.proofs.Parts.{same_at, still_with}
use Rattle.bucket_tree.proofs.MostTurns.{few_turns, one_fork}
use Rattle.bucket_tree.proofs.Rooted.{absent_below}
use Rattle.bucket_tree.proofs.SetEnds.{by_first, by_last, first_among, last_among}
use Rattle.bucket_tree.proofs.NodeRows.{vertices_in_row, halves_row}

-- ---- a fork

-- what is known of a well-built fork and of what is below it
pub record IsApart (n : Node) (h : ℕ) (f : Below) : Type 0 where
  pub built : IsWellBuilt n
  pub row : AreInRow f.left f.right
  pub near : AreNear (node_height f.left) (node_height f.right)
  pub points : points_below n ≡ points_below f.left ++ points_below f.right
  pub multiplicities : multiplicities_below n ≡ multiplicities_below f.left ++ multiplicities_below f.right
  pub height : node_height n ≡ max (node_height f.left) (node_height f.right) + 1
  pub label : h ≡ max (node_height f.left) (node_height f.right) + 1
  pub ends : HasEnds f.left f.right f
  pub edges : (side : Side) → IsBridgeBetween side f.left f.right (edge_on side f)

pub apart : (n : Node) (h : ℕ) (f : Box Below _) → n ≡ Fork h f → IsWellBuilt n → IsApart n h f.value
apart n h f e w =
    let b = subst IsWellBuilt e w in
    record {
      built = w;
      row = halves_row n h f e w;
      near = b.balanced.0;
      points = ap points_below e;
      multiplicities = ap multiplicities_below e;
      height = ap node_height e;
      label = b.labelled.2;
      ends = record { left = b.labelled.0; right = b.labelled.1 };
      edges = stored n h f e w;
    }

-- a fork that was renewed over parts of heights that are near is well built
pub fork_built : (h : ℕ) (f : Box Below _) → IsRenewed f.value
    → AreNear (node_height f.value.left) (node_height f.value.right)
    → h ≡ max (node_height f.value.left) (node_height f.value.right) + 1 → IsWellBuilt (Fork h f)
fork_built h f r near e = record {
  ordered = r.row.in_order;
  bridged = (
    vertices_in_row f.value.left f.value.right r.row,
    r.upper,
    r.lower,
    r.row.left_built.bridged,
    r.row.right_built.bridged,
  );
  balanced = (near, r.row.left_built.balanced, r.row.right_built.balanced);
  labelled = (r.ends.left, r.ends.right, e, r.row.left_built.labelled, r.row.right_built.labelled);
  buckets = (r.row.left_built.buckets, r.row.right_built.buckets);
}

-- it is as high as before, if its parts are
pub built_again : (n : Node) (h : ℕ) (f : Below) (b : Box Below _) → IsApart n h f → IsRenewed b.value
    → node_height b.value.left ≡ node_height f.left → node_height b.value.right ≡ node_height f.right
    → IsWellBuilt (Fork h b) × (node_height (Fork h b) ≡ node_height n)
built_again n h f b a r u v = grind (arith, common_steps, fork_built)

-- the bridge below is that of a fork of which only the upper edge differs
pub lower_moved : (f g : Below) → IsSameBut Upper f g → IsBridgeBetween Lower f.left f.right f.lower
    → IsBridgeBetween Lower g.left g.right g.lower
lower_moved f g s b = grind (arith, common_steps)

-- and it stores the same ends
pub ends_moved : (side : Side) (f g : Below) → IsSameBut side f g → HasEnds f.left f.right f → HasEnds g.left g.right g
ends_moved side f g s h = record {
  left = s.left_ends ∙ h.left ∙ ap (λ z. ends_in (points_below z)) (sym s.left);
  right = s.right_ends ∙ h.right ∙ ap (λ z. ends_in (points_below z)) (sym s.right);
}

-- ---- one subtree: the left one if the word is true, otherwise the right one

-- a fork, and the part to which p belongs
pub record IsForkAt (left : Bool) (p : Pair) (n : Node) (h : ℕ) (f : Below) : Type 0 where
  pub apart : IsApart n h f
  pub at : IsAt left p n f.left f.right

-- by the fork as it is read at two indices
pub fork_at : (left : Bool) (p : Pair) (n : Node) (h : ℕ) (b : Box Below _) (f g : Below) → n ≡ Fork h b → f ≡ b.value
    → g ≡ b.value → IsWellBuilt n → BelongsTo left p g.right_ends.first → IsForkAt left p n h f
fork_at left p n h b f g e v w built here =
    let a = subst (IsApart n h) (sym v) (apart n h b e built) in
    record {
      apart = a;
      at = at left p n f.left f.right g.right_ends.first a.row a.points a.multiplicities
          (ap (λ (z : Below). z.right_ends.first) (w ∙ sym v) ∙ ap (λ (z : Ends). z.first) a.ends.right) here;
    }

-- the multiplicity of p in the fork is that in the subtree
pub same_below : (left : Bool) (p : Pair) (n : Node) (h : ℕ) (f : Below) → IsForkAt left p n h f
    → multiplicity_at n p ≡ multiplicity_at (cond left f.left f.right) p
same_below left p n h f i = same_at left p n f.left f.right i.at

-- the part is well built, lower, and has no more points than it may have
pub part_at : (left put : Bool) (n : Node) (h : ℕ) (f : Below) → IsApart n h f
    → AreFewFor put (length (points_below n)) → node_height n ≤ 28
    → IsWellBuilt (cond left f.left f.right) × AreFewFor put (length (points_below (cond left f.left f.right)))
    × (node_height (cond left f.left f.right) ≤ 28) × (node_height (cond left f.left f.right) + 1 ≤ node_height n)
part_at left put n h f a few low = (built left, fewer put few, omega (arith, low, lower left), lower left)
  where
    built : (left : Bool) → IsWellBuilt (cond left f.left f.right)
    built true = a.row.left_built
    built false = a.row.right_built

    lower : (left : Bool) → node_height (cond left f.left f.right) + 1 ≤ node_height n
    lower true = omega (arith, a.height)
    lower false = omega (arith, a.height)

    all : length (points_below n) ≡ length (points_below f.left) + length (points_below f.right)
    all = ap (λ (z : List Pair). length z) a.points ∙ length-append (points_below f.left) (points_below f.right)

    short : (left : Bool) → length (points_below (cond left f.left f.right)) ≤ length (points_below n)
    short true = omega (arith, all)
    short false = omega (arith, all)

    fewer : (put : Bool) → AreFewFor put (length (points_below n))
        → AreFewFor put (length (points_below (cond left f.left f.right)))
    fewer true few = omega (arith, short left, few)
    fewer false few = omega (arith, short left, few)

-- what the change is
abbrev kind_of : Bool → Kind
kind_of true = Comes false
kind_of false = Goes

-- so the node is altered
altered_by : (put : Bool) (p : Pair) (n m : Node) (change : Changed) → HasChanged put p n m change
    → Alters (kind_of put) p n m
altered_by true p n m change d = d.gained
altered_by false p n m change d = (d.lost.1, d.lost.2)

-- either way it is in place
pub changed_in_place : (put : Bool) (p : Pair) (n m : Node) (change : Changed) → HasChanged put p n m change
    → IsInPlace p n m change
changed_in_place true p n m change d = d.in_place
changed_in_place false p n m change d = d.in_place

-- a fork has capacity for the change, by its subtree
space_by : (left put : Bool) (p : Pair) (n : Node) (h : ℕ) (f : Below) (k : Node) (below : Changed)
    → IsForkAt left p n h f → HasChanged put p (cond left f.left f.right) k below
    → AreFewFor put (length (points_below n)) → HasSpaceFor (kind_of put) p (points_below n)
space_by left true p n h f k below i d few =
    (absent_below (Some n) n p refl i.apart.built (same_below left p n h f i ∙ d.absent), few)
space_by left false p n h f k below i d few = few

-- if the subtree is as high as it was both are
heights_with : (left : Bool) (f : Below) (k : Node) → node_height k ≡ node_height (cond left f.left f.right)
    → (node_height (cond left k f.left) ≡ node_height f.left)
    × (node_height (cond left f.right k) ≡ node_height f.right)
heights_with true f k e = (e, refl)
heights_with false f k e = (refl, e)

-- a point that was added to a subtree is an end of the new bridge, unless it is clear of the fork's edge
end_with : (left put : Bool) (change : Change) (side : Side) (p : Pair) (n : Node) (h : ℕ) (f : Below) (k : Node)
    (below : Changed)
    → IsForkAt left p n h f → HasChanged put p (cond left f.left f.right) k below → IsWellBuilt (cond left f.left f.right)
    → AreInRow (cond left k f.left) (cond left f.right k) → change ≡ change_of left put
    → IsEndUnlessClear change side p (cond left k f.left) (cond left f.right k) (edge_on side (with_half left f k))
end_with left false change side p n h f k below i d w row c =
    subst (λ z. IsEndUnlessClear z side p (cond left k f.left) (cond left f.right k) (edge_on side (with_half left f k)))
    (sym c)
    (subst (IsEndUnlessClear (change_of left false) side p (cond left k f.left) (cond left f.right k))
    (sym (same_edges f (with_half left f k) refl refl side))
    (lost_at left side p f.left f.right k (edge_on side f) i.apart.row (i.apart.edges side) d.lost.1))
end_with left true change side p n h f k below i d w row c =
    let part = cond left f.left f.right in
    subst (λ z. IsEndUnlessClear z side p (cond left k f.left) (cond left f.right k) (edge_on side (with_half left f k)))
    (sym c)
    (subst (IsEndUnlessClear (change_of left true) side p (cond left k f.left) (cond left f.right k))
    (sym (same_edges f (with_half left f k) refl refl side))
    (ends_at left side p f.left f.right k (edge_on side f) i.apart.row row (i.apart.edges side)
    (absent_below (Some part) part p refl w d.absent) d.gained.0))

-- the edges of a fork whose subtree changed at p are stale
edges_with : (left : Bool) (kind : Kind) (p : Pair) (f : Below) (k : Node) (sides : Affected) → AreInRow f.left f.right
    → ((side : Side) → IsBridgeBetween side f.left f.right (edge_on side f)) → Alters kind p (cond left f.left f.right) k
    → DiffersAt p (points_below (cond left f.left f.right)) (points_below k)
    → (is_refused kind ≡ false → IsUnaffectedOver p sides (points_below k)) → HasEdgesAfter p sides (with_half left f k)
edges_with left kind p f k sides row b h d c =
    let g = with_half left f k in
    let e = edges_as p sides g.left g.right f g
    (unaffected_with left kind p f.left f.right k sides f row b h d c)
    (λ side. still_with left side p f.left f.right k (edge_on side f) (b side) d) (same_edges f g refl refl) in
    record { unaffected = e.0; clear = e.1 }

-- and so is the fork
pub after_with : (left : Bool) (kind : Kind) (p : Pair) (n : Node) (h : ℕ) (f : Below) (k : Node) (sides : Affected) → IsApart n h f
    → IsWellBuilt k → AreInRow (cond left k f.left) (cond left f.right k) → Alters kind p (cond left f.left f.right) k
    → DiffersAt p (points_below (cond left f.left f.right)) (points_below k)
    → (is_refused kind ≡ false → IsUnaffectedOver p sides (points_below k)) → IsAfterHalf left p sides (with_half left f k)
after_with true kind p n h f k sides a w row h' d c = record {
  row = row;
  edges = edges_with true kind p f k sides a.row a.edges h' d c;
  other = a.ends.right;
  kept = ends_kept p f.left k f.left_ends a.row.left_built w d a.ends.left;
}
after_with false kind p n h f k sides a w row h' d c = record {
  row = row;
  edges = edges_with false kind p f k sides a.row a.edges h' d c;
  other = a.ends.left;
  kept = ends_kept p f.right k f.right_ends a.row.right_built w d a.ends.right;
}

-- a point between two others of the list that differs at it was no end, so the ends stay
between_kept : (p : Pair) (n m : Node) (e : Ends) → IsWellBuilt n → IsWellBuilt m
    → DiffersAt p (points_below n) (points_below m) → e ≡ ends_in (points_below n) → IsBetween p (points_below m)
    → IsBetweenKept p e (points_below m)
between_kept p n m e v w d is b = (b, ends)
  where
    S : List Pair
    S = points_below n

    first : e.first ≡ first_of S
    first = ap (λ (z : Ends). z.first) is

    last : e.last ≡ last_of S
    last = ap (λ (z : Ends). z.last) is

    kept : AreKept p e (points_below m)
    kept = ends_kept p n m e v w d is

    low : Contains S b.0
    low = elim (d.had b.0 b.2) [ inl k ↦ k | inr q ↦ absurd (before_apart b.0 p b.4 q) ]

    high : Contains S b.1
    high = elim (d.had b.1 b.3) [ inl k ↦ k | inr q ↦ absurd (after_apart b.1 p b.5 q) ]

    after_first : IsBefore e.first p
    after_first = subst (λ z. IsBefore z p) (sym first) (elim (by_first S b.0 v.ordered low) [
      | inl q ↦ subst (λ z. IsBefore z p) q b.4
      | inr k ↦ before_trans (first_of S) b.0 p k b.4
    ])

    before_last : IsBefore p e.last
    before_last = subst (IsBefore p) (sym last) (elim (by_last S b.1 v.ordered high) [
      | inl q ↦ subst (IsBefore p) q b.5
      | inr k ↦ before_trans p b.1 (last_of S) b.5 k
    ])

    ends : e ≡ ends_in (points_below m)
    ends = ap (λ (z : Pair). record { first = z; last = e.last }) (kept.0 after_first)
        ∙ ap (λ (z : Pair). record { first = first_of (points_below m); last = z }) (kept.1 before_last)

-- the ends that a fork stores of a part that changed stay if the point is between two others there
between_with : (left put : Bool) (p : Pair) (n : Node) (h : ℕ) (f : Below) (k : Node) → IsApart n h f → IsWellBuilt k
    → DiffersAt p (points_below (cond left f.left f.right)) (points_below k) → IsBetween p (points_below k)
    → IsBetweenKept p (ends_of_half left (with_half left f k)) (points_below (half_of left (with_half left f k)))
between_with true put p n h f k a w d b = between_kept p f.left k f.left_ends a.row.left_built w d a.ends.left b
between_with false put p n h f k a w d b = between_kept p f.right k f.right_ends a.row.right_built w d a.ends.right b

-- a point between the ends that were stored is between the first and the last point
pub between_ends : (p : Pair) (S : List Pair) (e : Ends) → 0 < length S → AreKept p e S → IsBefore e.first p → IsBefore p e.last
    → IsBetween p S
between_ends p S e l k b c = (
  first_of S,
  last_of S,
  first_among S l,
  last_among S l,
  subst (λ z. IsBefore z p) (k.0 b) b,
  subst (IsBefore p) (k.1 c) c,
)

-- a point that is between two of one of two lists is so in both
pub between_left : (p : Pair) (S T : List Pair) → IsBetween p S → IsBetween p (S ++ T)
between_left p S T b = (b.0, b.1, Contains-append_left S T b.0 b.2, Contains-append_left S T b.1 b.3, b.4, b.5)

pub between_right : (p : Pair) (S T : List Pair) → IsBetween p T → IsBetween p (S ++ T)
between_right p S T b = (b.0, b.1, Contains-append_right S T b.0 b.2, Contains-append_right S T b.1 b.3, b.4, b.5)

-- a fork whose part changed is to be renewed
pub to_renew : (left put : Bool) (change : Change) (p : Pair) (n : Node) (h : ℕ) (f g : Below) (k : Node) (below : Changed)
    → IsForkAt left p n h f → HasChanged put p (cond left f.left f.right) k below
    → AreFewFor put (length (points_below n)) → node_height n ≤ 28 → g ≡ with_half left f k → change ≡ change_of left put
    → IsToRenew left change p below g
to_renew left put change p n h f g k below i d few low e m =
    let kind = kind_of put in
    let part = cond left f.left f.right in
    let o = part_at left put n h f i.apart few low in
    let s = changed_in_place put p part k below d in
    let b = altered_by put p part k below d in
    let high = heights_with left f k s.height in
    let row = row_with left kind p n f.left f.right k i.at s.built b in
    subst (IsToRenew left change p below) (sym e)
    record {
      after = after_with left kind p n h f k below.sides i.apart s.built row b (differs kind p part k o.0.ordered b)
          (λ _. s.unaffected);
      end = λ side. end_with left put change side p n h f k below i d o.0 row m;
      few = few_with left kind p n f.left f.right k i.at b (space_by left put p n h f k below i d few);
      low = omega (arith, low, i.apart.height, high.0, high.1);
      turns = omega (arith, few_turns (node_height part) o.2, s.turns);
      between = λ t. between_with left put p n h f k i.apart s.built (differs kind p part k o.0.ordered b) (s.between t);
    }

-- the ends of one half and of the other one are those of both halves
both_ends : (left : Bool) (f : Below) → ends_of_half left f ≡ ends_in (points_below (half_of left f))
    → ends_of_half (not left) f ≡ ends_in (points_below (half_of (not left) f)) → HasEnds f.left f.right f
both_ends true f h o = record { left = h; right = o }
both_ends false f h o = record { left = o; right = h }

-- a point between two others of a half is between two of both halves
pub between_half : (left : Bool) (p : Pair) (f : Below) → IsBetween p (points_below (half_of left f))
    → IsBetween p (points_below f.left ++ points_below f.right)
between_half true p f b = between_left p (points_below f.left) (points_below f.right) b
between_half false p f b = between_right p (points_below f.left) (points_below f.right) b

-- a fork whose half changed at a point between two others that affects no chain is renewed as it is
pub untouched : (left : Bool) (change : Change) (p : Pair) (below : Changed) (f : Below) → IsToRenew left change p below f
    → below.is_between ≡ true → below.sides.lower ≡ false → below.sides.upper ≡ false → IsRenewedAfter p below f f below
untouched left change p below f r b l u = record {
  renewed = record {
    row = r.after.row;
    upper = of_vertices Upper f.left f.right f.upper r.after.row (r.after.edges.unaffected Upper u);
    lower = of_vertices Lower f.left f.right f.lower r.after.row (r.after.edges.unaffected Lower l);
    ends = both_ends left f (r.between b).1 r.after.other;
  };
  left = refl;
  right = refl;
  turns = omega arith;
  closes = λ side e. inl e;
  between = λ _. between_half left p f (r.between b).0;
}

-- the part to which a point belongs, by the comparison with the first point of the second one
pub belongs : (left : Bool) (p first : Pair) → (IsTrue left → IsBefore p first) → (IsBefore p first → IsTrue left)
    → BelongsTo left p first
belongs true p first f g = f refl
belongs false p first f g = λ h. false≢true (g h)

-- so it is, if that point was read in the fork
pub belongs_below : (left : Bool) (p : Pair) (f g : Below) → f ≡ g → (IsTrue left ↔ IsBefore p f.right_ends.first)
    → BelongsTo left p g.right_ends.first
belongs_below left p f g e t = subst (λ (z : Below). BelongsTo left p z.right_ends.first) e (belongs left p f.right_ends.first t.0 t.1)

-- and the fork is taken apart at it
pub fork_below : (left : Bool) (p : Pair) (n : Node) (h : ℕ) (b : Box Below _) (f : Below) → n ≡ Fork h b → f ≡ b.value → IsWellBuilt n
    → (IsTrue left ↔ IsBefore p f.right_ends.first) → IsForkAt left p n h b.value
fork_below left p n h b f e v w t = fork_at left p n h b b.value b.value e refl refl w (belongs_below left p f b.value v t)

-- the points of the part are among those of both
pub among_with : (left : Bool) (l r k : Node) (t : Pair) → Contains (points_below k) t
    → Contains (points_below (cond left k l) ++ points_below (cond left r k)) t
among_with true l r k t i = Contains-append_left (points_below k) (points_below r) t i
among_with false l r k t i = Contains-append_right (points_below l) (points_below k) t i

-- renewed it has changed in place as the subtree
module _ (left : Bool) (p : Pair) (n : Node) (h : ℕ) (f : Below) (k : Node) (below above : Changed) (g : Box Below _)
    (i : IsForkAt left p n h f) (part : IsInPlace p (cond left f.left f.right) k below)
    (r : IsRenewedAfter p below (with_half left f k) g.value above) where
  both_points : points_below (Fork h g) ≡ points_below (cond left k f.left) ++ points_below (cond left f.right k)
  both_points = ap (λ z. points_below z ++ points_below g.value.right) r.left
      ∙ ap (λ z. points_below (cond left k f.left) ++ points_below z) r.right

  both_multiplicities : multiplicities_below (Fork h g) ≡ multiplicities_below (cond left k f.left) ++ multiplicities_below (cond left f.right k)
  both_multiplicities = ap (λ z. multiplicities_below z ++ multiplicities_below g.value.right) r.left
      ∙ ap (λ z. multiplicities_below (cond left k f.left) ++ multiplicities_below z) r.right

  in_place_with : node_height (cond left f.left f.right) + 1 ≤ node_height n → IsInPlace p n (Fork h g) above
  in_place_with lower =
      let e = heights_with left f k part.height in
      let again = built_again n h f g i.apart r.renewed (ap node_height r.left ∙ e.0) (ap node_height r.right ∙ e.1) in
      record {
        built = again.0;
        height = again.1;
        turns = omega (
          arith,
          r.turns,
          one_fork (node_height n) (node_height (cond left f.left f.right)) below.turns
              (8 * max (node_height (cond left k f.left)) (node_height (cond left f.right k)) + 48) lower part.turns
              (omega (arith, i.apart.height, e.0, e.1)),
        );
        unaffected = subst (IsUnaffectedOver p above.sides) (sym both_points)
            (unaffected_within p below.sides above.sides (points_below k) _
            (among_with left f.left f.right k) part.unaffected r.closes);
        between = λ t. subst (IsBetween p) (sym both_points) (r.between t);
      }

-- so it has changed as the part
pub changed_with : (left put : Bool) (p : Pair) (n : Node) (h : ℕ) (f g : Below) (k : Node) (below above : Changed)
    (b : Box Below _) → IsForkAt left p n h f → HasChanged put p (cond left f.left f.right) k below
    → AreFewFor put (length (points_below n)) → node_height n ≤ 28 → g ≡ with_half left f k
    → IsRenewedAfter p below g b.value above → HasChanged put p n (Fork h b) above
changed_with left put p n h f g k below above b i d few low e r = go put d altered
  where
    s : IsRenewedAfter p below (with_half left f k) b.value above
    s = subst (λ z. IsRenewedAfter p below z b.value above) e r

    part : IsInPlace p (cond left f.left f.right) k below
    part = changed_in_place put p (cond left f.left f.right) k below d

    same : IsInPlace p n (Fork h b) above
    same = in_place_with left p n h f k below above b i part s (part_at left put n h f i.apart few low).3

    altered : Alters (kind_of put) p n (Fork h b)
    altered = alters_with left (kind_of put) p n f.left f.right k (Fork h b) i.at part.built
        (both_points left p n h f k below above b i part s) (both_multiplicities left p n h f k below above b i part s)
        (altered_by put p (cond left f.left f.right) k below d)

    go : (put : Bool) → HasChanged put p (cond left f.left f.right) k below → Alters (kind_of put) p n (Fork h b)
        → HasChanged put p n (Fork h b) above
    go true d a = record { absent = same_below left p n h f i ∙ d.absent; in_place = same; gained = a }
    go false d a = record {
      once = same_below left p n h f i ∙ d.once;
      in_place = same;
      lost = (same.built, a.0, a.1, (omega (arith, same.height), omega (arith, same.height)));
    }

-- ---- a bucket

-- a bucket that stays as it was, and the multiplicity of p in it
module _ (p : Pair) (n : Node) (b : Box BucketValue _) (w v : BucketValue) (r : Result Changed ℕ) (e : n ≡ Leaf b)
    (d : w ≡ b.value) where
  pub leaf_same : IfErr r (λ _. v ≡ w) → IfErr r (λ _. Leaf (with_value b v) ≡ n)
  leaf_same h = go r h
    where
      go : (r : Result Changed ℕ) → IfErr r (λ _. v ≡ w) → IfErr r (λ _. Leaf (with_value b v) ≡ n)
      go (Ok change) h = tt
      go (Err multiplicity) h = ap (λ z. Leaf (with_value b z)) (h ∙ d) ∙ sym e

  pub leaf_returned : IfErr r (λ multiplicity. multiplicity ≡ counted w.points w.multiplicities p)
      → IfErr r (λ multiplicity. multiplicity ≡ multiplicity_at n p)
  leaf_returned h = subst (λ z. IfErr r (λ multiplicity. multiplicity ≡ z))
      (ap (λ (z : BucketValue). counted z.points z.multiplicities p) d ∙ sym (ap (λ z. multiplicity_at z p) e)) h

-- a bucket with other points is in place where it was
leaf_in_place : (p : Pair) (b c : Box BucketValue _) (v : BucketValue) (change : Changed) → c.value ≡ v → IsBucket v
    → IsUnsearched p v change → IsInPlace p (Leaf b) (Leaf c) change
leaf_in_place p b c v change f h u = record {
  built = leaf_built c v f h;
  height = refl;
  turns = omega (arith, u.turns);
  unaffected = subst (λ (z : BucketValue). IsUnaffectedOver p change.sides z.points) (sym f) u.unaffected;
  between = λ t. subst (λ (z : BucketValue). IsBetween p z.points) (sym f) (u.between t);
}

-- p was added to a bucket, or removed from it
pub changed_leaf : (put : Bool) (p : Pair) (b c : Box BucketValue _) (v : BucketValue) (change : Changed) → c.value ≡ v
    → IsBucket v → HasChangedIn put p b.value v change → HasChanged put p (Leaf b) (Leaf c) change
changed_leaf true p b c v change f h d = record {
  absent = d.absent;
  in_place = leaf_in_place p b c v change f h d.unsearched;
  gained = subst (λ (z : BucketValue). (z.points ≡ with_point p b.value.points)
      × ((q : Pair) → counted z.points z.multiplicities q ≡ counted b.value.points b.value.multiplicities q + once p q)) (sym f)
      (d.points, d.multiplicities);
}
changed_leaf false p b c v change f h d = record {
  once = d.held;
  in_place = leaf_in_place p b c v change f h d.unsearched;
  lost = (leaf_built c v f h, lost.0, lost.1, (omega arith, omega arith));
}
  where
    lost : (c.value.points ≡ without_point p b.value.points)
        × ((q : Pair) → counted b.value.points b.value.multiplicities q ≡ counted c.value.points c.value.multiplicities q + once p q)
    lost = grind (arith, common_steps, without_point, counted, once)

-- so a leaf changed, if its bucket did
pub leaf_changed : (put : Bool) (p : Pair) (n : Node) (b c : Box BucketValue _) (w v : BucketValue)
    (r : Result Changed ℕ)
    → n ≡ Leaf b → w ≡ b.value → c.value ≡ v → IsBucket v → IfOk r (HasChangedIn put p w v)
    → IfOk r (HasChanged put p n (Leaf c))
leaf_changed put p n b c w v (Err none) e d f h change = tt
leaf_changed put p n b c w v (Ok returned) e d f h change = grind (arith, common_steps, changed_leaf)

-- ---- a point of a bucket that is neither its first nor its last

-- a point that was added at an index between two others is between them
pub put_between : (p : Pair) (S T : List Pair) (i : ℕ) → IsPointSet S → IsPositionOf S p (Err i) → 0 < i → i < length S
    → T ≡ with_point p S → IsBetween p T
put_between p S T i s h some l e = subst (IsBetween p) (sym e) (u, v, has u low (before_apart u p b), has v high (after_apart v p c), b, c)
  where
    u : Pair
    u = get_or S 0 origin

    v : Pair
    v = get_or S i origin

    b : IsBefore u p
    b = let n = length-take i S in
        subst (λ z. IsBefore z p) (get_or-take i S 0 origin some) (h.1 0 origin (omega (arith, n, some, l)))

    c : IsBefore p v
    c = let n = length-drop i S in
        let at : i + 0 ≡ i = omega arith in
        subst (IsBefore p) (get_or-drop i S 0 origin ∙ ap (λ (k : ℕ). get_or S k origin) at) (h.2 0 origin (omega (arith, n, l)))

    low : Contains S u
    low = first_among S (omega (arith, l))

    high : Contains S v
    high = (i, l, get_or_free S i v origin l)

    has : (t : Pair) → Contains S t → ¬ (t ≡ p) → Contains (with_point p S) t
    has = (differs_with p S s).has

-- a point that was removed from an index between two others was between them
pub taken_between : (p : Pair) (S T : List Pair) (i : ℕ) → IsPointSet S → IsPositionOf S p (Ok i) → 0 < i → i + 1 < length S
    → T ≡ without_point p S → IsBetween p T
taken_between p S T i s h some l e = subst (IsBetween p) (sym e) (u, v, has u low (before_apart u p b), has v high (after_apart v p c), b, c)
  where
    u : Pair
    u = get_or S 0 origin

    v : Pair
    v = get_or S (i + 1) origin

    at : get_or S i origin ≡ p
    at = h.1 origin

    b : IsBefore u p
    b = subst (IsBefore u) at (s 0 i origin some (omega (arith, l)))

    c : IsBefore p v
    c = subst (λ z. IsBefore z v) at (s i (i + 1) origin (omega arith) l)

    low : Contains S u
    low = first_among S (omega (arith, l))

    high : Contains S v
    high = (i + 1, l, get_or_free S (i + 1) v origin l)

    has : (t : Pair) → Contains S t → ¬ (t ≡ p) → Contains (without_point p S) t
    has = (differs_without p S s).has
