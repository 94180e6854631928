-- A point that was added to one half of a fork, before the forks of that half are renewed.
use Rattle.std.proofs.Common.{◌≡◌, ◌⊎◌, ℕ, ◌≤◌, ◌<◌, Bool, true, false, not, refl, sym, ap, ◌∙◌, subst, inl, inr, Box, arith}
use Rattle.std.proofs.Common.{List, length, ◌++◌}
use Rattle.std.specs.Box.{with_value}
use Rattle.std.specs.List.{Contains}
use Rattle.lattice.specs.Bridges.{IsBridge}
use Rattle.lattice.specs.Covers.{IsPointSet}
use Rattle.lattice.specs.Plane.{Pair, IsBefore}
use Rattle.lattice.specs.declared.side.Side.{Side}
use Rattle.lattice.specs.declared.side.Side.TheVariants.{Lower, Upper}
use Rattle.lattice.proofs.Order.{before_apart, before_irrefl, before_not, before_total, before_trans}
use Rattle.bridge_search.specs.Trees.{On}
use Rattle.hull_geometry.specs.Positions.{first_of, last_of}
use Rattle.hull_geometry.proofs.SetLaws.{with_point_law}
use Rattle.hull_set.specs.declared.TheConstants.{POINT_LIMIT}
use Rattle.bucket_tree.specs.Changes.{HasEdgesAfter, HasEnds, IsBridgeBetween, IsClearOf, IsEndOf, IsEndUnlessClear}
use Rattle.bucket_tree.specs.Changes.{IsRenewed, IsSameBut, change_of, edge_on}
use Rattle.bucket_tree.specs.Halves.{ends_of_half, half_of, with_half}
use Rattle.bucket_tree.specs.InPlace.{HasChanged, HasChangedBelow, IsChangeable, IsRenewedAfter, IsToRenew}
use Rattle.bucket_tree.specs.Nodes.{tree_of, points_below, ends_in, node_height, AreInRow, IsWellBuilt}
use Rattle.bucket_tree.specs.TopDown.{HasSubstitute, IsSubstitute, IsToRenewOver, WereEnds}
use Rattle.bucket_tree.specs.Turns.{most_turns}
use Rattle.bucket_tree.specs.declared.renewal.Changed.{Changed}
use Rattle.bucket_tree.specs.declared.node.Ends.{Ends}
use Rattle.bucket_tree.specs.declared.node.Fork.{Fork as Below}
use Rattle.bucket_tree.specs.declared.node.Node.{Node, Leaf, Fork, Fork', Taken}
use Rattle.bucket_tree.specs.OtherEnds.{IsAfterPoint, IsBeforePoint, IsEndFrom, IsEndFromWithin, IsEndTo, IsEndToWithin}
use Rattle.bucket_tree.proofs.Added.{after_first, before_second, end_as, end_not_before, of_points, start_not_after, with_end_from, with_end_to}
use Rattle.bucket_tree.proofs.Added.{within_from, within_to}
use Rattle.bucket_tree.proofs.ChangedBelow.{IsOpened, changeable_half, half_with, other_half, with_again}
use Rattle.bucket_tree.proofs.InPlace.{IsForkAt, between_half, changed_leaf, changed_with, fork_at, to_renew}
use Rattle.bucket_tree.proofs.Kept.{DiffersAt, differs_with, edges_as, ends_kept, of_vertices}
use Rattle.bucket_tree.proofs.NodeRows.{vertices_in_row}
use Rattle.bucket_tree.proofs.NodePoints.{some_below}
use Rattle.bucket_tree.proofs.SetEnds.{by_first, by_last, first_among, last_among}
use Rattle.bucket_tree.proofs.SomeBridge.{some_bridge}

-- ---- a substitute for a node whose forks are not renewed

-- a fork with another half of the same points in place of its own has the same points
same_points : (left : Bool) (old v : Below) (m : Node) → v ≡ with_half left old (half_of left v)
    → points_below m ≡ points_below (half_of left v)
    → points_below (with_half left old m).left ++ points_below (with_half left old m).right
    ≡ points_below v.left ++ points_below v.right
same_points true old v m e h = ap (λ z. z ++ points_below old.right) h
    ∙ ap (λ (z : Below). points_below v.left ++ points_below z.right) (sym e)
same_points false old v m e h = ap (λ z. points_below old.left ++ z) h
    ∙ ap (λ (z : Below). points_below z.left ++ points_below v.right) (sym e)

-- a fork over two nodes in a row, with their bridges and their ends
over_row : (l r : Node) → AreInRow l r → (g : Below) × IsRenewed g × (g.left ≡ l) × (g.right ≡ r)
over_row l r w =
    let o = vertices_in_row l r w in
    let u = some_bridge Upper (tree_of l) (tree_of r) w.left_built.bridged w.right_built.bridged o in
    let b = some_bridge Lower (tree_of l) (tree_of r) w.left_built.bridged w.right_built.bridged o in (
      record {
        left_ends = ends_in (points_below l);
        left = l;
        right_ends = ends_in (points_below r);
        right = r;
        upper = (u.0, u.1);
        lower = (b.0, b.1);
      },
      record { row = w; upper = u.2; lower = b.2; ends = record { left = refl; right = refl } },
      refl,
      refl,
    )

-- a substitute for k: the node that n has become, with the points of k
pub record HasChangedSubstitute (put : Bool) (p : Pair) (n k : Node) (below : Changed) : Type 0 where
  pub node : Node
  pub changed : HasChanged put p n node below
  pub points : points_below node ≡ points_below k

-- a fork has a substitute, if its half does
substitute_above : (left put : Bool) (p : Pair) (n : Node) (h : ℕ) (old : Below) (b : Box Below _) (below : Changed) → IsForkAt left p n h old
    → b.value ≡ with_half left old (half_of left b.value) → IsChangeable put n
    → (IsChangeable put (half_of left old) → HasChangedSubstitute put p (half_of left old) (half_of left b.value) below)
    → HasChangedSubstitute put p n (Fork h b) below
substitute_above left put p n h old b below at v c rec =
    let s = rec (changeable_half left put p n h old at c) in
    let g = with_half left old s.node in
    let t = to_renew left put (change_of left put) p n h old g s.node below at s.changed c.few c.low refl refl in
    let o = over_row g.left g.right t.after.row in
    let r : IsRenewedAfter p below g o.0 below = record {
      renewed = o.1;
      left = o.2;
      right = o.3;
      turns = omega arith;
      closes = λ side e. inl e;
      between = λ e. between_half left p g (t.between e).0;
    } in
    record {
      node = Fork h (with_value b o.0);
      changed = changed_with left put p n h old g s.node below below (with_value b o.0) at s.changed c.few c.low refl r;
      points = ap (λ z. points_below z ++ points_below o.0.right) o.2 ∙ ap (λ z. points_below g.left ++ points_below z) o.3
          ∙ same_points left old b.value s.node v s.points;
    }

-- a node below which a bucket changed has a substitute
pub substitute : (put : Bool) (p : Pair) (n k : Node) (below : Changed) → IsChangeable put n → HasChangedBelow put p n k below
    → HasChangedSubstitute put p n k below
substitute put p (Leaf b) (Leaf c) below w d = record {
  node = Leaf c;
  changed = changed_leaf put p b c c.value below refl d.0 d.1;
  points = refl;
}
substitute put p (Leaf b) (Fork' k i l r re u le lo) below w d = absurd d
substitute put p (Leaf b) Taken below w d = absurd d
substitute put p Taken m below w d = absurd d
substitute put p (Fork' h j x y ye q xe t) (Leaf c) below w d = absurd d
substitute put p (Fork' h j x y ye q xe t) Taken below w d = absurd d
substitute put p (Fork' h j x y ye q xe t) (Fork' k i l r re u le lo) below w (e, d) =
    let same = ap (λ z. Fork' z j x y ye q xe t) (sym e) in
    elim d [
      | inl (first, v, d) ↦ substitute_above true put p (Fork' h j x y ye q xe t) k _ _ below
          (fork_at true p _ k _ _ _ same refl refl w.built first) v w (λ c. substitute put p x l below c d)
      | inr (first, v, d) ↦ substitute_above false put p (Fork' h j x y ye q xe t) k _ _ below
          (fork_at false p _ k _ _ _ same refl refl w.built first) v w (λ c. substitute put p y r below c d)
    ]

-- it is as high as that one
pub height_below : (put : Bool) (p : Pair) (n k : Node) (below : Changed) → HasChangedBelow put p n k below → node_height k ≡ node_height n
height_below put p (Leaf b) (Leaf c) below d = refl
height_below put p (Leaf b) (Fork' k i l r re u le lo) below d = absurd d
height_below put p (Leaf b) Taken below d = absurd d
height_below put p Taken m below d = absurd d
height_below put p (Fork' h j x y ye q xe t) (Leaf c) below d = absurd d
height_below put p (Fork' h j x y ye q xe t) Taken below d = absurd d
height_below put p (Fork' h j x y ye q xe t) (Fork' k i l r re u le lo) below (e, d) = elim d [
  | inl (first, v, d) ↦ let a = height_below put p x l below d in
      let s = ap (λ (z : Below). node_height z.right) v in omega (arith, a, s)
  | inr (first, v, d) ↦ let a = height_below put p y r below d in
      let s = ap (λ (z : Below). node_height z.left) v in omega (arith, a, s)
]

-- ---- the ends of the half

-- a point that was added is the first one of all if it is not after the one before
were_first : (p : Pair) (S T : List Pair) → IsPointSet S → IsPointSet T → DiffersAt p S T → 0 < length T → Contains T p
    → ¬ IsBefore (first_of S) p → p ≡ first_of T
were_first p S T s t d l i n = elim (by_first T p t i) [
  | inl e ↦ e
  | inr k ↦ absurd (elim (d.had (first_of T) (first_among T l)) [
    | inl j ↦ elim (by_first S (first_of T) s j) [
      | inl e ↦ n (subst (λ z. IsBefore z p) e k)
      | inr m ↦ n (before_trans (first_of S) (first_of T) p m k)
    ]
    | inr q ↦ before_irrefl p (subst (λ z. IsBefore z p) q k)
  ])
]

-- or the last one
were_last : (p : Pair) (S T : List Pair) → IsPointSet S → IsPointSet T → DiffersAt p S T → 0 < length T → Contains T p
    → ¬ IsBefore p (last_of S) → p ≡ last_of T
were_last p S T s t d l i n = elim (by_last T p t i) [
  | inl e ↦ e
  | inr k ↦ absurd (elim (d.had (last_of T) (last_among T l)) [
    | inl j ↦ elim (by_last S (last_of T) s j) [
      | inl e ↦ n (subst (IsBefore p) e k)
      | inr m ↦ n (before_trans p (last_of T) (last_of S) k m)
    ]
    | inr q ↦ before_irrefl p (subst (IsBefore p) q k)
  ])
]

-- the ends of a node are those before the point was added
were_ends : (p : Pair) (n m : Node) (e : Ends) → IsWellBuilt n → IsWellBuilt m → DiffersAt p (points_below n) (points_below m)
    → Contains (points_below m) p → e ≡ ends_in (points_below n) → WereEnds p e (points_below m)
were_ends p n m e v w d i is =
    let kept = ends_kept p n m e v w d is in
    let first = ap (λ (z : Ends). z.first) is in
    let last = ap (λ (z : Ends). z.last) is in
    record {
      first_kept = kept.0;
      first_new = λ b. were_first p (points_below n) (points_below m) v.ordered w.ordered d (some_below m w.buckets) i
          (λ k. b (subst (λ z. IsBefore z p) (sym first) k));
      last_kept = kept.1;
      last_new = λ b. were_last p (points_below n) (points_below m) v.ordered w.ordered d (some_below m w.buckets) i
          (λ k. b (subst (IsBefore p) (sym last) k));
    }

-- ---- a fork below which a bucket changed

-- a bridge of the points below two nodes is one of the same points below others
between_as : (side : Side) (l m r s : Node) (e : Pair × Pair) → points_below l ≡ points_below m → points_below r ≡ points_below s
    → IsBridgeBetween side l r e → IsBridgeBetween side m s e
between_as side l m r s e f g b = subst (λ z. IsBridge side (Contains z) (Contains (points_below s)) e.0 e.1) f
    (subst (λ z. IsBridge side (Contains (points_below l)) (Contains z) e.0 e.1) g b)

-- an end of each bridge is one of those of the same points
end_as_points : (left : Bool) (side : Side) (p : Pair) (l m r s : Node) (e : Pair × Pair) → points_below l ≡ points_below m
    → points_below r ≡ points_below s → IsEndUnlessClear (change_of left true) side p l r e
    → IsEndUnlessClear (change_of left true) side p m s e
end_as_points true side p l m r s e f g h n =
    let i = h n in (subst (λ z. Contains z p) f i.0, λ d b. i.1 d (between_as side m l s r d (sym f) (sym g) b))
end_as_points false side p l m r s e f g h n =
    let i = h n in (subst (λ z. Contains z p) g i.0, λ d b. i.1 d (between_as side m l s r d (sym f) (sym g) b))

-- the edges of a fork are those with another half
same_edge : (left : Bool) (f : Below) (m k : Node) (side : Side) → edge_on side (with_half left f m) ≡ edge_on side (with_half left f k)
same_edge left f m k Lower = refl
same_edge left f m k Upper = refl

-- both halves have the same points, if another one with those of the half is put in its place
points_as : (left : Bool) (f : Below) (m k : Node) → points_below m ≡ points_below k
    → (points_below (with_half left f m).left ≡ points_below (with_half left f k).left)
    × (points_below (with_half left f m).right ≡ points_below (with_half left f k).right)
points_as true f m k e = (e, refl)
points_as false f m k e = (refl, e)

-- a fork over a half that has a substitute is to be renewed
module _ (left : Bool) (p : Pair) (old : Below) (m k : Node) (below : Changed) (e : points_below m ≡ points_below k)
    (t : IsToRenew left (change_of left true) p below (with_half left old m)) where
  -- the fork with the substitute
  abbrev substituted : Below
  substituted = with_half left old m

  -- and with the half
  abbrev actual : Below
  actual = with_half left old k

  same_in_both : (points_below substituted.left ≡ points_below actual.left) × (points_below substituted.right ≡ points_below actual.right)
  same_in_both = points_as left old m k e

  bridge_as : (side : Side) → IsBridgeBetween side substituted.left substituted.right (edge_on side substituted)
      → IsBridgeBetween side actual.left actual.right (edge_on side actual)
  bridge_as side b = subst (IsBridgeBetween side actual.left actual.right) (same_edge left old m k side)
      (between_as side substituted.left actual.left substituted.right actual.right (edge_on side substituted) same_in_both.0 same_in_both.1 b)

  points_in_half : points_below m ≡ points_below (half_of left actual)
  points_in_half = e ∙ ap points_below (sym (half_with left old k))

  has_substitute : HasSubstitute left actual
  has_substitute = (
    m,
    record {
      points = points_in_half;
      row = subst (λ (z : Below). AreInRow z.left z.right) (sym (with_again left old k m)) t.after.row;
      few = rw (← same_in_both.0, ← same_in_both.1) t.few;
      ends = t.after.other ∙ ap (λ z. ends_in (points_below z)) (other_half left old m ∙ sym (other_half left old k));
    },
  )

  with_substitute : WereEnds p (ends_of_half left old) (points_below m) → IsToRenewOver left p below actual
  with_substitute w = record {
    half = has_substitute;
    edges = record {
      unaffected = λ side u. bridge_as side (t.after.edges.unaffected side u);
      clear = λ side c. bridge_as side (t.after.edges.clear side (subst (λ z. IsClearOf side z p) (same_edge left old k m side) c));
    };
    end = λ side. subst (IsEndUnlessClear (change_of left true) side p actual.left actual.right) (same_edge left old m k side)
        (end_as_points left side p substituted.left actual.left substituted.right actual.right (edge_on side substituted) same_in_both.0
        same_in_both.1 (t.end side));
    ends = subst (WereEnds p (ends_of_half left old)) points_in_half w;
    between = λ b. (t.between b).1 ∙ ap ends_in (ap points_below (half_with left old m) ∙ points_in_half);
  }

-- the ends that a fork stores of its half, which changed, are those before
ends_before : (left : Bool) (p : Pair) (n : Node) (h : ℕ) (f : Below) (m : Node) (below : Changed) → IsForkAt left p n h f
    → HasChanged true p (half_of left f) m below → WereEnds p (ends_of_half left f) (points_below m)
ends_before left p n h f m below i d = go left (built left i) d (stored left i)
  where
    built : (left : Bool) → IsForkAt left p n h f → IsWellBuilt (half_of left f)
    built true i = i.apart.row.left_built
    built false i = i.apart.row.right_built

    stored : (left : Bool) → IsForkAt left p n h f → ends_of_half left f ≡ ends_in (points_below (half_of left f))
    stored true i = i.apart.ends.left
    stored false i = i.apart.ends.right

    go : (left : Bool) → IsWellBuilt (half_of left f) → HasChanged true p (half_of left f) m below
        → ends_of_half left f ≡ ends_in (points_below (half_of left f)) → WereEnds p (ends_of_half left f) (points_below m)
    go left w d s =
        let S = points_below (half_of left f) in
        were_ends p (half_of left f) m (ends_of_half left f) w d.in_place.built
        (subst (DiffersAt p S) (sym d.gained.0) (differs_with p S w.ordered))
        (subst (λ z. Contains z p) (sym d.gained.0) (((with_point_law S p w.ordered).1 p).1 (inl refl))) s

-- two forks with the same halves have the same half on a side
pub half_same : (left : Bool) (f g : Below) → g.left ≡ f.left → g.right ≡ f.right → half_of left g ≡ half_of left f
half_same true f g l r = l
half_same false f g l r = r

-- and they stay the same with another half in the place of that one
same_with : (left : Bool) (f g old : Below) (k : Node) → g.left ≡ f.left → g.right ≡ f.right → f ≡ with_half left old (half_of left f)
    → ((with_half left g k).left ≡ (with_half left old k).left) × ((with_half left g k).right ≡ (with_half left old k).right)
same_with true f g old k l r e = (refl, r ∙ ap (λ (z : Below). z.right) e)
same_with false f g old k l r e = (l ∙ ap (λ (z : Below). z.left) e, refl)

-- a fork has the same points with another half of the same points
points_again : (left : Bool) (g : Below) (k : Node) → points_below k ≡ points_below (half_of left g)
    → (points_below g.left ≡ points_below (with_half left g k).left) × (points_below g.right ≡ points_below (with_half left g k).right)
points_again true g k e = (sym e, refl)
points_again false g k e = (refl, sym e)

module _ (left : Bool) (p : Pair) (n : Node) (h : ℕ) (f : Below) (below : Changed) (c : IsChangeable true n)
    (o : IsOpened left true p n h f below) where
  -- the half could be changed
  half : IsChangeable true (half_of left o.old)
  half = changeable_half left true p n h o.old o.at c

  -- and has a substitute
  x : HasChangedSubstitute true p (half_of left o.old) (half_of left f) below
  x = substitute true p (half_of left o.old) (half_of left f) below half o.changed

  -- so the fork is to be renewed
  pub to_renew_over : IsToRenewOver left p below f
  to_renew_over = subst (IsToRenewOver left p below) (sym o.value)
      (with_substitute left p o.old x.node (half_of left f) below x.points
      (to_renew left true (change_of left true) p n h o.old (with_half left o.old x.node) x.node below o.at x.changed c.few c.low refl refl)
      (ends_before left p n h o.old x.node below o.at x.changed))

  -- and with the half as it is in the end it has changed
  module _ (g : Below) (k : Node) (l : g.left ≡ f.left) (r : g.right ≡ f.right)
      (bridges : (side : Side) → IsBridgeBetween side g.left g.right (edge_on side g)) (ends : HasEnds g.left g.right g)
      (d : HasChanged true p (half_of left o.old) k below) where
    points : points_below k ≡ points_below (half_of left f)
    points = d.gained.0 ∙ sym x.changed.gained.0 ∙ x.points

    t : IsToRenew left (change_of left true) p below (with_half left o.old k)
    t = to_renew left true (change_of left true) p n h o.old (with_half left o.old k) k below o.at d c.few c.low refl refl

    -- the fork with the half as it is in the end
    abbrev final : Below
    final = with_half left g k

    rest : (final.left ≡ (with_half left o.old k).left) × (final.right ≡ (with_half left o.old k).right)
    rest = same_with left f g o.old k l r o.value

    kept : (points_below g.left ≡ points_below final.left) × (points_below g.right ≡ points_below final.right)
    kept = points_again left g k (points ∙ ap points_below (sym (half_same left f g l r)))

    final_row : AreInRow final.left final.right
    final_row = rw (rest.0, rest.1) t.after.row

    final_bridge : (side : Side) → IsBridge side (On (tree_of final.left)) (On (tree_of final.right)) (edge_on side g).0 (edge_on side g).1
    final_bridge side = of_vertices side final.left final.right (edge_on side g) final_row
        (between_as side g.left final.left g.right final.right (edge_on side g) kept.0 kept.1 (bridges side))

    finally : IsRenewedAfter p below (with_half left o.old k) final below
    finally = record {
      renewed = record {
        row = final_row;
        upper = final_bridge Upper;
        lower = final_bridge Lower;
        ends = record { left = ends.left ∙ ap ends_in kept.0; right = ends.right ∙ ap ends_in kept.1 };
      };
      left = rest.0;
      right = rest.1;
      turns = omega arith;
      closes = λ side i. inl i;
      between = λ i. between_half left p (with_half left o.old k) (t.between i).0;
    }

    pub has_changed : (b : Box Below _) → b.value ≡ with_half left g k → HasChanged true p n (Fork h b) below
    has_changed b v = changed_with left true p n h o.old (with_half left o.old k) k below below b o.at d c.few c.low refl
        (subst (λ z. IsRenewedAfter p below (with_half left o.old k) z below) (sym v) finally)

-- ---- the bridge that ends at the point

module _ (left : Bool) (side : Side) (p : Pair) (f : Below) (h : HasSubstitute left f)
    (k : IsEndOf (change_of left true) side p f.left f.right (edge_on side f)) where
  -- the point was added to the left half
  module _ (t : left ≡ true) where
    for_left : IsSubstitute true f h.0
    for_left = subst (λ z. IsSubstitute z f h.0) t h.1

    in_left : IsEndOf (change_of true true) side p f.left f.right (edge_on side f)
    in_left = subst (λ z. IsEndOf (change_of z true) side p f.left f.right (edge_on side f)) t k

    from_left : (e : Pair × Pair) → IsBridgeBetween side h.0 f.right e → (e.0 ≡ p) × ¬ IsBefore e.1 (edge_on side f).1
    from_left e b = in_left.1 e (between_as side h.0 f.left f.right f.right e for_left.points refl b)

    -- it is before the right half
    pub before_right : IsAfterPoint p (tree_of f.right)
    before_right = after_first h.0 f.right p for_left.row (subst (λ z. Contains z p) (sym for_left.points) in_left.0)

    -- the end is not before the old one
    pub end_in_right : IsEndFromWithin side p (tree_of f.right) (edge_on side f).1 f.right_ends.last
    end_in_right = within_from side p f.right (edge_on side f).1 f.right_ends.last for_left.row.right_built
        (ap (λ (z : Ends). z.last) for_left.ends) (λ q s. end_not_before side h.0 f.right p q (edge_on side f).1 for_left.row from_left s)

    -- and the bridge from the point is that of both halves
    pub bridge_from : (q : Pair) → IsEndFrom side p (tree_of f.right) q → IsBridgeBetween side f.left f.right (p, q)
    bridge_from q s = between_as side h.0 f.left f.right f.right (p, q) for_left.points refl
        (of_points side h.0 f.right (p, q) for_left.row (with_end_from side h.0 f.right p q for_left.row (λ e b. (from_left e b).0) s))

  -- it was added to the right half
  module _ (t : left ≡ false) where
    for_right : IsSubstitute false f h.0
    for_right = subst (λ z. IsSubstitute z f h.0) t h.1

    in_right : IsEndOf (change_of false true) side p f.left f.right (edge_on side f)
    in_right = subst (λ z. IsEndOf (change_of z true) side p f.left f.right (edge_on side f)) t k

    to_right : (e : Pair × Pair) → IsBridgeBetween side f.left h.0 e → (e.1 ≡ p) × ¬ IsBefore (edge_on side f).0 e.0
    to_right e b = in_right.1 e (between_as side f.left f.left h.0 f.right e refl for_right.points b)

    -- it is after the left half
    pub after_left : IsBeforePoint (tree_of f.left) p
    after_left = before_second f.left h.0 p for_right.row (subst (λ z. Contains z p) (sym for_right.points) in_right.0)

    -- the start is not after the old one
    pub start_in_left : IsEndToWithin side (tree_of f.left) p f.left_ends.first (edge_on side f).0
    start_in_left = within_to side f.left p f.left_ends.first (edge_on side f).0 for_right.row.left_built
        (ap (λ (z : Ends). z.first) for_right.ends) (λ q s. start_not_after side f.left h.0 p q (edge_on side f).0 for_right.row to_right s)

    -- and the bridge to the point is that of both halves
    pub bridge_to : (q : Pair) → IsEndTo side (tree_of f.left) p q → IsBridgeBetween side f.left f.right (q, p)
    bridge_to q s = between_as side f.left f.left h.0 f.right (q, p) refl for_right.points
        (of_points side f.left h.0 (q, p) for_right.row (with_end_to side f.left h.0 p q for_right.row (λ e b. (to_right e b).0) s))

-- a fork with the same halves, that stores the ends of the other one, has the substitute for its half
substitute_over : (left : Bool) (f g : Below) → g.left ≡ f.left → g.right ≡ f.right
    → ends_of_half (not left) g ≡ ends_in (points_below (half_of (not left) f)) → HasSubstitute left f → HasSubstitute left g
substitute_over left f g l r e h = (
  h.0,
  record {
    points = h.1.points ∙ ap points_below (sym (half_same left f g l r));
    row = rw (l, r) h.1.row;
    few = rw (l, r) h.1.few;
    ends = e ∙ ap (λ z. ends_in (points_below z)) (sym (half_same (not left) f g l r));
  },
)

-- so has a fork of which only an edge differs
pub substitute_moved : (left : Bool) (side : Side) (f g : Below) → IsSameBut side f g → HasSubstitute left f → HasSubstitute left g
substitute_moved left side f g s h = substitute_over left f g s.left s.right (stored left ∙ h.1.ends) h
  where
    stored : (left : Bool) → ends_of_half (not left) g ≡ ends_of_half (not left) f
    stored true = s.right_ends
    stored false = s.left_ends

-- a fork with the same halves and edges, that stores their ends, is to be renewed at its edges
module _ {left : Bool} {p : Pair} {change : Changed} {f g : Below} (over : IsToRenewOver left p change f) (ends : HasEnds f.left f.right g)
    (l : g.left ≡ f.left) (r : g.right ≡ f.right) (same : (side : Side) → edge_on side g ≡ edge_on side f) where
  pub half_over : HasSubstitute left g
  half_over = substitute_over left f g l r (stored left) over.half
    where
      stored : (left : Bool) → ends_of_half (not left) g ≡ ends_in (points_below (half_of (not left) f))
      stored true = ends.right
      stored false = ends.left

  pub edges_over : HasEdgesAfter p change.sides g
  edges_over =
      let e = edges_as p change.sides f.left f.right f g over.edges.unaffected over.edges.clear same in
      let moved : (side : Side) → IsBridgeBetween side f.left f.right (edge_on side g) → IsBridgeBetween side g.left g.right (edge_on side g) =
      λ side. between_as side f.left g.left f.right g.right (edge_on side g) (ap points_below (sym l)) (ap points_below (sym r)) in
      record { unaffected = λ side u. moved side (e.0 side u); clear = λ side k. moved side (e.1 side k) }

  pub end_over : (side : Side) → IsEndUnlessClear (change_of left true) side p g.left g.right (edge_on side g)
  end_over side = subst (λ z. IsEndUnlessClear (change_of left true) side p z g.right (edge_on side g)) (sym l)
      (subst (λ z. IsEndUnlessClear (change_of left true) side p f.left z (edge_on side g)) (sym r)
      (end_as (change_of left true) p f.left f.right f g same over.end side))

  pub ends_over : HasEnds g.left g.right g
  ends_over = record {
    left = ends.left ∙ ap (λ z. ends_in (points_below z)) (sym l);
    right = ends.right ∙ ap (λ z. ends_in (points_below z)) (sym r);
  }

-- each edge of a fork is a bridge, if one was first renewed on the upper side and then on the lower one
pub both_moved : (f g : Below) → IsSameBut Lower f g → IsBridgeBetween Upper f.left f.right f.upper
    → IsBridgeBetween Lower g.left g.right g.lower → (side : Side) → IsBridgeBetween side g.left g.right (edge_on side g)
both_moved f g s u l Lower = l
both_moved f g s u l Upper = rw (s.left, s.right, s.other) u

-- one of two points in order is before the other, or not
pub before_or_not : (p q : Pair) → IsBefore p q ⊎ ¬ IsBefore p q
before_or_not p q = elim (before_total p q) [
  | inl b ↦ inl b
  | inr k ↦ inr (λ b. elim k [ inl e ↦ before_apart p q b e | inr c ↦ before_not p q b c ])
]

-- a well-built half is its own substitute
pub itself : (left : Bool) (f : Below) → AreInRow f.left f.right → length (points_below f.left ++ points_below f.right) ≤ POINT_LIMIT
    → HasEnds f.left f.right f → HasSubstitute left f
itself true f w l e = (f.left, record { points = refl; row = w; few = l; ends = e.right })
itself false f w l e = (f.right, record { points = refl; row = w; few = l; ends = e.left })

-- a change with the turns of its searches
pub with_turns : (p : Pair) (n m : Node) (change : Changed) (turns : ℕ) → HasChanged true p n m change → turns ≤ most_turns (node_height n)
    → HasChanged true p n m record { turns = turns; sides = change.sides; is_between = change.is_between }
with_turns p n m change turns d l = record {
  absent = d.absent;
  in_place = record {
    built = d.in_place.built;
    height = d.in_place.height;
    turns = l;
    unaffected = d.in_place.unaffected;
    between = d.in_place.between;
  };
  gained = d.gained;
}
