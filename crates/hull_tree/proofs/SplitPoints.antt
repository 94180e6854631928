-- The points at the split of two halves, when a point is added to one of them or removed from it.
use Rattle.std.proofs.Common.{◌≡◌, sym, ap, ◌∙◌, subst, ◌⊎◌, inl, inr, refl, [], ◌++◌, append-nil, arith, ◌+◌, Some}
use Rattle.std.specs.List.{Contains}
use Rattle.lattice.specs.Covers.{with_point, without_point}
use Rattle.lattice.specs.Plane.{Pair, IsBefore}
use Rattle.lattice.proofs.Order.{before_trans, before_irrefl, before_total}
use Rattle.bridge_search.specs.Trees.{Tree, Leaf, Fork, On, IsFork, IsBridged, first_of, last_of}
use Rattle.bridge_search.specs.Leaves.{points_of}
use Rattle.bridge_search.proofs.Leaves.{on_of_contains, contains_of_on, points_in_order}
use Rattle.bridge_search.proofs.Turns.{on_first, first_by}
use Rattle.bridge_search.proofs.Ends.{on_last, last_by}
use Rattle.hull_geometry.proofs.SetLaws.{with_point_law, without_point_law}
use Rattle.hull_tree.specs.declared.node.Node.{Node}
use Rattle.hull_tree.specs.declared.node.Halves.{Halves}
use Rattle.hull_set.specs.Held.{once}
use Rattle.hull_tree.proofs.Multiplicities.{leaf_once, none_left, none_right}
use Rattle.hull_tree.specs.Nodes.{tree_of, below_of, left_half, right_half, multiplicity_below, IsWellBuilt}
use Rattle.hull_tree.specs.Changes.{points_below, IsSeparatedAt}
use Rattle.hull_tree.proofs.PointRows.{all_before_of_set}
use Rattle.hull_tree.proofs.ChangedRows.{without_only, added, taken}
use Rattle.hull_tree.proofs.HalfRows.{IsOver, over_halves, change_left, change_right, row_left, row_right}

-- the last point of a half is its point that none is after
last_is : (t : Tree) (x : Pair) → IsBridged t → On t x → ((s : Pair) → On t s → ¬ IsBefore x s) → last_of t ≡ x
last_is t x b i h =
    elim (before_total (last_of t) x) [
      | inl k ↦ absurd (last_by t b x i k)
      | inr (inl e) ↦ e
      | inr (inr k) ↦ absurd (h (last_of t) (on_last t) k)
    ]

-- the first point is the one that none is before
first_is : (t : Tree) (x : Pair) → IsBridged t → On t x → ((s : Pair) → On t s → ¬ IsBefore s x) → first_of t ≡ x
first_is t x b i h =
    elim (before_total (first_of t) x) [
      | inl k ↦ absurd (h (first_of t) (on_first t) k)
      | inr (inl e) ↦ e
      | inr (inr k) ↦ absurd (first_by t b x i k)
    ]

-- a point of t with p is p, or a point of t
one_more : (t v : Tree) (p s : Pair) → IsBridged t → points_of v ≡ with_point p (points_of t) → On v s
    → (s ≡ p) ⊎ On t s
one_more t v p s b e i =
    elim (((with_point_law (points_of t) p (points_in_order t b)).1 s).0
    (subst (λ z. Contains z s) e (contains_of_on v s i))) [
      | inl k ↦ inl k
      | inr k ↦ inr (on_of_contains t s k)
    ]

-- and either is a point of it
was_there : (t v : Tree) (p s : Pair) → IsBridged t → points_of v ≡ with_point p (points_of t) → On t s → On v s
was_there t v p s b e i =
    on_of_contains v s (rw e
    (((with_point_law (points_of t) p (points_in_order t b)).1 s).1 (inr (contains_of_on t s i))))

is_new : (t v : Tree) (p : Pair) → IsBridged t → points_of v ≡ with_point p (points_of t) → On v p
is_new t v p b e = on_of_contains v p (rw e (((with_point_law (points_of t) p (points_in_order t b)).1 p).1 (inl refl)))

-- p after the last point of t becomes the last one
last_moved : (t v : Tree) (p : Pair) → IsBridged t → IsBridged v → points_of v ≡ with_point p (points_of t)
    → IsBefore (last_of t) p → last_of v ≡ p
last_moved t v p b d e h = last_is v p d (is_new t v p b e) (λ s i. elim (one_more t v p s b e i) [
  | inl k ↦ λ l. before_irrefl p (subst (IsBefore p) k l)
  | inr k ↦ λ l. last_by t b s k (before_trans (last_of t) p s h l)
])

-- any other leaves it
last_kept : (t v : Tree) (p : Pair) → IsBridged t → IsBridged v → points_of v ≡ with_point p (points_of t)
    → ¬ IsBefore (last_of t) p → last_of v ≡ last_of t
last_kept t v p b d e h =
    last_is v (last_of t) d (was_there t v p (last_of t) b e (on_last t)) (λ s i. elim (one_more t v p s b e i) [
      | inl k ↦ λ l. h (subst (IsBefore (last_of t)) k l)
      | inr k ↦ λ l. last_by t b s k l
    ])

-- p that is not before the first point leaves it
first_kept : (t v : Tree) (p : Pair) → IsBridged t → IsBridged v → points_of v ≡ with_point p (points_of t)
    → ¬ IsBefore p (first_of t) → first_of v ≡ first_of t
first_kept t v p b d e h =
    first_is v (first_of t) d (was_there t v p (first_of t) b e (on_first t)) (λ s i. elim (one_more t v p s b e i) [
      | inl k ↦ λ l. h (subst (λ z. IsBefore z (first_of t)) k l)
      | inr k ↦ λ l. first_by t b s k l
    ])

-- a point of t without p is a point of t
one_less : (t v : Tree) (p s : Pair) → IsBridged t → points_of v ≡ without_point p (points_of t) → On v s → On t s
one_less t v p s b e i =
    on_of_contains t s ((((without_point_law (points_of t) p (points_in_order t b)).1 s).0
    (subst (λ z. Contains z s) e (contains_of_on v s i))).0)

-- and any other than p is there yet
still_there : (t v : Tree) (p s : Pair) → IsBridged t → points_of v ≡ without_point p (points_of t) → On t s
    → ¬ (s ≡ p) → On v s
still_there t v p s b e i n =
    on_of_contains v s (rw e
    (((without_point_law (points_of t) p (points_in_order t b)).1 s).1 (contains_of_on t s i, n)))

-- t without a point that is not its last one has its last point
pub last_left : (t v : Tree) (p : Pair) → IsBridged t → IsBridged v → points_of v ≡ without_point p (points_of t)
    → ¬ (last_of t ≡ p) → last_of t ≡ last_of v
last_left t v p b d e n =
    sym (last_is v (last_of t) d (still_there t v p (last_of t) b e (on_last t) n)
    (λ s i. last_by t b s (one_less t v p s b e i)))

-- and without a point that is not its first one its first point
pub first_left : (t v : Tree) (p : Pair) → IsBridged t → IsBridged v → points_of v ≡ without_point p (points_of t)
    → ¬ (first_of t ≡ p) → first_of t ≡ first_of v
first_left t v p b d e n =
    sym (first_is v (first_of t) d (still_there t v p (first_of t) b e (on_first t) n)
    (λ s i. first_by t b s (one_less t v p s b e i)))

-- p, before the first point of r, is added to l, and the last point of l becomes p if p is after it
pub separated_add_left : (l r m : Node) (p last first end : Pair) → IsSeparatedAt l r last first → IsBefore p first
    → IsWellBuilt m → points_below m ≡ with_point p (points_below l) → (IsBefore last p → end ≡ p)
    → (¬ IsBefore last p → end ≡ last) → IsSeparatedAt m r end first
separated_add_left l r m p last first end k b h e y n = record {
  row = row_left added l r m p k.row (subst (IsBefore p) k.starts_right b) h e;
  ends_left = elim (before_total last p) [
    | inl i ↦ y i ∙ sym (last_moved (tree_of l) (tree_of m) p k.row.left_built.bridged h.bridged e
        (subst (λ z. IsBefore z p) k.ends_left i))
    | inr (inl i) ↦ stays (λ j. before_irrefl p (subst (λ z. IsBefore z p) i j))
    | inr (inr i) ↦ stays (λ j. before_irrefl p (before_trans p last p i j))
  ];
  starts_right = k.starts_right;
}
  where
    stays : ¬ IsBefore last p → end ≡ last_of (tree_of m)
    stays j = n j ∙ k.ends_left
        ∙ sym (last_kept (tree_of l) (tree_of m) p k.row.left_built.bridged h.bridged e
        (λ i. j (subst (λ z. IsBefore z p) (sym k.ends_left) i)))

-- any other is added to r
pub separated_add_right : (l r m : Node) (p last first : Pair) → IsSeparatedAt l r last first → ¬ IsBefore p first
    → IsWellBuilt m → points_below m ≡ with_point p (points_below r) → IsSeparatedAt l m last first
separated_add_right l r m p last first k b h e =
    let n : ¬ IsBefore p (first_of (tree_of r)) = λ i. b (subst (IsBefore p) (sym k.starts_right) i) in
    record {
      row = row_right added l r m p k.row n h e;
      ends_left = k.ends_left;
      starts_right = k.starts_right
          ∙ sym (first_kept (tree_of r) (tree_of m) p k.row.right_built.bridged h.bridged e n);
    }

-- a half with p and another point is a fork
pub fork_of : (t : Tree) (p : Pair) → On t p → ¬ (t ≡ Leaf p) → IsFork t
fork_of (Leaf x) p i n = absurd (n (ap Leaf (sym i)))
fork_of (Fork e f u w) p i n = tt

-- p, before the first point of r, is removed from l, which is m afterwards
pub separated_drop_left : (l r m s t : Node) (p last first end start : Pair) → IsSeparatedAt l r last first → IsBefore p first
    → IsWellBuilt m → points_below m ≡ without_point p (points_below l) → s ≡ m → t ≡ r → end ≡ last_of (tree_of m)
    → start ≡ first → IsSeparatedAt s t end start
separated_drop_left l r m s t p last first end start k b h e es et i j = rw (es, et, i, j) record {
  row = row_left taken l r m p k.row (subst (IsBefore p) k.starts_right b) h e;
  ends_left = refl;
  starts_right = k.starts_right;
}

-- so it is removed from both in a row
pub points_drop_left : (l r m s t : Node) (p last first : Pair) → IsSeparatedAt l r last first → IsBefore p first
    → points_below m ≡ without_point p (points_below l) → s ≡ m → t ≡ r
    → points_below s ++ points_below t ≡ without_point p (points_below l ++ points_below r)
points_drop_left l r m s t p last first k b e es et =
    rw (es, et, e) (sym (change_left taken l r p k.row (subst (IsBefore p) k.starts_right b)))

-- any other is removed from r
pub separated_drop_right : (l r m s t : Node) (p last first end start : Pair) → IsSeparatedAt l r last first
    → ¬ IsBefore p first → IsWellBuilt m → points_below m ≡ without_point p (points_below r) → s ≡ l → t ≡ m
    → end ≡ last → start ≡ first_of (tree_of m) → IsSeparatedAt s t end start
separated_drop_right l r m s t p last first end start k b h e es et i j = rw (es, et, i, j) record {
  row = row_right taken l r m p k.row (λ n. b (subst (IsBefore p) (sym k.starts_right) n)) h e;
  ends_left = k.ends_left;
  starts_right = refl;
}

-- so it is removed from both in a row
pub points_drop_right : (l r m s t : Node) (p last first : Pair) → IsSeparatedAt l r last first → ¬ IsBefore p first
    → points_below m ≡ without_point p (points_below r) → s ≡ l → t ≡ m
    → points_below s ++ points_below t ≡ without_point p (points_below l ++ points_below r)
points_drop_right l r m s t p last first k b e es et =
    rw (es, et, e) (sym (change_right taken l r p k.row (λ n. b (subst (IsBefore p) (sym k.starts_right) n))))

-- nothing is left of the leaf of p without p
without_leaf : (t : Tree) (p : Pair) → t ≡ Leaf p → without_point p (points_of t) ≡ []
without_leaf t p e = ap (λ z. without_point p (points_of z)) e ∙ without_only p p (0, omega arith, refl)

-- s is the node n without p, which had multiplicity one
pub record IsRest (n s : Node) (p : Pair) : Type 0 where
  pub built : IsWellBuilt s
  pub points : points_below s ≡ without_point p (points_below n)
  pub multiplicities : (q : Pair) → multiplicity_below s q + once p q ≡ multiplicity_below n q

-- if p, with multiplicity one, is all of the left half, the right one is the rest
rest_right : (n s : Node) (h : Halves) (p : Pair) → IsOver n h → tree_of (left_half h) ≡ Leaf p → multiplicity_below n p ≡ 1
    → s ≡ right_half h → IsRest n s p
rest_right n s h p o e c d =
    let b : IsBefore p (first_of (tree_of (right_half h))) =
    all_before_of_set (tree_of (left_half h)) (tree_of (right_half h)) o.separated.row.in_order p
    (first_of (tree_of (right_half h))) (subst (λ t. On t p) (sym e) refl)
    (on_first (tree_of (right_half h))) in
    let a : multiplicity_below (left_half h) p ≡ 1 =
    omega (arith, c, o.multiplicities p, none_right (left_half h) (right_half h) p o.separated.row b) in
    let m : without_point p (points_below (left_half h)) ≡ [] = without_leaf (tree_of (left_half h)) p e in
    rw d record {
      built = o.separated.row.right_built;
      points = sym (ap (without_point p) o.points ∙ change_left taken (left_half h) (right_half h) p o.separated.row b
          ∙ ap (λ z. z ++ points_below (right_half h)) m);
      multiplicities = λ q. omega (arith, o.multiplicities q, leaf_once (left_half h) p e a q);
    }

-- otherwise p is all of the right half, and the left one is the rest
rest_left : (n s : Node) (h : Halves) (p : Pair) → IsOver n h → tree_of (right_half h) ≡ Leaf p → multiplicity_below n p ≡ 1
    → s ≡ left_half h → IsRest n s p
rest_left n s h p o e c d =
    let b : ¬ IsBefore p (first_of (tree_of (right_half h))) =
    λ i. before_irrefl p (subst (λ t. IsBefore p (first_of t)) e i) in
    let a : multiplicity_below (right_half h) p ≡ 1 =
    omega (arith, c, o.multiplicities p, none_left (left_half h) (right_half h) p o.separated.row b) in
    let m : without_point p (points_below (right_half h)) ≡ [] = without_leaf (tree_of (right_half h)) p e in
    rw d record {
      built = o.separated.row.left_built;
      points = sym (ap (without_point p) o.points ∙ change_right taken (left_half h) (right_half h) p o.separated.row b
          ∙ ap (λ z. points_below (left_half h) ++ z) m ∙ append-nil (points_below (left_half h)));
      multiplicities = λ q. omega (arith, o.multiplicities q, leaf_once (right_half h) p e a q);
    }

-- if p, with multiplicity one, is all of one half, the other one is the rest
pub rest_below : (n s : Node) (g h : Halves) (p : Pair) → IsWellBuilt n → below_of n ≡ Some h → g ≡ h
    → (tree_of (left_half g) ≡ Leaf p) ⊎ (tree_of (right_half g) ≡ Leaf p)
    → (tree_of (left_half h) ≡ Leaf p → s ≡ right_half h) → (¬ (tree_of (left_half h) ≡ Leaf p) → s ≡ left_half h)
    → multiplicity_below n p ≡ 1 → IsRest n s p
rest_below n s g h p b i e d f k c =
    let o : IsOver n h = over_halves n h b i in
    elim (subst (λ (z : Halves). (tree_of (left_half z) ≡ Leaf p) ⊎ (tree_of (right_half z) ≡ Leaf p)) e d) [
      | inl l ↦ rest_right n s h p o l c (f l)
      | inr r ↦ rest_left n s h p o r c
          (k (λ l. before_irrefl p
          (all_before_of_set (tree_of (left_half h)) (tree_of (right_half h)) o.separated.row.in_order p p
          (subst (λ t. On t p) (sym l) refl) (subst (λ t. On t p) (sym r) refl))))
    ]
