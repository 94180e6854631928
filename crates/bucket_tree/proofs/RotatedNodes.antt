-- Three neighbouring subtrees, of which two have a fork of their own, as halves of which a rotation keeps the bridges.
use Rattle.std.proofs.Common.{◌≡◌, ◌∙◌, inl, inr, sym, ap, subst, List, ◌++◌}
use Rattle.std.proofs.lemmas.List.{append_assoc}
use Rattle.std.proofs.lemmas.List.Elements.{Contains-append_left, Contains-append_right}
use Rattle.std.specs.List.{Contains}
use Rattle.lattice.specs.Bridges.{IsAllBefore, IsBridge}
use Rattle.lattice.specs.Plane.{Pair, IsBefore}
use Rattle.lattice.specs.declared.side.Side.{Side}
use Rattle.lattice.specs.declared.side.Side.TheVariants.{Lower}
use Rattle.lattice.proofs.Order.{before_not}
use Rattle.bridge_search.specs.Trees.{Tree, Fork as ForkTree, On, IsBridged}
use Rattle.hull_geometry.specs.Positions.{first_of}
use Rattle.hull_geometry.proofs.PointSets.{set_apart}
use Rattle.bucket_tree.specs.Changes.{IsBridgeBetween, edge_on}
use Rattle.bucket_tree.specs.Nodes.{tree_of, points_below, AreInRow}
use Rattle.bucket_tree.specs.Rotations.{IsOnEither, IsRegrouped, IsWhole, AreEdgesOfFour, AreFourInRow}
use Rattle.bucket_tree.specs.declared.node.Fork.{Fork}
use Rattle.bucket_tree.specs.declared.node.Node.{Node}
use Rattle.bucket_tree.specs.declared.rotation.Regrouped.{Regrouped}
use Rattle.bucket_tree.specs.declared.rotation.Rotation.{Rotation}
use Rattle.bucket_tree.specs.declared.rotation.Rotation.TheVariants.{Left, Right}
use Rattle.bucket_tree.proofs.Added.{not_before_first}
use Rattle.bucket_tree.proofs.Kept.{of_vertices}
use Rattle.bucket_tree.proofs.NodeCandidateLists.{node_candidates}
use Rattle.bucket_tree.proofs.NodePoints.{some_below}
use Rattle.bucket_tree.proofs.NodeRows.{vertices_in_row}
use Rattle.bucket_tree.proofs.Rotated.{AreThree, fork_of, regrouped_is, first_again, second_again}
use Rattle.bucket_tree.proofs.SetEnds.{first_among}

-- each vertex below the first of two nodes is before the first point of the second
before_split : (a b : Node) (split t : Pair) → AreInRow a b → split ≡ first_of (points_below b) → On (tree_of a) t
    → IsBefore t split
before_split a b split t w e i = subst (IsBefore t) (sym e)
    (set_apart (points_below a) (points_below b) t (first_of (points_below b)) w.in_order
    ((node_candidates Lower a w.left_built.buckets).among t i)
    (first_among (points_below b) (some_below b w.right_built.buckets)))

-- two halves of a fork, and a half after both
after_both : (n r : Node) (e f : Pair × Pair) (x y : Tree) → AreInRow n r → tree_of n ≡ ForkTree e f x y
    → IsAllBefore (IsOnEither x y) (On (tree_of r))
after_both n r e f x y w s = subst (λ z. IsAllBefore (On z) (On (tree_of r))) s (vertices_in_row n r w)

-- or before both
before_both : (l n : Node) (e f : Pair × Pair) (x y : Tree) → AreInRow l n → tree_of n ≡ ForkTree e f x y
    → IsAllBefore (On (tree_of l)) (IsOnEither x y)
before_both l n e f x y w s = subst (λ z. IsAllBefore (On (tree_of l)) (On z)) s (vertices_in_row l n w)

-- the fork n over a and b, and r: a rotation to the right makes a fork of b and r
pub rotated_right : (side : Side) (n r a b : Node) (f g : Fork) (whole part : Pair
    × Pair) (split : Pair) (new : Regrouped)
    → AreInRow n r → AreInRow a b → tree_of n ≡ ForkTree f.upper f.lower (tree_of a) (tree_of b)
    → IsBridgeBetween side a b (edge_on side f) → split ≡ first_of (points_below b)
    → IsBridge side (On (tree_of n)) (On (tree_of r)) (edge_on side g).0 (edge_on side g).1
    → whole ≡ edge_on side g → part ≡ edge_on side f
    → IsRegrouped side Right whole part split (tree_of b) (tree_of r) new
    → IsBridge side (On (tree_of b)) (On (tree_of r)) new.inner.0 new.inner.1
    × IsBridge side (On (tree_of a)) (IsOnEither (tree_of b) (tree_of r)) new.outer.0 new.outer.1
rotated_right side n r a b f g whole part split new w v s p e h wh pa k =
    let before = after_both n r f.upper f.lower (tree_of a) (tree_of b) w s in
    let three : AreThree Right (tree_of a) (tree_of b) (tree_of r) split = record {
      first = v.left_built.bridged;
      middle = v.right_built.bridged;
      last = w.right_built.bridged;
      first_middle = vertices_in_row a b v;
      middle_last = λ x y i j. before x y (inr i) j;
      first_last = λ x y i j. before x y (inl i) j;
      begins = (
        λ t i. before_split a b split t v e i,
        λ t i. not_before_first b t split v.right_built e i,
      );
    } in
    let o = regrouped_is side Right (tree_of a) (tree_of b) (tree_of r) whole part split new three
    (subst (λ (z : Pair × Pair). IsWhole Right side (tree_of a) (tree_of b) (tree_of r) z) (sym wh)
    (subst (λ z. IsBridge side (On z) (On (tree_of r)) (edge_on side g).0 (edge_on side g).1) s h))
    (subst (λ (z : Pair × Pair). IsBridge side (On (tree_of a)) (On (tree_of b)) z.0 z.1) (sym pa)
    (of_vertices side a b (edge_on side f) v p)) k in
    (o.0, o.1)

-- l, and the fork n over b and c: a rotation to the left makes a fork of l and b
pub rotated_left : (side : Side) (l n b c : Node) (f g : Fork) (whole part : Pair
    × Pair) (split : Pair) (new : Regrouped)
    → AreInRow l n → AreInRow b c → tree_of n ≡ ForkTree f.upper f.lower (tree_of b) (tree_of c)
    → IsBridgeBetween side b c (edge_on side f) → split ≡ first_of (points_below c)
    → IsBridge side (On (tree_of l)) (On (tree_of n)) (edge_on side g).0 (edge_on side g).1
    → whole ≡ edge_on side g → part ≡ edge_on side f
    → IsRegrouped side Left whole part split (tree_of l) (tree_of b) new
    → IsBridge side (On (tree_of l)) (On (tree_of b)) new.inner.0 new.inner.1
    × IsBridge side (IsOnEither (tree_of l) (tree_of b)) (On (tree_of c)) new.outer.0 new.outer.1
rotated_left side l n b c f g whole part split new w v s p e h wh pa k =
    let before = before_both l n f.upper f.lower (tree_of b) (tree_of c) w s in
    let three : AreThree Left (tree_of l) (tree_of b) (tree_of c) split = record {
      first = w.left_built.bridged;
      middle = v.left_built.bridged;
      last = v.right_built.bridged;
      first_middle = λ x y i j. before x y i (inl j);
      middle_last = vertices_in_row b c v;
      first_last = λ x y i j. before x y i (inr j);
      begins = (
        λ t i. before_split b c split t v e i,
        λ t i. not_before_first c t split v.right_built e i,
      );
    } in
    let o = regrouped_is side Left (tree_of l) (tree_of b) (tree_of c) whole part split new three
    (subst (λ (z : Pair × Pair). IsWhole Left side (tree_of l) (tree_of b) (tree_of c) z) (sym wh)
    (subst (λ z. IsBridge side (On (tree_of l)) (On z) (edge_on side g).0 (edge_on side g).1) s h))
    (subst (λ (z : Pair × Pair). IsBridge side (On (tree_of b)) (On (tree_of c)) z.0 z.1) (sym pa)
    (of_vertices side b c (edge_on side f) v p)) k in
    (o.0, o.1)

-- ---- four nodes

-- the vertices of four nodes in a row
pub record AreApart (a b c d : Tree) : Type 0 where
  pub ab : IsAllBefore (On a) (On b)
  pub ac : IsAllBefore (On a) (On c)
  pub ad : IsAllBefore (On a) (On d)
  pub bc : IsAllBefore (On b) (On c)
  pub bd : IsAllBefore (On b) (On d)
  pub cd : IsAllBefore (On c) (On d)

-- what is known of four nodes in a row, and of the first point of the third
pub record AreFour (a b c d : Node) (split : Pair) : Type 0 where
  pub built_a : IsBridged (tree_of a)
  pub built_b : IsBridged (tree_of b)
  pub built_c : IsBridged (tree_of c)
  pub built_d : IsBridged (tree_of d)
  pub apart : AreApart (tree_of a) (tree_of b) (tree_of c) (tree_of d)
  pub a_before : (t : Pair) → On (tree_of a) t → IsBefore t split
  pub b_before : (t : Pair) → On (tree_of b) t → IsBefore t split
  pub c_after : (t : Pair) → On (tree_of c) t → ¬ IsBefore t split
  pub d_after : (t : Pair) → On (tree_of d) t → ¬ IsBefore t split

pub four_of : (a b c d : Node) (split : Pair) → AreFourInRow a b c d → split ≡ first_of (points_below c)
    → AreFour a b c d split
four_of a b c d split w e = record {
  built_a = w.front.left_built.bridged;
  built_b = w.front.right_built.bridged;
  built_c = w.back.left_built.bridged;
  built_d = w.back.right_built.bridged;
  apart = record {
    ab = vertices_in_row a b w.front;
    ac = λ p q i j. across p q (in_a p i) (in_c q j);
    ad = λ p q i j. across p q (in_a p i) (in_d q j);
    bc = λ p q i j. across p q (in_b p i) (in_c q j);
    bd = λ p q i j. across p q (in_b p i) (in_d q j);
    cd = vertices_in_row c d w.back;
  };
  a_before = λ t i. subst (IsBefore t) (sym e) (across t (first_of C) (in_a t i) first_c);
  b_before = λ t i. subst (IsBefore t) (sym e) (across t (first_of C) (in_b t i) first_c);
  c_after = λ t i. not_before_first c t split w.back.left_built e i;
  d_after = λ t i b. before_not split t (subst (λ z. IsBefore z t) (sym e)
      (set_apart C D (first_of C) t w.back.in_order (first_among C (some_below c w.back.left_built.buckets))
      ((node_candidates Lower d w.back.right_built.buckets).among t i))) b;
}
  where
    A : List Pair
    A = points_below a

    B : List Pair
    B = points_below b

    C : List Pair
    C = points_below c

    D : List Pair
    D = points_below d

    across : (p q : Pair) → Contains (A ++ B) p → Contains (C ++ D) q → IsBefore p q
    across p q i j = set_apart (A ++ B) (C ++ D) p q w.in_order i j

    in_a : (t : Pair) → On (tree_of a) t → Contains (A ++ B) t
    in_a t i = Contains-append_left A B t ((node_candidates Lower a w.front.left_built.buckets).among t i)

    in_b : (t : Pair) → On (tree_of b) t → Contains (A ++ B) t
    in_b t i = Contains-append_right A B t ((node_candidates Lower b w.front.right_built.buckets).among t i)

    in_c : (t : Pair) → On (tree_of c) t → Contains (C ++ D) t
    in_c t i = Contains-append_left C D t ((node_candidates Lower c w.back.left_built.buckets).among t i)

    in_d : (t : Pair) → On (tree_of d) t → Contains (C ++ D) t
    in_d t i = Contains-append_right C D t ((node_candidates Lower d w.back.right_built.buckets).among t i)

    first_c : Contains (C ++ D) (first_of C)
    first_c = Contains-append_left C D (first_of C) (first_among C (some_below c w.back.left_built.buckets))

-- the bridges of the three forks that a double rotation makes
abbrev pub AreTwiceRotated : Side → Tree → Tree → Tree → Tree → Pair × Pair → Pair × Pair → Pair × Pair → Type 0
AreTwiceRotated side a b c d left right outer = IsBridge side (On a) (On b) left.0 left.1
    × IsBridge side (On c) (On d) right.0 right.1 × IsBridge side (IsOnEither a b) (IsOnEither c d) outer.0 outer.1

-- the lower two forks are rotated to the right, and then the upper two to the left
pub twice_left : (side : Side) (a b c d : Node) (split : Pair) (whole low middle : Pair
    × Pair) (lower upper : Regrouped)
    → AreFour a b c d split → AreEdgesOfFour Left side (tree_of a) (tree_of b) (tree_of c) (tree_of d) whole low middle
    → IsRegrouped side Right low middle split (tree_of c) (tree_of d) lower
    → IsRegrouped side Left whole lower.outer split (tree_of a) (tree_of b) upper
    → AreTwiceRotated side (tree_of a) (tree_of b) (tree_of c) (tree_of d) upper.inner lower.inner upper.outer
twice_left side a b c d split whole low middle lower upper h e k m =
    let one : AreThree Right (tree_of b) (tree_of c) (tree_of d) split = record {
      first = h.built_b;
      middle = h.built_c;
      last = h.built_d;
      first_middle = h.apart.bc;
      middle_last = h.apart.cd;
      first_last = h.apart.bd;
      begins = (h.b_before, h.c_after);
    } in
    let g = regrouped_is side Right (tree_of b) (tree_of c) (tree_of d) low middle split lower one e.1 e.2 k in
    let f = fork_of (tree_of c) (tree_of d) h.built_c h.built_d h.apart.cd in
    let two : AreThree Left (tree_of a) (tree_of b) (ForkTree f.0 f.1 (tree_of c) (tree_of d)) split = record {
      first = h.built_a;
      middle = h.built_b;
      last = f.2;
      first_middle = h.apart.ab;
      middle_last = λ p q i j. elim j [ inl n ↦ h.apart.bc p q i n | inr n ↦ h.apart.bd p q i n ];
      first_last = λ p q i j. elim j [ inl n ↦ h.apart.ac p q i n | inr n ↦ h.apart.ad p q i n ];
      begins = (h.b_before, λ t i. elim i [ inl n ↦ h.c_after t n | inr n ↦ h.d_after t n ]);
    } in
    let r = regrouped_is side Left (tree_of a) (tree_of b) (ForkTree f.0 f.1 (tree_of c) (tree_of d)) whole lower.outer
    split
    upper two
    (second_again side (On (tree_of a)) (On (tree_of b)) (On (tree_of c)) (On (tree_of d)) whole.0 whole.1 e.0) g.1 m in
    (r.0, g.0, r.1)

-- the lower two forks are rotated to the left, and then the upper two to the right
pub twice_right : (side : Side) (a b c d : Node) (split : Pair) (whole low middle : Pair
    × Pair) (lower upper : Regrouped)
    → AreFour a b c d split → AreEdgesOfFour Right side (tree_of a) (tree_of b) (tree_of c) (tree_of d) whole low middle
    → IsRegrouped side Left low middle split (tree_of a) (tree_of b) lower
    → IsRegrouped side Right whole lower.outer split (tree_of c) (tree_of d) upper
    → AreTwiceRotated side (tree_of a) (tree_of b) (tree_of c) (tree_of d) lower.inner upper.inner upper.outer
twice_right side a b c d split whole low middle lower upper h e k m =
    let one : AreThree Left (tree_of a) (tree_of b) (tree_of c) split = record {
      first = h.built_a;
      middle = h.built_b;
      last = h.built_c;
      first_middle = h.apart.ab;
      middle_last = h.apart.bc;
      first_last = h.apart.ac;
      begins = (h.b_before, h.c_after);
    } in
    let g = regrouped_is side Left (tree_of a) (tree_of b) (tree_of c) low middle split lower one e.1 e.2 k in
    let f = fork_of (tree_of a) (tree_of b) h.built_a h.built_b h.apart.ab in
    let two : AreThree Right (ForkTree f.0 f.1 (tree_of a) (tree_of b)) (tree_of c) (tree_of d) split = record {
      first = f.2;
      middle = h.built_c;
      last = h.built_d;
      first_middle = λ p q i j. elim i [ inl n ↦ h.apart.ac p q n j | inr n ↦ h.apart.bc p q n j ];
      middle_last = h.apart.cd;
      first_last = λ p q i j. elim i [ inl n ↦ h.apart.ad p q n j | inr n ↦ h.apart.bd p q n j ];
      begins = (λ t i. elim i [ inl n ↦ h.a_before t n | inr n ↦ h.b_before t n ], h.c_after);
    } in
    let r = regrouped_is side Right (ForkTree f.0 f.1 (tree_of a) (tree_of b)) (tree_of c) (tree_of d) whole
    lower.outer split
    upper two
    (first_again side (On (tree_of a)) (On (tree_of b)) (On (tree_of c)) (On (tree_of d)) whole.0 whole.1 e.0) g.1 m in
    (g.0, r.0, r.1)

-- the bridges of three forks, of which one is the right half of the left half of another
pub edges_right : (side : Side) (n r a i b c : Node) (f g : Fork) (e : Pair × Pair) → AreInRow a i → AreInRow b c
    → tree_of n ≡ ForkTree f.upper f.lower (tree_of a) (tree_of i)
    → tree_of i ≡ ForkTree g.upper g.lower (tree_of b) (tree_of c)
    → IsBridgeBetween side a i (edge_on side f) → IsBridgeBetween side b c (edge_on side g)
    → IsBridge side (On (tree_of n)) (On (tree_of r)) e.0 e.1
    → AreEdgesOfFour Right side (tree_of a) (tree_of b) (tree_of c) (tree_of r) e (edge_on side f) (edge_on side g)
edges_right side n r a i b c f g e w v s t p q h = (
  subst (λ z. IsBridge side (On z) (On (tree_of r)) e.0 e.1)
      (s ∙ ap (λ z. ForkTree f.upper f.lower (tree_of a) z) t) h,
  subst (λ z. IsBridge side (On (tree_of a)) (On z) (edge_on side f).0 (edge_on side f).1) t
      (of_vertices side a i (edge_on side f) w p),
  of_vertices side b c (edge_on side g) v q,
)

-- the bridges of three forks, of which one is the left half of the right half of another
pub edges_left : (side : Side) (l n i d b c : Node) (f g : Fork) (e : Pair × Pair) → AreInRow i d → AreInRow b c
    → tree_of n ≡ ForkTree f.upper f.lower (tree_of i) (tree_of d)
    → tree_of i ≡ ForkTree g.upper g.lower (tree_of b) (tree_of c)
    → IsBridgeBetween side i d (edge_on side f) → IsBridgeBetween side b c (edge_on side g)
    → IsBridge side (On (tree_of l)) (On (tree_of n)) e.0 e.1
    → AreEdgesOfFour Left side (tree_of l) (tree_of b) (tree_of c) (tree_of d) e (edge_on side f) (edge_on side g)
edges_left side l n i d b c f g e w v s t p q h = (
  subst (λ z. IsBridge side (On (tree_of l)) (On z) e.0 e.1)
      (s ∙ ap (λ z. ForkTree f.upper f.lower z (tree_of d)) t) h,
  subst (λ z. IsBridge side (On z) (On (tree_of d)) (edge_on side f).0 (edge_on side f).1) t
      (of_vertices side i d (edge_on side f) w p),
  of_vertices side b c (edge_on side g) v q,
)

-- edges under other names
pub edges_as : (rotation : Rotation) (side : Side) (a b c d : Tree) (x y z u v w : Pair × Pair) → u ≡ x → v ≡ y → w ≡ z
    → AreEdgesOfFour rotation side a b c d x y z → AreEdgesOfFour rotation side a b c d u v w
edges_as rotation side a b c d x y z u v w e f g h =
    subst (λ t. AreEdgesOfFour rotation side a b c d t v w) (sym e)
    (subst (λ t. AreEdgesOfFour rotation side a b c d x t w) (sym f)
    (subst (λ t. AreEdgesOfFour rotation side a b c d x y t) (sym g) h))

-- ---- lists

-- a list of two parts, the second of which is two, before another
pub four_right : {T : Type 0} (l d a i b c : List T) → l ≡ a ++ i → i ≡ b ++ c → l ++ d ≡ (a ++ b) ++ (c ++ d)
four_right l d a i b c e f = ap (λ z. z ++ d) (e ∙ ap (λ z. a ++ z) f ∙ sym (append_assoc a b c))
    ∙ append_assoc (a ++ b) c d

-- a list of two parts, the first of which is two, after another
pub four_left : {T : Type 0} (a r i d b c : List T) → r ≡ i ++ d → i ≡ b ++ c → a ++ r ≡ (a ++ b) ++ (c ++ d)
four_left a r i d b c e f = ap (λ z. a ++ z) (e ∙ ap (λ z. z ++ d) f ∙ append_assoc b c d)
    ∙ sym (append_assoc a b (c ++ d))
