-- Two nodes in a row: the halves of a fork, and the half that a point is added to or removed from.
use Rattle.std.proofs.Common.{◌≡◌, ◌+◌, refl, sym, subst, List, ◌++◌, inl, inr, append_assoc, Some}
use Rattle.std.specs.List.{All}
use Rattle.lattice.specs.Covers.{IsPointSet}
use Rattle.lattice.specs.Plane.{Pair, IsBefore}
use Rattle.bridge_search.specs.Trees.{first_of, last_of}
use Rattle.bridge_search.proofs.Leaves.{on_of_contains, points_in_order}
use Rattle.hull_geometry.proofs.PointLists.{all_of}
use Rattle.bridge_search.proofs.Turns.{on_first, first_by}
use Rattle.lattice.proofs.Order.{before_trans, before_total}
use Rattle.hull_tree.specs.declared.node.Node as node
use Rattle.hull_tree.specs.declared.node.Halves as halves
use Rattle.hull_tree.specs.Nodes.{tree_of, halves_of, below_of, left_half, right_half, multiplicity_below, IsWellBuilt}
use Rattle.hull_tree.specs.Nodes.{DifferByAtMost}
use Rattle.hull_tree.specs.Changes.{points_below, height_at, points_within, multiplicity_within, height_within, AreInRow}
use Rattle.hull_tree.specs.Changes.{AreSeparated}
use Rattle.hull_geometry.proofs.PointSets.{set_left, set_right}
use Rattle.hull_tree.proofs.PointRows.{all_before_of_set}
use Rattle.hull_tree.proofs.ChangedRows.{IsChange}

-- what is known of the halves h of the well-built fork n
pub record IsOver (n : node.Node) (h : halves.Halves) : Type 0 where
  pub separated : AreSeparated h
  pub halves : halves_of n ≡ Some (left_half h, right_half h)
  pub points : points_below n ≡ points_within h
  pub multiplicities : (q : Pair) → multiplicity_below n q ≡ multiplicity_within h q
  pub first : first_of (tree_of n) ≡ first_of (tree_of (left_half h))
  pub last : last_of (tree_of n) ≡ last_of (tree_of (right_half h))
  pub height : height_at n ≡ height_within h + 1
  pub near : DifferByAtMost 1 (height_at (left_half h)) (height_at (right_half h))

-- two halves that are the answer are the same
pub same_below : {g h : halves.Halves} → Some g ≡ Some h → g ≡ h
same_below e = cc

-- a well-built fork is over its halves
pub over_halves : (n : node.Node) (h : halves.Halves) → IsWellBuilt n → below_of n ≡ Some h → IsOver n h
unfolding node.out-Node halves.out-Halves denote.Hole.Carrier.out
over_halves (node.Node' upper lower height near multiplicity node.None') h b e = absurd (cc)
over_halves (node.Node' upper lower height near multiplicity
    (node.Some' i (halves.Halves' left right last_left right_first))) h b e =
    subst (λ (z : halves.Halves). IsOver
    (node.Node' upper lower height near multiplicity (node.Some' i (halves.Halves' left right last_left right_first))) z)
    (same_below e) record {
      separated = record {
        row = record {
          left_built = record { bridged = b.bridged.3; balanced = b.balanced.1; labelled = b.labelled.3 };
          right_built = record { bridged = b.bridged.4; balanced = b.balanced.2; labelled = b.labelled.4 };
          in_order = points_in_order
              (tree_of (node.Node' upper lower height near multiplicity
              (node.Some' i (halves.Halves' left right last_left right_first)))) b.bridged;
        };
        ends_left = b.labelled.0;
        starts_right = b.labelled.1;
      };
      halves = refl;
      points = refl;
      multiplicities = λ q. refl;
      first = refl;
      last = refl;
      height = refl;
      near = b.balanced.0;
    }

-- a node that is in a row with n is in a row with a, if n has the points of a and then those of b
pub row_with_left : (l n a b : node.Node) → AreInRow a b → points_below n ≡ points_below a ++ points_below b
    → AreInRow l n → AreInRow l a
row_with_left l n a b o i k =
    let e : points_below l ++ points_below n ≡ (points_below l ++ points_below a) ++ points_below b =
    rw i (simp append_assoc) in
    record {
      left_built = k.left_built;
      right_built = o.left_built;
      in_order = set_left (points_below l ++ points_below a) (points_below b) (subst IsPointSet e k.in_order);
    }

-- and b with the node after n
pub row_with_right : (n a b r : node.Node) → AreInRow a b → points_below n ≡ points_below a ++ points_below b
    → AreInRow n r → AreInRow b r
row_with_right n a b r o i k =
    let e : points_below n ++ points_below r ≡ points_below a ++ (points_below b ++ points_below r) =
    rw i (simp append_assoc) in
    record {
      left_built = o.right_built;
      right_built = k.right_built;
      in_order = set_right (points_below a) (points_below b ++ points_below r) (subst IsPointSet e k.in_order);
    }

-- two nodes with the same points as two in a row are in a row
pub regrouped : (l r s t : node.Node) → AreInRow l r → IsWellBuilt s → IsWellBuilt t
    → points_below l ++ points_below r ≡ points_below s ++ points_below t → AreInRow s t
regrouped l r s t k a b e = record { left_built = a; right_built = b; in_order = subst IsPointSet e k.in_order }

-- p before the first point of r: it is before all of r
pub before_first : (l r : node.Node) (p : Pair) → AreInRow l r → IsBefore p (first_of (tree_of r))
    → All (IsBefore p) (points_below r)
before_first l r p k b = all_of (IsBefore p) (points_below r) (λ t i. elim (before_total (first_of (tree_of r)) t) [
  | inl h ↦ before_trans p (first_of (tree_of r)) t b h
  | inr (inl e) ↦ subst (IsBefore p) e b
  | inr (inr h) ↦ absurd (first_by (tree_of r) k.right_built.bridged t (on_of_contains (tree_of r) t i) h)
])

-- otherwise all of l is before p
pub after_first : (l r : node.Node) (p : Pair) → AreInRow l r → ¬ (IsBefore p (first_of (tree_of r)))
    → All (λ t. IsBefore t p) (points_below l)
after_first l r p k n = all_of (λ t. IsBefore t p) (points_below l) (λ t i.
    let h : IsBefore t (first_of (tree_of r)) =
    all_before_of_set (tree_of l) (tree_of r) k.in_order t (first_of (tree_of r)) (on_of_contains (tree_of l) t i)
    (on_first (tree_of r)) in
    elim (before_total p (first_of (tree_of r))) [
      | inl m ↦ absurd (n m)
      | inr (inl e) ↦ subst (IsBefore t) (sym e) h
      | inr (inr m) ↦ before_trans t (first_of (tree_of r)) p h m
    ])

-- a change at a point before the first one of r is one of l
pub change_left : {f : Pair → List Pair → List Pair} (c : IsChange f) (l r : node.Node) (p : Pair) → AreInRow l r
    → IsBefore p (first_of (tree_of r)) → f p (points_below l ++ points_below r) ≡ f p (points_below l) ++ points_below r
change_left c l r p k b = c.left p (points_below l) (points_below r) (before_first l r p k b)

-- at any other, of r
pub change_right : {f : Pair → List Pair → List Pair} (c : IsChange f) (l r : node.Node) (p : Pair) → AreInRow l r
    → ¬ (IsBefore p (first_of (tree_of r)))
    → f p (points_below l ++ points_below r) ≡ points_below l ++ f p (points_below r)
change_right c l r p k n = c.right p (points_below l) (points_below r) (after_first l r p k n)

-- l after a change at such a point stays in a row with r
pub row_left : {f : Pair → List Pair → List Pair} (c : IsChange f) (l r m : node.Node) (p : Pair) → AreInRow l r
    → IsBefore p (first_of (tree_of r)) → IsWellBuilt m → points_below m ≡ f p (points_below l) → AreInRow m r
row_left c l r m p k b h e = record {
  left_built = h;
  right_built = k.right_built;
  in_order = rw e (subst IsPointSet (change_left c l r p k b) (c.ordered p (points_below l ++ points_below r) k.in_order));
}

-- and l with r after one at any other
pub row_right : {f : Pair → List Pair → List Pair} (c : IsChange f) (l r m : node.Node) (p : Pair) → AreInRow l r
    → ¬ (IsBefore p (first_of (tree_of r))) → IsWellBuilt m → points_below m ≡ f p (points_below r) → AreInRow l m
row_right c l r m p k n h e = record {
  left_built = k.left_built;
  right_built = h;
  in_order = rw e (subst IsPointSet (change_right c l r p k n) (c.ordered p (points_below l ++ points_below r) k.in_order));
}
