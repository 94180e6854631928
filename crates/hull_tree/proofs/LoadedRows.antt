-- Entries cut in two, and the nodes over both parts.
use Rattle.std.proofs.lemmas.Grind.{common_steps}
use Rattle.std.proofs.Common.{◌≡◌, ℕ, ◌+◌, ◌≤◌, sym, ◌∙◌, ap, subst, List, ◌++◌, length, take, drop, arith}
use Rattle.std.proofs.Common.{Some}
use Rattle.std.proofs.lemmas.List.{take-append-drop, map-append}
use Rattle.std.proofs.lemmas.List.Elements.{All-take, All-drop}
use Rattle.std.proofs.lemmas.List.Sums.{sum_by-append}
use Rattle.std.proofs.lemmas.Map.Entries.{length-keys_of}
use Rattle.lattice.specs.Plane.{Pair}
use Rattle.lattice.specs.Covers.{IsPointSet}
use Rattle.hull_set.specs.declared.TheConstants.{POINT_LIMIT}
use Rattle.leaf_trees.specs.Heights.{greatest_height}
use Rattle.hull_tree.specs.declared.node.Node.{Node}
use Rattle.leaf_trees.specs.Entries.{several, IsMultiplicity, points_listed, AreEntries}
use Rattle.hull_tree.specs.Nodes.{tree_of, multiplicity_below, IsWellBuilt}
use Rattle.hull_tree.specs.Changes.{points_below, height_at, AreInRow}
use Rattle.hull_tree.specs.Sets.{IsLimited}
use Rattle.hull_tree.specs.Loaded.{IsOver, IsHalvings}
use Rattle.hull_geometry.proofs.PointSets.{set_left, set_right}
use Rattle.hull_tree.proofs.Heights.{at_most_28}

-- the points of two parts in a row
pub points_of_both : (xs ys : List (Pair × ℕ)) → points_listed (xs ++ ys) ≡ points_listed xs ++ points_listed ys
points_of_both xs ys = map-append (λ (e : Pair × ℕ). e.0) xs ys

-- the points of what is cut off are a set in a row with the rest
cut_points : (m : ℕ) (es : List (Pair × ℕ)) → AreEntries es
    → IsPointSet (points_listed (take m es) ++ points_listed (drop m es))
cut_points m es h =
    subst IsPointSet (points_of_both (take m es) (drop m es))
    (subst (λ (z : List (Pair × ℕ)). IsPointSet (points_listed z)) (sym (take-append-drop m es)) h.in_order)

-- the first part of entries
pub entries_front : (m : ℕ) (es : List (Pair × ℕ)) → AreEntries es → AreEntries (take m es)
entries_front m es h = record {
  in_order = set_left (points_listed (take m es)) (points_listed (drop m es)) (cut_points m es h);
  held = All-take (λ (e : Pair × ℕ). IsMultiplicity e.1) m es h.held;
}

-- the rest
pub entries_back : (m : ℕ) (es : List (Pair × ℕ)) → AreEntries es → AreEntries (drop m es)
entries_back m es h = record {
  in_order = set_right (points_listed (take m es)) (points_listed (drop m es)) (cut_points m es h);
  held = All-drop (λ (e : Pair × ℕ). IsMultiplicity e.1) m es h.held;
}

-- the nodes over both halves are in a row
pub row_over : (m : ℕ) (es : List (Pair × ℕ)) (l r : Node) → AreEntries es → IsOver (take m es) l
    → IsOver (drop m es) r → AreInRow l r
row_over m es l r h a b = record {
  left_built = a.built;
  right_built = b.built;
  in_order = rw (a.points, b.points) (cut_points m es h);
}

-- a node over few entries is not too high
pub low_over : (es : List (Pair × ℕ)) (n : Node) → IsOver es n → length es ≤ 1048576 → height_at n ≤ greatest_height
low_over es n h l = grind (arith, common_steps, at_most_28, tree_of, length-keys_of)

-- the node over all entries, of one over the first part and one over the rest
pub over_both : (m : ℕ) (es : List (Pair × ℕ)) (l r n : Node) → IsOver (take m es) l → IsOver (drop m es) r
    → IsWellBuilt n → points_below n ≡ points_below l ++ points_below r
    → ((q : Pair) → multiplicity_below n q ≡ multiplicity_below l q + multiplicity_below r q)
    → IsHalvings (length es) (height_at n) → IsOver es n
over_both m es l r n a b w e t h =
    subst (λ (z : List (Pair × ℕ)). IsOver z n) (take-append-drop m es) record {
      built = w;
      points = rw (points_of_both (take m es) (drop m es)) (rw (← a.points, ← b.points) e);
      multiplicities = λ q. t q ∙ (rw (a.multiplicities q, b.multiplicities q)
          (sym (sum_by-append (λ (e : Pair × ℕ). several e.1 e.0 q) (take m es) (drop m es))));
      height = subst (λ (z : List (Pair × ℕ)). IsHalvings (length z) (height_at n)) (sym (take-append-drop m es)) h;
    }

-- a root over entries is that of a set with a limit
pub limited_over : (es : List (Pair × ℕ)) (n : Node) (limit : ℕ) → IsOver es n → length es ≤ limit → 1 ≤ limit
    → limit ≤ POINT_LIMIT → IsLimited (Some n) (length es) limit
limited_over es n limit h r l g = record {
  built = h.built;
  counted = sym (ap (λ (z : List Pair). length z) h.points ∙ length-keys_of es);
  space = r;
  low = l;
  high = g;
}
