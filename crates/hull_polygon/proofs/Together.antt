-- Two sets, by the edges of the second: one of them intersects the first, or the two are disjoint.
use Rattle.std.proofs.Common.{◌≡◌, ℕ, ◌+◌, ◌≤◌, ◌<◌, ℤ, ◌<ℤ◌, neg_ℤ, inl, inr, subst, List, [], length, arith}
use Rattle.std.specs.List.{Contains}
use Rattle.std.proofs.lemmas.Bool.{cases_lt}
use Rattle.std.proofs.lemmas.Int.{ints}
use Rattle.std.proofs.lemmas.List.Elements.{All-contains}
use Rattle.lattice.specs.Covers.{Covers}
use Rattle.lattice.specs.Plane.{Pair, product}
use Rattle.lattice.proofs.Vectors.{opp}
use Rattle.hull_geometry.proofs.Decided.{covers_or_separated}
use Rattle.hull_geometry.specs.Positions.{origin}
use Rattle.hull_polygon.specs.Meetings.{AreDisjoint, segment}
use Rattle.hull_polygon.specs.Polygons.{IsPolygonOf}
use Rattle.hull_polygon.specs.Rounds.{vertex, IsSeparated}
use Rattle.hull_polygon.proofs.Differences.{separated_or_shared}
use Rattle.hull_polygon.proofs.Passing.{none_shared}
use Rattle.hull_polygon.proofs.Shields.{start_there, end_there}
use Rattle.hull_polygon.proofs.Switches.{all_nearer}
use Rattle.hull_geometry.proofs.Slopes.{product-opp}

-- any set is disjoint from the empty set
pub apart_from_none : (S T : List Pair) → T ≡ [] → AreDisjoint S T
apart_from_none S T e = (
  origin,
  λ s t ms mt. absurd (let m = subst (λ (z : List Pair). Contains z t) e mt in omega (arith, m.1)),
)

-- if the only one or two vertices lie farther than m, so does the set
pub few_beyond : (T W : List Pair) (last : ℕ) (d : Pair) (m : ℤ) → IsPolygonOf T W → IsSeparated W last → 0 < length W
    → length W ≤ 2 → m <ℤ product d (vertex W 0) → m <ℤ product d (vertex W 1) → (t : Pair) → Contains T t
    → m <ℤ product d t
few_beyond T W last d m o p n few first second t mt =
    over _ _ (product-opp d t) (all_nearer T W last (opp d) (neg_ℤ m) o p n
    (λ i l. under _ _ (product-opp d (vertex W i)) (end i l)) t mt)
  where
    over : (x y : ℤ) → x ≡ neg_ℤ y → x <ℤ neg_ℤ m → m <ℤ y
    over x y e h = omega (arith, ints)

    under : (x y : ℤ) → x ≡ neg_ℤ y → m <ℤ y → x <ℤ neg_ℤ m
    under x y e h = omega (arith, ints)

    end : (i : ℕ) → i < length W → m <ℤ product d (vertex W i)
    end i l = elim (cases_lt 0 i) [
      | inr k ↦ subst (λ (j : ℕ). m <ℤ product d (vertex W j)) (omega (arith, k)) first
      | inl k ↦ subst (λ (j : ℕ). m <ℤ product d (vertex W j)) (omega (arith, k, l, few)) second
    ]

-- a set that is disjoint from their segment is disjoint from the set
pub apart_few : (S T W : List Pair) (last : ℕ) → IsPolygonOf T W → IsSeparated W last → 0 < length W → length W ≤ 2
    → AreDisjoint S (segment (vertex W 0) (vertex W 1)) → AreDisjoint S T
apart_few S T W last o p n few (d, h) = (
  d,
  λ s t ms mt. few_beyond T W last d (product d s) o p n few
      (h s (vertex W 0) ms (start_there (vertex W 0) (vertex W 1)))
      (h s (vertex W 1) ms (end_there (vertex W 0) (vertex W 1))) t mt,
)

-- if a point of the second set is not covered, and the first is disjoint from each edge, the two are disjoint
pub apart_from_edges : (S T W : List Pair) (last : ℕ) (v : Pair) → IsPolygonOf T W → IsSeparated W last → 0 < length W
    → Contains S v → ¬ Covers T v
    → ((i : ℕ) → i < length W → AreDisjoint S (segment (vertex W i) (vertex W (i + 1)))) → AreDisjoint S T
apart_from_edges S T W last v o p n mv out edges = elim (cases_lt 2 (length W)) [
  | inr few ↦ apart_few S T W last o p n few (edges 0 n)
  | inl many ↦ elim (separated_or_shared S T) [
    | inl a ↦ a
    | inr h ↦ elim (covers_or_separated T v o.0) [
      | inl c ↦ absurd (out c)
      | inr g ↦ absurd (none_shared S T W last o p many h v g.0 mv
          (λ t mt. All-contains (λ z. product g.0 z <ℤ product g.0 v) T t g.1 mt) edges)
    ]
  ]
]
