-- An index of a range at which a test changes from true to false; and so, in each direction, a vertex that is farthest.
use Rattle.std.proofs.Common.{◌≡◌, ℕ, zero, suc, ◌+◌, ◌-◌, ◌≤◌, ◌<◌, ℤ, pos, ◌≤ℤ◌, ◌<ℤ◌, ◌⊎◌, inl, inr, List, length}
use Rattle.std.proofs.Common.{refl, sym, subst, arith}
use Rattle.std.specs.List.{Contains, All}
use Rattle.std.proofs.lemmas.Int.{ints}
use Rattle.std.proofs.lemmas.Bool.{cases_lt}
use Rattle.std.proofs.lemmas.List.Elements.{All-contains, All-weaker}
use Rattle.lattice.specs.Covers.{Covers, IsPointSet}
use Rattle.hull_geometry.proofs.Decided.{covers_or_separated}
use Rattle.hull_geometry.proofs.NotCovered.{Separated, not_covered}
use Rattle.hull_polygon.specs.Boxes.{Holds}
use Rattle.hull_polygon.proofs.Vertices.{vertex_back}
use Rattle.hull_geometry.proofs.PointLists.{all_of}
use Rattle.hull_polygon.proofs.Ends.{no_vertices}
use Rattle.lattice.specs.Plane.{Pair, product}
use Rattle.lattice.specs.Signs.{le_or_lt}
use Rattle.hull_geometry.specs.Tangents.{IsFirstFarthest}
use Rattle.hull_polygon.specs.Polygons.{IsPolygonOf}
use Rattle.hull_polygon.specs.Rounds.{vertex, IsSeparated}
use Rattle.hull_polygon.proofs.FarthestOf.{farthest_below, farthest_above}
use Rattle.lattice.proofs.Numbers.{le_less_trans, less_le_trans}

-- P is true before the index and false at it; at the ends the missing condition counts as met
pub record IsSwitch (P : ℕ → Type 0) (low high at : ℕ) : Type 0 where
  pub from : low ≤ at
  pub to : at ≤ high
  pub held : low < at → P (at - 1)
  pub fails : at < high → ¬ P at

-- there is such an index
pub switch_of : (P : ℕ → Type 0) → ((i : ℕ) → P i ⊎ ¬ P i) → (n low high : ℕ) → high ≡ low + n
    → (at : ℕ) × IsSwitch P low high at
switch_of P returned zero low high e = (
  low,
  record {
    from = omega arith;
    to = omega (arith, e);
    held = λ h. absurd (omega (arith, h));
    fails = λ h. absurd (omega (arith, h, e));
  },
)
switch_of P returned (suc n) low high e = elim (returned low) [
  | inr f ↦ (
    low,
    record
        { from = omega arith; to = omega (arith, e); held = λ h. absurd (omega (arith, h)); fails = λ h. f },
  )
  | inl p ↦ let r = switch_of P returned n (low + 1) high (omega (arith, e)) in (
    r.0,
    record {
      from = omega (arith, r.1.from);
      to = r.1.to;
      held = λ h. elim (cases_lt (low + 1) r.0) [
        | inl k ↦ r.1.held k
        | inr k ↦ subst P (omega (arith, k, r.1.from)) p
      ];
      fails = r.1.fails;
    },
  )
]

-- whether one number is less than another can be decided
pub less_returned : (a b : ℤ) → (a <ℤ b) ⊎ ¬ (a <ℤ b)
less_returned a b = elim (le_or_lt b a) [ inl h ↦ inr (λ k. omega (arith, ints)) | inr h ↦ inl h ]

-- whether one number is not less than another can be decided
not_less_returned : (a b : ℤ) → ¬ (a <ℤ b) ⊎ ¬ (¬ (a <ℤ b))
not_less_returned a b = elim (less_returned a b) [ inl h ↦ inr (λ n. n h) | inr h ↦ inl h ]

-- in each direction a vertex is the first of the farthest
pub farthest_vertex : (S V : List Pair) (last : ℕ) (d : Pair) → IsPolygonOf S V → IsSeparated V last → 0 < length V
    → (i : ℕ) × IsFirstFarthest S d (vertex V i)
farthest_vertex S V last d o p n = elim (le_or_lt d.y (pos 0)) [
  | inl down ↦ let r = switch_of (λ i. product d (vertex V i) <ℤ product d (vertex V (i + 1)))
      (λ i. less_returned (product d (vertex V i)) (product d (vertex V (i + 1)))) last 0 last (omega arith) in
      (r.0, farthest_below S V last r.0 d o p n down r.1.to r.1.held r.1.fails)
  | inr up ↦ let r = switch_of (λ i. ¬ (product d (vertex V (i + 1)) <ℤ product d (vertex V i)))
      (λ i. not_less_returned (product d (vertex V (i + 1))) (product d (vertex V i))) (length V - last) last (length V)
      (omega (arith, p.0 n)) in
      (r.0, farthest_above S V last r.0 d o p n up r.1.from r.1.to r.1.held (λ h. double _ _ (r.1.fails h)))
]
  where
    double : (a b : ℤ) → ¬ (¬ (a <ℤ b)) → a <ℤ b
    double a b h = elim (le_or_lt b a) [ inl k ↦ absurd (h (λ l. omega (arith, ints))) | inr k ↦ k ]

-- each vertex has an index in the list
pub placed : (V : List Pair) (i : ℕ) → 0 < length V → (j : ℕ) × (j < length V) × (vertex V i ≡ vertex V j)
placed V i n = elim (cases_lt i (length V)) [ inl h ↦ (i, h, refl) | inr h ↦ (0, n, vertex_back V i h n) ]

-- if all vertices lie less far than m in a direction, so do all points
pub all_nearer : (S V : List Pair) (last : ℕ) (d : Pair) (m : ℤ) → IsPolygonOf S V → IsSeparated V last → 0 < length V
    → ((i : ℕ) → i < length V → product d (vertex V i) <ℤ m) → (s : Pair) → Contains S s → product d s <ℤ m
all_nearer S V last d m o p n h s ms =
    let r = farthest_vertex S V last d o p n in
    let j = placed V r.0 n in
    le_less_trans _ _ _ (All-contains (λ t. product d t ≤ℤ product d (vertex V r.0)) S s r.1.1 ms)
    (subst (λ (z : Pair). product d z <ℤ m) (sym j.2) (h j.0 j.1))

-- if each vertex is covered, so is each point that the set covers
pub holds_by_vertices : (S T W : List Pair) (last : ℕ) → IsPointSet S → IsPolygonOf T W → IsSeparated W last
    → ((i : ℕ) → i < length W → Covers S (vertex W i)) → Holds S T
holds_by_vertices S T W last o t p h q c = elim (covers_or_separated S q o) [
  | inl k ↦ k
  | inr a ↦ absurd (not_covered T q (
    a.0,
    elim (cases_lt 0 (length W)) [
      | inl n ↦ all_of (λ s. product a.0 s <ℤ product a.0 q) T
          (all_nearer T W last a.0 (product a.0 q) t p n (λ i l. nearer a i l))
      | inr n ↦ subst (All (λ s. product a.0 s <ℤ product a.0 q)) (sym (no_vertices T W t (omega (arith, n))))
          (λ i d l. absurd (omega (arith, l)))
    ],
  ) c)
]
  where
    nearer : (a : Separated S q) (i : ℕ) → i < length W → product a.0 (vertex W i) <ℤ product a.0 q
    nearer a i l = elim (le_or_lt (product a.0 q) (product a.0 (vertex W i))) [
      | inr k ↦ k
      | inl k ↦ absurd (not_covered S (vertex W i) (
        a.0,
        All-weaker (λ s. product a.0 s <ℤ product a.0 q) (λ s. product a.0 s <ℤ product a.0 (vertex W i))
            (λ s b. less_le_trans _ _ _ b k) S a.1,
      ) (h i l))
    ]
