-- The first and the last point are vertices of each chain.
use Rattle.std.proofs.Common.{◌≡◌, ◌∙◌, sym, ap, subst, arith, inl, inr, ℕ, ◌+◌, ◌-◌, ◌*◌, ◌^◌, ◌%◌, ◌<◌, ◌⊎◌, List, [], ◌∷◌, length}
use Rattle.std.specs.List.{All, Contains}
use Rattle.std.proofs.lemmas.Bool.{cases_lt}
use Rattle.std.proofs.lemmas.List.Elements.{All-contains}
use Rattle.std.proofs.lemmas.Nat.{pow_pos, pow_below, mod_low}
use Rattle.lattice.specs.Covers.{IsPointSet}
use Rattle.lattice.specs.Plane.{Pair, IsBefore}
use Rattle.lattice.specs.declared.side.Side.{Side}
use Rattle.hull_geometry.specs.Monotone.{IsConvex, IsInner}
use Rattle.hull_geometry.specs.Positions.{point_at, origin}
use Rattle.hull_geometry.proofs.PointLists.{AllPairs-head, all_of, get_or_free, only_member}
use Rattle.hull_buckets.specs.Buckets.{AreEnds}
use Rattle.hull_buckets.specs.Masks.{at_places}
use Rattle.hull_buckets.proofs.Joined.{first_or_later}
use Rattle.hull_buckets.proofs.Places.{none_at, one_at}

-- one point is inner to the list of it
inner_alone : (side : Side) (S : List Pair) (mask k : ℕ) (t : Pair) → at_places mask S ≡ point_at S k ∷ [] → t ≡ point_at S k
    → IsInner side (at_places mask S) t
inner_alone side S mask k t e f = subst (λ (z : List Pair). IsInner side z t) (sym e) (inl f)

-- one point bends nowhere
convex_alone : (side : Side) (S : List Pair) (mask k : ℕ) → at_places mask S ≡ point_at S k ∷ []
    → IsConvex side (at_places mask S)
convex_alone side S mask k e = subst (λ (z : List Pair). IsConvex side z) (sym e) tt

-- a property of one point is one of all points of the list of it
all_alone : (P : Pair → Type 0) (S : List Pair) (mask k : ℕ) → at_places mask S ≡ point_at S k ∷ [] → P (point_at S k)
    → All P (at_places mask S)
all_alone P S mask k e p = subst (All P) (sym e)
    (all_of P (point_at S k ∷ []) (λ u m. subst P (sym (only_member (point_at S k) u m)) p))

-- a point of a list in order is the first or after it
first_or_after : (S : List Pair) (t : Pair) → IsPointSet S → Contains S t → (t ≡ point_at S 0) ⊎ IsBefore (point_at S 0) t
first_or_after [] t s m = absurd (omega (arith, m.1))
first_or_after (x ∷ rest) t s m = elim (first_or_later x rest t m) [
  | inl e ↦ inl e
  | inr n ↦ inr (All-contains (IsBefore x) rest t (AllPairs-head x rest s) n)
]

-- and the last or before it
last_or_before : (S : List Pair) (t : Pair) → IsPointSet S → Contains S t
    → (t ≡ point_at S (length S - 1)) ⊎ IsBefore t (point_at S (length S - 1))
last_or_before S t s (i, l, e) =
    let there : point_at S i ≡ t = get_or_free S i origin t l ∙ e in
    elim (cases_lt i (length S - 1)) [
      | inl less ↦ inr (subst (λ (z : Pair). IsBefore z (point_at S (length S - 1))) there
          (s i (length S - 1) origin less (omega (arith, l))))
      | inr last ↦ inl (sym there ∙ ap (point_at S) (omega (arith, l, last)))
    ]

-- without vertices at the front, the first point may stand there
pub first_end : (side : Side) (S : List Pair) (high : ℕ) → IsPointSet S → 0 < length S → high % 2 ≡ 0 → AreEnds side S 0 high
    → AreEnds side S 1 high
first_end side S high s some even k =
    let e : at_places 1 S ≡ point_at S 0 ∷ [] = one_at S 0 some in record {
      apart = (1, omega arith, even);
      low_within = pow_below 0 (length S) some;
      high_within = k.high_within;
      low_convex = convex_alone side S 1 0 e;
      high_convex = k.high_convex;
      others = λ t m. elim (k.others t m) [
        | inl i ↦ absurd (subst (λ (z : List Pair). IsInner side z t) (none_at S) i)
        | inr (inl i) ↦ inr (inl i)
        | inr (inr a) ↦ elim (first_or_after S t s m) [
          | inl f ↦ inl (inner_alone side S 1 0 t e f)
          | inr b ↦ inr (inr (all_alone (λ u. IsBefore u t) S 1 0 e b, a.1))
        ]
      ];
    }

-- without vertices at the back, the last point may stand there
pub last_end : (side : Side) (S : List Pair) (low : ℕ) → IsPointSet S → 0 < length S → low < 2 ^ (length S - 1)
    → AreEnds side S low 0 → AreEnds side S low (2 ^ (length S - 1))
last_end side S low s some less k =
    let n : ℕ = length S - 1 in
    let one : 2 ^ n ≡ 1 * 2 ^ n + 0 = omega arith in
    let e : at_places (2 ^ n) S ≡ point_at S n ∷ [] = one_at S n (omega (arith, some)) in record {
      apart = (n, less, ap (λ (z : ℕ). z % 2 ^ n) one ∙ mod_low 1 n 0 (pow_pos n));
      low_within = k.low_within;
      high_within = pow_below n (length S) (omega (arith, some));
      low_convex = k.low_convex;
      high_convex = convex_alone side S (2 ^ n) n e;
      others = λ t m. elim (k.others t m) [
        | inl i ↦ inl i
        | inr (inl i) ↦ absurd (subst (λ (z : List Pair). IsInner side z t) (none_at S) i)
        | inr (inr a) ↦ elim (last_or_before S t s m) [
          | inl f ↦ inr (inl (inner_alone side S (2 ^ n) n t e f))
          | inr b ↦ inr (inr (a.0, all_alone (IsBefore t) S (2 ^ n) n e b))
        ]
      ];
    }
