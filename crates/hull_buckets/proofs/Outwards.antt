-- What passes that leave points out do with each point, and the chain that they make.
use Rattle.std.proofs.Common.{◌≡◌, ℕ, ◌+◌, ◌-◌, ◌^◌, ◌<◌, ◌≤◌, ◌⊎◌, inl, inr, sym, ap, subst, arith, refl, pos, ◌≤ℤ◌}
use Rattle.std.proofs.Common.{List, [], ◌∷◌, ◌++◌, ◌∙◌, ◌%◌, get_or, length}
use Rattle.std.proofs.lemmas.Int.{ints}
use Rattle.std.proofs.lemmas.Nat.{pow_pos}
use Rattle.std.proofs.lemmas.List.Elements.{All-contains, Contains-append_left, Contains-append_right}
use Rattle.std.specs.List.{Contains}
use Rattle.lattice.specs.Covers.{IsPointSet}
use Rattle.lattice.specs.Orientations.{orient_on}
use Rattle.lattice.specs.Plane.{Pair, IsBefore}
use Rattle.lattice.specs.declared.side.Side.{Side}
use Rattle.hull_geometry.specs.Monotone.{IsChainOf, IsConvex, IsInner, IsInwards, IsPassed}
use Rattle.hull_geometry.specs.Positions.{point_at}
use Rattle.hull_geometry.proofs.CandidateListChains.{between_inner}
use Rattle.hull_geometry.proofs.Mended.{chain_of}
use Rattle.hull_geometry.proofs.Orientations.{orient_on_swap}
use Rattle.hull_geometry.proofs.Passes.{inner_left, inner_right, member_inner, passed_itself, passed_through}
use Rattle.hull_geometry.proofs.PointLists.{append_none, append_twice}
use Rattle.hull_buckets.specs.Buckets.{AreEnds, IsAmid, IsMaskOf}
use Rattle.hull_buckets.specs.Masks.{at_places, AreApart, IsGap}
use Rattle.hull_buckets.specs.Outwards.{IsFront, IsPassedOutwards, IsPushedOutwards}
use Rattle.hull_buckets.proofs.Ends.{last_at}
use Rattle.hull_buckets.proofs.Joined.{all_between, first_or_later, gap_apart}
use Rattle.hull_buckets.proofs.Places.{at_among, first_at, none_at, read_at, set_at}
use Rattle.hull_buckets.proofs.Steps.{IsStep, first_left}
use Rattle.hull_buckets.proofs.Words.{power_le, top_before}

-- ---- the loop

-- what is known in a pass: the points that were taken so far, and each other point is left or was left out
pub record IsUnderWay (side : Side) (S : List Pair) (chain rest : ℕ) (a b : Pair) (kept left : ℕ) : Type 0 where
  pub taken : List Pair
  pub passed : IsPassed side (at_places chain S ++ taken) (at_places kept S)
  pub others : (t : Pair) → Contains (at_places rest S) t
      → Contains taken t ⊎ (Contains (at_places left S) t ⊎ (orient_on side a t b ≤ℤ pos 0))

-- at first none was taken
pub under_way : (side : Side) (S : List Pair) (chain rest : ℕ) (a b : Pair) → IsPointSet S
    → IsConvex side (at_places chain S)
    → IsUnderWay side S chain rest a b chain rest
under_way side S chain rest a b s h = record {
  taken = [];
  passed = subst (λ (z : List Pair). IsPassed side z (at_places chain S)) (append_none (at_places chain S))
      (passed_itself side (at_places chain S) record { ordered = set_at chain S s; convex = h });
  others = λ t m. inr (inl m);
}

-- one step takes a point or leaves it out
pub one_more : (side : Side) (S : List Pair) (chain rest : ℕ) (a b : Pair) (kept left place next bit : ℕ)
    → IsStep S kept left place
    → bit ≡ 2 ^ place → IsUnderWay side S chain rest a b kept left → IsPushedOutwards side S kept place a b next
    → IsUnderWay side S chain rest a b next (left - bit)
one_more side S chain rest a b kept left place next bit s e u h =
    subst (λ (z : ℕ). IsUnderWay side S chain rest a b next (left - z)) (sym e) (go h)
  where
    p : Pair
    p = point_at S place

    first_or : (t : Pair) → Contains (at_places left S) t → (t ≡ p) ⊎ Contains (at_places (left - 2 ^ place) S) t
    first_or t m = first_or_later p (at_places (left - 2 ^ place) S) t
        (subst (λ (z : List Pair). Contains z t) (first_left s) m)

    go : IsPushedOutwards side S kept place a b next → IsUnderWay side S chain rest a b next (left - 2 ^ place)
    go (inl k) = record {
      taken = u.taken ++ p ∷ [];
      passed = subst (λ (z : List Pair). IsPassed side z (at_places next S)) (append_twice (at_places chain S) u.taken
          (p ∷ []))
          (passed_through side (at_places chain S ++ u.taken) (at_places kept S) (p ∷ []) (at_places next S) u.passed
          k);
      others = λ t m. elim (u.others t m) [
        | inl i ↦ inl (Contains-append_left u.taken (p ∷ []) t i)
        | inr (inl i) ↦ elim (first_or t i) [
          | inl q ↦ inl (Contains-append_right u.taken (p ∷ []) t (0, omega arith, sym q))
          | inr n ↦ inr (inl n)
        ]
        | inr (inr o) ↦ inr (inr o)
      ];
    }
    go (inr k) = record {
      taken = u.taken;
      passed = subst (λ (z : ℕ). IsPassed side (at_places chain S ++ u.taken) (at_places z S)) (sym k.0) u.passed;
      others = λ t m. elim (u.others t m) [
        | inl i ↦ inl i
        | inr (inl i) ↦ elim (first_or t i) [
          | inl q ↦ inr (inr (subst (λ (z : Pair). orient_on side a z b ≤ℤ pos 0) (sym q) k.1))
          | inr n ↦ inr (inl n)
        ]
        | inr (inr o) ↦ inr (inr o)
      ];
    }

-- a chain to which a point was appended or not bends on
pub still_convex : (side : Side) (S : List Pair) (kept place : ℕ) (a b : Pair) (next : ℕ)
    → IsConvex side (at_places kept S)
    → IsPushedOutwards side S kept place a b next → IsConvex side (at_places next S)
still_convex side S kept place a b next h (inl k) = k.strict.convex
still_convex side S kept place a b next h (inr k) = subst (λ (z : ℕ). IsConvex side (at_places z S)) (sym k.0) h

-- if none is left the pass is done
pub done : (side : Side) (S : List Pair) (chain rest : ℕ) (a b : Pair) (kept left : ℕ) → left ≡ 0
    → IsUnderWay side S chain rest a b kept left → IsPassedOutwards side S chain rest a b kept
done side S chain rest a b kept left e u = record {
  taken = u.taken;
  passed = u.passed;
  others = λ t m. elim (u.others t m) [
    | inl i ↦ inl i
    | inr (inl i) ↦
        let n = subst (λ (z : List Pair). Contains z t) (none_at S)
        (subst (λ (k : ℕ). Contains (at_places k S) t) e i) in
        absurd (omega (arith, n.1))
    | inr (inr o) ↦ inr o
  ];
}

-- ---- the chain

-- a point that is not outwards of the segment between two others on either side of it is inwards of it
pub inwards_by : (side : Side) (a b t : Pair) → IsBefore a t → IsBefore t b → orient_on side a t b ≤ℤ pos 0
    → IsInwards side a b t
inwards_by side a b t f g h = let e = orient_on_swap side a t b in (f, g, omega (arith, ints))

-- indices between two bounds have both
pub gap_within : (low high count mask : ℕ) (g : IsGap low high count mask) → (mask < 2 ^ g.end) × (mask < 2 ^ count)
gap_within low high count mask g =
    let a = pow_pos g.start in
    let b = power_le g.start g.end g.order in
    let p = power_le g.end count g.within in
    (omega (arith, g.is, a, b), omega (arith, g.is, a, b, p))

-- and are after all of the lower one
pub gap_after : (low high count mask : ℕ) → IsGap low high count mask → AreApart low mask
gap_after low high count mask g =
    (g.start, g.low_before, ap (λ (n : ℕ). n % 2 ^ g.start) g.is ∙ gap_apart g.start g.end g.order)

-- the last vertex before the points between, by its index
pub last_of_low : (S : List Pair) (low h : ℕ) (p : Pair) → low < 2 ^ length S → 2 ^ h ≤ low → low < 2 ^ (h + 1)
    → p ≡ get_or S h p → Contains (at_places low S) p
last_of_low S low h p within there above e =
    let l = top_before low h (length S) there within in
    subst (λ (z : List Pair). Contains z p)
    (ap (λ (z : Pair). at_places (low - 2 ^ h) S ++ z ∷ []) (read_at S h p l e) ∙ sym (last_at S low h there above l))
    (Contains-append_right (at_places (low - 2 ^ h) S) (p ∷ []) p (0, omega arith, refl))

-- and the first one after them
pub first_of_high : (S : List Pair) (high l : ℕ) (p : Pair) → high < 2 ^ length S → 2 ^ l ≤ high
    → high % 2 ^ (l + 1) ≡ 2 ^ l
    → p ≡ get_or S l p → Contains (at_places high S) p
first_of_high S high l p within least there e =
    let k = top_before high l (length S) least within in
    subst (λ (z : List Pair). Contains z p)
    (ap (λ (z : Pair). z ∷ at_places (high - 2 ^ l) S) (read_at S l p k e) ∙ sym (first_at S high l there k))
    (0, omega arith, refl)

-- a pass over the vertices before a gap and the points in it that were taken is a front, if the others are inwards of a
-- segment
module _ (side : Side) (T : List Pair) (low high middle front : ℕ) (s : IsPointSet T) (e : AreEnds side T low high)
    (g : IsGap low high (length T) middle)
    (within : (k : ℕ) → low < 2 ^ k → middle < 2 ^ k → front < 2 ^ k) where
  front_by : (taken : List Pair) → IsPassed side (at_places low T ++ taken) (at_places front T)
      → ((t : Pair) → Contains (at_places middle T) t → IsAmid (at_places low T) (at_places high T) t
      → Contains taken t ⊎ ((a b : Pair) × Contains (at_places low T) a × Contains (at_places high T) b
      × IsInwards side a b t))
      → IsFront side T low high front
  front_by taken passed others =
      let w = gap_within low high (length T) middle g in
      let low_end = power_le g.start g.end g.order in
      record {
        within = within (length T) e.low_within w.1;
        apart = (g.end, within g.end (let b = g.low_before in omega (arith, b, low_end)) w.0, g.high_after);
        taken = taken;
        passed = passed;
        others = λ t m a. others t (all_between T low high middle t s g e.high_within m a.0 a.1) a;
      }

  -- all of them were taken
  pub front_all : IsPassed side (at_places low T ++ at_places middle T) (at_places front T)
      → IsFront side T low high front
  front_all passed = front_by (at_places middle T) passed (λ t m a. inl m)

  -- those outwards of a segment between two vertices were taken
  pub front_outwards : (a b : Pair) → Contains (at_places low T) a → Contains (at_places high T) b
      → IsPassedOutwards side T low middle a b front → IsFront side T low high front
  front_outwards a b i j p = front_by p.taken p.passed (λ t m k. elim (p.others t m) [
    | inl n ↦ inl n
    | inr o ↦ inr (
      a,
      b,
      i,
      j,
      inwards_by side a b t (All-contains (λ u. IsBefore u t) (at_places low T) a k.0 i)
          (All-contains (IsBefore t) (at_places high T) b k.1 j) o,
    )
  ])

-- the pass over the front, and on over the vertices after it, leaves the chain of all
pub joined_is : (side : Side) (T : List Pair) (low high front new : ℕ) → IsPointSet T → AreEnds side T low high
    → IsFront side T low high front → IsPassed side (at_places front T ++ at_places high T) (at_places new T)
    → new < 2 ^ length T → IsMaskOf side T new
joined_is side T low high front new s e f q within = record {
  within = within;
  chain = chain_of side T (at_places new T)
      record {
        ordered = passed.strict.ordered;
        among = λ t m. at_among new T t m;
        inner = inner;
      }
      passed.strict.convex;
}
  where
    C : List Pair
    C = (at_places low T ++ f.taken) ++ at_places high T

    passed : IsPassed side C (at_places new T)
    passed = passed_through side (at_places low T ++ f.taken) (at_places front T) (at_places high T) (at_places new T)
        f.passed q

    chain : IsChainOf side C (at_places new T)
    chain = chain_of side C (at_places new T)
        record {
          ordered = passed.strict.ordered;
          among = passed.among;
          inner = λ u m. passed.inner u (member_inner side C u m);
        }
        passed.strict.convex

    in_front : (u : Pair) → Contains (at_places low T ++ f.taken) u → Contains C u
    in_front u m = Contains-append_left (at_places low T ++ f.taken) (at_places high T) u m

    inner : (u : Pair) → Contains T u → IsInner side (at_places new T) u
    inner u m = elim (e.others u m) [
      | inl i ↦ passed.inner u (inner_left side (at_places low T ++ f.taken) (at_places high T) u
          (inner_left side (at_places low T) f.taken u i))
      | inr (inl i) ↦ passed.inner u (inner_right side (at_places low T ++ f.taken) (at_places high T) u i)
      | inr (inr a) ↦ elim (f.others u m a) [
        | inl i ↦ chain.inner u (in_front u (Contains-append_right (at_places low T) f.taken u i))
        | inr k ↦ between_inner side C (at_places new T) u k.0 k.1 chain
            (in_front k.0 (Contains-append_left (at_places low T) f.taken k.0 k.2))
            (Contains-append_right (at_places low T ++ f.taken) (at_places high T) k.1 k.3) k.4
      ]
    ]
