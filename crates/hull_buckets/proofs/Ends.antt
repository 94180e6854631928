-- The last vertices of a chain, by the highest indices of its mask.
use Rattle.std.proofs.lemmas.Grind.{common_steps}
use Rattle.std.proofs.Common.{◌≡◌, ℕ, pos, ◌≤ℤ◌, ◌<ℤ◌, ◌+◌, ◌-◌, ◌^◌, ◌<◌, ◌≤◌, sym, ap, ◌∙◌, subst, arith}
use Rattle.std.proofs.Common.{List, [], ◌∷◌, ◌++◌, length, take, length-append}
use Rattle.std.proofs.lemmas.List.{take-append-le}
use Rattle.lattice.specs.Plane.{Pair}
use Rattle.lattice.specs.Orientations.{orient_on}
use Rattle.lattice.specs.declared.side.Side.{Side}
use Rattle.lattice.specs.Covers.{IsPointSet}
use Rattle.hull_geometry.specs.Monotone.{EndsInwards, IsConvex, IsThinned}
use Rattle.hull_geometry.specs.Positions.{point_at}
use Rattle.hull_geometry.proofs.ChainPasses.{popped_set, popped_inner, popped_among, popped_short, with_end}
use Rattle.hull_geometry.proofs.Passes.{convex_join, pushed_ends}
use Rattle.hull_geometry.proofs.PointLists.{append_twice, all_taken}
use Rattle.hull_buckets.specs.Masks.{at_places}
use Rattle.hull_buckets.proofs.Places.{pushed}
use Rattle.hull_buckets.proofs.Words.{below_top}

-- ---- by indices

-- a chain without its last vertex, and that one
pub last_at : (S : List Pair) (mask h : ℕ) → 2 ^ h ≤ mask → mask < 2 ^ (h + 1) → h < length S
    → at_places mask S ≡ at_places (mask - 2 ^ h) S ++ point_at S h ∷ []
last_at S mask h there above l = grind (arith, common_steps, at_places, pushed, below_top)

-- a chain without its last two vertices, and these
pub last_two_at : (S : List Pair) (mask front h k : ℕ) → 2 ^ h ≤ mask → mask < 2 ^ (h + 1) → h < length S
    → front ≡ mask - 2 ^ h → 2 ^ k ≤ front → front < 2 ^ (k + 1) → k < length S
    → at_places mask S ≡ at_places (front - 2 ^ k) S ++ point_at S k ∷ point_at S h ∷ []
last_two_at S mask front h k there above l e fthere fabove m =
    last_at S mask h there above l
    ∙ ap (λ (z : ℕ). at_places z S ++ point_at S h ∷ []) (sym e)
    ∙ ap (λ (z : List Pair). z ++ point_at S h ∷ []) (last_at S front k fthere fabove m)
    ∙ append_twice (at_places (front - 2 ^ k) S) (point_at S k ∷ []) (point_at S h ∷ [])

-- ---- by lists

-- a list without its last point
pub front_of : (front : List Pair) (b : Pair) → take (length (front ++ b ∷ []) - 1) (front ++ b ∷ []) ≡ front
front_of front b = grind (arith, common_steps, length-append, take-append-le, all_taken)

-- a list that ends with a and b, of which b is not outwards of the segment from a to c
pub ends_inwards : (side : Side) (chain front : List Pair) (a b c : Pair) → chain ≡ front ++ a ∷ b ∷ []
    → orient_on side a b c ≤ℤ pos 0 → EndsInwards side chain c
ends_inwards side chain front a b c e h = record {
  front = front;
  a = a;
  b = b;
  whole = e;
  kept = ap (λ (z : List Pair). take (length z - 1) z) (e ∙ sym (append_twice front (a ∷ []) (b ∷ [])))
      ∙ front_of (front ++ a ∷ []) b;
  inwards = h;
}

-- if b is outwards of it, the chain bends on to c
pub convex_on : (side : Side) (chain front : List Pair) (a b c : Pair) → chain ≡ front ++ a ∷ b ∷ []
    → pos 0 <ℤ orient_on side a b c → IsConvex side chain → IsConvex side (chain ++ c ∷ [])
convex_on side chain front a b c e h t = grind (arith, common_steps, append_twice, convex_join)

-- ---- the vertices that are removed from the end

-- what is left of what is left of a list is left of it
pub thinned_twice : (side : Side) (xs ys zs : List Pair) → IsThinned side xs ys → IsThinned side ys zs
    → IsThinned side xs zs
thinned_twice side xs ys zs p q = record {
  ordered = q.ordered;
  among = λ t m. p.among t (q.among t m);
  inner = λ u k. q.inner u (p.inner u k);
  ends = λ c e. q.ends c (p.ends c e);
  short = omega (arith, p.short, q.short);
}

-- a chain without its last point, and the next one, are what is left of the chain and that one
pub thinned_by : (side : Side) (chain front : List Pair) (c : Pair) → EndsInwards side chain c
    → front ≡ take (length chain - 1) chain → IsPointSet (chain ++ c ∷ [])
    → IsThinned side (chain ++ c ∷ []) (front ++ c ∷ [])
thinned_by side chain front c e f s = subst (λ (z : List Pair). IsThinned side (chain ++ c ∷ []) (z ++ c ∷ [])) (sym f)
    (record {
      ordered = popped_set e s;
      among = with_end (take (length chain - 1) chain) chain c (popped_among e);
      inner = popped_inner e s;
      ends = pushed_ends chain (take (length chain - 1) chain) c;
      short = let a = length-append (take (length chain - 1) chain) (c ∷ []) in
          let b = length-append chain (c ∷ []) in let l = popped_short e in omega (arith, a, b, l);
    })
