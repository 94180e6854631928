-- One step of a pass over the indices of a mask: the lowest of them goes to the chain.
use Rattle.std.proofs.lemmas.Grind.{common_steps}
use Rattle.std.proofs.Common.{◌≡◌, ℕ, suc, refl, ◌+◌, ◌-◌, ◌*◌, ◌%◌, ◌^◌, ◌<◌, ◌≤◌, sym, ap, ◌∙◌, subst, arith, List}
use Rattle.std.proofs.Common.{[], ◌∷◌, ◌++◌, length}
use Rattle.std.proofs.lemmas.Nat.{mod_low, pow_pos}
use Rattle.lattice.specs.Plane.{Pair}
use Rattle.lattice.specs.declared.side.Side.{Side}
use Rattle.lattice.specs.Covers.{IsPointSet}
use Rattle.hull_geometry.specs.Monotone.{IsPassed, IsConvex}
use Rattle.hull_geometry.specs.Positions.{point_at}
use Rattle.hull_geometry.proofs.Passes.{passed_through, passed_itself, convex_join, ends_right, ends_cut}
use Rattle.hull_geometry.proofs.PointLists.{append_none, append_twice}
use Rattle.hull_buckets.specs.Masks.{at_places, AreApart}
use Rattle.hull_buckets.proofs.Places.{first_at, none_at, pushed, set_at, together}
use Rattle.hull_buckets.proofs.Words.{top_before, lowest_from, power_le, without_lowest, twice}

-- the chain so far, what is left, and the lowest index of that
pub record IsStep (S : List Pair) (kept left place : ℕ) : Type 0 where
  pub apart : AreApart kept left
  pub least : 2 ^ place ≤ left
  pub there : left % 2 ^ (place + 1) ≡ 2 ^ place
  pub within : left < 2 ^ length S

-- so a loop over them makes a step
pub step : (S : List Pair) (kept left place : ℕ) → AreApart kept left → 2 ^ place ≤ left
    → left % 2 ^ (place + 1) ≡ 2 ^ place → left < 2 ^ length S → IsStep S kept left place
step S kept left place apart least there within =
    record { apart = apart; least = least; there = there; within = within }

module _ {S : List Pair} {kept left place : ℕ} (now : IsStep S kept left place) where
  -- the lowest index is one of the list
  pub place_within : place < length S
  place_within = top_before left place (length S) now.least now.within

  -- all of the chain are before it
  pub kept_before : kept < 2 ^ place
  kept_before = let l = lowest_from left now.apart.0 place now.apart.2 now.there in
      let p = power_le now.apart.0 place l in
      let k = now.apart.1 in
      omega (arith, p, k)

  -- the points at the indices that were left
  pub first_left : at_places left S ≡ point_at S place ∷ at_places (left - 2 ^ place) S
  first_left = first_at S left place now.there place_within

  -- what is left is after the new chain
  pub still_apart : (next : ℕ) → next < 2 ^ (place + 1) → AreApart next (left - 2 ^ place)
  still_apart next l =
      let w = without_lowest left place now.there in
      let z : w.0 * 2 ^ (place + 1) ≡ w.0 * 2 ^ (place + 1) + 0 = omega arith in
      (place + 1, l, ap (λ (n : ℕ). n % 2 ^ (place + 1)) (w.1 ∙ z) ∙ mod_low w.0 (place + 1) 0 (pow_pos (place + 1)))

  pub rest_apart : (next bit : ℕ) → next < 2 ^ (place + 1) → bit ≡ 2 ^ place → AreApart next (left - bit)
  rest_apart next bit l e = subst (λ (b : ℕ). AreApart next (left - b)) (sym e) (still_apart next l)

  -- the indices stay within a bound
  pub next_within : (next k : ℕ) → next < 2 ^ (place + 1) → kept < 2 ^ k → left < 2 ^ k → next < 2 ^ k
  next_within next k l m n =
      let t = top_before left place k now.least n in
      let p = power_le (place + 1) k (omega (arith, t)) in
      omega (arith, l, p)

  -- what a pass leaves of the new chain and the rest, it leaves of the chain and what was left
  pub passed_on : (side : Side) (next bit : ℕ) (new : List Pair) → bit ≡ 2 ^ place
      → IsPassed side (at_places kept S ++ point_at S place ∷ []) (at_places next S)
      → IsPassed side (at_places next S ++ at_places (left - bit) S) new
      → IsPassed side (at_places kept S ++ at_places left S) new
  passed_on side next bit new e h q =
      subst (λ (z : List Pair). IsPassed side z new)
      (append_twice (at_places kept S) (point_at S place ∷ []) (at_places (left - 2 ^ place) S)
      ∙ ap (λ (z : List Pair). at_places kept S ++ z) (sym first_left))
      (passed_through side (at_places kept S ++ point_at S place ∷ []) (at_places next S)
      (at_places (left - 2 ^ place) S) new h
      (subst (λ (b : ℕ). IsPassed side (at_places next S ++ at_places (left - b) S) new) e q))

  -- the chain ends with the new point
  pub ends_there : (side : Side) (next : ℕ)
      → IsPassed side (at_places kept S ++ point_at S place ∷ []) (at_places next S)
      → (front : List Pair) × (at_places next S ≡ front ++ point_at S place ∷ [])
  ends_there side next h =
      ends_cut (point_at S place) (at_places next S)
      (h.ends (point_at S place) (ends_right (point_at S place) (at_places kept S) (point_at S place ∷ []) refl))

  -- if the new point stays after the last of the chain, at which those that are left bend on, all stay
  pub stopped : (side : Side) (next : ℕ) (front : List Pair) (q : Pair) → IsPointSet S → next < 2 ^ length S
      → next ≡ kept + 2 ^ place → at_places kept S ≡ front ++ q ∷ [] → IsConvex side (q ∷ at_places left S)
      → IsConvex side (at_places next S)
      → IsPassed side (at_places kept S ++ at_places left S) (at_places (next + (left - 2 ^ place)) S)
  stopped side next front q s l e f t h =
      subst (λ (z : List Pair). IsPassed side z (at_places (next + (left - 2 ^ place)) S)) (sym same)
      (passed_itself side (at_places (next + (left - 2 ^ place)) S) (record {
        ordered = set_at (next + (left - 2 ^ place)) S s;
        convex = subst (IsConvex side) (sym in_parts)
            (convex_join side front q (point_at S place) (at_places (left - 2 ^ place) S)
            (subst (IsConvex side) (stays ∙ ap (λ (z : List Pair). z ++ point_at S place ∷ []) f
            ∙ append_twice front (q ∷ []) (point_at S place ∷ [])) h)
            (subst (λ (z : List Pair). IsConvex side (q ∷ z)) first_left t));
      }))
    where
      low : next < 2 ^ (place + 1)
      low = let k = kept_before in let p = twice place in
          let a : 2 ^ (place + 1) ≡ 2 ^ suc place = ap (λ (n : ℕ). 2 ^ n) (omega arith) in
          omega (arith, e, k, p, a)

      stays : at_places next S ≡ at_places kept S ++ point_at S place ∷ []
      stays = ap (λ (m : ℕ). at_places m S) e ∙ pushed S kept place kept_before place_within

      whole : at_places (next + (left - 2 ^ place)) S ≡ at_places next S ++ at_places (left - 2 ^ place) S
      whole = together S next (left - 2 ^ place) (still_apart next low) (omega (arith, now.within)) l

      same : at_places kept S ++ at_places left S ≡ at_places (next + (left - 2 ^ place)) S
      same = ap (λ (z : List Pair). at_places kept S ++ z) first_left
          ∙ sym (append_twice (at_places kept S) (point_at S place ∷ []) (at_places (left - 2 ^ place) S))
          ∙ ap (λ (z : List Pair). z ++ at_places (left - 2 ^ place) S) (sym stays) ∙ sym whole

      in_parts : at_places (next + (left - 2 ^ place)) S
          ≡ front ++ q ∷ point_at S place ∷ at_places (left - 2 ^ place) S
      in_parts = sym same ∙ ap (λ (z : List Pair). z ++ at_places left S) f
          ∙ ap (λ (z : List Pair). (front ++ q ∷ []) ++ z) first_left
          ∙ append_twice front (q ∷ []) (point_at S place ∷ at_places (left - 2 ^ place) S)

-- if nothing is left the chain is what the pass leaves
pub none_left : (side : Side) (S : List Pair) (kept left : ℕ) → IsPointSet S → left ≡ 0
    → IsConvex side (at_places kept S) → IsPassed side (at_places kept S ++ at_places left S) (at_places kept S)
none_left side S kept left s e t = grind (arith, common_steps, at_places, append_none, none_at, passed_itself, set_at)
