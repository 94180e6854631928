-- the last two vertices are at the two highest indices
use Rattle.std.proofs.Common.{◌≡◌, ◌<◌, ◌≤◌, ◌+◌, ◌-◌, ◌^◌, ◌++◌, ◌∷◌, [], ℕ, pos, List, length, take}
use Rattle.std.proofs.Common.{arith, sym, ap, subst, ◌∙◌, inl, inr, get_or}
use Rattle.std.proofs.lemmas.Nat.{pow_pos}
use Rattle.std.proofs.lemmas.Bool.{false≢true}
use Rattle.lattice.specs.Plane.{Pair}
use Rattle.lattice.specs.Signs.{le_or_lt}
use Rattle.lattice.specs.Orientations.{orient_on}
use Rattle.lattice.specs.declared.side.Side.{Side}
use Rattle.hull_geometry.specs.Monotone.{IsConvex, EndsInwards}
use Rattle.hull_geometry.specs.Positions.{point_at}
use Rattle.hull_buckets.specs.Masks.{at_places}
use Rattle.hull_buckets.proofs.Ends.{last_at, last_two_at, front_of, ends_inwards, convex_on}
use Rattle.hull_buckets.proofs.Places.{none_at, read_at}
use Rattle.hull_buckets.proofs.Words.{top_before, below_top}
use Rattle.hull_buckets.proofs.chain.without_last.Goals as goal

pub returns-then-chain-eq0-clause-convex : goal.returns-then-chain-eq0-clause-convex
returns-then-chain-eq0-clause-convex c = λ e t.
    subst (λ (m : ℕ). IsConvex c.args.side (at_places m c.args.points.now ++ point_at c.args.points.now c.args.place ∷
    []))
    (sym c.if-chain-eq0.true)
    (subst (λ (z : List Pair). IsConvex c.args.side (z ++ point_at c.args.points.now c.args.place ∷ []))
    (sym (none_at c.args.points.now)) tt)

pub returns-then-front-eq0-clause-convex : goal.returns-then-front-eq0-clause-convex
returns-then-front-eq0-clause-convex c = λ e t.
    let l = top_before c.args.chain c.highest-last.result c.args.place c.highest-last.ensures.there c.requires.before in
    let none : c.args.chain - 2 ^ c.highest-last.result ≡ 0 = omega (arith, c.if-front-eq0.true, c.bit.ensures) in
    let one : at_places c.args.chain c.args.points.now ≡ point_at c.args.points.now c.highest-last.result ∷ [] =
    last_at c.args.points.now c.args.chain c.highest-last.result c.highest-last.ensures.there
    c.highest-last.ensures.none_above (omega (arith, l, c.requires.within))
    ∙ ap (λ (m : ℕ). at_places m c.args.points.now ++ point_at c.args.points.now c.highest-last.result ∷ []) none
    ∙ ap (λ (z : List Pair). z ++ point_at c.args.points.now c.highest-last.result ∷ []) (none_at c.args.points.now) in
    subst (λ (z : List Pair). IsConvex c.args.side (z ++ point_at c.args.points.now c.args.place ∷ [])) (sym one) (
      tt,
      tt,
    )

pub bounds-points-ahead : goal.bounds-points-ahead
bounds-points-ahead c =
    let l = top_before c.args.chain c.highest-last.result c.args.place c.highest-last.ensures.there c.requires.before in
    let b = below_top c.args.chain c.highest-last.result c.highest-last.ensures.none_above in
    let m = top_before (c.args.chain - c.bit.result) c.highest-ahead.result c.highest-last.result
    c.highest-ahead.ensures.there (omega (arith, b, c.bit.ensures)) in
    omega (arith, l, m, c.requires.within)

pub bounds-points-last : goal.bounds-points-last
bounds-points-last c =
    let l = top_before c.args.chain c.highest-last.result c.args.place c.highest-last.ensures.there c.requires.before in
    omega (arith, l, c.requires.within)

-- the indices of the last two vertices are within the list, and these are the last two
record Read (side : Side) (S : List Pair) (chain front ahead last place : ℕ) (a b p : Pair) : Type 0 where
  whole : at_places chain S ≡ at_places (front - 2 ^ ahead) S ++ a ∷ b ∷ []
  less : front < chain
  kept : at_places front S ≡ take (length (at_places chain S) - 1) (at_places chain S)
  next : p ≡ point_at S place

read : (side : Side) (S : List Pair) (chain bit last ahead place : ℕ) (a b p : Pair) → 2 ^ last ≤ chain
    → chain < 2 ^ (last + 1) → chain < 2 ^ place → place < length S → bit ≡ 2 ^ last → 2 ^ ahead ≤ chain - bit
    → chain - bit < 2 ^ (ahead + 1) → a ≡ get_or S ahead a → b ≡ get_or S last b → p ≡ get_or S place p
    → Read side S chain (chain - bit) ahead last place a b p
read side S chain bit last ahead place a b p there above before within e fthere fabove ea eb ep = record {
  whole = last_two_at S chain (chain - bit) last ahead there above ll (ap (λ (z : ℕ). chain - z) e) fthere fabove lm
      ∙ ap (λ (z : Pair). at_places (chain - bit - 2 ^ ahead) S ++ z ∷ point_at S last ∷ []) (sym (read_at S ahead a lm
      ea))
      ∙ ap (λ (z : Pair). at_places (chain - bit - 2 ^ ahead) S ++ a ∷ z ∷ []) (sym (read_at S last b ll eb));
  less = let some = pow_pos last in omega (arith, e, there, some);
  kept = sym (ap (λ (z : List Pair). take (length z - 1) z) (last_at S chain last there above ll)
      ∙ front_of (at_places (chain - 2 ^ last) S) (point_at S last)
      ∙ ap (λ (z : ℕ). at_places (chain - z) S) (sym e));
  next = read_at S place p within ep;
}
  where
    l : last < place
    l = top_before chain last place there before

    ll : last < length S
    ll = omega (arith, l, within)

    lm : ahead < length S
    lm = let b = below_top chain last above in
        let m = top_before (chain - bit) ahead last fthere (omega (arith, b, e)) in omega (arith, ll, m)

pub returns-then-is_convex_at-clause-convex : goal.returns-then-is_convex_at-clause-convex
returns-then-is_convex_at-clause-convex c = λ e t.
    let r = read c.args.side c.args.points.now c.args.chain c.bit.result c.highest-last.result c.highest-ahead.result
    c.args.place c.index-points-ahead.result c.index-points-last.result c.index-points-place.result
    c.highest-last.ensures.there c.highest-last.ensures.none_above c.requires.before c.requires.within c.bit.ensures
    c.highest-ahead.ensures.there c.highest-ahead.ensures.none_above c.index-points-ahead.is c.index-points-last.is
    c.index-points-place.is in
    subst (λ (z : Pair). IsConvex c.args.side (at_places c.args.chain c.args.points.now ++ z ∷ [])) r.next
    (convex_on c.args.side (at_places c.args.chain c.args.points.now) _ c.index-points-ahead.result
    c.index-points-last.result c.index-points-place.result r.whole (c.is_convex_at.ensures.0 c.if-is_convex_at.true) t)

pub returns-clause-inwards : goal.returns-clause-inwards
returns-clause-inwards c =
    let r = read c.args.side c.args.points.now c.args.chain c.bit.result c.highest-last.result c.highest-ahead.result
    c.args.place c.index-points-ahead.result c.index-points-last.result c.index-points-place.result
    c.highest-last.ensures.there c.highest-last.ensures.none_above c.requires.before c.requires.within c.bit.ensures
    c.highest-ahead.ensures.there c.highest-ahead.ensures.none_above c.index-points-ahead.is c.index-points-last.is
    c.index-points-place.is in
    subst (EndsInwards c.args.side (at_places c.args.chain c.args.points.now)) r.next
    (ends_inwards c.args.side (at_places c.args.chain c.args.points.now) _ c.index-points-ahead.result
    c.index-points-last.result c.index-points-place.result r.whole
    (elim (le_or_lt (orient_on c.args.side c.index-points-ahead.result c.index-points-last.result
    c.index-points-place.result)
    (pos 0)) [
      | inl h ↦ h
      | inr h ↦ absurd (false≢true (sym c.if-is_convex_at.false ∙ c.is_convex_at.ensures.1 h))
    ]))

pub returns-clause-front : goal.returns-clause-front
returns-clause-front c =
    (read c.args.side c.args.points.now c.args.chain c.bit.result c.highest-last.result c.highest-ahead.result
    c.args.place c.index-points-ahead.result c.index-points-last.result c.index-points-place.result
    c.highest-last.ensures.there c.highest-last.ensures.none_above c.requires.before c.requires.within c.bit.ensures
    c.highest-ahead.ensures.there c.highest-ahead.ensures.none_above c.index-points-ahead.is c.index-points-last.is
    c.index-points-place.is).kept
