-- the vertices next to the point are at the highest index before it and at the lowest after it
use Rattle.std.proofs.Common.{◌≡◌, ◌<◌, ◌≤◌, ◌+◌, ◌-◌, ◌%◌, ◌^◌, ◌++◌, ◌∷◌, [], ℕ, ℤ, pos, ◌≤ℤ◌, ◌<ℤ◌, List, length}
use Rattle.std.proofs.Common.{arith, sym, ap, subst, ◌∙◌}
use Rattle.std.proofs.Common.{Bool, true, false, not, inl, inr, get_or, refl}
use Rattle.std.specs.Prelude.{◌↔◌, IsTrue}
use Rattle.std.proofs.lemmas.Bool.{false≢true}
use Rattle.lattice.specs.Plane.{Pair}
use Rattle.lattice.specs.Signs.{le_or_lt}
use Rattle.lattice.specs.Orientations.{orient_on}
use Rattle.lattice.proofs.Numbers.{less_not_le}
use Rattle.lattice.specs.declared.side.Side.{Side}
use Rattle.hull_geometry.specs.Mending.{IsOverEdge}
use Rattle.hull_geometry.specs.Positions.{point_at}
use Rattle.hull_buckets.specs.Masks.{at_places}
use Rattle.hull_buckets.proofs.Around.{over_returned, none_before, none_after}
use Rattle.hull_buckets.proofs.Ends.{last_at}
use Rattle.hull_buckets.proofs.Places.{none_at, first_at, read_at}
use Rattle.hull_buckets.proofs.Words.{top_before}
use Rattle.hull_buckets.proofs.repairing.is_covered.Goals as goal
use Rattle.hull_buckets.proofs.repairing.is_covered.Goals.{then-low-eq0-via-then-low-eq0}
use Rattle.hull_buckets.proofs.repairing.is_covered.Goals.{then-low-eq0-via-else-low-eq0+then-high-eq0}

-- nothing at no index
none_there : (S : List Pair) (mask : ℕ) → mask ≡ 0 → at_places mask S ≡ []
none_there S mask e = ap (λ (m : ℕ). at_places m S) e ∙ none_at S

-- a test that fails of what is not so
not_so : (P : Type 0) → ¬ P → IsTrue false ↔ P
not_so P n = (λ t. absurd (false≢true t), λ p. absurd (n p))

-- a test and its negation
returned : (P : Type 0) (z : ℤ) (b : Bool) → (IsTrue b ↔ (pos 0 <ℤ z)) → ((z ≤ℤ pos 0) ↔ P) → IsTrue (not b) ↔ P
returned P z true k h = (λ t. absurd (false≢true t), λ p. absurd (less_not_le (pos 0) z (k.0 refl) (h.1 p)))
returned P z false k h = (
  λ t. h.0 (elim (le_or_lt z (pos 0)) [ inl l ↦ l | inr l ↦ absurd (false≢true (k.1 l)) ]),
  λ p. refl,
)

pub returns-then-low-eq0 : goal.returns-then-low-eq0
returns-then-low-eq0 c = elim c.then-low-eq0.branch [
  | then-low-eq0-via-then-low-eq0 w ↦ not_so _ (none_before c.args.side (at_places c.args.low c.args.points.now)
      (at_places c.args.high c.args.points.now) (point_at c.args.points.now c.args.place)
      (none_there c.args.points.now c.args.low w.if-low-eq0.true))
  | then-low-eq0-via-else-low-eq0+then-high-eq0 w ↦ not_so _ (none_after c.args.side
      (at_places c.args.low c.args.points.now) (at_places c.args.high c.args.points.now)
      (point_at c.args.points.now c.args.place) (none_there c.args.points.now c.args.high w.if-high-eq0.true))
]

pub bounds-points-highest : goal.bounds-points-highest
bounds-points-highest c =
    let l = top_before c.args.low c.highest.result c.args.place c.highest.ensures.there c.requires.low_before in
    omega (arith, l, c.requires.within)

pub bounds-points-lowest : goal.bounds-points-lowest
bounds-points-lowest c =
    top_before c.args.high c.lowest.result (length c.args.points.now) c.lowest.ensures.least c.requires.high_within

-- the bend of the points that were read at three indices, and what it implies
reports : (side : Side) (S : List Pair) (low high place h l : ℕ) (a b p : Pair) → low < 2 ^ place → place < length S
    → high < 2 ^ length S → 2 ^ h ≤ low → low < 2 ^ (h + 1) → 2 ^ l ≤ high → high % 2 ^ (l + 1) ≡ 2 ^ l
    → a ≡ get_or S h a → b ≡ get_or S l b → p ≡ get_or S place p
    → (orient_on side a p b ≤ℤ pos 0)
    ↔ IsOverEdge side (at_places low S ++ at_places high S) (length (at_places low S)) (point_at S place)
reports side S low high place h l a b p before within high_within there above least first ea eb ep =
    subst (λ (z : Pair). (orient_on side a p b ≤ℤ pos 0)
    ↔ IsOverEdge side (at_places low S ++ at_places high S) (length (at_places low S)) z) (read_at S place p within ep)
    (over_returned side (at_places low S) (at_places high S) (at_places (low - 2 ^ h) S) (at_places (high - 2 ^ l) S) a b p
    (last_at S low h there above hl ∙ ap (λ (z : Pair). at_places (low - 2 ^ h) S ++ z ∷ []) (sym (read_at S h a hl
    ea)))
    (first_at S high l first ll ∙ ap (λ (z : Pair). z ∷ at_places (high - 2 ^ l) S) (sym (read_at S l b ll eb))))
  where
    hl : h < length S
    hl = let k = top_before low h place there before in omega (arith, k, within)

    ll : l < length S
    ll = top_before high l (length S) least high_within

pub returns : goal.returns
returns c = returned _ _ c.is_convex_at.result c.is_convex_at.ensures
    (reports c.args.side c.args.points.now c.args.low c.args.high c.args.place c.highest.result c.lowest.result
    c.index-points-highest.result c.index-points-lowest.result c.index-points-place.result c.requires.low_before
    c.requires.within c.requires.high_within c.highest.ensures.there c.highest.ensures.none_above
    c.lowest.ensures.least c.lowest.ensures.there c.index-points-highest.is c.index-points-lowest.is
    c.index-points-place.is)
