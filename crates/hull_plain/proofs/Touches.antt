-- The points of a chain of a hull that tangents touch, by the edges at the point that a bisection found.
use Rattle.std.proofs.Common.{◌≡◌, ℕ, inl, inr, sym, subst, List, arith, ◌<◌, ◌-◌, ◌+◌, length}
use Rattle.std.proofs.lemmas.Bool.{cases_lt}
use Rattle.lattice.specs.Plane.{Pair, IsBefore}
use Rattle.lattice.specs.declared.side.Side.{Side}
use Rattle.hull_geometry.specs.Hands.{hand_behind, other_hand}
use Rattle.hull_geometry.specs.Positions.{point_at, first_of, last_of}
use Rattle.hull_geometry.specs.Locations.{IsClear}
use Rattle.hull_geometry.specs.Tangents.{IsTangent}
use Rattle.hull_geometry.proofs.Touching.{behind_touched, ahead_touched}
use Rattle.hull_geometry.specs.ChainEdges.{IsPassedBy, IsToCome}
use Rattle.hull_geometry.specs.Monotone.{IsChainOf}
use Rattle.hull_geometry.proofs.ChainEdges.{edge_support}
use Rattle.hull_geometry.proofs.ChainPlaces.{chain_in, edge_to, edge_from}

-- the tangent point before q is the point up to which the edges are passed
pub behind_found : (side : Side) (S chain : List Pair) (at : ℕ) (q p : Pair) → p ≡ point_at chain at
    → IsChainOf side S chain → IsClear side S q → at < length chain → IsBefore (first_of chain) q
    → (0 < at → IsPassedBy side q (point_at chain (at - 1)) (point_at chain (at - 1 + 1)))
    → (at + 1 < length chain → ¬ (IsPassedBy side q (point_at chain at) (point_at chain (at + 1))))
    → IsTangent (hand_behind side) S q p
behind_found side S chain at q p e c clear l from held fails = subst (IsTangent (hand_behind side) S q) (sym e)
    (behind_touched side S q (point_at chain at) clear (chain_in side S chain at c l) (elim (cases_lt 0 at) [
      | inl k ↦ (passed k).0
      | inr k ↦ subst (λ (i : ℕ). IsBefore (point_at chain i) q) (omega (arith, k)) from
    ])
    (elim (edge_to side S chain at c l)
    [ inl f ↦ inl f | inr k ↦ inr (point_at chain (at - 1), edge_support k.1, (passed k.0).1) ])
    (elim (edge_from side S chain at c l)
    [ inl f ↦ inl f | inr k ↦ inr (point_at chain (at + 1), edge_support k.1, fails k.0) ]))
  where
    passed : 0 < at → IsPassedBy side q (point_at chain (at - 1)) (point_at chain at)
    passed k = subst (λ (i : ℕ). IsPassedBy side q (point_at chain (at - 1)) (point_at chain i)) (omega (arith, k)) (held k)

-- the tangent point after q is the point from which the edges are to come
pub ahead_found : (side : Side) (S chain : List Pair) (at : ℕ) (q p : Pair) → p ≡ point_at chain at
    → IsChainOf side S chain → IsClear side S q → at < length chain → IsBefore q (last_of chain)
    → (0 < at → ¬ (IsToCome side q (point_at chain (at - 1)) (point_at chain (at - 1 + 1))))
    → (at + 1 < length chain → IsToCome side q (point_at chain at) (point_at chain (at + 1)))
    → IsTangent (other_hand (hand_behind side)) S q p
ahead_found side S chain at q p e c clear l to held fails = subst (IsTangent (other_hand (hand_behind side)) S q) (sym e)
    (ahead_touched side S q (point_at chain at) clear (chain_in side S chain at c l)
    (elim (cases_lt (at + 1) (length chain)) [
      | inl k ↦ (fails k).0
      | inr k ↦ subst (λ (i : ℕ). IsBefore q (point_at chain i)) (omega (arith, k, l)) to
    ])
    (elim (edge_to side S chain at c l) [
      | inl f ↦ inl f
      | inr k ↦ inr (
        point_at chain (at - 1),
        edge_support k.1,
        subst (λ (i : ℕ). ¬ (IsToCome side q (point_at chain (at - 1)) (point_at chain i))) (omega (arith, k.0)) (held k.0),
      )
    ])
    (elim (edge_from side S chain at c l)
    [ inl f ↦ inl f | inr k ↦ inr (point_at chain (at + 1), edge_support k.1, (fails k.0).1) ]))
