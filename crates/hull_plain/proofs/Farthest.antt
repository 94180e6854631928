-- The first of the farthest points, by the edges beside the point that a bisection of a chain found.
use Rattle.std.proofs.Common.{◌≡◌, ℕ, ◌<ℤ◌, inl, inr, sym, subst, List, arith, ◌<◌, ◌-◌, ◌+◌, length}
use Rattle.lattice.specs.Plane.{Pair, product}
use Rattle.lattice.specs.declared.side.Side.{Side}
use Rattle.hull_geometry.specs.Positions.{point_at}
use Rattle.hull_geometry.specs.Tangents.{IsFirstFarthest, Faces}
use Rattle.hull_geometry.proofs.Farthest.{farthest_touched}
use Rattle.hull_geometry.specs.Monotone.{IsChainOf}
use Rattle.hull_geometry.proofs.ChainEdges.{edge_support}
use Rattle.hull_geometry.proofs.ChainPlaces.{chain_in, edge_to, edge_from}

-- the point up to which the chain rises is the first of the farthest
pub farthest_found : (side : Side) (S chain : List Pair) (at : ℕ) (d p : Pair) → p ≡ point_at chain at → Faces side d
    → IsChainOf side S chain → at < length chain
    → (0 < at → product d (point_at chain (at - 1)) <ℤ product d (point_at chain (at - 1 + 1)))
    → (at + 1 < length chain → ¬ (product d (point_at chain at) <ℤ product d (point_at chain (at + 1))))
    → IsFirstFarthest S d p
farthest_found side S chain at d p e faces c l held fails = subst (IsFirstFarthest S d) (sym e)
    (farthest_touched side S d (point_at chain at) faces (chain_in side S chain at c l)
    (elim (edge_to side S chain at c l) [
      | inl f ↦ inl f
      | inr k ↦ inr (
        point_at chain (at - 1),
        edge_support k.1,
        subst (λ (i : ℕ). product d (point_at chain (at - 1)) <ℤ product d (point_at chain i)) (omega (arith, k.0))
            (held k.0),
      )
    ])
    (elim (edge_from side S chain at c l)
    [ inl f ↦ inl f | inr k ↦ inr (point_at chain (at + 1), edge_support k.1, fails k.0) ]))
