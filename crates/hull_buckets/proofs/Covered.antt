-- A point of a bucket that is no vertex on a side is inwards of a segment between two that are.
use Rattle.std.proofs.Common.{◌≡◌, ℕ, ◌<◌, List, length, inl, inr}
use Rattle.std.specs.Int.{bit_at}
use Rattle.lattice.specs.Covers.{IsPointSet}
use Rattle.lattice.specs.Plane.{Pair}
use Rattle.lattice.specs.declared.side.Side.{Side}
use Rattle.hull_geometry.specs.Positions.{point_at, origin}
use Rattle.hull_geometry.proofs.Fringed.{chain_candidates}
use Rattle.hull_geometry.proofs.PointLists.{get_or_free}
use Rattle.hull_buckets.specs.Buckets.{IsMaskOf, IsCovered}
use Rattle.hull_buckets.specs.Masks.{at_places}
use Rattle.hull_buckets.proofs.SliceBridges.{on_chain}

-- a point whose index the mask of a side has not is covered there
pub covered : (side : Side) (S : List Pair) (mask i : ℕ) → IsPointSet S → IsMaskOf side S mask → i < length S
    → ¬ (bit_at mask i ≡ 1) → IsCovered side (point_at S i) S
covered side S mask i s m l n =
    elim ((chain_candidates side S (at_places mask S) m.chain).under (point_at S i)
    (i, l, get_or_free S i (point_at S i) origin l)) [
      | inl k ↦ absurd (n (on_chain S s mask i l k))
      | inr k ↦ (k.0, k.1, m.chain.among k.0 k.2, m.chain.among k.1 k.3, k.4)
    ]
