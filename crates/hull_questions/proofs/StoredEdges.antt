-- The two ends of an edge that a half stores.
use Rattle.std.proofs.Common.{◌≡◌, ap, Some}
use Rattle.lattice.specs.Plane.{Pair}

-- the ends of two edges that are returned as the same result are equal
pub same_ends : {p q : Pair} {e : Pair × Pair} → Some (p, q) ≡ Some e → (p ≡ e.0) × (q ≡ e.1)
same_ends {p = p} {q = q} {e = e} h = let k : (p, q) ≡ e = cc in
    (ap (λ (z : Pair × Pair). z.0) k, ap (λ (z : Pair × Pair). z.1) k)
