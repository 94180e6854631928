-- If the last point of one half is before the first of another, all of the one is before all of the other.
use Rattle.std.proofs.Common.{refl, inl, inr, ⊎_elim}
use Rattle.lattice.specs.Plane.{Pair, IsBefore}
use Rattle.lattice.specs.Bridges.{IsAllBefore}
use Rattle.bridge_search.specs.Trees.{Tree, Leaf, Fork, On, IsBridged, first_of, last_of}
use Rattle.lattice.proofs.Order.{before_trans, before_irrefl, before_total, before_not}
use Rattle.bridge_search.proofs.Turns.{first_by}

-- the last point is a point of the half
pub on_last : (t : Tree) → On t (last_of t)
on_last (Leaf x) = refl
on_last (Fork e f u w) = inr (on_last w)

-- no point of a half is after its last point
pub last_by : (t : Tree) → IsBridged t → (p : Pair) → On t p → IsBefore (last_of t) p → ⊥
last_by (Leaf x) h p i b = before_irrefl x (rw i at b)
last_by (Fork e f u w) h p (inl i) b = before_not p (last_of w) (h.0 p (last_of w) i (on_last w)) b
last_by (Fork e f u w) h p (inr i) b = last_by w h.4 p i b

-- if p is not after a, a is before b, and q is not before b, then p is before q
between : (p a b q : Pair) → (IsBefore a p → ⊥) → IsBefore a b → (IsBefore q b → ⊥) → IsBefore p q
between p a b q h k l =
    let pb : IsBefore p b =
    ⊎_elim (λ x. before_trans p a b x k) (λ r. ⊎_elim (λ e. rw e k) (λ x. absurd (h x)) r) (before_total p a) in
    ⊎_elim (λ x. before_trans p b q pb x) (λ r. ⊎_elim (λ e. rw e at pb) (λ x. absurd (l x)) r) (before_total b q)

-- if the last point of u is before the first of w, all of u is before all of w
pub all_before : (u w : Tree) → IsBridged u → IsBridged w → IsBefore (last_of u) (first_of w)
    → IsAllBefore (On u) (On w)
all_before u w h k b p q i j = between p (last_of u) (first_of w) q (last_by u h p i) b (first_by w k q j)
