-- The scratch chain of a list after its last point was removed, and after a point was appended.
use Rattle.std.proofs.lemmas.Grind.{common_steps}
use Rattle.std.proofs.Common.{◌≡◌, ℕ, ◌≤◌, [], ◌∷◌, ◌++◌, sym, ap, ◌∙◌, List, arith, length, length-append}
use Rattle.std.proofs.Common.{take}
use Rattle.lattice.specs.Plane.{Pair}
use Rattle.hull_plain.specs.Drafts.{IsAsRoomy, drafted}
use Rattle.hull_plain.specs.declared.scratch_chain.ScratchChain.{ScratchChain}
use Rattle.hull_geometry.proofs.PointLists.{append_twice, append_none}

-- its new points are no more than all its points
pub fresh_few : (L : List Pair) (d : ScratchChain) → length d.fresh.items ≤ length (drafted L d)
fresh_few L d = let n = length-append (take d.kept L) d.fresh.items in omega (arith, n)

-- after a point was appended it is one point longer
pub pushed : (L : List Pair) (old new : ScratchChain) (c : Pair) → new.kept ≡ old.kept
    → new.fresh.items ≡ old.fresh.items ++ c ∷ [] → drafted L new ≡ drafted L old ++ c ∷ []
pushed L old new c k f = grind (arith, common_steps, append_twice)

-- at the start it is the first points of the list
pub started : (L : List Pair) (d : ScratchChain) (n : ℕ) → d.kept ≡ n → d.fresh.items ≡ [] → drafted L d ≡ take n L
started L d n k f =
    ap (λ (m : ℕ). take m L ++ d.fresh.items) k ∙ ap (λ (z : List Pair). take n L ++ z) f ∙ sym (append_none (take n L))

-- two changes that keep the storage keep it together
pub as_roomy : (a b c : ScratchChain) → IsAsRoomy a b → IsAsRoomy b c → IsAsRoomy a c
as_roomy a b c r s = record { fresh = s.fresh ∙ r.fresh; rest = s.rest ∙ r.rest }
