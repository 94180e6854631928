-- between an empty front and an empty rest are all points
use Rattle.std.proofs.Common.{ℕ, ◌≤◌, ◌++◌, [], sym, ap, ◌∙◌, subst, List, drop, length, arith}
use Rattle.std.specs.List.{Contains}
use Rattle.std.specs.Map.{keys_of}
use Rattle.lattice.specs.Covers.{IsPointSet}
use Rattle.lattice.specs.Plane.{Pair}
use Rattle.hull_plain.specs.Drafts.{drafted}
use Rattle.hull_geometry.specs.Mending.{ThinsBetween}
use Rattle.hull_geometry.specs.Monotone.{IsCandidateListOf}
use Rattle.lattice.specs.declared.side.Side.{Side}
use Rattle.hull_plain.proofs.Drafts.{as_roomy}
use Rattle.hull_geometry.proofs.CandidateListChains.{whole_candidates}
use Rattle.hull_plain.proofs.PlainSets.{candidates_few}
use Rattle.hull_geometry.proofs.PointLists.{append_none, none_from}
use Rattle.hull_plain.proofs.candidates.renew.Goals as goal

pub fill-requires-clause-set : goal.fill-requires-clause-set
fill-requires-clause-set c =
    subst (λ (z : List Pair). IsPointSet ([] ++ z))
    (sym (none_from c.len-len.result c.args.candidates.now.items (omega (arith, c.len-len.ensures))))
    (λ i j d l b. absurd (omega (arith, b)))

pub fill-requires-clause-among : goal.fill-requires-clause-among
fill-requires-clause-among c = λ t m.
    let none : Contains [] t =
    subst (λ (z : List Pair). Contains z t)
    (none_from c.len-len.result c.args.candidates.now.items (omega (arith, c.len-len.ensures))) m in
    absurd (omega (arith, none.1))

-- all points of the set without some inner ones are a candidate list of it
whole : (side : Side) (keys F new : List Pair) (n : ℕ) → length F ≤ n → ThinsBetween side keys [] (drop n F) new
    → IsCandidateListOf side keys new
whole side keys F new n l thinned =
    whole_candidates side keys new
    (subst (λ (z : List Pair). ThinsBetween side keys [] z new) (none_from n F l) thinned)

pub write-requires-clause-space : goal.write-requires-clause-space
write-requires-clause-space c =
    let few = candidates_few c.args.side (keys_of c.args.points.now.entries)
    (drafted c.args.candidates.now.items c.fill.new.scratch_chain)
    (whole c.args.side (keys_of c.args.points.now.entries) c.args.candidates.now.items
    (drafted c.args.candidates.now.items c.fill.new.scratch_chain) c.len-len.result (omega (arith, c.len-len.ensures))
    c.fill.ensures.thinned) in
    let none = ap length (none_from c.len-len.result c.args.candidates.now.items (omega (arith, c.len-len.ensures))) in
    omega (arith, few, none, c.requires.space)

pub write-requires-clause-rest_space : goal.write-requires-clause-rest_space
write-requires-clause-rest_space c = omega (arith, c.len-len.ensures)

pub returns-clause-candidates : goal.returns-clause-candidates
returns-clause-candidates c =
    let new : List Pair = drafted c.args.candidates.now.items c.fill.new.scratch_chain in
    subst (IsCandidateListOf c.args.side (keys_of c.args.points.now.entries))
    (append_none new
    ∙ ap (λ (z : List Pair). new ++ z)
    (sym (none_from c.len-len.result c.args.candidates.now.items (omega (arith, c.len-len.ensures))))
    ∙ sym c.write.ensures.items)
    (whole c.args.side (keys_of c.args.points.now.entries) c.args.candidates.now.items new c.len-len.result
    (omega (arith, c.len-len.ensures)) c.fill.ensures.thinned)

pub returns-clause-space : goal.returns-clause-space
returns-clause-space c = as_roomy _ _ _ c.fill.ensures.space c.write.ensures.space
