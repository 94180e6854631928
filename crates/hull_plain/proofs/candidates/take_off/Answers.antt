-- the points between the neighbours of p that are not hidden replace it
use Rattle.std.proofs.Common.{◌+◌, ◌++◌, sym, subst, List, take, drop, arith}
use Rattle.std.specs.Map.{keys_of}
use Rattle.lattice.specs.Plane.{Pair}
use Rattle.hull_plain.specs.Drafts.{drafted}
use Rattle.hull_geometry.specs.Monotone.{IsCandidateListOf}
use Rattle.hull_plain.proofs.Drafts.{as_roomy}
use Rattle.hull_geometry.proofs.Mended.{take_off_same, take_off_new, inner_still, around_set, around_among, around_few}
use Rattle.hull_geometry.proofs.Mended.{between_few}
use Rattle.hull_geometry.proofs.Passes.{thinned_copied}
use Rattle.hull_plain.proofs.candidates.take_off.Goals as goal

pub returns-in_default-clause-candidates : goal.returns-in_default-clause-candidates
returns-in_default-clause-candidates c = λ S s k e.
    take_off_same c.args.side (keys_of c.args.points.now.entries) S c.args.candidates.now.items c.args.p
    c.in_default.field-0 s c.in_default.ensures.position e k

pub overflow_add-i : goal.overflow_add-i
overflow_add-i c = omega (arith, c.in-Ok.ensures.few)

pub fill-requires-clause-inside : goal.fill-requires-clause-inside
fill-requires-clause-inside c = omega (arith, c.in-Ok.ensures.position.0)

pub fill-requires-clause-set : goal.fill-requires-clause-set
fill-requires-clause-set c =
    around_set c.args.candidates.now.items c.args.p c.in-Ok.i c.requires.ordered c.in-Ok.ensures.position

pub fill-requires-clause-among : goal.fill-requires-clause-among
fill-requires-clause-among c =
    around_among (keys_of c.args.points.now.entries) c.args.candidates.now.items c.args.p c.in-Ok.i c.requires.ordered
    c.in-Ok.ensures.position c.requires.among

pub write-requires-clause-space : goal.write-requires-clause-space
write-requires-clause-space c =
    let L : List Pair = c.args.candidates.now.items in
    let thinned = c.fill.ensures.thinned in
    let few = between_few (keys_of c.args.points.now.entries) (take c.in-Ok.i L) (drop (c.in-Ok.i + 1) L) thinned.0
    thinned.1
    (around_among (keys_of c.args.points.now.entries) L c.args.p c.in-Ok.i c.requires.ordered c.in-Ok.ensures.position
    c.requires.among) in
    omega (arith, few, thinned.2.short, c.requires.space)

pub write-requires-clause-rest_space : goal.write-requires-clause-rest_space
write-requires-clause-rest_space c =
    let few = around_few (keys_of c.args.points.now.entries) c.args.candidates.now.items c.args.p c.in-Ok.i
    c.requires.ordered c.in-Ok.ensures.position c.requires.among in
    omega (arith, few, c.fill.ensures.space.rest, c.requires.scratch_chain_space.rest)

pub returns-clause-candidates : goal.returns-clause-candidates
returns-clause-candidates c = λ S s k e.
    let L : List Pair = c.args.candidates.now.items in
    let keys : List Pair = keys_of c.args.points.now.entries in
    let rest : List Pair = drop (c.in-Ok.i + 1) L in
    let new : List Pair = drafted L c.fill.new.scratch_chain in
    let thins = c.fill.ensures.thinned in
    subst (IsCandidateListOf c.args.side keys) (sym c.write.ensures.items)
    (take_off_new c.args.side keys L thins.0 (new ++ rest) c.args.p c.in-Ok.i c.requires.ordered c.in-Ok.ensures.position
    c.requires.among (inner_still c.args.side keys S L c.args.p s e k.inner) thins.1
    (thinned_copied c.args.side (take c.in-Ok.i L ++ thins.0) new rest thins.2 thins.1.ordered))

pub returns-clause-space : goal.returns-clause-space
returns-clause-space c = as_roomy _ _ _ c.fill.ensures.space c.write.ensures.space
