-- the pass goes over the points before p, those of the candidate list between its neighbours, and the points after it
use Rattle.std.proofs.Common.{◌+◌, ◌++◌, sym, ap, subst, List, take, drop, length, arith, refl}
use Rattle.std.proofs.Common.{length-append}
use Rattle.std.specs.Prelude.{slice_range}
use Rattle.lattice.specs.Covers.{IsPointSet}
use Rattle.lattice.specs.Plane.{Pair}
use Rattle.hull_plain.specs.Drafts.{drafted}
use Rattle.hull_geometry.specs.Monotone.{IsConvex, IsPassed}
use Rattle.hull_plain.proofs.Drafts.{started, as_roomy}
use Rattle.hull_geometry.proofs.CandidateListChains.{delete_new}
use Rattle.hull_geometry.proofs.Mended.{delete_same, around_set, around_among, around_few, between_few}
use Rattle.hull_geometry.proofs.Passes.{convex_take, convex_drop, passed_set, passed_through}
use Rattle.hull_geometry.proofs.PointSets.{set_left}
use Rattle.hull_geometry.proofs.PointLists.{range_long}
use Rattle.hull_plain.proofs.repairing.drain.Goals as goal

pub returns-in_default-clause-chain : goal.returns-in_default-clause-chain
returns-in_default-clause-chain c = λ S s k f.
    delete_same c.args.side _ S c.args.chain.now.items c.args.p c.in_default.field-0 s c.in_default.ensures.position refl
    k

pub between-from-requires-clause-inside : goal.between-from-requires-clause-inside
between-from-requires-clause-inside c = c.in-Ok.ensures.position.0

pub between-from-requires-clause-set : goal.between-from-requires-clause-set
between-from-requires-clause-set c =
    around_set c.args.chain.now.items c.args.p c.in-Ok.i c.requires.strict.ordered c.in-Ok.ensures.position

pub pass_over-requires-clause-within : goal.pass_over-requires-clause-within
pass_over-requires-clause-within c = omega (arith, c.start.ensures.kept, c.in-Ok.ensures.position.0)

pub pass_over-requires-clause-set : goal.pass_over-requires-clause-set
pass_over-requires-clause-set c =
    let middle : List Pair = slice_range c.args.candidates.now.items c.between-from.result.0 c.between-from.result.1 in
    subst (λ (z : List Pair). IsPointSet (z ++ middle))
    (sym (started c.args.chain.now.items c.start.new.self c.in-Ok.i c.start.ensures.kept c.start.ensures.none))
    (set_left (take c.in-Ok.i c.args.chain.now.items ++ middle) (drop (c.in-Ok.i + 1) c.args.chain.now.items)
    c.between-from.ensures.between.ordered)

pub pass_over-requires-clause-convex : goal.pass_over-requires-clause-convex
pass_over-requires-clause-convex c =
    subst (IsConvex c.args.side)
    (sym (started c.args.chain.now.items c.start.new.self c.in-Ok.i c.start.ensures.kept c.start.ensures.none))
    (convex_take c.args.side c.in-Ok.i c.args.chain.now.items c.requires.strict.convex)

pub pass_over-requires-clause-space : goal.pass_over-requires-clause-space
pass_over-requires-clause-space c =
    let L : List Pair = c.args.chain.now.items in
    let middle : List Pair = slice_range c.args.candidates.now.items c.between-from.result.0 c.between-from.result.1 in
    let few = between_few c.args.candidates.now.items (take c.in-Ok.i L) (drop (c.in-Ok.i + 1) L) middle
    c.between-from.ensures.between
    (around_among c.args.candidates.now.items L c.args.p c.in-Ok.i c.requires.strict.ordered c.in-Ok.ensures.position
    c.requires.among) in
    let n = ap length (started L c.start.new.self c.in-Ok.i c.start.ensures.kept c.start.ensures.none) in
    let both = length-append (take c.in-Ok.i L) middle in
    let long = range_long c.args.candidates.now.items c.between-from.result.0 c.between-from.result.1
    c.between-from.ensures.within in
    omega (arith, few, n, both, long, c.start.ensures.space.fresh, c.requires.scratch_chain_space.fresh)

pub take_up-to-requires-clause-within : goal.take_up-to-requires-clause-within
take_up-to-requires-clause-within c =
    omega (arith, c.pass_over.ensures.within, c.start.ensures.kept, c.in-Ok.ensures.position.0)

pub take_up-to-requires-clause-inside : goal.take_up-to-requires-clause-inside
take_up-to-requires-clause-inside c = omega (arith, c.in-Ok.ensures.position.0)

pub take_up-to-requires-clause-set : goal.take_up-to-requires-clause-set
take_up-to-requires-clause-set c =
    let L : List Pair = c.args.chain.now.items in
    let middle : List Pair = slice_range c.args.candidates.now.items c.between-from.result.0 c.between-from.result.1 in
    passed_set c.args.side (take c.in-Ok.i L ++ middle) (drafted L c.pass_over.new.scratch_chain) (drop (c.in-Ok.i + 1) L)
    (subst (λ (z : List Pair). IsPassed c.args.side (z ++ middle) (drafted L c.pass_over.new.scratch_chain))
    (started L c.start.new.self c.in-Ok.i c.start.ensures.kept c.start.ensures.none) c.pass_over.ensures.passed)
    c.between-from.ensures.between.ordered

pub take_up-to-requires-clause-convex : goal.take_up-to-requires-clause-convex
take_up-to-requires-clause-convex c = c.pass_over.ensures.passed.strict.convex

pub take_up-to-requires-clause-rest_convex : goal.take_up-to-requires-clause-rest_convex
take_up-to-requires-clause-rest_convex c =
    convex_drop c.args.side (c.in-Ok.i + 1) c.args.chain.now.items c.requires.strict.convex

pub take_up-to-requires-clause-space : goal.take_up-to-requires-clause-space
take_up-to-requires-clause-space c =
    let L : List Pair = c.args.chain.now.items in
    let middle : List Pair = slice_range c.args.candidates.now.items c.between-from.result.0 c.between-from.result.1 in
    let few = between_few c.args.candidates.now.items (take c.in-Ok.i L) (drop (c.in-Ok.i + 1) L) middle
    c.between-from.ensures.between
    (around_among c.args.candidates.now.items L c.args.p c.in-Ok.i c.requires.strict.ordered c.in-Ok.ensures.position
    c.requires.among) in
    let n = ap length (started L c.start.new.self c.in-Ok.i c.start.ensures.kept c.start.ensures.none) in
    let both = length-append (take c.in-Ok.i L) middle in
    let front = length-append (drafted L c.start.new.self) middle in
    omega (
      arith,
      few,
      n,
      both,
      front,
      c.pass_over.ensures.passed.short,
      c.pass_over.ensures.space.fresh,
      c.start.ensures.space.fresh,
      c.requires.scratch_chain_space.fresh,
    )

pub write-requires-clause-order : goal.write-requires-clause-order
write-requires-clause-order c =
    omega (
      arith,
      c.take_up-to.ensures.within,
      c.take_up-to.ensures.order,
      c.pass_over.ensures.within,
      c.start.ensures.kept,
    )

pub write-requires-clause-space : goal.write-requires-clause-space
write-requires-clause-space c =
    let L : List Pair = c.args.chain.now.items in
    let middle : List Pair = slice_range c.args.candidates.now.items c.between-from.result.0 c.between-from.result.1 in
    let few = between_few c.args.candidates.now.items (take c.in-Ok.i L) (drop (c.in-Ok.i + 1) L) middle
    c.between-from.ensures.between
    (around_among c.args.candidates.now.items L c.args.p c.in-Ok.i c.requires.strict.ordered c.in-Ok.ensures.position
    c.requires.among) in
    let n = ap length (started L c.start.new.self c.in-Ok.i c.start.ensures.kept c.start.ensures.none) in
    let both = length-append (take c.in-Ok.i L) middle in
    let front = length-append (drafted L c.start.new.self) middle in
    let passed = length-append (drafted L c.pass_over.new.scratch_chain) (drop (c.in-Ok.i + 1) L) in
    let new = length-append (drafted L c.take_up-to.new.scratch_chain) (drop c.take_up-to.result L) in
    omega (
      arith,
      few,
      n,
      both,
      front,
      passed,
      new,
      c.pass_over.ensures.passed.short,
      c.take_up-to.ensures.passed.short,
      c.requires.space,
    )

pub write-requires-clause-rest_space : goal.write-requires-clause-rest_space
write-requires-clause-rest_space c =
    let few = around_few c.args.candidates.now.items c.args.chain.now.items c.args.p c.in-Ok.i c.requires.strict.ordered
    c.in-Ok.ensures.position c.requires.among in
    omega (
      arith,
      few,
      c.take_up-to.ensures.order,
      c.take_up-to.ensures.space.rest,
      c.pass_over.ensures.space.rest,
      c.start.ensures.space.rest,
      c.requires.scratch_chain_space.rest,
    )

pub returns-clause-chain : goal.returns-clause-chain
returns-clause-chain c = λ S s k f.
    let L : List Pair = c.args.chain.now.items in
    let middle : List Pair = slice_range c.args.candidates.now.items c.between-from.result.0 c.between-from.result.1 in
    let new : List Pair = drafted L c.take_up-to.new.scratch_chain ++ drop c.take_up-to.result L in
    delete_new c.args.side S c.args.candidates.now.items L middle c.write.new.list.items c.args.p c.in-Ok.i s
    c.in-Ok.ensures.position c.requires.among c.between-from.ensures.between
    (subst (IsPassed c.args.side (take c.in-Ok.i L ++ middle ++ drop (c.in-Ok.i + 1) L)) (sym c.write.ensures.items)
    (passed_through c.args.side (take c.in-Ok.i L ++ middle) (drafted L c.pass_over.new.scratch_chain)
    (drop (c.in-Ok.i + 1) L) new
    (subst (λ (z : List Pair). IsPassed c.args.side (z ++ middle) (drafted L c.pass_over.new.scratch_chain))
    (started L c.start.new.self c.in-Ok.i c.start.ensures.kept c.start.ensures.none) c.pass_over.ensures.passed)
    c.take_up-to.ensures.passed)) k f

pub returns-clause-space : goal.returns-clause-space
returns-clause-space c =
    as_roomy _ _ _ (as_roomy _ _ _ (as_roomy _ _ _ c.start.ensures.space c.pass_over.ensures.space)
    c.take_up-to.ensures.space) c.write.ensures.space
