-- the pass goes over the points before p, p, and the points after it
use Rattle.std.proofs.Common.{◌++◌, ◌∷◌, [], sym, ap, ◌∙◌, subst, List, take, drop, length, arith}
use Rattle.std.proofs.Common.{length-append, length-drop}
use Rattle.std.proofs.lemmas.Bool.{false≢true}
use Rattle.lattice.specs.Covers.{IsPointSet}
use Rattle.lattice.specs.Plane.{Pair}
use Rattle.hull_plain.specs.Drafts.{drafted}
use Rattle.hull_geometry.specs.Monotone.{IsConvex, IsPassed}
use Rattle.hull_plain.proofs.Drafts.{started, as_roomy}
use Rattle.hull_geometry.proofs.Mended.{put_in_same, put_in_new, before_and, before_and_after}
use Rattle.hull_geometry.proofs.Passes.{convex_take, convex_drop, passed_set, passed_through}
use Rattle.hull_geometry.proofs.PointLists.{take_few}
use Rattle.hull_plain.proofs.repairing.put_in_at.Goals as goal

pub returns-then-is_inwards-clause-chain : goal.returns-then-is_inwards-clause-chain
returns-then-is_inwards-clause-chain c = λ S k.
    put_in_same c.args.side S c.args.chain.now.items c.args.p c.args.i c.requires.position
    (c.is_inwards.ensures.0 c.if-is_inwards.true) k

pub extend-stays-requires-clause-within : goal.extend-stays-requires-clause-within
extend-stays-requires-clause-within c = omega (arith, c.start.ensures.kept, c.requires.position.0)

pub extend-stays-requires-clause-set : goal.extend-stays-requires-clause-set
extend-stays-requires-clause-set c =
    subst (λ (z : List Pair). IsPointSet (z ++ c.args.p ∷ []))
    (sym (started c.args.chain.now.items c.start.new.self c.args.i c.start.ensures.kept c.start.ensures.none))
    (before_and c.args.side c.args.chain.now.items c.args.p c.args.i c.requires.strict.ordered
    c.requires.position)

pub extend-stays-requires-clause-convex : goal.extend-stays-requires-clause-convex
extend-stays-requires-clause-convex c =
    subst (IsConvex c.args.side)
    (sym (started c.args.chain.now.items c.start.new.self c.args.i c.start.ensures.kept c.start.ensures.none))
    (convex_take c.args.side c.args.i c.args.chain.now.items c.requires.strict.convex)

pub extend-stays-requires-clause-space : goal.extend-stays-requires-clause-space
extend-stays-requires-clause-space c =
    let n = ap length (started c.args.chain.now.items c.start.new.self c.args.i c.start.ensures.kept
    c.start.ensures.none) in
    let few = take_few c.args.i c.args.chain.now.items in
    omega (arith, n, few, c.requires.position.0, c.start.ensures.space.fresh, c.requires.scratch_chain_space.fresh)

pub take_up-to-requires-clause-set : goal.take_up-to-requires-clause-set
take_up-to-requires-clause-set c =
    passed_set c.args.side (take c.args.i c.args.chain.now.items ++ c.args.p ∷ [])
    (drafted c.args.chain.now.items c.extend-stays.new.scratch_chain) (drop c.args.i c.args.chain.now.items)
    (subst (λ (z : List Pair). IsPassed c.args.side (z ++ c.args.p ∷ [])
    (drafted c.args.chain.now.items c.extend-stays.new.scratch_chain))
    (started c.args.chain.now.items c.start.new.self c.args.i c.start.ensures.kept c.start.ensures.none)
    c.extend-stays.ensures.passed)
    (before_and_after c.args.chain.now.items c.args.p c.args.i c.requires.strict.ordered c.requires.position)

pub take_up-to-requires-clause-rest_convex : goal.take_up-to-requires-clause-rest_convex
take_up-to-requires-clause-rest_convex c =
    convex_drop c.args.side c.args.i c.args.chain.now.items c.requires.strict.convex

pub take_up-to-requires-clause-space : goal.take_up-to-requires-clause-space
take_up-to-requires-clause-space c =
    let n = ap length (started c.args.chain.now.items c.start.new.self c.args.i c.start.ensures.kept
    c.start.ensures.none) in
    let few = take_few c.args.i c.args.chain.now.items in
    let both = length-append (drafted c.args.chain.now.items c.start.new.self) (c.args.p ∷ []) in
    let rest = length-drop c.args.i c.args.chain.now.items in
    omega (
      arith,
      n,
      few,
      both,
      rest,
      c.extend-stays.ensures.passed.short,
      c.requires.position.0,
      c.extend-stays.ensures.space.fresh,
      c.start.ensures.space.fresh,
      c.requires.scratch_chain_space.fresh,
    )

pub take_up-to-requires-clause-within : goal.take_up-to-requires-clause-within
take_up-to-requires-clause-within c =
    omega (arith, c.extend-stays.ensures.within, c.start.ensures.kept, c.requires.position.0)

pub write-requires-clause-order : goal.write-requires-clause-order
write-requires-clause-order c =
    omega (
      arith,
      c.take_up-to.ensures.within,
      c.take_up-to.ensures.order,
      c.extend-stays.ensures.within,
      c.start.ensures.kept,
    )

pub write-requires-clause-space : goal.write-requires-clause-space
write-requires-clause-space c =
    let L : List Pair = c.args.chain.now.items in
    let n = ap length (started L c.start.new.self c.args.i c.start.ensures.kept c.start.ensures.none) in
    let few = take_few c.args.i L in
    let with_p = length-append (drafted L c.start.new.self) (c.args.p ∷ []) in
    let rest = length-drop c.args.i L in
    let front = length-append (drafted L c.extend-stays.new.scratch_chain) (drop c.args.i L) in
    let new = length-append (drafted L c.take_up-to.new.scratch_chain) (drop c.take_up-to.result L) in
    omega (
      arith,
      n,
      few,
      with_p,
      rest,
      front,
      new,
      c.extend-stays.ensures.passed.short,
      c.take_up-to.ensures.passed.short,
      c.requires.position.0,
      c.requires.space,
    )

pub write-requires-clause-rest_space : goal.write-requires-clause-rest_space
write-requires-clause-rest_space c =
    omega (
      arith,
      c.take_up-to.ensures.space.rest,
      c.extend-stays.ensures.space.rest,
      c.start.ensures.space.rest,
      c.requires.scratch_chain_space.rest,
    )

pub returns-clause-chain : goal.returns-clause-chain
returns-clause-chain c = λ S k.
    let L : List Pair = c.args.chain.now.items in
    let new : List Pair = drafted L c.take_up-to.new.scratch_chain ++ drop c.take_up-to.result L in
    put_in_new c.args.side S L c.write.new.list.items c.args.p c.args.i c.requires.position
    (λ o. false≢true (sym c.if-is_inwards.false ∙ c.is_inwards.ensures.1 o))
    (subst (IsPassed c.args.side (take c.args.i L ++ c.args.p ∷ [] ++ drop c.args.i L)) (sym c.write.ensures.items)
    (passed_through c.args.side (take c.args.i L ++ c.args.p ∷ []) (drafted L c.extend-stays.new.scratch_chain)
    (drop c.args.i L) new
    (subst (λ (z : List Pair). IsPassed c.args.side (z ++ c.args.p ∷ []) (drafted L c.extend-stays.new.scratch_chain))
    (started L c.start.new.self c.args.i c.start.ensures.kept c.start.ensures.none) c.extend-stays.ensures.passed)
    c.take_up-to.ensures.passed)) k

pub returns-clause-space : goal.returns-clause-space
returns-clause-space c =
    as_roomy _ _ _ (as_roomy _ _ _ (as_roomy _ _ _ c.start.ensures.space c.extend-stays.ensures.space)
    c.take_up-to.ensures.space) c.write.ensures.space
