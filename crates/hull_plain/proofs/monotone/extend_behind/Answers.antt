-- a last point that ends inwards is covered by its neighbours, so without it the same points are inner
use Rattle.std.proofs.Common.{◌≡◌, ◌<◌, ◌+◌, ◌-◌, take, length, sym, ap, ◌∙◌, subst, List, arith, ◌∷◌, ◌++◌, [], length-append}
use Rattle.std.proofs.lemmas.Bool.{false≢true}
use Rattle.std.specs.List.{Contains}
use Rattle.lattice.specs.Covers.{IsPointSet}
use Rattle.lattice.specs.Plane.{Pair}
use Rattle.hull_plain.specs.Drafts.{drafted}
use Rattle.hull_geometry.specs.Monotone.{IsInner, IsConvex, EndsInwards, IsThinned}
use Rattle.hull_geometry.proofs.ChainPasses.{popped_set, popped_inner, popped_among, popped_short, with_end}
use Rattle.hull_plain.proofs.Drafts.{fresh_few, pushed, as_roomy}
use Rattle.hull_geometry.proofs.Passes.{convex_take, pushed_ends}
use Rattle.hull_plain.proofs.monotone.extend_behind.Goals as goal
use Rattle.hull_plain.proofs.monotone.extend_behind.Goals.{then-loop-scratch_chain-test+else-ends_inwards, else-loop-scratch_chain-test}

pub loop-scratch_chain-smaller : goal.loop-scratch_chain-smaller
loop-scratch_chain-smaller c =
    let old : List Pair = drafted c.args.list.now.items c.loop-scratch_chain.scratch_chain in
    let new : List Pair = drafted c.args.list.now.items c.pop.new.self in
    let e : EndsInwards c.args.side old c.args.c = c.ends_inwards.ensures.inwards c.if-ends_inwards.true in
    let within : c.loop-scratch_chain.scratch_chain.kept < length c.args.list.now.items + 1 =
    omega (arith, c.loop-scratch_chain.invariant.within, c.requires.within) in
    let rest : new ≡ take (length old - 1) old = c.pop.ensures.less c.args.list.now.items (omega (arith, within)) in
    let n : length new ≡ length (take (length old - 1) old) = ap length rest in
    let m = popped_short e in
    let less : length new < length old = omega (arith, n, m) in less

pub loop-scratch_chain-preserved : goal.loop-scratch_chain-preserved
loop-scratch_chain-preserved c =
    let old : List Pair = drafted c.args.list.now.items c.loop-scratch_chain.scratch_chain in
    let new : List Pair = drafted c.args.list.now.items c.pop.new.self in
    let e : EndsInwards c.args.side old c.args.c = c.ends_inwards.ensures.inwards c.if-ends_inwards.true in
    let within : c.loop-scratch_chain.scratch_chain.kept < length c.args.list.now.items + 1 =
    omega (arith, c.loop-scratch_chain.invariant.within, c.requires.within) in
    let rest : new ≡ take (length old - 1) old = c.pop.ensures.less c.args.list.now.items (omega (arith, within)) in
    let n : length new ≡ length (take (length old - 1) old) = ap length rest in
    let m = popped_short e in
    record {
      within = omega (arith, c.pop.ensures.within, c.loop-scratch_chain.invariant.within);
      set = subst (λ (z : List Pair). IsPointSet (z ++ c.args.c ∷ [])) (sym rest)
          (popped_set e c.loop-scratch_chain.invariant.set);
      convex = λ h. subst (IsConvex c.args.side) (sym rest)
          (convex_take c.args.side _ old (c.loop-scratch_chain.invariant.convex h));
      among = λ t k. c.loop-scratch_chain.invariant.among t (popped_among e t (subst (λ (z : List Pair). Contains z t) rest k));
      inner = λ u k. subst (λ (z : List Pair). IsInner c.args.side (z ++ c.args.c ∷ []) u) (sym rest)
          (popped_inner e c.loop-scratch_chain.invariant.set u (c.loop-scratch_chain.invariant.inner u k));
      short = omega (arith, c.loop-scratch_chain.invariant.short, n, m);
      stays = λ f. absurd (false≢true f);
      space = as_roomy c.args.scratch_chain.now c.loop-scratch_chain.scratch_chain c.pop.new.self c.loop-scratch_chain.invariant.space c.pop.ensures.space;
    }

pub push-requires : goal.push-requires
push-requires c =
    let few = fresh_few c.args.list.now.items c.loop-scratch_chain.scratch_chain in
    omega (
      arith,
      few,
      c.loop-scratch_chain.invariant.short,
      c.requires.space,
      c.loop-scratch_chain.invariant.space.fresh,
      c.loop-scratch_chain.scratch_chain.fresh.ok,
    )

pub returns-clause-thinned : goal.returns-clause-thinned
returns-clause-thinned c =
    let start : List Pair = drafted c.args.list.now.items c.args.scratch_chain.now in
    let old : List Pair = drafted c.args.list.now.items c.loop-scratch_chain.scratch_chain in
    let e : drafted c.args.list.now.items c.push.new.self ≡ old ++ c.args.c ∷ [] =
    pushed c.args.list.now.items c.loop-scratch_chain.scratch_chain c.push.new.self c.args.c c.push.ensures.kept c.push.ensures.more in
    subst (IsThinned c.args.side (start ++ c.args.c ∷ [])) (sym e) (record {
      ordered = c.loop-scratch_chain.invariant.set;
      among = with_end old start c.args.c c.loop-scratch_chain.invariant.among;
      inner = c.loop-scratch_chain.invariant.inner;
      ends = pushed_ends start old c.args.c;
      short = let m = length-append old (c.args.c ∷ []) in
          let n = length-append start (c.args.c ∷ []) in omega (arith, m, n, c.loop-scratch_chain.invariant.short);
    })

pub returns-clause-stays : goal.returns-clause-stays
returns-clause-stays c = λ t.
    pushed c.args.list.now.items c.loop-scratch_chain.scratch_chain c.push.new.self c.args.c c.push.ensures.kept c.push.ensures.more
    ∙ ap (λ (z : List Pair). z ++ c.args.c ∷ []) (c.loop-scratch_chain.invariant.stays t)

pub returns-clause-convex : goal.returns-clause-convex
returns-clause-convex c = λ none h.
    subst (IsConvex c.args.side) (sym (pushed c.args.list.now.items c.loop-scratch_chain.scratch_chain c.push.new.self c.args.c
    c.push.ensures.kept c.push.ensures.more))
    (elim c.loop-scratch_chain-test.branch [
      | then-loop-scratch_chain-test+else-ends_inwards w ↦
          w.ends_inwards.ensures.convex w.if-ends_inwards.false (c.loop-scratch_chain.invariant.convex h)
      | else-loop-scratch_chain-test w ↦ absurd (false≢true (sym w.loop-scratch_chain-test.false ∙ c.may_lose.ensures none))
    ])
