-- each chain becomes that of the set with the point
use Rattle.std.proofs.Common.{sym, subst, List, arith}
use Rattle.lattice.specs.Plane.{Pair}
use Rattle.hull_geometry.specs.Monotone.{AreChainsOf}
use Rattle.lattice.specs.declared.side.Side.TheVariants.{Lower, Upper}
use Rattle.hull_plain.proofs.PlainSets.{chain_few}
use Rattle.hull_plain.proofs.hull_chains.HullChains.add.Goals as goal

pub put_in-requires-clause-absent : goal.put_in-requires-clause-absent
put_in-requires-clause-absent c = λ m. c.requires.hull_chains.3 (c.requires.hull_chains.1.chains.below.among c.args.p m)

pub put_in-requires-clause-space : goal.put_in-requires-clause-space
put_in-requires-clause-space c =
    let few = chain_few Lower c.requires.hull_chains.0 c.args.self.now.lower.items c.requires.hull_chains.1.chains.below in
    omega (arith, few, c.requires.hull_chains.4.lower)

pub put_in-requires-clause-scratch_chain_space : goal.put_in-requires-clause-scratch_chain_space
put_in-requires-clause-scratch_chain_space c =
    let few = chain_few Lower c.requires.hull_chains.0 c.args.self.now.lower.items c.requires.hull_chains.1.chains.below in
    record {
      fresh = omega (arith, few, c.requires.hull_chains.4.scratch_chain.fresh);
      rest = omega (arith, few, c.requires.hull_chains.4.scratch_chain.rest);
    }

pub put_in-requires-2-clause-absent : goal.put_in-requires-2-clause-absent
put_in-requires-2-clause-absent c = λ m. c.requires.hull_chains.3 (c.requires.hull_chains.1.chains.above.among c.args.p m)

pub put_in-requires-2-clause-space : goal.put_in-requires-2-clause-space
put_in-requires-2-clause-space c =
    let few = chain_few Upper c.requires.hull_chains.0 c.args.self.now.upper.items c.requires.hull_chains.1.chains.above in
    omega (arith, few, c.requires.hull_chains.4.upper)

pub put_in-requires-2-clause-scratch_chain_space : goal.put_in-requires-2-clause-scratch_chain_space
put_in-requires-2-clause-scratch_chain_space c =
    let few = chain_few Upper c.requires.hull_chains.0 c.args.self.now.upper.items c.requires.hull_chains.1.chains.above in
    record {
      fresh = omega (arith, few, c.requires.hull_chains.4.scratch_chain.fresh, c.put_in.ensures.space.fresh);
      rest = omega (arith, few, c.requires.hull_chains.4.scratch_chain.rest, c.put_in.ensures.space.rest);
    }

pub add-requires-clause-candidate_lists : goal.add-requires-clause-candidate_lists
add-requires-clause-candidate_lists c = (
  c.requires.hull_chains.0,
  c.requires.hull_chains.1.candidate_lists,
  c.requires.hull_chains.2,
  c.requires.hull_chains.4.candidate_lists,
  record {
    fresh = omega (arith, c.requires.hull_chains.4.scratch_chain.fresh, c.put_in.ensures.space.fresh, c.put_in-2.ensures.space.fresh);
    rest = omega (arith, c.requires.hull_chains.4.scratch_chain.rest, c.put_in.ensures.space.rest, c.put_in-2.ensures.space.rest);
  },
)

pub add-requires-clause-absent_below : goal.add-requires-clause-absent_below
add-requires-clause-absent_below c = λ m. c.requires.hull_chains.3 (c.requires.hull_chains.1.candidate_lists.below.among c.args.p m)

pub add-requires-clause-absent_above : goal.add-requires-clause-absent_above
add-requires-clause-absent_above c = λ m. c.requires.hull_chains.3 (c.requires.hull_chains.1.candidate_lists.above.among c.args.p m)

pub returns-clause-hull_chains : goal.returns-clause-hull_chains
returns-clause-hull_chains c = record {
  chains =
      let S : List Pair = c.requires.hull_chains.0 in
      subst (λ (z : List Pair). AreChainsOf z c.put_in.new.chain.items c.put_in-2.new.chain.items)
      (sym c.requires.hull_chains.2) (record {
        below = c.put_in.ensures.chain S c.requires.hull_chains.1.chains.below;
        above = c.put_in-2.ensures.chain S c.requires.hull_chains.1.chains.above;
      });
  candidate_lists = c.add.ensures.candidate_lists;
}

pub returns-clause-kept : goal.returns-clause-kept
returns-clause-kept c = λ n h. record {
  lower = omega (arith, h.lower, c.put_in.ensures.chain_space);
  upper = omega (arith, h.upper, c.put_in-2.ensures.chain_space);
  candidate_lists = c.add.ensures.kept n h.candidate_lists;
  scratch_chain = record {
    fresh = omega (
      arith,
      h.scratch_chain.fresh,
      c.put_in.ensures.space.fresh,
      c.put_in-2.ensures.space.fresh,
      c.add.ensures.scratch_chain_space.fresh,
    );
    rest = omega (
      arith,
      h.scratch_chain.rest,
      c.put_in.ensures.space.rest,
      c.put_in-2.ensures.space.rest,
      c.add.ensures.scratch_chain_space.rest,
    );
  };
}
