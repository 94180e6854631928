-- the vertices of the rest are on the candidate lists, from which the chains are repaired
use Rattle.std.proofs.Common.{sym, subst, List, arith}
use Rattle.std.specs.Map.{keys_of}
use Rattle.lattice.specs.Plane.{Pair}
use Rattle.hull_geometry.specs.Monotone.{IsCandidateListOf, AreChainsOf}
use Rattle.lattice.specs.declared.side.Side.TheVariants.{Lower, Upper}
use Rattle.hull_geometry.proofs.CandidateListChains.{vertices_left}
use Rattle.hull_plain.proofs.PlainSets.{candidates_few}
use Rattle.hull_plain.proofs.hull_chains.HullChains.remove.Goals as goal

pub drain-requires-clause-left : goal.drain-requires-clause-left
drain-requires-clause-left c = c.remove.ensures.candidate_lists.below.ordered

pub drain-requires-clause-among : goal.drain-requires-clause-among
drain-requires-clause-among c =
    vertices_left Lower c.requires.hull_chains.0 (keys_of c.args.points.now.entries) c.remove.new.self.below.items
    c.args.self.now.lower.items c.args.p c.requires.hull_chains.1 c.requires.hull_chains.3 c.requires.hull_chains.2.chains.below
    c.remove.ensures.candidate_lists.below

pub drain-requires-clause-space : goal.drain-requires-clause-space
drain-requires-clause-space c =
    let few = candidates_few Lower (keys_of c.args.points.now.entries) c.remove.new.self.below.items
    c.remove.ensures.candidate_lists.below in
    omega (arith, few, c.requires.space.lower)

pub drain-requires-clause-scratch_chain_space : goal.drain-requires-clause-scratch_chain_space
drain-requires-clause-scratch_chain_space c =
    let few = candidates_few Lower (keys_of c.args.points.now.entries) c.remove.new.self.below.items
    c.remove.ensures.candidate_lists.below in
    record {
      fresh = omega (arith, few, c.requires.space.scratch_chain.fresh, c.remove.ensures.scratch_chain_space.fresh);
      rest = omega (arith, few, c.requires.space.scratch_chain.rest, c.remove.ensures.scratch_chain_space.rest);
    }

pub drain-requires-2-clause-left : goal.drain-requires-2-clause-left
drain-requires-2-clause-left c = c.remove.ensures.candidate_lists.above.ordered

pub drain-requires-2-clause-among : goal.drain-requires-2-clause-among
drain-requires-2-clause-among c =
    vertices_left Upper c.requires.hull_chains.0 (keys_of c.args.points.now.entries) c.remove.new.self.above.items
    c.args.self.now.upper.items c.args.p c.requires.hull_chains.1 c.requires.hull_chains.3 c.requires.hull_chains.2.chains.above
    c.remove.ensures.candidate_lists.above

pub drain-requires-2-clause-space : goal.drain-requires-2-clause-space
drain-requires-2-clause-space c =
    let few = candidates_few Upper (keys_of c.args.points.now.entries) c.remove.new.self.above.items
    c.remove.ensures.candidate_lists.above in
    omega (arith, few, c.requires.space.upper)

pub drain-requires-2-clause-scratch_chain_space : goal.drain-requires-2-clause-scratch_chain_space
drain-requires-2-clause-scratch_chain_space c =
    let few = candidates_few Upper (keys_of c.args.points.now.entries) c.remove.new.self.above.items
    c.remove.ensures.candidate_lists.above in
    record {
      fresh = omega (
        arith,
        few,
        c.requires.space.scratch_chain.fresh,
        c.remove.ensures.scratch_chain_space.fresh,
        c.drain.ensures.space.fresh,
      );
      rest = omega (arith, few, c.requires.space.scratch_chain.rest, c.remove.ensures.scratch_chain_space.rest, c.drain.ensures.space.rest);
    }

pub returns-clause-hull_chains : goal.returns-clause-hull_chains
returns-clause-hull_chains c = record {
  chains =
      let S : List Pair = c.requires.hull_chains.0 in
      let e = c.requires.hull_chains.3 in
      subst (λ (z : List Pair). AreChainsOf z c.drain.new.chain.items c.drain-2.new.chain.items) (sym e) (record {
        below = c.drain.ensures.chain S c.requires.hull_chains.1 c.requires.hull_chains.2.chains.below
            (subst (λ (z : List Pair). IsCandidateListOf Lower z c.remove.new.self.below.items) e c.remove.ensures.candidate_lists.below);
        above = c.drain-2.ensures.chain S c.requires.hull_chains.1 c.requires.hull_chains.2.chains.above
            (subst (λ (z : List Pair). IsCandidateListOf Upper z c.remove.new.self.above.items) e c.remove.ensures.candidate_lists.above);
      });
  candidate_lists = c.remove.ensures.candidate_lists;
}

pub returns-clause-kept : goal.returns-clause-kept
returns-clause-kept c = λ n h. record {
  lower = omega (arith, h.lower, c.drain.ensures.chain_space);
  upper = omega (arith, h.upper, c.drain-2.ensures.chain_space);
  candidate_lists = c.remove.ensures.kept n h.candidate_lists;
  scratch_chain = record {
    fresh = omega (
      arith,
      h.scratch_chain.fresh,
      c.remove.ensures.scratch_chain_space.fresh,
      c.drain.ensures.space.fresh,
      c.drain-2.ensures.space.fresh,
    );
    rest = omega (
      arith,
      h.scratch_chain.rest,
      c.remove.ensures.scratch_chain_space.rest,
      c.drain.ensures.space.rest,
      c.drain-2.ensures.space.rest,
    );
  };
}
