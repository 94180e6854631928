-- each candidate list becomes one of the set with the point, and has no more points than it
use Rattle.std.proofs.Common.{◌≤◌, ◌+◌, sym, subst, List, length, arith}
use Rattle.std.specs.Map.{keys_of}
use Rattle.lattice.specs.Plane.{Pair}
use Rattle.hull_geometry.specs.Monotone.{AreCandidateListsOf}
use Rattle.lattice.specs.declared.side.Side.TheVariants.{Lower, Upper}
use Rattle.hull_plain.proofs.PlainSets.{candidates_few, length_with}
use Rattle.hull_plain.proofs.candidate_lists.CandidateLists.add.Goals as goal

pub put_on-below-requires-clause-space : goal.put_on-below-requires-clause-space
put_on-below-requires-clause-space c =
    let few = candidates_few Lower c.requires.candidate_lists.0 c.args.self.now.below.items c.requires.candidate_lists.1.below in
    omega (arith, few, c.requires.candidate_lists.3.below)

pub put_on-below-requires-clause-scratch_chain_space : goal.put_on-below-requires-clause-scratch_chain_space
put_on-below-requires-clause-scratch_chain_space c =
    let few = candidates_few Lower c.requires.candidate_lists.0 c.args.self.now.below.items c.requires.candidate_lists.1.below in
    record { fresh = omega (arith, few, c.requires.candidate_lists.4.fresh); rest = omega (arith, few, c.requires.candidate_lists.4.rest) }

pub put_on-above-requires-clause-space : goal.put_on-above-requires-clause-space
put_on-above-requires-clause-space c =
    let few = candidates_few Upper c.requires.candidate_lists.0 c.args.self.now.above.items c.requires.candidate_lists.1.above in
    omega (arith, few, c.requires.candidate_lists.3.above)

pub put_on-above-requires-clause-scratch_chain_space : goal.put_on-above-requires-clause-scratch_chain_space
put_on-above-requires-clause-scratch_chain_space c =
    let few = candidates_few Upper c.requires.candidate_lists.0 c.args.self.now.above.items c.requires.candidate_lists.1.above in
    record {
      fresh = omega (arith, few, c.requires.candidate_lists.4.fresh, c.put_on-below.ensures.space.fresh);
      rest = omega (arith, few, c.requires.candidate_lists.4.rest, c.put_on-below.ensures.space.rest);
    }

pub note-requires-clause-candidate_lists : goal.note-requires-clause-candidate_lists
note-requires-clause-candidate_lists c =
    let S : List Pair = c.requires.candidate_lists.0 in
    subst (λ (z : List Pair). AreCandidateListsOf z c.put_on-below.new.candidates.items c.put_on-above.new.candidates.items)
    (sym c.requires.candidate_lists.2)
    (record {
      below = c.put_on-below.ensures.candidates S c.requires.candidate_lists.1.below;
      above = c.put_on-above.ensures.candidates S c.requires.candidate_lists.1.above;
    })

pub note-requires-clause-space : goal.note-requires-clause-space
note-requires-clause-space c =
    let few : length (keys_of c.args.points.now.entries) ≤ length c.requires.candidate_lists.0 + 1 =
    rw c.requires.candidate_lists.2 (length_with c.args.p c.requires.candidate_lists.0) in
    record {
      below = omega (arith, few, c.requires.candidate_lists.3.below, c.put_on-below.ensures.candidates_space);
      above = omega (arith, few, c.requires.candidate_lists.3.above, c.put_on-above.ensures.candidates_space);
    }

pub note-requires-clause-scratch_chain_space : goal.note-requires-clause-scratch_chain_space
note-requires-clause-scratch_chain_space c =
    let few : length (keys_of c.args.points.now.entries) ≤ length c.requires.candidate_lists.0 + 1 =
    rw c.requires.candidate_lists.2 (length_with c.args.p c.requires.candidate_lists.0) in
    record {
      fresh = omega (
        arith,
        few,
        c.requires.candidate_lists.4.fresh,
        c.put_on-below.ensures.space.fresh,
        c.put_on-above.ensures.space.fresh,
      );
      rest = omega (
        arith,
        few,
        c.requires.candidate_lists.4.rest,
        c.put_on-below.ensures.space.rest,
        c.put_on-above.ensures.space.rest,
      );
    }
