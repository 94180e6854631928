-- a point that is after the end of a chain is after all of it
use Rattle.std.proofs.Common.{ℕ, take, sym, subst, arith}
use Rattle.std.specs.List.{All}
use Rattle.std.proofs.lemmas.List.Elements.{All-contains}
use Rattle.lattice.specs.Plane.{IsBefore}
use Rattle.hull_geometry.specs.Monotone.{EndsWith}
use Rattle.hull_geometry.proofs.Between.{end_in, end_of_first, after_ends}
use Rattle.hull_geometry.proofs.PointLists.{all_of}
use Rattle.hull_plain.proofs.repairing.passed_by.Goals as goal

pub returns-then-i-eq0-clause-to_come : goal.returns-then-i-eq0-clause-to_come
returns-then-i-eq0-clause-to_come c = λ t m.
    subst (λ (n : ℕ). All (λ u. IsBefore u t) (take n c.args.chain.now.items)) (sym c.if-i-eq0.true)
    (λ k d l. absurd (omega (arith, l)))

pub returns-else-i-eq0-clause-passed : goal.returns-else-i-eq0-clause-passed
returns-else-i-eq0-clause-passed c = λ t m all.
    let end : EndsWith c.get.result (take c.args.i c.args.chain.now.items) =
    end_of_first c.args.chain.now.items c.args.i c.get.result (omega (arith, c.if-i-eq0.false)) c.requires.inside
    c.get.ensures in
    All-contains (λ u. ¬ (IsBefore c.get.result u)) _ t c.count_up_to.ensures.below m
    (All-contains (λ u. IsBefore u t) _ c.get.result all (end_in c.get.result (take c.args.i c.args.chain.now.items) end))

pub returns-else-i-eq0-clause-to_come : goal.returns-else-i-eq0-clause-to_come
returns-else-i-eq0-clause-to_come c = λ t m.
    let end : EndsWith c.get.result (take c.args.i c.args.chain.now.items) =
    end_of_first c.args.chain.now.items c.args.i c.get.result (omega (arith, c.if-i-eq0.false)) c.requires.inside
    c.get.ensures in
    all_of (λ u. IsBefore u t) (take c.args.i c.args.chain.now.items)
    (λ u n. after_ends c.get.result (take c.args.i c.args.chain.now.items) u t c.requires.chain_ordered end n
    (All-contains (IsBefore c.get.result) _ t c.count_up_to.ensures.rest m))
