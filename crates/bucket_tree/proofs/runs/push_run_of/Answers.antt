-- one point more is passed
use Rattle.std.proofs.Common.{◌≡◌, ◌∙◌, sym, ap, List, [], ◌∷◌, ◌++◌, append_assoc}
use Rattle.lattice.specs.Plane.{Pair}
use Rattle.hull_set.proofs.HeldMultiplicities.{returned_same, returned_other}
use Rattle.bucket_tree.proofs.PassedRuns.{ahead_of_first, has_more, in_order_later}
use Rattle.bucket_tree.proofs.runs.push_run_of.Goals as goal

pub loop-next-preserved : goal.loop-next-preserved
loop-next-preserved c =
    let passed : List Pair = c.loop-next.invariant.walked.0 in record {
      walked = (
        passed ++ c.in-Some.next ∷ [],
        c.loop-next.invariant.walked.1 ∙ ap (λ (z : List Pair). passed ++ z) c.in-Some.ensures
            ∙ sym (append_assoc passed (c.in-Some.next ∷ []) c.next.new.self),
      );
      same = c.loop-next.invariant.same;
      ordered = in_order_later c.loop-next.walk c.args.from c.args.to c.in-Some.next c.next.new.self c.loop-next.invariant.ordered
          c.in-Some.ensures (returned_other _ _ (sym c.eq.ensures ∙ c.if-eq.false));
    }

pub push_run_to-requires : goal.push_run_to-requires
push_run_to-requires c =
    let is : c.in-Some.next ≡ c.args.from = returned_same _ _ (sym c.eq.ensures ∙ c.if-eq.true) in
    ahead_of_first c.loop-next.walk c.args.from c.args.to c.next.new.self c.loop-next.invariant.ordered
    (c.in-Some.ensures ∙ ap (λ (p : Pair). p ∷ c.next.new.self) is)

pub unreachable-requires : goal.unreachable-requires
unreachable-requires c =
    has_more c.loop-next.walk c.args.from c.args.to c.loop-next.invariant.ordered c.in_default.ensures.0
