-- each step appends the last point and passes the next
use Rattle.std.proofs.Common.{◌≡◌, refl, Bool, true, false, not}
use Rattle.hull_set.proofs.HeldMultiplicities.{returned_same, returned_other}
use Rattle.bucket_tree.proofs.PassedRuns.{begun, ended, goes_on, still_ahead}
use Rattle.bucket_tree.proofs.runs.push_run_to.Goals as goal

-- what is not otherwise is so
so : (b : Bool) → false ≡ not b → b ≡ true
so true e = refl
so false e = absurd (cc)

-- and what is otherwise is not so
otherwise : (b : Bool) → true ≡ not b → b ≡ false
otherwise true e = absurd (cc)
otherwise false e = refl

pub loop-walk-init : goal.loop-walk-init
loop-walk-init c = record { run = begun c.args.walk c.args.from c.args.out.now.items; ahead = c.requires }

pub loop-walk-preserved : goal.loop-walk-preserved
loop-walk-preserved c = record {
  run = goes_on c.loop-walk.invariant.run c.in-Some.next c.next.new.self c.push.new.self.items c.in-Some.ensures c.in_ok-push.ensures.items;
  ahead = still_ahead c.loop-walk.walk c.loop-walk.last c.args.to c.in-Some.next c.next.new.self c.loop-walk.invariant.ahead
      (returned_other _ _ (otherwise _ c.loop-walk-test.ensures)) c.in-Some.ensures;
}

pub returns : goal.returns
returns c = ended c.args.to c.loop-walk.invariant.run (returned_same _ _ (so _ c.loop-walk-test.ensures))
