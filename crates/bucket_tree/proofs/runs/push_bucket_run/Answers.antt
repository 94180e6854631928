-- a run of the walk along the bucket's chain is listed along the chain of its half
use Rattle.std.proofs.lemmas.Result.{IfOk-weaker}
use Rattle.bucket_tree.proofs.ListedRuns.{range_in_order, run_listed}
use Rattle.bucket_tree.proofs.runs.push_bucket_run.Goals as goal

pub push_run_of-requires : goal.push_run_of-requires
push_run_of-requires c =
    rw (c.new.ensures)
    (range_in_order c.args.side c.args.bucket.now c.args.from c.args.to c.buckets_are_sound.ensures c.requires)

pub returns : goal.returns
returns c =
    IfOk-weaker c.push_run_of.result _ _
    (λ x k. run_listed c.args.side c.args.bucket.now c.args.from c.args.to _ _ c.buckets_are_sound.ensures (rw (c.new.ensures) at k))
    c.push_run_of.ensures
