-- the book and the workers that were made for the script may run it, since no worker has more calls than all have;
-- and ledgers in the order of their seats are all ledgers
use Rattle.std.proofs.Common.{◌^◌, arith, rules}
use Rattle.hull_book.proofs.Counts.{all_in_order, counts_within}
use Rattle.hull_pool.proofs.Fronts.{few_each}
use Rattle.hullbook.proofs.Fits.{run_fits}
use Rattle.hullbook.proofs.run.run_on.Goals as goal

pub run_phases-end-requires-after_bounds : goal.run_phases-end-requires-after_bounds
run_phases-end-requires-after_bounds g c κs within = record {
  lawful = search rules;
  ledgers = search rules;
  answers = search rules;
  jobs = search rules;
  few = λ k below. few_each c.args.script.now.phases k (c.workers.ensures.limits.calls);
  space = search rules;
}

pub counts_of-counts-requires-clause-few : goal.counts_of-counts-requires-clause-few
counts_of-counts-requires-clause-few g c =
    counts_within {K = g.S.HullSet} c.run_phases-end.result.book _ (2 ^ 32) (search rules) (search rules)
    (omega (arith, c.capacity-capacity.ensures))

pub gather-lines-requires-clause-ledgers : goal.gather-lines-requires-clause-ledgers
gather-lines-requires-clause-ledgers g c = all_in_order _ _ (search rules)

pub returns-clause-ran : goal.returns-clause-ran
returns-clause-ran g c = record {
  before = c.in-Ok-new.worker_set;
  after = c.run_phases-end.result.workers;
  closed = c.run_phases-end.result.book;
  none = search rules;
  ran = search rules;
  answers_are = search rules;
  counts_are = search rules;
  journal_is = search rules;
}

pub returns-clause-fits : goal.returns-clause-fits
returns-clause-fits g c = run_fits g.S.HullSet c.args.book c.args.script.now _ _ _ c.requires.workers (returns-clause-ran g c)
