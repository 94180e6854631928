-- one phase more was run, or it was refused and those before it were run
use Rattle.std.proofs.Common.{◌≡◌, ◌++◌, ◌∷◌, [], ◌∙◌, List, suc, sym, subst, take, take_all, drop}
use Rattle.std.proofs.Common.{arith}
use Rattle.std.proofs.lemmas.Grind.{common_steps}
use Rattle.std.specs.Prelude.{slice_index_or}
use Rattle.std.proofs.lemmas.List.{take_more}
use Rattle.hull_book.specs.Books.{BookValue}
use Rattle.hull_book.specs.Scripts.{PhaseValue}
use Rattle.hull_pool.specs.Answers.{WorkersValue}
use Rattle.hull_pool.specs.Runs.{MayRunAll}
use Rattle.hull_pool.specs.Scripts.{HasRunPhases}
use Rattle.hull_pool.proofs.Chained.{run_all, run_one_more, may_front, may_next}
use Rattle.hull_pool.proofs.Fronts.{separated, of_ok}
use Rattle.hull_pool.proofs.phase.run_phases.Goals as goal

pub run_phase-end-requires-after_bounds : goal.run_phase-end-requires-after_bounds
run_phase-end-requires-after_bounds g c κs within =
    let items : List PhaseValue = c.phases-phase-items.result.now in
    let i = c.loop-phase.phase-index in
    let split = sym c.phases-phase-items.ensures.phases ∙ separated items i c.phase-item.result c.loop-phase-test.true in
    subst (λ (p : PhaseValue). MayRunAll g.S.HullSet c.loop-phase.book c.loop-phase.workers (p ∷ []))
    (sym c.phase-item.is)
    (may_next c.args.book c.args.workers (take i items) (slice_index_or items i c.phase-item.result)
    (drop (suc i) items) c.loop-phase.book c.loop-phase.workers
    (subst (MayRunAll g.S.HullSet c.args.book c.args.workers) split c.requires) c.loop-phase.invariant)

pub returns-in-Err-clause-refused : goal.returns-in-Err-clause-refused
returns-in-Err-clause-refused g c =
    let items : List PhaseValue = c.phases-phase-items.result.now in
    let i = c.loop-phase.phase-index in
    let same = rw c.in-Err.is at c.run_phase-end.ensures.refused in
    let refused : PhaseValue = slice_index_or items i c.phase-item.result in
    let back : List PhaseValue = drop (suc i) items in
    let split : c.args.script.now.phases ≡ take i items ++ refused ∷ back =
    sym c.phases-phase-items.ensures.phases ∙ separated items i c.phase-item.result c.loop-phase-test.true in
    let chain : HasRunPhases g.S.HullSet c.args.book c.args.workers
    (take i items) c.run_phase-end.result.book c.run_phase-end.result.workers =
    subst (λ (v : WorkersValue). HasRunPhases g.S.HullSet c.args.book c.args.workers
    (take i items) c.run_phase-end.result.book v) (sym same.1)
    (subst (λ (d : BookValue _). HasRunPhases g.S.HullSet c.args.book c.args.workers
    (take i items) d c.loop-phase.workers) (sym same.0) c.loop-phase.invariant)
    in (
      take i items,
      refused,
      back,
      split,
      (
        chain,
        run_all c.args.book c.args.workers _ _ _
            (may_front c.args.book c.args.workers _ (refused ∷ back)
            (subst (MayRunAll g.S.HullSet c.args.book c.args.workers) split c.requires)) chain,
      ),
    )

pub loop-phase-preserved : goal.loop-phase-preserved
loop-phase-preserved g c = grind (arith, common_steps, take_more, of_ok, run_one_more)

pub returns-clause-ran : goal.returns-clause-ran
returns-clause-ran g c = grind (arith, common_steps, run_all, take_all)
