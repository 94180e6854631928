-- A line continues the reading by its item, or has its fault.
use Rattle.std.proofs.Common.{ap, arith, ◌≡◌, ◌∷◌, ◌++◌, []}
use Rattle.hull_text.specs.declared.fault.FaultKind.TheVariants.{NoMemory}
use Rattle.hull_text.specs.declared.fault.TextFault.{TextFault}
use Rattle.hull_text.specs.Fault.{fault_at}
use Rattle.hull_text.specs.Reading.{FailsIn}
use Rattle.hull_text.specs.ScriptReading.{AnswersScript}
use Rattle.hull_text.proofs.Drafts.{draft_said}
use Rattle.hull_text.proofs.Results.{err_then, ok_then}
use Rattle.hull_text.proofs.ScriptLines.{script_on, script_fault, script_refused}
use Rattle.hull_text.proofs.read.script_draft.add_line.Goals as goal

pub returns-in-Ok-clause-draft : goal.returns-in-Ok-clause-draft
returns-in-Ok-clause-draft c =
    ok_then c.keep_item.result c.keep_item.ensures.ok
    (λ e. rw e (draft_said c.args.items.now.items c.args.number c.in-Ok.item c.requires.draft c.in-Ok.ensures.low
    c.in-Ok.ensures.worker))

pub returns-in-Ok-clause-on : goal.returns-in-Ok-clause-on
returns-in-Ok-clause-on c = ok_then c.keep_item.result c.keep_item.ensures.ok
    (λ e. script_on c.args.items.now.items c.keep_item.new.items.items c.args.number _ c.args.line.now c.in-Ok.item
    c.requires.whole c.in-Ok.ensures.value e (omega arith))

pub returns-in-Ok-clause-fault : goal.returns-in-Ok-clause-fault
returns-in-Ok-clause-fault c =
    err_then c.keep_item.result (λ f. f ≡ fault_at c.args.number NoMemory)
    (FailsIn (AnswersScript c.args.items.now.items c.args.number) (c.args.line.now ++ 10 ∷ []))
    c.keep_item.ensures.err
    (λ f e. script_refused c.args.items.now.items c.args.number (c.args.line.now ++ 10 ∷ []) f
    (ap (λ (g : TextFault). g.number) e) (ap (λ (g : TextFault). g.line) e))

pub returns-in-Err-clause-fault : goal.returns-in-Err-clause-fault
returns-in-Err-clause-fault c = script_fault _ _ c.args.line.now c.in-Err.fault c.requires.whole c.in-Err.ensures.value
