-- A number that is of no fault is neither that of a failed reader nor that of refused memory.
use Rattle.std.proofs.Common.{◌≡◌, sym, refl}
use Rattle.std.specs.Prelude.{◌≢◌, ◌==◌, false}
use Rattle.std.proofs.lemmas.Bool.{ne_eqb}
use Rattle.hull_text.specs.declared.fault.FaultKind.{FaultKind}
use Rattle.hull_text.specs.declared.fault.FaultKind.TheVariants.{Read, NoMemory}
use Rattle.hull_text.specs.declared.fault.TextFault.{TextFault}
use Rattle.hull_text.specs.Fault.{fault_number}
use Rattle.hull_program.specs.Refusals.{text_status}
use Rattle.hull_program.proofs.refusal.text_status.Goals as goal

-- a fault of no kind has the status of a fault of the text
unknown_status : (f : TextFault) → ((kind : FaultKind) → fault_number kind ≢ f.number) → 2 ≡ text_status f
unknown_status f none =
    let read : (f.number == 8) ≡ false = ne_eqb f.number 8 (λ e. none Read (sym e)) in
    let memory : (f.number == 10) ≡ false = ne_eqb f.number 10 (λ e. none NoMemory (sym e)) in
    rw (read, memory) refl

pub returns-in-None : goal.returns-in-None
returns-in-None c = unknown_status c.args.fault.now (c.kind.ensures.none c.in-None.is)
