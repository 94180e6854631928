-- The fault of a program that was refused, and its exit status.
use Rattle.std.specs.Prelude.{ℕ, ◌+◌}
use Rattle.hull_book.specs.declared.compacting.CompactRefusal.{CompactRefusal}
use Rattle.hull_book.specs.declared.compacting.CompactRefusal.TheVariants as refusal
use Rattle.hull_text.specs.declared.compacting.CompactFault.{CompactFault}
use Rattle.hull_text.specs.declared.compacting.CompactFault.TheVariants as compact
use Rattle.hull_program.specs.declared.refusal.Refusal.{Refusal}
use Rattle.hull_program.specs.declared.refusal.Refusal.TheVariants as program
use Rattle.hull_program.specs.declared.words.OptionFault.{OptionFault}
use Rattle.hull_program.specs.declared.words.OptionFault.TheVariants as option
use Rattle.hull_program.specs.Refusals.{text_status}
use Rattle.hull_text.specs.declared.upgrading.UpgradeFault.{UpgradeFault}
use Rattle.hull_text.specs.declared.upgrading.UpgradeFault.TheVariants as upgrade
use Rattle.hullbook.specs.declared.fault.Fault.{Fault}
use Rattle.hullbook.specs.declared.fault.Fault.TheVariants as refused
use Rattle.hullbook.specs.declared.fault.Failure.{Failure}
use Rattle.hullbook.specs.declared.fault.Failure.TheVariants.{Refused, Rules, Illegal}
use Rattle.hullbook.specs.declared.fault.Failure.TheVariants.{Journal, First, Limit, Lines, Segment}
use Rattle.hullbook.specs.declared.after.AfterFault.{AfterFault}
use Rattle.hullbook.specs.declared.after.AfterFault.TheVariants as after
use Rattle.hullbook.specs.declared.segments.SegmentFault.{SegmentFault}
use Rattle.hullbook.specs.declared.segments.SegmentFault.TheVariants as segment
use Rattle.hullbook.specs.declared.run.RunFault.{RunFault}
use Rattle.hullbook.specs.declared.run.RunFault.TheVariants as engine

-- the exit status if a segment of a journal was not judged: that of its text, 3 if it cannot be opened, 4 if memory
-- was refused
abbrev pub segment_status : SegmentFault → ℕ
segment_status segment.Open = 3
segment_status segment.OpenMemory = 4
segment_status (segment.Text f) = text_status f
segment_status segment.Memory = 4

-- 2 for words and texts that are refused, 3 for a file or a device that failed, 4 if memory was refused
abbrev pub fault_status : Fault → ℕ
fault_status refused.Usage = 2
fault_status refused.Open = 3
fault_status refused.Write = 3
fault_status refused.Memory = 4
fault_status (refused.Text f) = text_status f

-- the fault of a program with this refusal
abbrev pub fault_of_program : Refusal → Fault
fault_of_program program.Usage = refused.Usage
fault_of_program program.Open = refused.Open
fault_of_program program.Write = refused.Write
fault_of_program program.Memory = refused.Memory
fault_of_program (program.Text f) = refused.Text f

-- the fault of a program whose words are refused with this fault
abbrev pub fault_of_options : OptionFault → Fault
fault_of_options option.Usage = refused.Usage
fault_of_options option.Memory = refused.Memory

-- 1 for a journal that is illegal, 2 for words, texts and rules that are refused, 3 for a file or a device that
-- failed, 4 if memory was refused
abbrev pub status_of : Failure → ℕ
status_of (Refused r) = fault_status r
status_of (Journal f) = text_status f
status_of Rules = 2
status_of (First n) = 2
status_of (Limit n) = 2
status_of (Lines n) = 2
status_of (Illegal line) = 1
status_of (Segment path f) = segment_status f

-- the failure of a program whose engine ended with this fault
abbrev pub fault_of_engine : RunFault → Failure
fault_of_engine (engine.Text f) = Refused (refused.Text f)
fault_of_engine engine.Memory = Refused refused.Memory
fault_of_engine engine.Write = Refused refused.Write

-- the failure of a program that could not upgrade a journal
abbrev pub fault_of_upgrade : UpgradeFault → Failure
fault_of_upgrade (upgrade.Text f) = Refused (refused.Text f)
fault_of_upgrade (upgrade.Write f) = Refused refused.Write

-- the failure of a program that could not compact a journal for this reason: the header is line 1 of the text
abbrev pub fault_of_refusal : CompactRefusal → Failure
fault_of_refusal refusal.Rules = Rules
fault_of_refusal (refusal.Wrong k) = Illegal (k + 2)
fault_of_refusal refusal.NoMemory = Refused refused.Memory

-- the failure of a program that could not compact a journal's text
abbrev pub fault_of_compact : CompactFault → Failure
fault_of_compact (compact.Text f) = Refused (refused.Text f)
fault_of_compact (compact.Refused r) = fault_of_refusal r
fault_of_compact (compact.Write f) = Refused refused.Write

-- the failure of a program that could not continue a journal
abbrev pub fault_of_after : AfterFault → Failure
fault_of_after (after.Script f) = Refused (refused.Text f)
fault_of_after (after.Journal f) = Journal f
fault_of_after after.Rules = Rules
fault_of_after (after.First n) = First n
fault_of_after (after.Limit n) = Limit n
fault_of_after (after.Capacity n) = Lines n
fault_of_after (after.Wrong k) = Illegal (k + 2)
fault_of_after after.Memory = Refused refused.Memory
fault_of_after after.Write = Refused refused.Write
