-- The exit status of a program that was refused.
use Rattle.std.specs.Prelude.{ℕ, ◌==◌, if◌then◌else◌}
use Rattle.hull_text.specs.declared.fault.FaultKind.TheVariants.{Read, NoMemory}
use Rattle.hull_text.specs.declared.fault.TextFault.{TextFault}
use Rattle.hull_text.specs.Fault.{fault_number}
use Rattle.hull_program.specs.declared.words.OptionFault.{OptionFault}
use Rattle.hull_program.specs.declared.words.OptionFault.TheVariants as option
use Rattle.hull_program.specs.declared.refusal.Refusal.{Refusal}
use Rattle.hull_program.specs.declared.refusal.Refusal.TheVariants.{Usage, Open, Memory, Write, Text}

-- 3 if the input failed, 4 if memory was refused to its reader, 2 if the text itself is at fault
abbrev pub text_status : TextFault → ℕ
text_status f = if f.number == fault_number Read then 3 else if f.number == fault_number NoMemory then 4 else 2

-- 2 for words and texts that are refused, 3 for a file or a device that failed, 4 if memory was refused
abbrev pub refusal_status : Refusal → ℕ
refusal_status Usage = 2
refusal_status Open = 3
refusal_status Write = 3
refusal_status Memory = 4
refusal_status (Text f) = text_status f

-- the refusal of a program whose words are refused with this fault
abbrev pub refusal_of_options : OptionFault → Refusal
refusal_of_options option.Usage = Usage
refusal_of_options option.Memory = Memory
