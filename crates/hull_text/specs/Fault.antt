-- The numbers of the faults.
use Rattle.std.specs.Prelude.{◌≡◌, ℕ, ◌<◌, ◌≤◌, ◌⊎◌, Result, Ok, Err}
use Rattle.hull_text.specs.declared.fault.FaultKind.{FaultKind}
use Rattle.hull_text.specs.declared.fault.FaultKind.TheVariants.{Form, Number, Coordinate, Worker, Word, Truncated}
use Rattle.hull_text.specs.declared.fault.FaultKind.TheVariants.{Header, Read, NoMemory}
use Rattle.hull_text.specs.declared.fault.TextFault.{TextFault}

-- the number by which a fault is reported
abbrev pub fault_number : FaultKind → ℕ
fault_number Form = 1
fault_number Number = 2
fault_number Coordinate = 3
fault_number Worker = 4
fault_number Word = 5
fault_number Truncated = 6
fault_number Header = 7
fault_number Read = 8
fault_number NoMemory = 10

-- the fault of a kind in a line
abbrev pub fault_at : ℕ → FaultKind → TextFault
fault_at n kind = record { number = fault_number kind; line = n }

-- a fault of a line
abbrev pub IsLineFault : FaultKind → Type 0
IsLineFault kind = fault_number kind ≤ 5

-- A line after so many others, if there may be so many, has the fault of this number: its own first one from the
-- left, or that it is one line too many.
abbrev pub HasFault : {A : Type 0} → ℕ → ℕ → Result A FaultKind → ℕ → Type 0
HasFault most before read number =
    ((before ≡ most) × (number ≡ 1))
    ⊎ ((before < most) × ((kind : FaultKind) × (read ≡ Err kind) × (number ≡ fault_number kind)))

-- the reader failed
abbrev pub IsReadFault : TextFault → Type 0
IsReadFault f = f.number ≡ fault_number Read

-- memory was refused
abbrev pub IsMemoryFault : TextFault → Type 0
IsMemoryFault f = f.number ≡ fault_number NoMemory

-- a fault that is not the text's own: of the reader, or of memory
abbrev pub IsOutside : TextFault → Type 0
IsOutside f = IsReadFault f ⊎ IsMemoryFault f

-- A reading has no fault before this line.
abbrev pub NoFaultBefore : {V : Type 0} → ℕ → Result V TextFault → Type 0
NoFaultBefore line (Ok v) = Unit {0}
NoFaultBefore line (Err f) = line ≤ f.line

-- an answer of a reader for which device and memory did not fail: a value, or a fault of the text's own
abbrev pub IsServed : {V : Type 0} → Result V TextFault → Type 0
IsServed (Ok v) = Unit {0}
IsServed (Err f) = ¬ IsOutside f
