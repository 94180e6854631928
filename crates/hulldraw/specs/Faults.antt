-- The refusal of the program when a drawing failed.
use Rattle.hull_draw.specs.declared.drawing.DrawFault.{DrawFault}
use Rattle.hull_draw.specs.declared.drawing.DrawFault.TheVariants as engine
use Rattle.hull_program.specs.declared.refusal.Refusal.{Refusal}
use Rattle.hull_program.specs.declared.refusal.Refusal.TheVariants.{Memory, Text, Write}

-- the refusal of a program whose drawing failed with this fault
abbrev pub refusal_of_drawing : DrawFault → Refusal
refusal_of_drawing (engine.Text f) = Text f
refusal_of_drawing engine.Memory = Memory
refusal_of_drawing engine.Write = Write
