-- Facts about the heap as a type.
pub use Rattle.std.proofs.alloc.Global.TheLaws.{lowered, lowers, the_row_laws}
