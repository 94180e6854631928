-- The heap as a type: its values, and what they own.
pub use Rattle.std.specs.contracts.alloc.Global.{the_row as heap_row}
