mod LendsBoth
mod Makes
mod SeatReplies
pub mod AllLedgers
pub mod Books
pub mod Changes
mod JournalSnapshots
pub mod Fronts
pub mod Homes
pub mod Lists
pub mod Served
pub mod Found
mod SnapshotReplies
pub mod SnapshotSlots
pub mod Seen
pub mod SeatStates
pub mod Takes
