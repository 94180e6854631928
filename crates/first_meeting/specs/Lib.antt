pub mod Words
pub mod Lanes
pub mod Arrivals
pub mod FirstMeetings
