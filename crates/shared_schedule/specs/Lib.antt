pub mod Views
pub mod Rule
pub mod Seats
pub mod Plays
pub mod Opened
pub mod Working
pub mod Copies
pub mod Visits
