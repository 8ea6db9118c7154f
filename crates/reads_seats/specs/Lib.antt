pub mod Seats
pub mod Objects
pub mod Told
