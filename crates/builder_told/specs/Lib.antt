pub mod Marks
pub mod Faults
