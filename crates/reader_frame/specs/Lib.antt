pub mod Tests
pub mod Bounds
