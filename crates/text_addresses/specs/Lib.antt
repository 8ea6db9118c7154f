pub mod Addresses
pub mod Runs
