pub mod Begins
