pub mod Stages
pub mod Accepted
