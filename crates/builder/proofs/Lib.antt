pub mod LeaveLaws
pub mod Builds
